pub mod Words
pub mod Given
pub mod Command
pub mod Collected
pub mod Earlier
