pub mod Inserted
pub mod Searched
