pub mod Agreement
pub mod Outcome
pub mod Shown
