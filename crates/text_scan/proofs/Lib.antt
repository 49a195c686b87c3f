pub mod Literals
pub mod Loops
pub mod NumberSteps
pub mod Runs
pub mod TableWords
