pub mod Around
pub mod Direct
pub mod Rows
pub mod Statics
pub mod Targets
