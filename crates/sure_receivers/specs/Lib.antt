pub mod Sure
pub mod Rows
