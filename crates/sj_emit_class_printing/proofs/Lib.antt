pub mod HelpersKept
pub mod Kept
pub mod Named
