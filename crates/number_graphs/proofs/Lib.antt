pub mod Places
pub mod Searched
pub mod Groups
pub mod Finished
pub mod Steps
pub mod Marked
pub mod Listed
pub mod Connected
