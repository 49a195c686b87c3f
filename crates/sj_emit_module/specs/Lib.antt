pub mod Files
pub mod Groups
pub mod Lists
pub mod Shares
