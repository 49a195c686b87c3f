pub mod Choices
pub mod Collected
pub mod Lists
