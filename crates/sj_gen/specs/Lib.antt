pub mod Classes
pub mod Folder
pub mod ReadBack
pub mod Paths
