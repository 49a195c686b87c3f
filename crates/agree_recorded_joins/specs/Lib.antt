pub mod Files
pub mod Recorded
pub mod Texts
