pub mod Bounds
pub mod Files
pub mod Judged
pub mod Texts
pub mod Whole
