pub mod Behind
pub mod Differ
