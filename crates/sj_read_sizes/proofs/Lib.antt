pub mod Weighs
pub mod TreeSizes
pub mod ClassSizes
