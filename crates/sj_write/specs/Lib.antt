pub mod Writing
pub mod TreeFields
