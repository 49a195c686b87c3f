pub mod Decided
pub mod Walks
pub mod Settling
pub mod Sorting
pub mod Graphs
pub mod Planning
