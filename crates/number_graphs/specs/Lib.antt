pub mod Graphs
pub mod Searching
pub mod Marks
pub mod Condensed
