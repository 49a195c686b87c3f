pub mod Putting
pub mod SameEntries
pub mod Gathered
pub mod Chained
pub mod Chosen
pub mod Sorted
