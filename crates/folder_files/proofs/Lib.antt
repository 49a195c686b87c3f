pub mod Named
pub mod Gathered
pub mod Walked
pub mod Sorted
pub mod SoFar
