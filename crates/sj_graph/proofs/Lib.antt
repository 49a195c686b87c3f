pub mod SameReferences
pub mod Exact
pub mod Taken
