pub mod Putting
pub mod SameNeeds
pub mod Told
