pub mod Asked
pub mod SameMembers
