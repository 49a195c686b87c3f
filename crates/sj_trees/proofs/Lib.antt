pub mod Codes
pub mod LastTypes
pub mod SameTypes
