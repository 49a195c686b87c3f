pub mod Order
pub mod Calls
pub mod Modules
pub mod Rows
pub mod Laws
