pub mod Orders
pub mod Walks
pub mod Homes
pub mod Modules
pub mod Steps
pub mod Groups
pub mod Files
pub mod Laws
