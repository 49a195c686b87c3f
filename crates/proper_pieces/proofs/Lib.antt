pub mod Apart
pub mod Items
pub mod Linked
pub mod Modules
pub mod Names
pub mod Parts
