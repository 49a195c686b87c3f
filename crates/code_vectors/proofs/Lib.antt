mod Objects
pub mod Untargeted
