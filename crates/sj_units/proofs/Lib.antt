pub mod Exact
pub mod FirstUnit
pub mod OneUnit
