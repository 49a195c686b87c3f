pub mod Apart
pub mod Names
pub mod Digests
pub mod Placing
pub mod OnePlan
