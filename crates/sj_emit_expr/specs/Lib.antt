pub mod Cases
pub mod Collecting
