pub mod Cases
pub mod Lengths
