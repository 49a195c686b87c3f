pub mod Fits
pub mod Keys
pub mod Owners
pub mod Ranges
