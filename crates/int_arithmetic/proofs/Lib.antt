pub mod Exact
pub mod Fits
pub mod Longs
pub mod Operators
pub mod Words
