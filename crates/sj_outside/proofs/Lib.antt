pub mod Increasing
pub mod Fronts
pub mod Wellness
pub mod Laws
pub mod Listed
