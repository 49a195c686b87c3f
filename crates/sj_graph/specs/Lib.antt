pub mod References
pub mod Laws
