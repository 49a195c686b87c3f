pub mod Numbers
pub mod Names
pub mod Own
pub mod Terms
pub mod Methods
