pub mod Methods
pub mod Operands
