pub mod FunctionNames
pub mod Injective
pub mod Numerals
