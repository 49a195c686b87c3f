pub mod Words
pub mod Tokens
pub mod Expressions
pub mod Statements
pub mod Modules
