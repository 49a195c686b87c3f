pub mod Reading
pub mod Grammar
pub mod Place
pub mod Tokens
