pub mod Spelling
pub mod Texts
pub mod Rules
pub mod Words
pub mod Names
pub mod Reading
