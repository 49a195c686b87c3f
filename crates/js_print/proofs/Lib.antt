pub mod Indents
