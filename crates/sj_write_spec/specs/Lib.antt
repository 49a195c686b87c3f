pub mod Fields
pub mod References
pub mod Trees
pub mod Classes
pub mod Tables
pub mod Written
pub mod Renumbered
pub mod Laws
