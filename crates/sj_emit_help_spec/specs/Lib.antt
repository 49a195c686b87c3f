pub mod HelperRows
pub mod Helpers
pub mod Texts
pub mod Words
