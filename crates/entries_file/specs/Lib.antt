pub mod Lines
pub mod EntriesFile
pub mod Refusals
pub mod Rows
pub mod Laws
