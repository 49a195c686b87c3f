pub mod Forms
pub mod Infos
pub mod Once
pub mod Receivers
pub mod Rows
pub mod Sure
pub mod Trees
