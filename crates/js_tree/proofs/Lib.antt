pub mod Kept
pub mod OneText
pub mod Rows
pub mod TextLaws
