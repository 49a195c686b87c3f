pub mod Endings
pub mod Files
pub mod Lines
mod OneOutput
