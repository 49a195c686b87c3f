mod Accepted
mod Classes
pub mod Computing
pub mod Deciding
pub mod Premises
pub mod Unbroken
mod WasRead
