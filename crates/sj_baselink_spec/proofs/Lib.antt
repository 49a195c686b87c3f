pub mod Owners
mod Worked
