pub mod Command
pub mod ExitCode
pub mod Making
pub mod Nesting
pub mod Output
pub mod Parts
pub mod Printing
pub mod Writing
