pub mod ExitCode
pub mod Input
pub mod Puts
pub mod Output
pub mod Headline
pub mod Laws
pub mod Editing
