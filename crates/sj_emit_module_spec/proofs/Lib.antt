pub mod InOrder
pub mod Chosen
pub mod Lines
pub mod Alone
pub mod Printed
pub mod FileNames
