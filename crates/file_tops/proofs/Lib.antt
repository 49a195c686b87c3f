pub mod Made
pub mod Run
pub mod Standing
