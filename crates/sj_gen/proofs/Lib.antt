pub mod Names
pub mod Made
pub mod SpelledTrees
pub mod Files
pub mod Paths
