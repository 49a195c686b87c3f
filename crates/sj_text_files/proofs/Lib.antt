pub mod Ensures
pub mod ListedNames
pub mod ListedTrees
pub mod ListedClasses
pub mod Bare
pub mod BareFiles
pub mod Renumbered
pub mod MadeFiles
