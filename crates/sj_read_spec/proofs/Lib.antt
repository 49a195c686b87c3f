pub mod Exact
pub mod ExactTables
pub mod ExactReferences
pub mod ExactTypes
pub mod ExactTrees
pub mod ExactClasses
pub mod ExactFiles
pub mod ExactAnswers
