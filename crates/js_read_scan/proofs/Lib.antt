pub mod Ascii
pub mod FileSteps
pub mod HeadSteps
pub mod Indents
pub mod KeywordTables
pub mod Parts
pub mod Runs
