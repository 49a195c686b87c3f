pub mod TreeSteps
pub mod WholeSteps
