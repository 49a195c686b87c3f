pub mod ModuleLoop
pub mod WholeSteps
