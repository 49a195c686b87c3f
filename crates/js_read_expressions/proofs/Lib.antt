pub mod BetweenSteps
pub mod ExpressionSteps
pub mod SuffixLoop
