pub mod Classes
pub mod Distinct
pub mod Kept
pub mod Methods
pub mod Names
pub mod Types
pub use Rattle.agree_early_errors.proofs.RulesGive
pub use Rattle.agree_early_errors.proofs.Modules
pub use Rattle.agree_early_errors.proofs.Names as AgreeEarlyErrorsNames
