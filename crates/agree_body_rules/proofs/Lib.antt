pub mod Arrays
pub mod Direct
pub mod Equal
pub mod Fitting
pub mod InWorld
pub mod Lists
pub mod Locals
pub mod Mutable
pub mod Plain
pub mod RulesGive
pub mod Standing
pub mod Topped
pub use Rattle.agree_body_forms.proofs.Around
pub use Rattle.agree_body_forms.proofs.Statics
pub use Rattle.agree_body_forms.proofs.Targets
pub use Rattle.agree_body_forms.proofs.Direct as AgreeBodyFormsDirect
