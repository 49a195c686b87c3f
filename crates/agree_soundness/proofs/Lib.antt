pub mod Arrays
pub mod Assembled
pub mod Chains
pub mod Heaps
pub mod Instances
pub mod Lengths
pub mod Modules
pub mod Right
pub mod Sured
pub mod Values
pub mod Worked
pub use Rattle.agree_early_errors.proofs.Lists
pub use Rattle.agree_early_errors.proofs.Plain
pub use Rattle.agree_early_errors.proofs.Modules as AgreeEarlyErrorsModules
pub use Rattle.agree_early_errors.proofs.Topped
pub use Rattle.agree_early_errors.proofs.AgreeBodyFormsDirect as Direct
pub use Rattle.agree_early_errors.proofs.Targets
pub use Rattle.dispatch_laws.proofs.Running
pub use Rattle.dispatch_laws.proofs.SameNames
