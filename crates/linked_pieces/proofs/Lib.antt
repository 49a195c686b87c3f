pub mod Dispatched
pub mod Reflected
pub mod Telling
pub mod Facts
pub mod Fields
pub mod Names
pub mod One
pub mod Order
pub mod Picked
pub mod Sorted
pub mod Statics
pub use Rattle.agree_programs.proofs.Equal
pub use Rattle.agree_local_rules.proofs.AgreeEarlyErrorsNames as ProperNames
pub use Rattle.agree_local_rules.proofs.Modules
pub use Rattle.agree_programs.proofs.Plain
pub use Rattle.agree_programs.proofs.Running
pub use Rattle.agree_programs.proofs.Reflective
pub use Rattle.agree_programs.proofs.Same
