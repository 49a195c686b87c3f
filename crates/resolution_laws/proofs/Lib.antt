pub mod Decisions
pub mod Chains
pub mod Defaults
pub mod Declared
pub mod Resolves
pub use Rattle.dispatch_laws.proofs.WorkedOut
pub use Rattle.dispatch_laws.proofs.SameNames
pub use Rattle.dispatch_laws.proofs.Proxies
