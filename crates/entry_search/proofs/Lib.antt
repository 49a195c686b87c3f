pub mod Ending
pub mod Found
pub mod Reflective
pub use Rattle.sj_world.proofs.Searches
pub use Rattle.sj_world.proofs.Once
pub use Rattle.sj_emit_class_spec.proofs.Owners
