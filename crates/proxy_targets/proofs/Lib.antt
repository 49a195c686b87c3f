pub mod Named
pub use Rattle.sj_world.proofs.Once
pub use Rattle.sj_world.proofs.Searches
