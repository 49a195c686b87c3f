pub mod Stands
pub mod Sizes
pub mod Answers
pub mod Hijacked
pub mod Apart
pub mod Told
pub mod Tasks
pub mod Runs
pub mod Laws
pub use Rattle.tree_sameness.specs.Apart as TreeSamenessApart
pub use Rattle.sj_world.specs.Known
pub use Rattle.sj_world.specs.Members
pub use Rattle.sj_world.specs.Subtypes
pub use Rattle.sj_world.specs.Ancestors
pub use Rattle.sj_world.specs.Calls
pub use Rattle.sj_world.specs.Paths
pub use Rattle.sj_world.specs.Resolution
pub use Rattle.sj_world.specs.Rows
pub use Rattle.sj_world.specs.declared.facts.Fact
pub use Rattle.sj_world.specs.declared.facts.Fact.TheVariants as FactVariants
