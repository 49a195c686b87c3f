pub mod Proxies
pub use Rattle.sj_world.specs.Ancestors
pub use Rattle.sj_world.specs.Calls
pub use Rattle.sj_world.specs.Known
pub use Rattle.sj_world.specs.Linked
pub use Rattle.sj_world.specs.Members
pub use Rattle.sj_world.specs.Paths
pub use Rattle.sj_world.specs.Refusals
pub use Rattle.sj_world.specs.Resolution
pub use Rattle.sj_world.specs.Subtypes
pub use Rattle.sj_world.specs.declared.facts.Fact
pub use Rattle.sj_world.specs.declared.facts.Fact.TheVariants as FactVariants
pub use Rattle.sj_world.specs.declared.linked.MethodEntry
