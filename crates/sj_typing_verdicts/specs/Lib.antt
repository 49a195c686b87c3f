pub mod Laws
pub use Rattle.sj_typing_spec.specs.Sizes
pub use Rattle.sj_typing_spec.specs.Nodes
pub use Rattle.sj_typing_spec.specs.Rules
pub use Rattle.sj_typing_spec.specs.Typed
pub use Rattle.sj_typing_spec.specs.Labels
pub use Rattle.sj_typing_spec.specs.declared.labels.Label
