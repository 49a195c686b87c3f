pub use Rattle.sj_text_spec.specs.Rules
pub use Rattle.agree_local_rules.specs.Typed
pub use Rattle.agree_local_rules.specs.Desugar
pub use Rattle.agree_local_rules.specs.Kept
pub use Rattle.agree_local_rules.specs.Once
