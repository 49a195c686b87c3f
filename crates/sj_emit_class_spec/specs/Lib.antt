pub mod ClassRows
pub mod Classes
pub mod Dispatch
pub mod Pieces
pub use Rattle.sj_baselink_spec.specs.Entries
pub use Rattle.sj_baselink_spec.specs.Rules
pub use Rattle.sj_baselink_spec.specs.Forms
pub use Rattle.sj_baselink_spec.specs.Trees
pub use Rattle.sj_baselink_spec.specs.BodyForm
pub use Rattle.sj_baselink_spec.specs.BodyFormVariants
pub use Rattle.sj_emit_help_spec.specs.Words
pub use Rattle.sj_emit_expr_spec.specs.Templates
pub use Rattle.sj_emit_help_spec.specs.Helpers
pub use Rattle.sj_emit_help_spec.specs.declared.kinds.Helper.TheVariants as HelperVariants
pub use Rattle.sj_emit_help_spec.specs.declared.kinds.Kind
pub use Rattle.sj_emit_help_spec.specs.declared.kinds.Kind.TheVariants as KindVariants
pub use Rattle.sj_emit_help_spec.specs.declared.kinds.Failure.TheVariants as FailureVariants
