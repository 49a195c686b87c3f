pub mod Targets
pub mod Laws
pub use Rattle.ir_mean.specs.Dispatch
pub use Rattle.ir_mean.specs.Meaning
pub use Rattle.ir_mean.specs.Operators
pub use Rattle.ir_mean.specs.Rows
pub use Rattle.ir_mean.specs.Shows
pub use Rattle.ir_mean.specs.States
pub use Rattle.ir_mean.specs.World
pub use Rattle.sj_emit_expr_questions.specs.Templates
pub use Rattle.ir_mean.specs.Ancestors
pub use Rattle.ir_mean.specs.Known
pub use Rattle.ir_mean.specs.Laws as SjWorldLaws
pub use Rattle.ir_mean.specs.Paths
pub use Rattle.ir_mean.specs.Refusals
pub use Rattle.ir_mean.specs.Subtypes
pub use Rattle.sj_emit_expr_questions.specs.Names
pub use Rattle.sj_emit_expr_questions.specs.Tests
