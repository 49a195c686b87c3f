pub mod Calls
pub mod Task
pub mod Laws
pub use Rattle.sj_ask.specs.Answers
pub use Rattle.sj_ask.specs.Apart
pub use Rattle.sj_ask.specs.Runs
pub use Rattle.sj_ask.specs.Stands
pub use Rattle.sj_ask.specs.Tasks
pub use Rattle.sj_ask.specs.declared.questions.Answer
pub use Rattle.sj_ask.specs.declared.questions.Answer.TheVariants as AnswerVariants
pub use Rattle.sj_emit_expr_spec.specs.Lookup
pub use Rattle.sj_emit_expr_spec.specs.Terms
pub use Rattle.sj_emit_expr_spec.specs.Templates
pub use Rattle.sj_emit_expr_spec.specs.Names
pub use Rattle.sj_emit_expr_spec.specs.Tests
