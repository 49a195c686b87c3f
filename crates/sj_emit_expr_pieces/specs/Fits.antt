-- Names of what the calls of a method run.
use Rattle.std.specs.Prelude.{List, Contains}
use Rattle.sj_emit_expr_questions.specs.Calls.{calls_of_all}
use Rattle.sj_emit_expr_questions.specs.declared.Inquiry.{Inquiry}
use Rattle.sj_emit_expr_questions.specs.declared.Inquiry.TheVariants as inquiries
use Rattle.sj_core.specs.Lookup.{Lookup}
use Rattle.sj_core.specs.Terms.{Method}
use Rattle.sj_names.specs.declared.method_names.Member.{Member}
use Rattle.sj_emit_expr_pieces.specs.Ranges.{FitsMember}

-- what a call of a member runs whose target is asked for has names that are texts of bytes, as the member's own
abbrev pub RunsFit : Lookup → List Inquiry → Type 0
RunsFit known qs = (k : Member) → Contains qs (inquiries.Target k) → FitsMember k → FitsMember (known.target k)

-- the same of the public members that a method calls on receivers
abbrev pub TargetsFit : Lookup → Method → Type 0
TargetsFit known m = RunsFit known (calls_of_all m.body)
