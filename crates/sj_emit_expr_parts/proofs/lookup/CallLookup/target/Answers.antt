use Rattle.std.proofs.Common.{ap, sym, Some, None, ◌∙◌}
use Rattle.std.specs.Prelude.{option_copied}
use Rattle.sj_emit_expr_parts.proofs.Asked.{looked-up}
use Rattle.sj_emit_expr_parts.proofs.lookup.CallLookup.target.Goals as goal

pub returns-in-Some : goal.returns-in-Some
returns-in-Some c = looked-up c.args.self.now c.args.member.now (Some c.in-Some.target.now) (sym (ap option_copied c.in-Some.is) ∙ c.get.ensures.value)

pub returns-in-None : goal.returns-in-None
returns-in-None c = looked-up c.args.self.now c.args.member.now None (sym (ap option_copied c.in-None.is) ∙ c.get.ensures.value)
