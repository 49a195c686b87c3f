use Rattle.std.proofs.Common.{◌≡◌, ◌+◌, drop}
use Rattle.std.specs.Prelude.{option_map}
use Rattle.sj_local.specs.Firsts.{first_where}
use Rattle.sj_local.specs.MemberRules.{breaks_method}
use Rattle.sj_local.proofs.members.first_method.Given as goal

abbrev pub invariant-loop-index : goal.invariant-loop-index
invariant-loop-index l = option_map (λ k. l.index + k) (first_where (breaks_method l.class l.rule) (drop l.index l.methods)) ≡ first_where (breaks_method l.class l.rule) l.methods
