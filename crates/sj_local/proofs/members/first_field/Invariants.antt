use Rattle.std.proofs.Common.{◌≡◌, ◌+◌, drop}
use Rattle.std.specs.Prelude.{option_map}
use Rattle.sj_local.specs.Firsts.{first_where}
use Rattle.sj_local.specs.MemberRules.{breaks_field}
use Rattle.sj_local.proofs.members.first_field.Given as goal

abbrev pub invariant-loop-index : goal.invariant-loop-index
invariant-loop-index l = option_map (λ k. l.index + k) (first_where (breaks_field l.class) (drop l.index l.fields)) ≡ first_where (breaks_field l.class) l.fields
