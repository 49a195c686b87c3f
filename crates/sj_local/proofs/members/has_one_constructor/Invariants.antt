use Rattle.std.proofs.Common.{◌≡◌, drop}
use Rattle.std.specs.Prelude.{not, if◌then◌else◌}
use Rattle.std.specs.List.{list_any}
use Rattle.sj_local.specs.MemberRules.{exactly_one, is_a_constructor}
use Rattle.sj_local.proofs.members.has_one_constructor.Given as goal

abbrev pub invariant-loop-method : goal.invariant-loop-method
invariant-loop-method l = (if l.found then not (list_any is_a_constructor (drop l.method-index l.methods)) else exactly_one is_a_constructor (drop l.method-index l.methods)) ≡ exactly_one is_a_constructor l.methods
