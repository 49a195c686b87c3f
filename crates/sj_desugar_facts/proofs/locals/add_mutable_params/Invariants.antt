use Rattle.std.proofs.Common.{◌≡◌, ◌≤◌, drop, length, reverse}
use Rattle.sj_desugar_spec.specs.Plain.{mutable_params}
use Rattle.sj_desugar_facts.proofs.locals.add_mutable_params.Given as goal

abbrev pub invariant-loop-left : goal.invariant-loop-left
invariant-loop-left l = record { within : l.left ≤ length l.params; so_far : reverse l.names.items ≡ mutable_params (drop l.left l.params) (reverse l.fn.names.items) }

abbrev pub decreases-loop-left : goal.decreases-loop-left
decreases-loop-left l = l.left
