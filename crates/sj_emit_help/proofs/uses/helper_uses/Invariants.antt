use Rattle.std.proofs.Common.{◌≡◌, ◌++◌, drop, map}
use Rattle.sj_emit_help_spec.specs.Helpers.{helper_uses, of}
use Rattle.sj_emit_help.proofs.uses.helper_uses.Given as goal

abbrev pub invariant-loop-used : goal.invariant-loop-used
invariant-loop-used l = l.bindings.items ++ map of (drop l.used-index l.helpers) ≡ helper_uses l.fn.helper
