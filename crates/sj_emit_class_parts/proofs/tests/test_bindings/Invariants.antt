use Rattle.std.proofs.Common.{◌≡◌, ◌++◌, drop, map}
use Rattle.sj_emit_class_spec.specs.Pieces.{test_binding}
use Rattle.sj_emit_class_parts.proofs.tests.test_bindings.Given as goal

abbrev pub invariant-loop-kind : goal.invariant-loop-kind
invariant-loop-kind l = l.bindings.items ++ map test_binding (drop l.kind-index l.kinds) ≡ map test_binding l.kinds
