use Rattle.std.proofs.Common.{◌≡◌, drop}
use Rattle.js_tree.specs.Views.{expression_view}
use Rattle.sj_emit_class_spec.specs.Pieces.{joined, kind_test}
use Rattle.sj_emit_class_parts.proofs.tests.joined.Given as goal

abbrev pub invariant-loop-kind : goal.invariant-loop-kind
invariant-loop-kind l = joined (expression_view l.test) (drop l.kind-index l.rest) ≡ joined (kind_test l.fn.first) l.rest
