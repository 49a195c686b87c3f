use Rattle.std.proofs.Common.{◌≡◌, drop}
use Rattle.sj_core.specs.Views.{expressions_view}
use Rattle.sj_emit_expr_spec.specs.Uses.{uses_in_all}
use Rattle.sj_emit_expr.specs.Collecting.{with_uses}
use Rattle.sj_emit_expr_parts.specs.Known.{lookup_of}
use Rattle.sj_emit_expr.proofs.uses.+expression_uses.Given as goal

abbrev pub invariant-add_all_uses_in-loop-each : goal.invariant-add_all_uses_in-loop-each
invariant-add_all_uses_in-loop-each l = with_uses l.bindings.items (uses_in_all (lookup_of l.known) (expressions_view (drop l.each-index l.expressions))) ≡ with_uses l.fn.bindings.items (uses_in_all (lookup_of l.known) (expressions_view l.expressions))
