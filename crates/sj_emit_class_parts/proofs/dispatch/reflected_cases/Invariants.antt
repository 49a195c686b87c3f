use Rattle.std.proofs.Common.{◌≡◌, ◌++◌, drop, map}
use Rattle.js_tree.specs.Views.{statement_view}
use Rattle.sj_emit_class_spec.specs.Dispatch.{reflected_case}
use Rattle.sj_emit_class_parts.specs.Cases.{reflected_view}
use Rattle.sj_emit_class_parts.proofs.dispatch.reflected_cases.Given as goal

abbrev pub invariant-loop-case : goal.invariant-loop-case
invariant-loop-case l = map statement_view l.statements.items ++ map (reflected_case l.proxy) (map reflected_view (drop l.case-index l.cases)) ≡ map (reflected_case l.proxy) (map reflected_view l.cases)
