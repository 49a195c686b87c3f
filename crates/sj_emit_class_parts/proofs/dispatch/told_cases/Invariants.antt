use Rattle.std.proofs.Common.{◌≡◌, ◌++◌, drop, map}
use Rattle.js_tree.specs.Views.{statement_view}
use Rattle.sj_emit_class_spec.specs.Dispatch.{told_case}
use Rattle.sj_emit_class_parts.specs.Cases.{told_view}
use Rattle.sj_emit_class_parts.proofs.dispatch.told_cases.Given as goal

abbrev pub invariant-loop-case : goal.invariant-loop-case
invariant-loop-case l = map statement_view l.statements.items ++ map (told_case l.method) (map told_view (drop l.case-index l.cases)) ≡ map (told_case l.method) (map told_view l.cases)
