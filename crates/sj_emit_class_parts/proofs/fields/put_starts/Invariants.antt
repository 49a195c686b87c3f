use Rattle.std.proofs.Common.{◌≡◌, ◌++◌, drop, map}
use Rattle.js_tree.specs.Views.{statement_view}
use Rattle.sj_emit_class_spec.specs.Pieces.{field_start}
use Rattle.sj_emit_class_parts.proofs.fields.put_starts.Given as goal

abbrev pub invariant-loop-field : goal.invariant-loop-field
invariant-loop-field l = map statement_view l.statements.items ++ map (field_start l.class) (map (λ f. f.now) (drop l.field-index l.fields)) ≡ map statement_view l.fn.statements.items ++ map (field_start l.class) (map (λ f. f.now) l.fields)
