use Rattle.std.proofs.Common.{◌≡◌, ◌++◌, drop, map}
use Rattle.js_tree.specs.Views.{piece_view}
use Rattle.sj_emit_class_spec.specs.Pieces.{all_statics}
use Rattle.sj_emit_class_parts.proofs.fields.put_statics.Given as goal

abbrev pub invariant-loop-field : goal.invariant-loop-field
invariant-loop-field l = map piece_view l.all.items ++ all_statics l.class (map (λ f. f.now) (drop l.field-index l.fields)) ≡ map piece_view l.fn.all.items ++ all_statics l.class (map (λ f. f.now) l.fields)
