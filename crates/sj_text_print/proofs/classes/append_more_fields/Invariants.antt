use Rattle.std.proofs.Common.{◌≡◌, drop, codes}
use Rattle.js_tree.specs.Written.{put_more}
use Rattle.sj_text_spec.specs.Texts.{put_field}
use Rattle.sj_text_print.proofs.classes.append_more_fields.Given as goal

abbrev pub invariant-loop-field : goal.invariant-loop-field
invariant-loop-field l = put_more (codes " ") put_field (drop l.field-index l.fields) l.out.items ≡ put_more (codes " ") put_field l.fields l.initial.out.items
