use Rattle.std.proofs.Common.{◌≡◌, drop, codes}
use Rattle.js_tree.specs.Written.{put_more}
use Rattle.sj_text_spec.specs.Texts.{put_name}
use Rattle.sj_text_print.proofs.classes.append_more_names.Given as goal

abbrev pub invariant-loop-name : goal.invariant-loop-name
invariant-loop-name l = put_more (codes " ") put_name (drop l.name-index l.names) l.out.items ≡ put_more (codes " ") put_name l.names l.initial.out.items
