use Rattle.std.proofs.Common.{◌≡◌, drop, codes}
use Rattle.js_tree.specs.Written.{put_more}
use Rattle.sj_text_spec.specs.Texts.{put_integer}
use Rattle.sj_text_print.proofs.trees.append_more_keys.Given as goal

abbrev pub invariant-loop-key : goal.invariant-loop-key
invariant-loop-key l = put_more (codes " ") put_integer (drop l.key-index l.keys) l.out.items ≡ put_more (codes " ") put_integer l.keys l.initial.out.items
