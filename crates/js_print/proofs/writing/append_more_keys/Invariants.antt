use Rattle.std.proofs.Common.{◌≡◌, ◌∷◌, drop}
use Rattle.js_tree.specs.Written.{put_more, indent}
use Rattle.js_tree.specs.Texts.{put_key}
use Rattle.js_print.proofs.writing.append_more_keys.Given as goal

abbrev pub invariant-loop-key : goal.invariant-loop-key
invariant-loop-key l = put_more (10 ∷ indent l.level) put_key (drop l.key-index l.keys) l.out.items ≡ put_more (10 ∷ indent l.level) put_key l.keys l.initial.out.items
