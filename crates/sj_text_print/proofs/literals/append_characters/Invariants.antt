use Rattle.std.proofs.Common.{◌≡◌}
use Rattle.js_tree.specs.Written.{put_each}
use Rattle.sj_text_spec.specs.Texts.{put_character}
use Rattle.sj_text_print.proofs.literals.append_characters.Given as goal

abbrev pub invariant-loop-character : goal.invariant-loop-character
invariant-loop-character l = l.out.items ≡ put_each put_character l.yielded l.initial.out.items
