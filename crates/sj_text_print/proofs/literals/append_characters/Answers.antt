use Rattle.std.proofs.Common.{ℕ, List, sym, ap, ◌∙◌, map-id}
use Rattle.std.proofs.lemmas.Iterator.{YieldsList-from_chars}
use Rattle.std.proofs.lemmas.Iterator.Consumers.{YieldsList-end}
use Rattle.js_tree.specs.Written.{put_each}
use Rattle.sj_text_spec.specs.Texts.{put_character}
use Rattle.sj_text_print.proofs.Characters.{one_more}
use Rattle.sj_text_print.proofs.literals.append_characters.Goals as goal

pub returns : goal.returns
returns c =
    let end = YieldsList-end (YieldsList-from_chars c.args.name.now c.utf8.name cc) c.loop-character.yielded _ c.loop-character.yielded_by _ _ c.in-None.is c.next.ensures.steps in
    c.loop-character.invariant ∙ ap (λ (xs : List ℕ). put_each put_character xs c.args.out.now.items) (sym (map-id c.loop-character.yielded) ∙ end.0)

pub loop-character-preserved : goal.loop-character-preserved
loop-character-preserved c = one_more c.loop-character.out.items _ _ c.loop-character.yielded _ c.loop-character.invariant c.in_ok-append_character.ensures
