use Rattle.std.proofs.lemmas.Result.{on_ok_weaker}
use Rattle.world_pieces.proofs.UsedWords.{words_of_both}
use Rattle.world_pieces.proofs.words.put_words_of.Goals as goal

pub returns : goal.returns
returns c = on_ok_weaker _ (words_of_both _ _ _ _ _ (rw c.deref.ensures.value at c.in_ok-put_words.ensures)) (rw c.deref-2.ensures.value at c.put_words-2.ensures)
