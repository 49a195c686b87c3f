use Rattle.js_tree.specs.Views.{piece_view}
use Rattle.sj_baselink.specs.Steps.{Puts}
use Rattle.sj_baselink.proofs.Putting.{OfFirst}
use Rattle.world_pieces.specs.Helpers.{UsesWord}
use Rattle.world_pieces.proofs.words.put_words.Given as goal

abbrev pub invariant-loop-piece : goal.invariant-loop-piece
invariant-loop-piece l = Puts (OfFirst l.pieces l.piece-index (λ p x. UsesWord (piece_view p) x)) l.fn.words.keys l.words.keys
