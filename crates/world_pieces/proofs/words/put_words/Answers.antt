use Rattle.std.proofs.Common.{Contains, refl, arith}
use Rattle.std.proofs.lemmas.Option.{slice_get_read}
use Rattle.js_tree.specs.Views.{piece_view}
use Rattle.sj_baselink.proofs.Putting.{each_begins, each_goes_on}
use Rattle.world_pieces.specs.Helpers.{UsesWord}
use Rattle.world_pieces.proofs.UsedWords.{words_of_pieces}
use Rattle.world_pieces.proofs.words.put_words.Goals as goal

pub loop-piece-init : goal.loop-piece-init
loop-piece-init c = each_begins Contains _ _ _

pub loop-piece-preserved : goal.loop-piece-preserved
loop-piece-preserved c = each_goes_on Contains (λ p x. UsesWord (piece_view p) x) c.args.pieces.now c.loop-piece.piece-index c.piece-item.result _ _ _ (slice_get_read c.args.pieces.now _ c.loop-piece.piece-index c.piece-item.result refl (omega arith) c.piece-item.is) c.loop-piece.invariant (rw c.as_slice.ensures at c.in_ok-put_uses.ensures)

pub returns : goal.returns
returns c = words_of_pieces c.args.pieces.now c.loop-piece.piece-index _ _ (omega arith) c.loop-piece.invariant
