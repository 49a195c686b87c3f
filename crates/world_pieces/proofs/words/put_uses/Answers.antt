use Rattle.std.proofs.Common.{Contains, refl, arith}
use Rattle.std.proofs.lemmas.Option.{slice_get_read}
use Rattle.sj_baselink.proofs.Putting.{each_begins, each_goes_on}
use Rattle.world_pieces.proofs.UsedWords.{words_of_uses}
use Rattle.world_pieces.proofs.words.put_uses.Goals as goal

pub loop-binding-init : goal.loop-binding-init
loop-binding-init c = each_begins Contains _ _ _

pub loop-binding-preserved : goal.loop-binding-preserved
loop-binding-preserved c = each_goes_on Contains _ c.args.bindings.now c.loop-binding.binding-index c.binding-item.result _ _ _ (slice_get_read c.args.bindings.now _ c.loop-binding.binding-index c.binding-item.result refl (omega arith) c.binding-item.is) c.loop-binding.invariant c.in_ok-put_use.ensures

pub returns : goal.returns
returns c = words_of_uses c.args.bindings.now c.loop-binding.binding-index _ _ (omega arith) c.loop-binding.invariant
