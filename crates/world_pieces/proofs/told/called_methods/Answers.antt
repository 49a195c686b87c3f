use Rattle.std.proofs.Common.{Contains, refl, arith}
use Rattle.std.proofs.lemmas.Option.{slice_get_read}
use Rattle.sj_baselink.proofs.Putting.{begins_empty, each_goes_on, only_these}
use Rattle.world_pieces.specs.Told.{IsUsedBy}
use Rattle.world_pieces.proofs.told.called_methods.Goals as goal

pub loop-fact-init : goal.loop-fact-init
loop-fact-init c = begins_empty _ _ _ c.new-methods.ensures.empty

pub loop-fact-preserved : goal.loop-fact-preserved
loop-fact-preserved c = each_goes_on Contains _ c.args.facts.now c.loop-fact.fact-index c.fact-item.result _ _ _ (slice_get_read c.args.facts.now _ c.loop-fact.fact-index c.fact-item.result refl (omega arith) c.fact-item.is) c.loop-fact.invariant c.in_ok-put_called.ensures

pub returns : goal.returns
returns c = only_these (IsUsedBy c.args.words.now.keys) c.args.facts.now c.loop-fact.fact-index _ (omega arith) c.loop-fact.invariant
