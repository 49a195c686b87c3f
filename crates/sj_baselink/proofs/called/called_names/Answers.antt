use Rattle.std.proofs.Common.{refl, arith}
use Rattle.std.proofs.lemmas.Option.{slice_get_read}
use Rattle.sj_baselink.specs.Steps.{IsListed}
use Rattle.sj_baselink.proofs.Putting.{each_begins, each_goes_on}
use Rattle.sj_baselink.proofs.Gathered.{are_called}
use Rattle.sj_baselink.proofs.called.called_names.Goals as goal

pub loop-fact-init : goal.loop-fact-init
loop-fact-init c = each_begins IsListed _ _ _

pub loop-fact-preserved : goal.loop-fact-preserved
loop-fact-preserved c = each_goes_on IsListed _ c.args.facts.now c.loop-fact.fact-index c.fact-item.result _ _ _ (slice_get_read c.args.facts.now _ c.loop-fact.fact-index c.fact-item.result refl (omega arith) c.fact-item.is) c.loop-fact.invariant c.in_ok-put_called.ensures

pub returns : goal.returns
returns c = are_called c.args.facts.now c.loop-fact.fact-index _ _ (omega arith) c.new-called.ensures c.loop-fact.invariant
