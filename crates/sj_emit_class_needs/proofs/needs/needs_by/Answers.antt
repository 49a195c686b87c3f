use Rattle.std.proofs.Common.{Contains, refl, arith}
use Rattle.std.proofs.lemmas.Option.{slice_get_read}
use Rattle.sj_baselink.proofs.Putting.{begins_empty, each_goes_on}
use Rattle.sj_emit_class_needs.proofs.Putting.{are_needs}
use Rattle.sj_emit_class_needs.proofs.needs.needs_by.Goals as goal

pub loop-fact-init : goal.loop-fact-init
loop-fact-init c = begins_empty _ _ _ c.new-needs.ensures.empty

pub loop-fact-preserved : goal.loop-fact-preserved
loop-fact-preserved c = each_goes_on Contains _ c.args.facts.now c.loop-fact.fact-index c.fact-item.result _ _ _ (slice_get_read c.args.facts.now _ c.loop-fact.fact-index c.fact-item.result refl (omega arith) c.fact-item.is) c.loop-fact.invariant c.in_ok-put_needs.ensures

pub returns : goal.returns
returns c = record { exact = are_needs c.args.w.now c.args.facts.now c.loop-fact.fact-index _ (omega arith) c.loop-fact.invariant }
