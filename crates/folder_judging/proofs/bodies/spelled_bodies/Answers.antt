use Rattle.std.proofs.Common.{[], refl, sym, subst, arith}
use Rattle.std.proofs.lemmas.Option.{slice_get_read}
use Rattle.folder_judging.specs.Bodies.{AreBodiesOf}
use Rattle.folder_judging.proofs.Spelled.{no_bodies, one_more, all_of_them}
use Rattle.folder_judging.proofs.bodies.spelled_bodies.Goals as goal

pub loop-fact-init : goal.loop-fact-init
loop-fact-init c = subst (AreBodiesOf []) (sym c.new-bodies.ensures.items) no_bodies

pub loop-fact-preserved : goal.loop-fact-preserved
loop-fact-preserved c = one_more c.args.facts.now c.loop-fact.fact-index c.fact-item.result _ _ (slice_get_read c.args.facts.now _ c.loop-fact.fact-index c.fact-item.result refl (omega arith) c.fact-item.is) c.loop-fact.invariant c.in_ok-push_body.ensures

pub returns : goal.returns
returns c = all_of_them c.args.facts.now c.loop-fact.fact-index c.loop-fact.bodies.items (omega arith) c.loop-fact.invariant
