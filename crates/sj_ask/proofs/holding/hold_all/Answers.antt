use Rattle.std.proofs.Common.{refl, sym, subst, take, arith}
use Rattle.std.proofs.lemmas.List.{take_all}
use Rattle.std.proofs.lemmas.List.Elements.{All-more, All-same}
use Rattle.sj_ask.specs.Stands.{stand_of}
use Rattle.sj_ask.specs.Answers.{IsAnswer}
use Rattle.sj_ask.specs.Apart.{Exchange}
use Rattle.sj_ask.proofs.holding.hold_all.Goals as goal

pub loop-asked-preserved : goal.loop-asked-preserved
loop-asked-preserved c = All-more (λ (x : Exchange). IsAnswer (stand_of c.args.world.now c.args.k.now) x.0 x.1) c.args.log.now c.loop-asked.asked-index c.asked-item.result (omega arith) c.loop-asked.invariant (subst (λ (x : Exchange). IsAnswer (stand_of c.args.world.now c.args.k.now) x.0 x.1) c.asked-item.is (c.is_answer.ensures.0 c.if-not-is_answer.false))

pub returns : goal.returns
returns c = (λ t. All-same (λ (x : Exchange). IsAnswer (stand_of c.args.world.now c.args.k.now) x.0 x.1) c.args.log.now (take c.loop-asked.asked-index c.args.log.now) (sym (take_all c.loop-asked.asked-index c.args.log.now (omega arith))) c.loop-asked.invariant, λ h. refl)
