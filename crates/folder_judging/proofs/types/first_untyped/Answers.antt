use Rattle.std.proofs.Common.{refl, arith, sym, subst, ◌∙◌}
use Rattle.std.proofs.lemmas.Option.{slice_get_read}
use Rattle.std.proofs.lemmas.Result.{err_from_is_err_and}
use Rattle.folder_judging.specs.Types.{ChecksBodies}
use Rattle.folder_judging.proofs.Counted.{checks_on, checks_end, checks_stop, checks_all}
use Rattle.folder_judging.proofs.Typed.{none_first, stops_at, ends, with_body_goes_on, needed_one, spelled_one}
use Rattle.folder_judging.proofs.types.first_untyped.Goals as goal

pub loop-body-init : goal.loop-body-init
loop-body-init g c = record { least = none_first c.args.linked.now.world c.args.bodies.now; counted = refl }

pub with_body-requires : goal.with_body-requires
with_body-requires g c = c.requires.defined.each _ (needed_one c.args.linked.now c.args.bodies.now c.requires.in_order c.loop-body.body-index c.body-item.result (slice_get_read c.args.bodies.now _ c.loop-body.body-index c.body-item.result refl (omega arith) c.body-item.is))

pub returns-then-is_behind-clause-found : goal.returns-then-is_behind-clause-found
returns-then-is_behind-clause-found g c = stops_at c.args.linked.now c.args.bodies.now c.requires.in_order c.loop-body.body-index c.body-item.result c.loop-body.least (slice_get_read c.args.bodies.now _ c.loop-body.body-index c.body-item.result refl (omega arith) c.body-item.is) (sym c.is_behind.ensures ∙ c.if-is_behind.true) c.loop-body.invariant.least

pub returns-then-is_behind-clause-counted : goal.returns-then-is_behind-clause-counted
returns-then-is_behind-clause-counted g c = checks_stop c.loop-body.body-index c.args.linked.now.facts (g.W.Workers.meter c.args.work.now) _ c.loop-body.least c.body-item.result.spelled (omega (arith, c.requires.in_order.bodies_right.many)) c.loop-body.invariant.counted (sym c.is_behind.ensures ∙ c.if-is_behind.true)

pub returns-in_err-least-clause-counted : goal.returns-in_err-least-clause-counted
returns-in_err-least-clause-counted g c =
    let p = err_from_is_err_and c.from_residual.result c.from_residual.ensures.1 in
    subst (λ r. ChecksBodies c.args.linked.now.facts r (g.W.Workers.meter c.args.work.now) (g.W.Workers.meter c.with_body.new.work)) (sym p.1) (checks_end c.loop-body.body-index c.args.linked.now.facts (g.W.Workers.meter c.args.work.now) _ _ (omega (arith, c.requires.in_order.bodies_right.many)) c.loop-body.invariant.counted c.in_err-least.ensures.counted)

pub loop-body-preserved : goal.loop-body-preserved
loop-body-preserved g c =
    let at = slice_get_read c.args.bodies.now _ c.loop-body.body-index c.body-item.result refl (omega arith) c.body-item.is in
    record {
      least = with_body_goes_on c.args.linked.now.world c.args.bodies.now c.loop-body.body-index c.body-item.result at (spelled_one c.args.linked.now c.args.bodies.now c.requires.in_order c.loop-body.body-index c.body-item.result at) c.loop-body.least c.in_ok-least.least c.loop-body.invariant.least c.in_ok-least.ensures.found;
      counted = checks_on c.loop-body.body-index (g.W.Workers.meter c.args.work.now) _ _ c.loop-body.invariant.counted c.in_ok-least.ensures.counted;
    }

pub returns-clause-found : goal.returns-clause-found
returns-clause-found g c = ends c.args.linked.now c.args.bodies.now c.requires.in_order c.loop-body.body-index c.loop-body.least (omega arith) c.loop-body.invariant.least

pub returns-clause-counted : goal.returns-clause-counted
returns-clause-counted g c = checks_all c.loop-body.body-index c.args.linked.now.facts (g.W.Workers.meter c.args.work.now) _ c.loop-body.least (omega (arith, c.requires.in_order.bodies_right.many)) c.loop-body.invariant.counted
