use Rattle.std.proofs.Common.{◌≡◌, ◌∷◌, length, sym, ap, ◌∙◌, arith}
use Rattle.std.specs.Vec.Iter.{into_iter_items}
use Rattle.sj_world.specs.declared.facts.Fact.TheVariants.{Body}
use Rattle.sj_world.proofs.Puts.{put_more, put_all, nothing_left}
use Rattle.sj_world.proofs.linked.put_bodies.Goals as goal

pub loop-body-preserved : goal.loop-body-preserved
loop-body-preserved c =
    let at = c.loop-body in
    let steps : into_iter_items at.body-iterator ≡ c.in-Some.body ∷ into_iter_items c.next.new.self = c.in-Some.ensures.steps.0 in
    record {
      put = put_more Body _ _ _ c.in-Some.body _ _ steps c.in_ok-push.ensures.items at.invariant.put;
      count =
          let was = at.invariant.count in
          let gone = c.in-Some.ensures.steps.1 in
          let short = ap length steps in
          omega arith;
    }

pub returns : goal.returns
returns c =
    let at = c.loop-body in
    put_all Body _ _ _ (nothing_left _ (sym at.invariant.count ∙ c.in-None.ensures.steps.0)) at.invariant.put
