use Rattle.std.proofs.Common.{◌≡◌, ◌∷◌, length, refl, sym, ap, ◌∙◌, subst, arith}
use Rattle.std.specs.Vec.Iter.{into_iter_items}
use Rattle.sj_infos.specs.contracts.infos.InfoPartialEq.TheImpl as info_eq
use Rattle.sj_infos.proofs.Firsts.{goes_on, ends, none_left}
use Rattle.sj_infos.proofs.SameInfos.{info_decides}
use Rattle.sj_infos.proofs.infos.once.Goals as goal

pub loop-info-preserved : goal.loop-info-preserved
loop-info-preserved c =
    let at = c.loop-info in
    let steps : into_iter_items at.info-iterator ≡ c.in-Some.info ∷ into_iter_items c.next.new.self = c.in-Some.ensures.steps.0 in
    record {
      done = goes_on info_eq.ghosts.eq info_decides _ _ _ _ _ c.in-Some.info steps c.in_ok-insert.ensures.keys at.invariant.done;
      count =
          let was = at.invariant.count in
          let gone = c.in-Some.ensures.steps.1 in
          let short = ap length steps in
          omega arith;
    }

pub returns : goal.returns
returns c =
    let at = c.loop-info in
    ends _ _ _ (none_left _ (sym at.invariant.count ∙ c.in-None.ensures.steps.0)) at.invariant.done
