use Rattle.std.proofs.Common.{arith, sym, ap, Some, ◌∙◌}
use Rattle.sj_reach.proofs.Once.{stand_once}
use Rattle.sj_reach.proofs.Worked.{working_begins, working_goes_on, working_ends}
use Rattle.sj_reach.proofs.reaching.find_all.Goals as goal

pub loop-next-init : goal.loop-next-init
loop-next-init c = record { names = c.hijacked-hijacked.ensures; work = working_begins c.args.world.now c.args.entries.now c.new-seen.result c.new-found.result _ c.new-seen.ensures c.new-found.ensures.facts c.new-found.ensures.reports c.in_ok-start.ensures }

pub loop-next-preserved : goal.loop-next-preserved
loop-next-preserved c = record { names = c.loop-next.invariant.names; work = working_goes_on c.args.world.now c.args.entries.now c.loop-next.next c.in_ok-fact.fact _ _ _ _ (c.index.ensures ∙ ap Some (sym c.in_ok-fact.ensures)) c.loop-next.invariant.work c.in_ok-go_through.ensures.found c.in_ok-go_through.ensures.seen }

pub returns : goal.returns
returns c = working_ends c.args.world.now c.args.entries.now c.loop-next.next _ _ (omega arith) (stand_once _ c.len.ensures.unique) c.loop-next.invariant.work
