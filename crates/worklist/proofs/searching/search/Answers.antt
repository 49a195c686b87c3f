use Rattle.std.proofs.Common.{sym, ◌∙◌, ap, Some, arith}
use Rattle.worklist.specs.Search.{begins}
use Rattle.worklist.proofs.Searched.{found_more, found_is_reached, is_searched}
use Rattle.worklist.proofs.searching.search.Goals as goal

pub loop-next-init : goal.loop-next-init
loop-next-init g c = begins

pub loop-next-preserved : goal.loop-next-preserved
loop-next-preserved g c = found_more g.K.PartialEq.eq (g.S.Step.next c.args.step.now) c.args.found.now.keys c.loop-next.next c.loop-next.found.keys _ c.in_ok-key.key c.loop-next.invariant (c.index.ensures ∙ ap Some (sym c.in_ok-key.ensures)) c.in_ok-add_next.ensures

pub returns-clause-reached : goal.returns-clause-reached
returns-clause-reached g c = found_is_reached g.K.PartialEq.eq (g.S.Step.next c.args.step.now) c.args.found.now.keys g.met.K.Key.same c.loop-next.next c.loop-next.found.keys c.loop-next.invariant (omega arith)

pub returns-clause-in_order : goal.returns-clause-in_order
returns-clause-in_order g c = is_searched g.K.PartialEq.eq (g.S.Step.next c.args.step.now) c.args.found.now.keys g.met.K.Key.same c.loop-next.next c.loop-next.found.keys c.loop-next.invariant (omega arith)
