use Rattle.std.proofs.Common.{◌<◌, length, List, ℕ, ◌∙◌, subst, arith, rules}
use Rattle.number_graphs.specs.Graphs.{At, next_of}
use Rattle.number_graphs.proofs.Groups.{next_read}
use Rattle.number_graphs.proofs.Places.{contains_at}
use Rattle.number_graphs.proofs.Marked.{reaching_begins, is_below, reaching_more, reaching_ends}
use Rattle.number_graphs.proofs.reaching.reached.Goals as goal

pub loop-number-init : goal.loop-number-init
loop-number-init c = reaching_begins c.args.next.now c.args.starts.now c.in_ok-marks.marks.items c.new-pending.result.items c.mark_all.new.marks.items c.mark_all.new.pending.items (c.in_ok-marks.ensures.items_if_clones_equal (λ y same. same)) (let e = c.in_ok-marks.ensures.len in omega (arith, e, c.in_ok-marks.marks.ok.0)) c.new-pending.ensures.items c.in_ok-mark_all.ensures

pub offset_bounds-next-number : goal.offset_bounds-next-number
offset_bounds-next-number c = let low : c.in-Some.number < length c.args.next.now = (is_below c.args.next.now c.args.starts.now c.loop-number.marks.items c.loop-number.pending.items c.pop.new.self.items c.in-Some.number c.loop-number.invariant c.in-Some.ensures.items) in search rules

pub bounds-next-number : goal.bounds-next-number
bounds-next-number c = is_below c.args.next.now c.args.starts.now c.loop-number.marks.items c.loop-number.pending.items c.pop.new.self.items c.in-Some.number c.loop-number.invariant c.in-Some.ensures.items

pub mark_all-requires-in-Some : goal.mark_all-requires-in-Some
mark_all-requires-in-Some c place number at = let low = c.requires.graph c.in-Some.number number (contains_at (next_of c.args.next.now c.in-Some.number) place number (subst (λ (l : List ℕ). At l place number) (c.deref.ensures.value ∙ next_read c.args.next.now c.in-Some.number c.index-next-number.result c.index-next-number.is (is_below c.args.next.now c.args.starts.now c.loop-number.marks.items c.loop-number.pending.items c.pop.new.self.items c.in-Some.number c.loop-number.invariant c.in-Some.ensures.items)) at)) in let e = c.loop-number.invariant.whole in omega (arith, low, e)

pub loop-number-preserved : goal.loop-number-preserved
loop-number-preserved c = reaching_more c.args.next.now c.args.starts.now c.loop-number.marks.items c.loop-number.pending.items c.pop.new.self.items c.in-Some.number c.loop-number.invariant c.in-Some.ensures.items c.deref.result.now c.mark_all-in-Some.new.marks.items c.mark_all-in-Some.new.pending.items (c.deref.ensures.value ∙ next_read c.args.next.now c.in-Some.number c.index-next-number.result c.index-next-number.is (is_below c.args.next.now c.args.starts.now c.loop-number.marks.items c.loop-number.pending.items c.pop.new.self.items c.in-Some.number c.loop-number.invariant c.in-Some.ensures.items)) c.in_ok-mark_all-2.ensures

pub returns-clause-reached : goal.returns-clause-reached
returns-clause-reached c = reaching_ends c.args.next.now c.args.starts.now c.loop-number.marks.items c.loop-number.pending.items c.loop-number.invariant (let e = c.in_default.ensures.cases.0 in omega (arith, e, c.loop-number.pending.ok.0))
