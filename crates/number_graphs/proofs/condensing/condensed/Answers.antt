use Rattle.std.proofs.Common.{◌≡◌, ℕ, ◌<◌, List, ◌∙◌, subst, sym, length, arith, get_or}
use Rattle.number_graphs.specs.Graphs.{At, next_of}
use Rattle.number_graphs.specs.Condensed.{IsConnected}
use Rattle.number_graphs.proofs.Groups.{next_read}
use Rattle.number_graphs.proofs.Places.{contains_at, at_read}
use Rattle.number_graphs.proofs.Connected.{partly_begins, partly_more, condensed_is}
use Rattle.number_graphs.proofs.condensing.condensed.Goals as goal

pub loop-number-init : goal.loop-number-init
loop-number-init c = partly_begins c.args.next.now c.args.components.now.of.items (length c.args.components.now.firsts.items) c.in_ok-graph.graph.items (let e = c.in_ok-graph.ensures.count in let f = c.len.ensures in omega (arith, e, f)) c.in_ok-graph.ensures.none

pub connect-requires-clause-component : goal.connect-requires-clause-component
connect-requires-clause-component c =
    let low : c.loop-number.number < length c.args.components.now.of.items = (let e = c.requires.components.whole in omega (arith, e)) in
    let below = c.requires.components.counted c.loop-number.number c.index-component.result.now (at_read c.args.components.now.of.items c.loop-number.number c.index-component.result.now low c.index-component.ensures) in
    let e = c.loop-number.invariant.whole in
    omega (arith, below, e)

pub connect-requires-clause-numbers : goal.connect-requires-clause-numbers
connect-requires-clause-numbers c place number at =
    let low = c.requires.graph c.loop-number.number number (contains_at (next_of c.args.next.now c.loop-number.number) place number (subst (λ (l : List ℕ). At l place number) (c.deref-in-loop-number.ensures.value ∙ next_read c.args.next.now c.loop-number.number c.index-next-number.result c.index-next-number.is (omega arith)) at)) in
    let e = c.requires.components.whole in
    subst (λ (l : List ℕ). number < length l) (sym c.deref.ensures.value) (omega (arith, low, e))

pub loop-number-preserved : goal.loop-number-preserved
loop-number-preserved c =
    let low : c.loop-number.number < length c.args.components.now.of.items = (let e = c.requires.components.whole in omega (arith, e)) in
    partly_more c.args.next.now c.args.components.now.of.items _ c.loop-number.number c.index-component.result.now c.loop-number.graph.items c.connect.new.graph.items (at_read c.args.components.now.of.items c.loop-number.number c.index-component.result.now low c.index-component.ensures) c.loop-number.invariant (subst (λ (l : List ℕ). IsConnected l (next_of c.args.next.now c.loop-number.number) c.index-component.result.now c.loop-number.graph.items c.connect.new.graph.items) c.deref.ensures.value (subst (λ (l : List ℕ). IsConnected c.deref.result.now l c.index-component.result.now c.loop-number.graph.items c.connect.new.graph.items) (c.deref-in-loop-number.ensures.value ∙ next_read c.args.next.now c.loop-number.number c.index-next-number.result c.index-next-number.is (omega arith)) c.in_ok-connect.ensures))

pub returns : goal.returns
returns c = condensed_is c.args.next.now c.args.components.now.of.items c.args.components.now.firsts.items c.loop-number.graph.items c.loop-number.number c.requires.components c.requires.graph c.loop-number.invariant (omega arith)
