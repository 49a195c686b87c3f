use Rattle.std.proofs.Common.{ℕ, ◌<◌, true, List, length, sym, ◌∙◌, subst, arith}
use Rattle.std.specs.Prelude.{◌↔◌}
use Rattle.worklist.specs.Paths.{IsReached}
use Rattle.number_graphs.specs.Graphs.{At, next_of}
use Rattle.sj_split.specs.Steps.{first_classes, AreComponentsOf}
use Rattle.sj_split.proofs.Marking.{components_below}
use Rattle.sj_split.proofs.Walked.{from_first, first_inside, led_by_one, led_by_components, then_both}
use Rattle.sj_split.proofs.walks.reached_by.Goals as goal

pub components_of-requires-clause-inside : goal.components_of-requires-clause-inside
components_of-requires-clause-inside c class h = c.requires.inside class (first_inside c.args.id.now c.args.entries.now class (from_first c.requires.numbered.0 c.args.entries.now (first_classes c.args.id.now c.args.entries.now) c.in_ok-found.found.keys class c.in_ok-found.ensures h))

pub reached-requires-clause-starts : goal.reached-requires-clause-starts
reached-requires-clause-starts c place number at =
    let of = c.args.components.now.of.items in
    let firsts = c.args.components.now.firsts.items in
    let low : number < length firsts = components_below c.args.numbers.now.classes.keys c.in_ok-found.found.keys of c.in_ok-starts.starts.items (length firsts) c.requires.condensed.found.counted (subst (λ (l : List ℕ). AreComponentsOf c.args.numbers.now.classes.keys l c.in_ok-found.found.keys c.in_ok-starts.starts.items) c.deref.ensures.value c.in_ok-starts.ensures) place number (subst (λ (l : List ℕ). At l place number) c.deref-2.ensures.value at) in
    let e = c.requires.condensed.condensed.whole in
    omega (arith, low, e)

pub returns-clause-reached : goal.returns-clause-reached
returns-clause-reached c references numbered component class is =
    let of = c.args.components.now.of.items in
    let keys = c.args.numbers.now.classes.keys in
    then_both (subst (λ (l : List ℕ). At c.in_ok-marks.marks.items component true ↔ IsReached (next_of c.args.graph.now) l component) c.deref-2.ensures.value (c.in_ok-marks.ensures.reached component)) (then_both (led_by_components references keys c.args.numbers.now.next.items numbered of c.args.components.now.firsts.items c.args.graph.now c.requires.condensed.found.whole c.requires.condensed.condensed c.in_ok-found.found.keys c.in_ok-starts.starts.items (subst (λ (l : List ℕ). AreComponentsOf keys l c.in_ok-found.found.keys c.in_ok-starts.starts.items) c.deref.ensures.value c.in_ok-starts.ensures) component class is) (led_by_one references c.args.entries.now c.args.id.now c.in_ok-found.found.keys c.in_ok-found.ensures class))
