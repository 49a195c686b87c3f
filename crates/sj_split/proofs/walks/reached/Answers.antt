use Rattle.std.proofs.Common.{Bool, List, Contains, map, subst}
use Rattle.std.specs.Prelude.{◌↔◌}
use Rattle.number_graphs.proofs.Places.{contains_at}
use Rattle.sj_split.specs.Steps.{entry_class, IsMarked}
use Rattle.sj_split.proofs.Marking.{marked_reached}
use Rattle.sj_split.proofs.Walked.{from_first, led_by_all, then_both}
use Rattle.sj_split.proofs.walks.reached.Goals as goal

pub led_to-requires-clause-inside : goal.led_to-requires-clause-inside
led_to-requires-clause-inside c class h = c.requires.inside class (from_first c.requires.numbered.0 c.args.entries.now (map entry_class c.args.entries.now) c.in_ok-found.found.keys class c.in_ok-found.ensures h)

pub returns-clause-reached : goal.returns-clause-reached
returns-clause-reached c references numbered = record {
  increasing = c.each_once_in_order.ensures.increasing;
  exact = λ class. then_both (c.each_once_in_order.ensures.exact class) (then_both (subst (λ (l : List Bool). Contains c.in_ok-marked.field-0.items class ↔ IsMarked c.args.numbers.now.classes.keys l class) c.deref.ensures.value (c.in_ok-marked.ensures class)) (marked_reached references c.args.entries.now c.args.numbers.now.classes.keys c.args.numbers.now.next.items numbered c.in_ok-marks.marks.items c.in_ok-found.found.keys (λ one h. c.requires.inside one (from_first references c.args.entries.now (map entry_class c.args.entries.now) c.in_ok-found.found.keys one c.in_ok-found.ensures h)) (c.in_ok-marks.ensures.led references numbered) (led_by_all references c.args.entries.now c.in_ok-found.found.keys c.in_ok-found.ensures) class));
}

pub returns-clause-inside : goal.returns-clause-inside
returns-clause-inside c class h = let m = (c.in_ok-marked.ensures class).0 ((c.each_once_in_order.ensures.exact class).0 h) in contains_at c.args.numbers.now.classes.keys m.number class m.at
