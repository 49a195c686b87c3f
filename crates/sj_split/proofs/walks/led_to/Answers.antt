use Rattle.std.proofs.Common.{ℕ, ◌<◌, List, length, sym, subst}
use Rattle.number_graphs.specs.Graphs.{At, Lists, IsGraph}
use Rattle.sj_split.proofs.Marking.{numbers_below, led_means}
use Rattle.sj_split.proofs.walks.led_to.Goals as goal

pub reached-requires-clause-graph : goal.reached-requires-clause-graph
reached-requires-clause-graph c = subst (λ (l : Lists). IsGraph l) (sym c.next.ensures) c.requires.numbered.1.graph

pub reached-requires-clause-starts : goal.reached-requires-clause-starts
reached-requires-clause-starts c place number at = subst (λ (l : Lists). number < length l) (sym c.next.ensures) (numbers_below c.args.numbers.now.classes.keys c.args.classes.now.keys c.args.numbers.now.next.items c.in_ok-starts.starts.items c.requires.numbered.1.whole c.in_ok-starts.ensures place number (subst (λ (l : List ℕ). At l place number) c.deref.ensures.value at))

pub returns-clause-led : goal.returns-clause-led
returns-clause-led c references numbered number class at = led_means references c.args.numbers.now.classes.keys c.args.numbers.now.next.items c.next.result.now numbered c.args.classes.now.keys c.in_ok-starts.starts.items c.deref.result.now c.in_ok-starts.ensures c.next.ensures c.deref.ensures.value c.in_ok-marks.marks.items c.in_ok-marks.ensures.reached number class at
