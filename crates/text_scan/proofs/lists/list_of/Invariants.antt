use Rattle.std.proofs.Common.{◌≡◌, ◌-◌, map}
use Rattle.exact_place.specs.Reading.{list_at}
use Rattle.text_scan.proofs.Loops.{with_front}
use Rattle.text_scan.proofs.lists.list_of.Given as goal

abbrev pub invariant-loop : goal.invariant-loop
invariant-loop g l = with_front (map g.I.Item.seen l.items.items) (list_at (l.fuel - l.counter) (g.I.Item.test l.item) (g.I.Item.reading l.item) l.rest) ≡ list_at l.fuel (g.I.Item.test l.item) (g.I.Item.reading l.item) l.bytes
