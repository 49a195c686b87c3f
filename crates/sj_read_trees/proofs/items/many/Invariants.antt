use Rattle.std.proofs.Common.{◌≡◌, ◌-◌, map}
use Rattle.sj_read_spec.specs.Reading.{many_at}
use Rattle.sj_read_trees.proofs.ManyLemmas.{with_front}
use Rattle.sj_read_trees.proofs.items.many.Given as goal

abbrev pub invariant-loop : goal.invariant-loop
invariant-loop g l = with_front (map g.I.Item.seen l.items.items) (many_at (g.I.Item.reading l.item) (l.count - l.counter) l.rest) ≡ many_at (g.I.Item.reading l.item) l.count l.fn.bytes
