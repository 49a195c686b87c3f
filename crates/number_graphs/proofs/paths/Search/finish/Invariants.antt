use Rattle.std.proofs.Common.{◌+◌, ◌*◌, ◌^◌}
use Rattle.number_graphs.specs.Searching.{IsRight, StaysKnown, unknown, open_things}
use Rattle.number_graphs.proofs.paths.Search.finish.Given as goal

abbrev pub invariant-loop-self : goal.invariant-loop-self
invariant-loop-self l = record {
  right : IsRight l.next l.self;
  still_known : StaysKnown l.fn.self l.self;
}

abbrev pub decreases-loop-self : goal.decreases-loop-self
decreases-loop-self l = unknown l.self.found.items * 2 ^ 65 + open_things l.self
