use Rattle.std.proofs.Common.{◌≡◌, map}
use Rattle.std.specs.Prelude.{All}
use Rattle.sj_baselink.specs.Spelled.{entry_of, IsSpelled}
use Rattle.sj_baselink.proofs.ordered.with_spellings.Given as goal

abbrev pub invariant-loop-entry : goal.invariant-loop-entry
invariant-loop-entry l = (map entry_of l.list.items ≡ l.yielded) × All IsSpelled l.list.items
