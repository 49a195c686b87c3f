use Rattle.std.proofs.Common.{◌≡◌, map}
use Rattle.std.specs.Prelude.{All}
use Rattle.sj_split.specs.Files.{planned_of, IsFiled}
use Rattle.sj_split.proofs.modules.with_files.Given as goal

abbrev pub invariant-loop-planned : goal.invariant-loop-planned
invariant-loop-planned l = (map planned_of l.list.items ≡ l.yielded) × All IsFiled l.list.items
