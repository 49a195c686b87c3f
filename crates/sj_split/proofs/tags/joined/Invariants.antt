use Rattle.std.proofs.Common.{◌≡◌, ◌++◌, ◌∷◌, drop}
use Rattle.std.specs.Prelude.{string_bytes}
use Rattle.std.specs.List.{join_with_byte}
use Rattle.sj_split.proofs.Joins.{tail}
use Rattle.sj_split.proofs.tags.joined.Given as goal

abbrev pub invariant-loop-other : goal.invariant-loop-other
invariant-loop-other l = string_bytes l.key ++ tail (drop l.other-index l.others) ≡ join_with_byte 32 (l.id ∷ l.others)
