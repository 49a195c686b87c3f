use Rattle.std.proofs.Common.{◌≡◌, ◌≤◌, drop}
use Rattle.sjsir.specs.Nesting.{deep_from, is_deep}
use Rattle.sjsir.proofs.nesting.is_deep.Given as goal

abbrev pub invariant-loop-byte : goal.invariant-loop-byte
invariant-loop-byte l = (l.opened ≤ 600) × (deep_from l.spot l.opened (drop l.byte-index l.text) ≡ is_deep l.text)
