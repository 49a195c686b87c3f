use Rattle.std.proofs.Common.{◌≡◌, ◌++◌, drop}
use Rattle.sj_canon.specs.Numbers.{each_bytes}
use Rattle.sj_canon.specs.Numbers.{signed_bytes}
use Rattle.sj_canon.proofs.numbers.put_each_key.Given as goal

abbrev pub invariant-loop-key : goal.invariant-loop-key
invariant-loop-key l = l.out.items ++ each_bytes signed_bytes (drop l.key-index l.keys) ≡ l.fn.out.items ++ each_bytes signed_bytes l.keys
