use Rattle.std.proofs.Common.{◌≡◌, ◌++◌, drop}
use Rattle.sj_canon.specs.Numbers.{each_bytes}
use Rattle.sj_canon.specs.Names.{reference_bytes}
use Rattle.sj_canon.proofs.names.put_each_reference.Given as goal

abbrev pub invariant-loop-reference : goal.invariant-loop-reference
invariant-loop-reference l = l.out.items ++ each_bytes reference_bytes (drop l.reference-index l.references) ≡ l.fn.out.items ++ each_bytes reference_bytes l.references
