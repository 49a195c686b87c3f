use Rattle.std.proofs.Common.{◌≡◌, ◌++◌, drop}
use Rattle.std.specs.List.{flat_map}
use Rattle.sj_units.specs.Modified.{modified_bytes}
use Rattle.sj_write_spec.specs.Written.{counted_bytes}
use Rattle.sj_write.proofs.files.append_each_string.Given as goal

abbrev pub invariant-loop-each : goal.invariant-loop-each
invariant-loop-each l = l.file.items ++ flat_map (λ u. counted_bytes (modified_bytes u)) (drop l.each-index l.strings) ≡ l.initial.file.items ++ flat_map (λ u. counted_bytes (modified_bytes u)) l.strings
