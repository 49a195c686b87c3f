use Rattle.std.proofs.Common.{◌≡◌, ◌<◌, drop}
use Rattle.text_scan.specs.Runs.{number_run}
use Rattle.text_scan.proofs.numbers.longest_number.Given as goal

abbrev pub invariant-loop-i : goal.invariant-loop-i
invariant-loop-i l = record { below : l.value < l.limit; so_far : number_run l.limit l.value (drop l.i l.bytes) ≡ number_run l.limit 0 l.bytes }
