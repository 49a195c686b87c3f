use Rattle.std.proofs.Common.{◌≡◌, ◌-◌, ◌+◌, ◌*◌, length}
use Rattle.exact_place.specs.Reading.{literal_at}
use Rattle.js_tree.specs.Written.{indent}
use Rattle.js_read_scan.proofs.bytes.indentation.Given as goal

abbrev pub invariant-loop : goal.invariant-loop
invariant-loop l = record { so_far : literal_at (indent (l.level - l.counter)) l.rest ≡ literal_at (indent l.level) l.bytes; room : 2 * l.counter + length l.rest ≡ length l.bytes }
