use Rattle.std.proofs.Common.{◌≡◌, take, true, map}
use Rattle.exact_place.specs.Tokens.{begins_entry}
use Rattle.js_read_spec.specs.Words.{entry}
use Rattle.text_scan.proofs.tables.word_length.Given as goal

abbrev pub invariant-loop-i : goal.invariant-loop-i
invariant-loop-i g l = begins_entry (map (λ e. entry e.0.now e.1) l.table) (take l.i l.bytes) ≡ true
