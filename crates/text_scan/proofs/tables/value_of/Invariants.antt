use Rattle.std.proofs.Common.{◌≡◌, map, drop}
use Rattle.exact_place.specs.Tokens.{entry_of}
use Rattle.js_read_spec.specs.Words.{entry}
use Rattle.text_scan.proofs.tables.value_of.Given as goal

abbrev pub invariant-loop-line : goal.invariant-loop-line
invariant-loop-line g l = entry_of (map (λ e. entry e.0.now e.1) (drop l.line-index l.table)) l.word ≡ entry_of (map (λ e. entry e.0.now e.1) l.table) l.word
