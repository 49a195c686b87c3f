use Rattle.std.proofs.Common.{◌≡◌, map, drop}
use Rattle.exact_place.specs.Tokens.{begins_entry}
use Rattle.js_read_spec.specs.Words.{entry}
use Rattle.text_scan.proofs.tables.begins_word.Given as goal

abbrev pub invariant-loop-line : goal.invariant-loop-line
invariant-loop-line g l = begins_entry (map (λ e. entry e.0.now e.1) (drop l.line-index l.table)) l.word ≡ begins_entry (map (λ e. entry e.0.now e.1) l.table) l.word
