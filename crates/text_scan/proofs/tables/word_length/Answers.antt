use Rattle.std.proofs.Common.{sym, map}
use Rattle.js_read_spec.specs.Words.{entry}
use Rattle.text_scan.proofs.TableWords.{word_stops}
use Rattle.text_scan.proofs.tables.word_length.Goals as goal

pub returns-then-not-begins_word-clause-split : goal.returns-then-not-begins_word-clause-split
returns-then-not-begins_word-clause-split g c = word_stops (map (λ e. entry e.0.now e.1) c.args.table.now) c.loop-i.i c.args.bytes.now c.loop-i.invariant (sym c.if-not-begins_word.ensures)
