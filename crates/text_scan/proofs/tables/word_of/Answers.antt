use Rattle.std.proofs.Common.{sym, ◌∙◌, map}
use Rattle.js_read_spec.specs.Words.{entry}
use Rattle.text_scan.proofs.TableWords.{word_read, word_missed}
use Rattle.text_scan.proofs.tables.word_of.Goals as goal

pub returns-in-Some : goal.returns-in-Some
returns-in-Some g c = word_read (map (λ e. entry e.0.now e.1) c.args.table.now) c.args.bytes.now c.split_word.result.0.now c.split_word.result.1.now c.in-Some.value c.split_word.ensures (sym c.in-Some.is ∙ c.value_of.ensures)

pub returns-in-None : goal.returns-in-None
returns-in-None g c = word_missed (map (λ e. entry e.0.now e.1) c.args.table.now) c.args.bytes.now c.split_word.result.0.now c.split_word.result.1.now c.split_word.ensures (sym c.in-None.is ∙ c.value_of.ensures)
