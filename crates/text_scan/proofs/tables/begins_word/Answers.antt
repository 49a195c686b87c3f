use Rattle.std.proofs.Common.{ℕ, List, sym, ap, ◌∙◌, map, arith}
use Rattle.exact_place.specs.Tokens.{begins_entry, is_front}
use Rattle.js_read_spec.specs.Words.{entry}
use Rattle.text_scan.proofs.TableWords.{begins_goes, begins_here, begins_out}
use Rattle.text_scan.proofs.tables.begins_word.Goals as goal

pub returns-then-begins : goal.returns-then-begins
returns-then-begins g c = begins_here (λ e. entry e.0.now e.1) c.args.table.now c.loop-line.line-index c.line-item.result c.args.word.now (begins_entry (map (λ e. entry e.0.now e.1) c.args.table.now) c.args.word.now) c.loop-line-test.true c.line-item.is (ap (λ (t : List ℕ). is_front c.args.word.now t) (sym c.as_bytes.ensures.value) ∙ sym c.if-begins.ensures) c.loop-line.invariant

pub loop-line-preserved : goal.loop-line-preserved
loop-line-preserved g c = begins_goes (λ e. entry e.0.now e.1) c.args.table.now c.loop-line.line-index c.line-item.result c.args.word.now (begins_entry (map (λ e. entry e.0.now e.1) c.args.table.now) c.args.word.now) c.loop-line-test.true c.line-item.is (ap (λ (t : List ℕ). is_front c.args.word.now t) (sym c.as_bytes.ensures.value) ∙ sym c.if-begins.ensures) c.loop-line.invariant

pub returns : goal.returns
returns g c = begins_out (λ e. entry e.0.now e.1) c.args.table.now c.loop-line.line-index c.args.word.now (begins_entry (map (λ e. entry e.0.now e.1) c.args.table.now) c.args.word.now) (omega arith) c.loop-line.invariant
