use Rattle.std.proofs.Common.{ℕ, List, sym, ap, ◌∙◌, map, arith}
use Rattle.exact_place.specs.Tokens.{entry_of, is_text}
use Rattle.js_read_spec.specs.Words.{entry}
use Rattle.text_scan.proofs.TableWords.{word_goes, word_here, word_out}
use Rattle.text_scan.proofs.tables.value_of.Goals as goal

pub returns-then-eq : goal.returns-then-eq
returns-then-eq g c = word_here (λ e. entry e.0.now e.1) c.args.table.now c.loop-line.line-index c.line-item.result c.args.word.now (entry_of (map (λ e. entry e.0.now e.1) c.args.table.now) c.args.word.now) c.loop-line-test.true c.line-item.is (ap (λ (t : List ℕ). is_text c.args.word.now t) (sym c.as_bytes.ensures.value) ∙ sym c.if-eq.ensures) c.loop-line.invariant

pub loop-line-preserved : goal.loop-line-preserved
loop-line-preserved g c = word_goes (λ e. entry e.0.now e.1) c.args.table.now c.loop-line.line-index c.line-item.result c.args.word.now (entry_of (map (λ e. entry e.0.now e.1) c.args.table.now) c.args.word.now) c.loop-line-test.true c.line-item.is (ap (λ (t : List ℕ). is_text c.args.word.now t) (sym c.as_bytes.ensures.value) ∙ sym c.if-eq.ensures) c.loop-line.invariant

pub returns : goal.returns
returns g c = word_out (λ e. entry e.0.now e.1) c.args.table.now c.loop-line.line-index c.args.word.now (entry_of (map (λ e. entry e.0.now e.1) c.args.table.now) c.args.word.now) (omega arith) c.loop-line.invariant
