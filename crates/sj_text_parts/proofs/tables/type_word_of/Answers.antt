use Rattle.std.proofs.Common.{[]}
use Rattle.exact_place.specs.Reading.{run_at}
use Rattle.exact_place.specs.Tokens.{begins_entry, entry_of}
use Rattle.sj_text_spec.specs.Reading as reading
use Rattle.text_scan.specs.Gives.{Gives}
use Rattle.sj_text_parts.specs.TypeWords.{type_of_word}
use Rattle.text_scan.proofs.TableWords.{gives_moved}
use Rattle.sj_text_parts.proofs.TypeTable.{type_table}
use Rattle.sj_text_parts.proofs.tables.type_word_of.Goals as goal

pub returns : goal.returns
unfolding reading.type_word_at
returns c =
    let k : Gives (λ x. (x.0, x.1.now)) c.word_of.result (run_at (begins_entry type_table) (entry_of type_table) [] c.args.bytes.now) = rw c.as_slice.ensures at c.word_of.ensures in
    gives_moved type_of_word type_table (λ x. x.0) (λ x. x.1.now) c.word_of.result c.args.bytes.now k
