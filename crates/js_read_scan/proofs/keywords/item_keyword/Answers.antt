use Rattle.std.proofs.Common.{◌≡◌, Option, Some, sym, refl, ◌∙◌}
use Rattle.exact_place.specs.Tokens.{entry_of}
use Rattle.js_read_scan.specs.declared.keywords.ItemWord.{ItemWord}
use Rattle.js_read_spec.specs.Words.{expression_words}
use Rattle.js_read_scan.proofs.KeywordTables.{item_table, item_found}
use Rattle.js_read_scan.proofs.keywords.item_keyword.Goals as goal

pub returns-in-Some : goal.returns-in-Some
returns-in-Some c =
    let k : ◌≡◌ {A = Option ItemWord} (Some c.in-Some.keyword) (entry_of item_table c.args.word.now) = rw c.as_slice.ensures at (sym c.in-Some.is ∙ c.value_of.ensures) in
    rw c.head.ensures (sym (item_found c.args.word.now (Some c.in-Some.keyword) (entry_of (expression_words (λ h. h)) c.args.word.now) k refl))
