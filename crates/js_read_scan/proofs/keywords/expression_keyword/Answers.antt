use Rattle.std.proofs.Common.{◌≡◌, Option, Some, None, sym, ◌∙◌}
use Rattle.exact_place.specs.Tokens.{entry_of}
use Rattle.js_read_scan.specs.declared.keywords.ExpressionWord.{ExpressionWord}
use Rattle.js_read_scan.proofs.KeywordTables.{expression_table, expression_found}
use Rattle.js_read_scan.proofs.keywords.expression_keyword.Goals as goal

pub returns-in-Some : goal.returns-in-Some
returns-in-Some c =
    let k : ◌≡◌ {A = Option ExpressionWord} (Some c.in-Some.keyword) (entry_of expression_table c.args.word.now) = rw c.as_slice.ensures at (sym c.in-Some.is ∙ c.value_of.ensures) in
    rw c.head.ensures (sym (expression_found c.args.word.now (Some c.in-Some.keyword) k))

pub returns-in-None : goal.returns-in-None
returns-in-None c =
    let k : ◌≡◌ {A = Option ExpressionWord} None (entry_of expression_table c.args.word.now) = rw c.as_slice.ensures at (sym c.in-None.is ∙ c.value_of.ensures) in
    sym (expression_found c.args.word.now None k)
