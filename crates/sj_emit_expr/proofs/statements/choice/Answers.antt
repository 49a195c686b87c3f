use Rattle.std.proofs.Common.{◌≡◌, ◌∙◌, ◌<◌, ap, sym, length, arith}
use Rattle.std.proofs.lemmas.Bool.Decides.{nat_tests}
use Rattle.js_tree.specs.Terms.{Statement, if_else}
use Rattle.js_tree.specs.Views.{expression_view, statement_view, statements_view, statement_step, case_step, Case}
use Rattle.js_tree.specs.declared.statements.JsStmt.TheFolds.{fold-roll-JsStmt}
use Rattle.js_tree.specs.declared.statements.JsStmt.TheOpen.{JsStmt-F}
use Rattle.js_tree.specs.declared.statements.JsStmt.TheVariants.{IfElse, rolls-IfElse}
use Rattle.sj_emit_expr.proofs.Choices.{choice-else}
use Rattle.sj_emit_expr.proofs.statements.choice.Goals as goal

pub returns-else-is_empty : goal.returns-else-is_empty
returns-else-is_empty c =
    let a = c.args in
    let more : 0 < length a.no.items = grind (arith, nat_tests) in
    let seen : statement_view (IfElse a.test a.yes a.no) ≡ if_else (expression_view a.test) (statements_view a.yes.items) (statements_view a.no.items) = ap statement_view (sym (rolls-IfElse a.test a.yes a.no)) ∙ fold-roll-JsStmt Statement Case statement_step case_step (JsStmt-F.IfElse a.test a.yes a.no) in
    seen ∙ choice-else (expression_view a.test) (statements_view a.yes.items) a.no.items more
