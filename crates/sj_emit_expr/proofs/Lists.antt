-- What is emitted, put behind what was emitted before.
use Rattle.std.proofs.Common.{◌≡◌, List, [], ◌∷◌, ◌++◌, map, refl, ap}
use Rattle.js_tree.specs.Terms.{Expressions, expression, Statements, statement, Cases, switch_case}
use Rattle.js_tree.specs.Views.{expression_view, expressions_onto, statement_view, statements_onto, case_view, cases_onto}
use Rattle.js_tree.specs.declared.expressions.JsExpr.{JsExpr}
use Rattle.js_tree.specs.declared.statements.JsStmt.{JsStmt}
use Rattle.js_tree.specs.declared.statements.SwitchCase.{SwitchCase}

pub expressions-push : (es : List JsExpr) (e : JsExpr) (us : Expressions) → expressions_onto (map expression_view (es ++ e ∷ [])) us ≡ expressions_onto (map expression_view es) (expression (expression_view e) us)
expressions-push [] e us = refl
expressions-push (x ∷ es) e us = ap (expression (expression_view x)) (expressions-push es e us)

pub statements-push : (ss : List JsStmt) (s : JsStmt) (us : Statements) → statements_onto (map statement_view (ss ++ s ∷ [])) us ≡ statements_onto (map statement_view ss) (statement (statement_view s) us)
statements-push [] s us = refl
statements-push (x ∷ ss) s us = ap (statement (statement_view x)) (statements-push ss s us)

pub cases-push : (cs : List SwitchCase) (c : SwitchCase) (us : Cases) → cases_onto (map case_view (cs ++ c ∷ [])) us ≡ cases_onto (map case_view cs) (switch_case (case_view c).0 (case_view c).1 us)
cases-push [] c us = refl
cases-push (x ∷ cs) c us = ap (switch_case (case_view x).0 (case_view x).1) (cases-push cs c us)

pub ruleset pushes = (expressions-push, statements-push, cases-push)
