-- Lists of expressions, statements and cases of which each fits.
use Rattle.std.proofs.Common.{List, [], ◌∷◌}
use Rattle.std.specs.Prelude.{All}
use Rattle.std.proofs.lemmas.List.Elements.{All-head, All-tail}
use Rattle.js_tree.specs.Rules.{IsNumber}
use Rattle.sj_core.specs.Views.{expression_view, expressions_view, statement_view, statements_view, case_view, cases_view}
use Rattle.sj_core.specs.declared.expressions.CoreExpression.{CoreExpression}
use Rattle.sj_core.specs.declared.statements.CoreStatement.{CoreStatement}
use Rattle.sj_core.specs.declared.statements.CoreCase.{CoreCase}
use Rattle.sj_emit_expr_pieces.specs.Ranges.{FitsExpression, FitExpressions, FitsStatement, FitStatements, FitCases}

pub each-expression : (es : List CoreExpression) → All (λ e. FitsExpression (expression_view e)) es → FitExpressions (expressions_view es)
each-expression [] h = tt
each-expression (e ∷ es) h = (All-head (λ e. FitsExpression (expression_view e)) e es h, each-expression es (All-tail (λ e. FitsExpression (expression_view e)) e es h))

pub each-statement : (ss : List CoreStatement) → All (λ s. FitsStatement (statement_view s)) ss → FitStatements (statements_view ss)
each-statement [] h = tt
each-statement (s ∷ ss) h = (All-head (λ s. FitsStatement (statement_view s)) s ss h, each-statement ss (All-tail (λ s. FitsStatement (statement_view s)) s ss h))

abbrev pub FitsCase : CoreCase → Type 0
FitsCase c = All IsNumber (case_view c).0 × FitStatements (case_view c).1

pub each-case : (cs : List CoreCase) → All FitsCase cs → FitCases (cases_view cs)
each-case [] h = tt
each-case (c ∷ cs) h = let first = All-head FitsCase c cs h in (first.0, first.1, each-case cs (All-tail FitsCase c cs h))
