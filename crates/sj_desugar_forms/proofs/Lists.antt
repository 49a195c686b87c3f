-- Statements of the core behind others.
use Rattle.std.proofs.Common.{◌≡◌, List, [], ◌∷◌, ◌++◌, map, refl, ap}
use Rattle.sj_core.specs.Terms.{Statements, no_statements, statement, followed, Cases, switch_case}
use Rattle.sj_core.specs.Views.{statement_view, statements_view, case_view, cases_onto}
use Rattle.sj_core.specs.declared.statements.CoreStatement.{CoreStatement}
use Rattle.sj_core.specs.declared.statements.CoreCase.{CoreCase}

pub followed-append : (ss ts : List CoreStatement) → statements_view (ss ++ ts) ≡ followed (statements_view ss) (statements_view ts)
followed-append [] ts = refl
followed-append (s ∷ ss) ts = ap (statement (statement_view s)) (followed-append ss ts)

pub followed-nil : (ss : Statements) → followed ss no_statements ≡ ss
followed-nil no_statements = refl
followed-nil (statement s ss) = ap (statement s) (followed-nil ss)

pub followed-assoc : (ss ts us : Statements) → followed (followed ss ts) us ≡ followed ss (followed ts us)
followed-assoc no_statements ts us = refl
followed-assoc (statement s ss) ts us = ap (statement s) (followed-assoc ss ts us)

pub cases-push : (cs : List CoreCase) (c : CoreCase) (us : Cases) → cases_onto (map case_view (cs ++ c ∷ [])) us ≡ cases_onto (map case_view cs) (switch_case (case_view c).0 (case_view c).1 us)
cases-push [] c us = refl
cases-push (x ∷ cs) c us = ap (switch_case (case_view x).0 (case_view x).1) (cases-push cs c us)

pub ruleset appending = (followed-append)

pub ruleset pushes = (followed-nil, followed-assoc, cases-push)
