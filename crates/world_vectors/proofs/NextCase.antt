-- Fields of objects in one more case.
use Rattle.std.proofs.Common.{◌≡◌, ◌+◌, ◌<◌, ℕ, ℤ, List, [], ◌∷◌, drop, get_or, length, subst}
use Rattle.sj_emit_expr_pieces.specs.Owners.{OnObjects, CasesOnObjects}
use Rattle.sj_trees.specs.Term.{Term, Cases, more_cases}
use Rattle.sj_trees.specs.View.{view, view_case, cases_view}
use Rattle.sj_trees.specs.declared.trees.MatchCase.{MatchCase}
use Rattle.tree_parts.proofs.Items.{case_taken}

more_on_objects : (ks : List ℤ) (t : Term) (cs : Cases) → OnObjects t → CasesOnObjects cs → CasesOnObjects (more_cases ks t cs)
more_on_objects [] t cs h k = k
more_on_objects (n ∷ ns) t cs h k = (h, k)

pub next_case : (cs : List MatchCase) (n : ℕ) (c : MatchCase) → n < length cs → c ≡ get_or cs n c → OnObjects (view c.body) → CasesOnObjects (cases_view (drop (n + 1) cs)) → CasesOnObjects (cases_view (drop n cs))
next_case cs n c l e h k = subst CasesOnObjects (case_taken (λ ds. ds) cs n c l e) (more_on_objects (view_case c).0 (view c.body) (cases_view (drop (n + 1) cs)) h k)
