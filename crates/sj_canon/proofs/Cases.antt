-- One step through the cases of a match.
use Rattle.std.proofs.Common.{◌≡◌, ℕ, ◌+◌, ◌<◌, List, ◌∷◌, ◌++◌, length, drop, sym, ap, ◌∙◌, get_or}
use Rattle.std.specs.Prelude.{ℤ}
use Rattle.sj_trees.specs.Term.{Term}
use Rattle.sj_trees.specs.View.{view, view_case, cases_view, view_step, case_step, Case}
use Rattle.sj_trees.specs.declared.trees.MatchCase.{MatchCase}
use Rattle.sj_trees.specs.declared.trees.Tree.TheFolds.{fold_out-MatchCase}
use Rattle.tree_parts.proofs.Items.{case_taken}
use Rattle.sj_canon.specs.Numbers.{signed_bytes, list_bytes}
use Rattle.sj_canon.specs.Terms.{term_bytes, cases_bytes}

keys_of_case : (c : MatchCase) → (view_case c).0 ≡ c.keys
keys_of_case c = ap (λ (x : Case). x.0) (fold_out-MatchCase Term Case view_step case_step c)

pub case_step_taken : (cs : List MatchCase) (n : ℕ) (c : MatchCase) → n < length cs → c ≡ get_or cs n c → (1 ∷ list_bytes signed_bytes c.keys ++ term_bytes (view c.body)) ++ cases_bytes (cases_view (drop (n + 1) cs)) ≡ cases_bytes (cases_view (drop n cs))
case_step_taken cs n c k e = ap (λ (ks : List ℤ). (1 ∷ list_bytes signed_bytes ks ++ term_bytes (view c.body)) ++ cases_bytes (cases_view (drop (n + 1) cs))) (sym (keys_of_case c)) ∙ case_taken cases_bytes cs n c k e
