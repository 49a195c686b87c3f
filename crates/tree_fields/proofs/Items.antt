-- What loops over fields and over cases need.
use Rattle.std.proofs.Common.{◌≡◌, ◌∙◌, ℤ, ℕ, zero, suc, ◌+◌, ◌≤◌, ◌<◌, List, [], ◌∷◌, length, map, drop, get_or, ap, sym, arith}
use Rattle.sj_trees.specs.Term.{Term, Cases, more_cases}
use Rattle.sj_trees.specs.View.{view, view_case, cases_view, view_step, case_step, Case}
use Rattle.sj_trees.specs.declared.trees.MatchCase.{MatchCase}
use Rattle.sj_trees.specs.declared.trees.Tree.TheFolds.{fold_out-MatchCase}
use Rattle.tree_parts.proofs.Items.{case_taken}
use Rattle.tree_fields.specs.declared.fields.Field.{Field}
use Rattle.tree_fields.specs.Fields.{field_seen, size_of_field, size_of_fields}

-- a field of a list is no more trees than the list
pub size_of_one : (fs : List Field) (n : ℕ) (f : Field) → n < length fs → f ≡ get_or fs n f → size_of_field (field_seen f) ≤ size_of_fields (map field_seen fs)
size_of_one [] n f l e = absurd (omega arith)
size_of_one (g ∷ fs) zero f l e = let same : size_of_field (field_seen f) ≡ size_of_field (field_seen g) = ap (λ (x : Field). size_of_field (field_seen x)) e in omega arith
size_of_one (g ∷ fs) (suc n) f l e = let rest = size_of_one fs n f (omega arith) e in omega arith

keys_of_case : (c : MatchCase) → (view_case c).0 ≡ c.keys
keys_of_case c = ap (λ (x : Case). x.0) (fold_out-MatchCase Term Case view_step case_step c)

pub body_of_case : (c : MatchCase) → (view_case c).1 ≡ view c.body
body_of_case c = ap (λ (x : Case). x.1) (fold_out-MatchCase Term Case view_step case_step c)

-- one step through a list of cases
pub case_put : {X : Type 0} → (f : Cases → X) (cs : List MatchCase) (n : ℕ) (c : MatchCase) → n < length cs → c ≡ get_or cs n c → f (more_cases c.keys (view c.body) (cases_view (drop (n + 1) cs))) ≡ f (cases_view (drop n cs))
case_put f cs n c l e = ap (λ (ks : List ℤ). f (more_cases ks (view c.body) (cases_view (drop (n + 1) cs)))) (sym (keys_of_case c)) ∙ case_taken f cs n c l e
