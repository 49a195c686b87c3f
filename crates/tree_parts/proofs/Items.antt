-- Trees and cases in lists: what loops over them need.
use Rattle.std.proofs.Common.{◌≡◌, ℕ, zero, suc, ◌+◌, ◌≤◌, ◌<◌, List, [], ◌∷◌, length, drop, refl, sym, ap, ◌∙◌, arith, get_or}
use Rattle.std.specs.Prelude.{map}
use Rattle.sj_trees.specs.Term.{Term, Terms, Cases, more_cases}
use Rattle.sj_trees.specs.View.{view, view_case, terms_view, cases_view, view_step, case_step, Case}
use Rattle.sj_trees.specs.declared.trees.Tree.{Tree}
use Rattle.sj_trees.specs.declared.trees.MatchCase.{MatchCase}
use Rattle.sj_trees.specs.declared.trees.Tree.TheFolds.{fold_out-MatchCase}
use Rattle.tree_parts.specs.Sizes.{size, size_of_all, size_of_cases}

body_of_case : (c : MatchCase) → (view_case c).1 ≡ view c.body
body_of_case c = ap (λ (x : Case). x.1) (fold_out-MatchCase Term Case view_step case_step c)

-- a tree of a list is no more trees than the list
pub size_of_item : (ts : List Tree) (n : ℕ) (t : Tree) → n < length ts → t ≡ get_or ts n t → size (view t) ≤ size_of_all (terms_view ts)
size_of_item [] n t l e = absurd (omega arith)
size_of_item (u ∷ ts) zero t l e = let same : size (view t) ≡ size (view u) = ap (λ (x : Tree). size (view x)) e in omega arith
size_of_item (u ∷ ts) (suc n) t l e = let rest = size_of_item ts n t (omega arith) e in omega arith

-- and so is the tree of a case
pub size_of_case : (cs : List MatchCase) (n : ℕ) (c : MatchCase) → n < length cs → c ≡ get_or cs n c → size (view c.body) ≤ size_of_cases (cases_view cs)
size_of_case [] n c l e = absurd (omega arith)
size_of_case (d ∷ cs) zero c l e = let same : size (view c.body) ≡ size ((view_case d).1) = ap (λ (x : MatchCase). size (view x.body)) e ∙ ap size (sym (body_of_case d)) in omega arith
size_of_case (d ∷ cs) (suc n) c l e = let rest = size_of_case cs n c (omega arith) e in omega arith

-- one step through a list of cases
pub case_taken : {X : Type 0} → (f : Cases → X) (cs : List MatchCase) (n : ℕ) (c : MatchCase) → n < length cs → c ≡ get_or cs n c → f (more_cases (view_case c).0 (view c.body) (cases_view (drop (n + 1) cs))) ≡ f (cases_view (drop n cs))
case_taken f [] n c l e = absurd (omega arith)
case_taken f (d ∷ cs) zero c l e =
    let one : more_cases (view_case c).0 (view c.body) (cases_view cs) ≡ more_cases (view_case c).0 ((view_case c).1) (cases_view cs) = ap (λ (t : Term). more_cases (view_case c).0 t (cases_view cs)) (sym (body_of_case c)) in
    let two : more_cases (view_case c).0 ((view_case c).1) (cases_view cs) ≡ more_cases (view_case d).0 ((view_case d).1) (cases_view cs) = ap (λ (x : MatchCase). more_cases (view_case x).0 ((view_case x).1) (cases_view cs)) e in
    ap f (one ∙ two)
case_taken f (d ∷ cs) (suc n) c l e =
    let next : suc n + 1 ≡ suc (n + 1) = omega arith in
    ap (λ (k : ℕ). f (more_cases (view_case c).0 (view c.body) (cases_view (drop k (d ∷ cs))))) next ∙ case_taken f cs n c (omega arith) e
