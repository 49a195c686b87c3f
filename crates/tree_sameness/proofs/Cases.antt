-- One step through the cases of two matches.
use Rattle.std.proofs.Common.{◌≡◌, ℕ, ◌+◌, ◌<◌, List, length, drop, sym, ap, ◌∙◌, slice_index_or}
use Rattle.std.specs.Prelude.{◌↔◌}
use Rattle.sj_trees.specs.Term.{Term, Cases, more_cases}
use Rattle.sj_trees.specs.View.{view, view_case, cases_view, view_step, case_step, Case}
use Rattle.sj_trees.specs.Erase.{erase, erase_cases}
use Rattle.sj_trees.specs.declared.trees.MatchCase.{MatchCase}
use Rattle.sj_trees.specs.declared.trees.Tree.TheFolds.{fold_out-MatchCase}
use Rattle.tree_parts.proofs.Items.{case_taken}

keys_of_case : (c : MatchCase) → (view_case c).0 ≡ c.keys
keys_of_case c = ap (λ (x : Case). x.0) (fold_out-MatchCase Term Case view_step case_step c)

-- the rest of the cases is the same where this case is the same and the cases behind it are
pub same_step : (cs ds : List MatchCase) (n : ℕ) (c d : MatchCase) → n < length cs → n < length ds → c ≡ slice_index_or cs n c → d ≡ slice_index_or ds n d → (erase_cases (cases_view (drop n cs)) ≡ erase_cases (cases_view (drop n ds))) ↔ ((c.keys ≡ d.keys) × (erase (view c.body) ≡ erase (view d.body)) × (erase_cases (cases_view (drop (n + 1) cs)) ≡ erase_cases (cases_view (drop (n + 1) ds))))
same_step cs ds n c d k l e f = (there, back)
  where
    one : more_cases (view_case c).0 (erase (view c.body)) (erase_cases (cases_view (drop (n + 1) cs))) ≡ erase_cases (cases_view (drop n cs))
    one = case_taken erase_cases cs n c k e

    two : more_cases (view_case d).0 (erase (view d.body)) (erase_cases (cases_view (drop (n + 1) ds))) ≡ erase_cases (cases_view (drop n ds))
    two = case_taken erase_cases ds n d l f

    there : erase_cases (cases_view (drop n cs)) ≡ erase_cases (cases_view (drop n ds)) → (c.keys ≡ d.keys) × (erase (view c.body) ≡ erase (view d.body)) × (erase_cases (cases_view (drop (n + 1) cs)) ≡ erase_cases (cases_view (drop (n + 1) ds)))
    there same =
        let both : more_cases (view_case c).0 (erase (view c.body)) (erase_cases (cases_view (drop (n + 1) cs))) ≡ more_cases (view_case d).0 (erase (view d.body)) (erase_cases (cases_view (drop (n + 1) ds))) = one ∙ same ∙ sym two in
        let keys : (view_case c).0 ≡ (view_case d).0 = cc (both) in
        let body : erase (view c.body) ≡ erase (view d.body) = cc (both) in
        let rest : erase_cases (cases_view (drop (n + 1) cs)) ≡ erase_cases (cases_view (drop (n + 1) ds)) = cc (both) in
        (sym (keys_of_case c) ∙ keys ∙ keys_of_case d, body, rest)

    back : (c.keys ≡ d.keys) × (erase (view c.body) ≡ erase (view d.body)) × (erase_cases (cases_view (drop (n + 1) cs)) ≡ erase_cases (cases_view (drop (n + 1) ds))) → erase_cases (cases_view (drop n cs)) ≡ erase_cases (cases_view (drop n ds))
    back same =
        let keys : (view_case c).0 ≡ (view_case d).0 = keys_of_case c ∙ same.0 ∙ sym (keys_of_case d) in
        sym one ∙ (λ i. more_cases (keys i) (same.1 i) (same.2 i)) ∙ two
