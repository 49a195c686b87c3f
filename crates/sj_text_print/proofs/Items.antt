-- Items of lists of trees and cases: what the loops over them need.
use Rattle.std.proofs.Common.{◌≡◌, ℕ, ◌-◌, ◌≤◌, ◌<◌, List, [], ◌∷◌, length, drop, get_or, arith, subst}
use Rattle.std.proofs.Math.ListN.{take}
use Rattle.std.proofs.lemmas.List.{take_rest}
use Rattle.sj_trees.specs.View.{view, terms_view, cases_view}
use Rattle.sj_trees.specs.declared.trees.Tree.{Tree}
use Rattle.sj_trees.specs.declared.trees.MatchCase.{MatchCase}
use Rattle.tree_parts.specs.Sizes.{size, size_of_all, size_of_cases}
use Rattle.tree_parts.proofs.Items.{size_of_item, size_of_case}

-- what is behind the first
behind_tree : (ts : List Tree) (n : ℕ) (t : Tree) → n < length (drop 1 ts) → t ≡ get_or (drop 1 ts) n t → size (view t) ≤ size_of_all (terms_view ts)
behind_tree [] n t l e = absurd (omega arith)
behind_tree (u ∷ ts) n t l e = let rest = size_of_item ts n t l e in omega arith

behind_case : (cs : List MatchCase) (n : ℕ) (c : MatchCase) → n < length (drop 1 cs) → c ≡ get_or (drop 1 cs) n c → size (view c.body) ≤ size_of_cases (cases_view cs)
behind_case [] n c l e = absurd (omega arith)
behind_case (d ∷ cs) n c l e = let rest = size_of_case cs n c l e in omega arith

pub size_of_other_tree : (ts : List Tree) (n : ℕ) (t : Tree) → n < length (take (length ts - 1) (drop 1 ts)) → t ≡ get_or (take (length ts - 1) (drop 1 ts)) n t → size (view t) ≤ size_of_all (terms_view ts)
size_of_other_tree ts n t l e = behind_tree ts n t (subst (λ (us : List Tree). n < length us) (take_rest ts 1) l) (subst (λ (us : List Tree). t ≡ get_or us n t) (take_rest ts 1) e)

pub size_of_other_case : (cs : List MatchCase) (n : ℕ) (c : MatchCase) → n < length (take (length cs - 1) (drop 1 cs)) → c ≡ get_or (take (length cs - 1) (drop 1 cs)) n c → size (view c.body) ≤ size_of_cases (cases_view cs)
size_of_other_case cs n c l e = behind_case cs n c (subst (λ (ds : List MatchCase). n < length ds) (take_rest cs 1) l) (subst (λ (ds : List MatchCase). c ≡ get_or ds n c) (take_rest cs 1) e)
