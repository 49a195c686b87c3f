-- Lists of trees that are equal apart from positions have one length.
use Rattle.std.proofs.Common.{◌≡◌, suc, List, [], ◌∷◌, length, refl, ap}
use Rattle.sj_trees.specs.View.{terms_view, cases_view}
use Rattle.sj_trees.specs.Erase.{erase_all, erase_cases}
use Rattle.sj_trees.specs.declared.trees.Tree.{Tree}
use Rattle.sj_trees.specs.declared.trees.MatchCase.{MatchCase}

pub same_length : (ts us : List Tree) → erase_all (terms_view ts) ≡ erase_all (terms_view us) → length ts ≡ length us
same_length [] [] h = refl
same_length [] (u ∷ us) h = cc
same_length (t ∷ ts) [] h = cc
same_length (t ∷ ts) (u ∷ us) h = let rest : erase_all (terms_view ts) ≡ erase_all (terms_view us) = cc in ap suc (same_length ts us rest)

pub same_count : (cs ds : List MatchCase) → erase_cases (cases_view cs) ≡ erase_cases (cases_view ds) → length cs ≡ length ds
same_count [] [] h = refl
same_count [] (d ∷ ds) h = cc
same_count (c ∷ cs) [] h = cc
same_count (c ∷ cs) (d ∷ ds) h = let rest : erase_cases (cases_view cs) ≡ erase_cases (cases_view ds) = cc in ap suc (same_count cs ds rest)

pub ruleset lengths = (same_length, same_count)
