-- Steps of the loops.
use Rattle.std.proofs.Common.{◌≡◌, List, [], ◌∷◌, ◌++◌, length, refl, ap, ℕ, suc}
use Rattle.sj_trees.specs.declared.trees.Tree.{Tree}
use Rattle.sj_trees.specs.declared.trees.MatchCase.{MatchCase}
use Rattle.sj_trees.specs.View.{terms_view, cases_view}
use Rattle.sj_write_spec.specs.Trees.{count_terms, count_cases}
use Rattle.sj_write_spec.specs.Tables.{same_text, with_entry, with_entries}
use Rattle.sj_write.specs.Writing.{Writing, all_entered, with_names}

entries_then : (table xs ys : List (List ℕ)) → with_entries same_text table (xs ++ ys) ≡ with_entries same_text (with_entries same_text table xs) ys
entries_then table [] ys = refl
entries_then table (x ∷ xs) ys = entries_then (with_entry same_text table x) xs ys

pub entered_then : (xs ys : List (List ℕ)) (w : Writing) → all_entered (xs ++ ys) w ≡ all_entered ys (all_entered xs w)
entered_then xs ys w = ap (λ (names : List (List ℕ)). with_names names w) (entries_then w.tables.names xs ys)

pub terms_counted : (ts : List Tree) → count_terms (terms_view ts) ≡ length ts
terms_counted [] = refl
terms_counted (t ∷ ts) = ap suc (terms_counted ts)

pub cases_counted : (cs : List MatchCase) → count_cases (cases_view cs) ≡ length cs
cases_counted [] = refl
cases_counted (c ∷ cs) = ap suc (cases_counted cs)

pub ruleset counting = (terms_counted, cases_counted)

pub ruleset entering = (entered_then)
