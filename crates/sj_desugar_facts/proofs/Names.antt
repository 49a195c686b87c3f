-- The mutable locals of trees, cases and parameters in a row, the last first.
use Rattle.std.proofs.Common.{◌≡◌, ◌∙◌, ◌<◌, ◌+◌, ℕ, suc, List, [], ◌∷◌, ◌++◌, ap, sym, length, get_or, drop, reverse, add-one}
use Rattle.std.proofs.Math.Seq.{drop-cons, drop-length}
use Rattle.std.proofs.lemmas.List.{reverse-append}
use Rattle.sj_desugar_spec.specs.Plain.{mutable_in, mutable_in_all, mutable_in_cases, mutable_params, if_mutable}
use Rattle.sj_trees.specs.View.{view, terms_view, cases_view, view_case}
use Rattle.sj_trees.specs.declared.classes.ParamDef.{ParamDef}
use Rattle.sj_trees.specs.declared.trees.MatchCase.{MatchCase}
use Rattle.sj_trees.specs.declared.trees.Tree.{Tree}

pub reversed-push : (xs : List (List ℕ)) (x : List ℕ) → reverse (xs ++ x ∷ []) ≡ x ∷ reverse xs
reversed-push xs x = reverse-append xs (x ∷ [])

pub all-end : (ts : List Tree) (xs : List (List ℕ)) → mutable_in_all (terms_view (drop (length ts) ts)) xs ≡ xs
all-end ts xs = ap (λ us. mutable_in_all (terms_view us) xs) (drop-length ts)

pub all-step : (ts : List Tree) (i : ℕ) (t : Tree) (xs : List (List ℕ)) → i < length ts → t ≡ get_or ts i t → mutable_in_all (terms_view (drop i ts)) xs ≡ mutable_in (view t) (mutable_in_all (terms_view (drop (i + 1) ts)) xs)
all-step ts i t xs h e = ap (λ us. mutable_in_all (terms_view us) xs) (drop-cons ts i t h) ∙ ap (λ u. mutable_in (view u) (mutable_in_all (terms_view (drop (suc i) ts)) xs)) (sym e) ∙ ap (λ n. mutable_in (view t) (mutable_in_all (terms_view (drop n ts)) xs)) (sym (add-one i))

pub cases-end : (cs : List MatchCase) (xs : List (List ℕ)) → mutable_in_cases (cases_view (drop (length cs) cs)) xs ≡ xs
cases-end cs xs = ap (λ us. mutable_in_cases (cases_view us) xs) (drop-length cs)

pub cases-step : (cs : List MatchCase) (i : ℕ) (c : MatchCase) (xs : List (List ℕ)) → i < length cs → c ≡ get_or cs i c → mutable_in_cases (cases_view (drop i cs)) xs ≡ mutable_in (view_case c).1 (mutable_in_cases (cases_view (drop (i + 1) cs)) xs)
cases-step cs i c xs h e = ap (λ us. mutable_in_cases (cases_view us) xs) (drop-cons cs i c h) ∙ ap (λ u. mutable_in (view_case u).1 (mutable_in_cases (cases_view (drop (suc i) cs)) xs)) (sym e) ∙ ap (λ n. mutable_in (view_case c).1 (mutable_in_cases (cases_view (drop n cs)) xs)) (sym (add-one i))

pub params-end : (ds : List ParamDef) (xs : List (List ℕ)) → mutable_params (drop (length ds) ds) xs ≡ xs
params-end ds xs = ap (λ us. mutable_params us xs) (drop-length ds)

pub params-step : (ds : List ParamDef) (i : ℕ) (d : ParamDef) (xs : List (List ℕ)) → i < length ds → d ≡ get_or ds i d → mutable_params (drop i ds) xs ≡ if_mutable d.«mutable» d.name (mutable_params (drop (i + 1) ds) xs)
params-step ds i d xs h e = ap (λ us. mutable_params us xs) (drop-cons ds i d h) ∙ ap (λ (u : ParamDef). if_mutable u.«mutable» u.name (mutable_params (drop (suc i) ds) xs)) (sym e) ∙ ap (λ n. if_mutable d.«mutable» d.name (mutable_params (drop n ds) xs)) (sym (add-one i))

pub ruleset reversing = (reversed-push)

pub ruleset rows = (all-end, all-step, cases-end, cases-step, params-end, params-step)
