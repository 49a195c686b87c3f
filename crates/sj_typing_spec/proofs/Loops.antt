-- Loops of a check, one step on and at the end.
use Rattle.std.proofs.Common.{◌≡◌, ℕ, ◌+◌, ◌<◌, ◌≤◌, Bool, true, false, List, ◌∷◌, Result, Ok, Err, sym, ap, ◌∙◌, subst, length, get_or, drop}
use Rattle.std.specs.Prelude.{ℤ}
use Rattle.std.proofs.lemmas.List.{drop_more, drop_all}
use Rattle.sj_names.specs.declared.method_names.Namespace.{Namespace}
use Rattle.sj_trees.specs.declared.trees.Tree.{Tree}
use Rattle.sj_trees.specs.declared.trees.MatchCase.{MatchCase}
use Rattle.sj_trees.specs.Term.{Term, Terms, Cases, no_terms, more_terms, no_cases, more_cases}
use Rattle.sj_trees.specs.View.{view, view_case, terms_view, cases_view, view_step, case_step, Case}
use Rattle.sj_trees.specs.declared.trees.Tree.TheFolds.{fold_out-MatchCase}
use Rattle.sj_ask.specs.declared.errors.TypeError.{TypeError}
use Rattle.sj_ask.specs.declared.questions.Question.{Question}
use Rattle.sj_ask.specs.declared.questions.Answer.{Answer}
use Rattle.sj_ask.specs.Sizes.{counted, counted_all, counted_cases}
use Rattle.sj_ask.specs.Told.{Told}
use Rattle.sj_ask.specs.Tasks.{asks_sub}
use Rattle.sj_ask.specs.Runs.{Ran}
use Rattle.sj_typing_spec.specs.declared.labels.Label.{Label}
use Rattle.sj_typing_spec.specs.declared.rows.Fit.{Fit}
use Rattle.sj_typing_spec.specs.Checks.{unless_no, ask_fits, all_of, cases_of, check_of}
use Rattle.sj_typing_spec.specs.Answered.{AsRun}
use Rattle.sj_typing_spec.proofs.Steps.{as_done, as_ended, as_asked, as_then, as_then_stop}

pub dropped : {A : Type 0} (xs : List A) (i : ℕ) (x : A) → i < length xs → x ≡ get_or xs i x → drop i xs ≡ x ∷ drop (i + 1) xs
dropped xs i x lt e = drop_more xs i x lt ∙ ap (λ y. y ∷ drop (i + 1) xs) (sym e)

pub terms-dropped : (ts : List Tree) (i : ℕ) (x : Tree) → i < length ts → x ≡ get_or ts i x → terms_view (drop i ts) ≡ more_terms (view x) (terms_view (drop (i + 1) ts))
terms-dropped ts i x lt e = ap terms_view (dropped ts i x lt e)

pub case-body : (x : MatchCase) → (view_case x).1 ≡ view x.body
case-body x =
    let seen : view_case x ≡ (x.keys, view x.body) = fold_out-MatchCase Term Case view_step case_step x in
    ap (λ (c : Case). c.1) seen

pub cases-dropped : (cs : List MatchCase) (i : ℕ) (x : MatchCase) → i < length cs → x ≡ get_or cs i x → cases_view (drop i cs) ≡ more_cases (view_case x).0 (view x.body) (cases_view (drop (i + 1) cs))
cases-dropped cs i x lt e = ap cases_view (dropped cs i x lt e) ∙ ap (λ t. more_cases (view_case x).0 t (cases_view (drop (i + 1) cs))) (case-body x)

pub terms-ended : (ts : List Tree) (i : ℕ) → length ts ≤ i → terms_view (drop i ts) ≡ no_terms
terms-ended ts i le = ap terms_view (drop_all i ts le)

pub cases-ended : (cs : List MatchCase) (i : ℕ) → length cs ≤ i → cases_view (drop i cs) ≡ no_cases
cases-ended cs i le = ap cases_view (drop_all i cs le)

pub all_next : (n k : ℕ) (ts : Terms) (x : Term) (us : Terms) → ts ≡ more_terms x us → k ≡ counted x n → counted_all us k ≡ counted_all ts n
all_next n k ts x us e q = ap (counted_all us) q ∙ sym (ap (λ v. counted_all v n) e)

pub cases_next : (n k : ℕ) (cs : Cases) (keys : List ℤ) (x : Term) (us : Cases) → cs ≡ more_cases keys x us → k ≡ counted x n → counted_cases us k ≡ counted_cases cs n
cases_next n k cs keys x us e q = ap (counted_cases us) q ∙ sym (ap (λ v. counted_cases v n) e)

module _ (Is : Question → Answer → Type 0) where
  pub fits_on : (fault : TypeError) (fs : List Fit) (i : ℕ) (f : Fit) (r : Result Bool TypeError) (s t u : Told) → i < length fs → f ≡ get_or fs i f → Ran {E = TypeError} Is (asks_sub f.sub f.above) (Ok true) s t → AsRun Is (ask_fits fault (drop (i + 1) fs)) r t u → AsRun Is (ask_fits fault (drop i fs)) r s u
  fits_on fault fs i f r s t u lt e h k = subst (λ (l : List Fit). AsRun Is (ask_fits fault l) r s u) (sym (dropped fs i f lt e)) (as_asked Is f.sub f.above true (unless_no fault (ask_fits fault (drop (i + 1) fs))) r s t u h k)

  pub fits_no : (fault : TypeError) (fs : List Fit) (i : ℕ) (f : Fit) (s t : Told) → i < length fs → f ≡ get_or fs i f → Ran {E = TypeError} Is (asks_sub f.sub f.above) (Ok false) s t → AsRun Is (ask_fits fault (drop i fs)) (Err fault) s t
  fits_no fault fs i f s t lt e h = subst (λ (l : List Fit). AsRun Is (ask_fits fault l) (Err fault) s t) (sym (dropped fs i f lt e)) (as_asked Is f.sub f.above false (unless_no fault (ask_fits fault (drop (i + 1) fs))) (Err fault) s t t h (as_ended Is (Err fault) t))

  pub fits_end : (fault : TypeError) (fs : List Fit) (i : ℕ) (t : Told) → length fs ≤ i → AsRun Is (ask_fits fault (drop i fs)) (Ok true) t t
  fits_end fault fs i t le = subst (λ (l : List Fit). AsRun Is (ask_fits fault l) (Ok true) t t) (sym (drop_all i fs le)) (as_done Is true t)

  module _ (space : Namespace) (ls : List Label) where
    pub all_on : (n k : ℕ) (ts : Terms) (x : Term) (us : Terms) (b : Bool) (r : Result Bool TypeError) (s t u : Told) → ts ≡ more_terms x us → k ≡ counted x n → AsRun Is (check_of space ls n x) (Ok b) s t → AsRun Is (all_of space ls k us) r t u → AsRun Is (all_of space ls n ts) r s u
    all_on n k ts x us b r s t u e q h l =
        let rest : AsRun Is (all_of space ls (counted x n) us) r t u = subst (λ (j : ℕ). AsRun Is (all_of space ls j us) r t u) q l in
        subst (λ (v : Terms). AsRun Is (all_of space ls n v) r s u) (sym e) (as_then Is (check_of space ls n x) (all_of space ls (counted x n) us) b r s t u h rest)

    pub all_no : (n : ℕ) (ts : Terms) (x : Term) (us : Terms) (f : TypeError) (s t : Told) → ts ≡ more_terms x us → AsRun Is (check_of space ls n x) (Err f) s t → AsRun Is (all_of space ls n ts) (Err f) s t
    all_no n ts x us f s t e h = subst (λ (v : Terms). AsRun Is (all_of space ls n v) (Err f) s t) (sym e) (as_then_stop Is (check_of space ls n x) (all_of space ls (counted x n) us) f s t h)

    pub all_end : (n : ℕ) (ts : Terms) (t : Told) → ts ≡ no_terms → AsRun Is (all_of space ls n ts) (Ok true) t t
    all_end n ts t e = subst (λ (v : Terms). AsRun Is (all_of space ls n v) (Ok true) t t) (sym e) (as_done Is true t)

    pub cases_on : (n k : ℕ) (cs : Cases) (keys : List ℤ) (x : Term) (us : Cases) (b : Bool) (r : Result Bool TypeError) (s t u : Told) → cs ≡ more_cases keys x us → k ≡ counted x n → AsRun Is (check_of space ls n x) (Ok b) s t → AsRun Is (cases_of space ls k us) r t u → AsRun Is (cases_of space ls n cs) r s u
    cases_on n k cs keys x us b r s t u e q h l =
        let rest : AsRun Is (cases_of space ls (counted x n) us) r t u = subst (λ (j : ℕ). AsRun Is (cases_of space ls j us) r t u) q l in
        subst (λ (v : Cases). AsRun Is (cases_of space ls n v) r s u) (sym e) (as_then Is (check_of space ls n x) (cases_of space ls (counted x n) us) b r s t u h rest)

    pub cases_no : (n : ℕ) (cs : Cases) (keys : List ℤ) (x : Term) (us : Cases) (f : TypeError) (s t : Told) → cs ≡ more_cases keys x us → AsRun Is (check_of space ls n x) (Err f) s t → AsRun Is (cases_of space ls n cs) (Err f) s t
    cases_no n cs keys x us f s t e h = subst (λ (v : Cases). AsRun Is (cases_of space ls n v) (Err f) s t) (sym e) (as_then_stop Is (check_of space ls n x) (cases_of space ls (counted x n) us) f s t h)

    pub cases_end : (n : ℕ) (cs : Cases) (t : Told) → cs ≡ no_cases → AsRun Is (cases_of space ls n cs) (Ok true) t t
    cases_end n cs t e = subst (λ (v : Cases). AsRun Is (cases_of space ls n v) (Ok true) t t) (sym e) (as_done Is true t)
