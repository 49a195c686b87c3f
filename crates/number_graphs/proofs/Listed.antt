-- What numbers lead to in a graph that grows.
use Rattle.std.proofs.Common.{◌≡◌, ℕ, zero, suc, ◌<◌, List, [], ◌∷◌, ◌++◌, Contains, refl, sym, ap, ◌∙◌, subst, length, set, arith, inl, inr}
use Rattle.std.specs.Prelude.{◌⊎◌, ◌≢◌, Vec}
use Rattle.std.specs.Global.{Global}
use Rattle.std.proofs.lemmas.List.{length-set}
use Rattle.std.proofs.lemmas.List.Elements.{Contains-push_cases, Contains-push, Contains-append_left}
use Rattle.number_graphs.specs.Graphs.{Leads, Lists, next_of}
use Rattle.number_graphs.proofs.Searched.{same_or_not}

-- what leads from a number is in the graph
pub leads_from : (next : Lists) (i j : ℕ) → Leads next i j → i < length next
leads_from [] i j h = absurd (let p : h.0 < 0 = h.1 in omega arith)
leads_from (list ∷ next) zero j h = omega arith
leads_from (list ∷ next) (suc i) j h = let r = leads_from next i j h in omega (arith, r)

pub leads_left : (next others : Lists) (i j : ℕ) → Leads next i j → Leads (next ++ others) i j
leads_left [] others i j h = absurd (let p : h.0 < 0 = h.1 in omega arith)
leads_left (list ∷ next) others zero j h = h
leads_left (list ∷ next) others (suc i) j h = leads_left next others i j h

-- a list that is put behind, and is empty, leads to nothing
pub leads_old : (next : Lists) (list : Vec ℕ Global) (i j : ℕ) → list.items ≡ [] → Leads (next ++ list ∷ []) i j → Leads next i j
leads_old [] list zero j none h = subst (λ (l : List ℕ). Contains l j) none h
leads_old [] list (suc i) j none h = h
leads_old (first ∷ next) list zero j none h = h
leads_old (first ∷ next) list (suc i) j none h = leads_old next list i j none h

next_set : (next : Lists) (place : ℕ) (list : Vec ℕ Global) → place < length next → next_of (set next place list) place ≡ list.items
next_set [] place list low = absurd (omega arith)
next_set (first ∷ next) zero list low = refl
next_set (first ∷ next) (suc place) list low = next_set next place list (omega (arith, low))

next_set_other : (next : Lists) (place : ℕ) (list : Vec ℕ Global) (i : ℕ) → i ≢ place → next_of (set next place list) i ≡ next_of next i
next_set_other [] place list i ne = refl
next_set_other (first ∷ next) zero list zero ne = absurd (ne refl)
next_set_other (first ∷ next) zero list (suc i) ne = refl
next_set_other (first ∷ next) (suc place) list zero ne = refl
next_set_other (first ∷ next) (suc place) list (suc i) ne = next_set_other next place list i (λ e. ne (ap suc e))

-- a number leads to one more
pub record LeadsMore (from to : ℕ) (old new : Lists) : Type 0 where
  pub whole : length new ≡ length old
  pub kept : (i j : ℕ) → Leads old i j → Leads new i j
  pub leads : Leads new from to
  pub cases : (i j : ℕ) → Leads new i j → Leads old i j ⊎ ((i ≡ from) × (j ≡ to))

pub leads_more : (next : Lists) (from to : ℕ) (list : Vec ℕ Global) → from < length next → list.items ≡ next_of next from ++ to ∷ [] → LeadsMore from to next (set next from list)
leads_more next from to list low e = record { whole = length-set next from list; kept = still; leads = subst (λ (l : List ℕ). Contains l to) (sym items) (Contains-push (next_of next from) to); cases = cases }
  where
    items : next_of (set next from list) from ≡ next_of next from ++ to ∷ []
    items = next_set next from list low ∙ e

    cases : (i j : ℕ) → Leads (set next from list) i j → Leads next i j ⊎ ((i ≡ from) × (j ≡ to))
    cases i j leads = elim (same_or_not i from) [ inl is ↦ elim (Contains-push_cases (next_of next from) to j (subst (λ (l : List ℕ). Contains l j) items (subst (λ (k : ℕ). Leads (set next from list) k j) is leads))) [ inl old ↦ inl (subst (λ (k : ℕ). Leads next k j) (sym is) old) | inr new ↦ inr (is, sym new) ] | inr ne ↦ inl (subst (λ (l : List ℕ). Contains l j) (next_set_other next from list i ne) leads) ]

    still : (i j : ℕ) → Leads next i j → Leads (set next from list) i j
    still i j leads = elim (same_or_not i from) [ inl is ↦ subst (λ (k : ℕ). Leads (set next from list) k j) (sym is) (subst (λ (l : List ℕ). Contains l j) (sym items) (Contains-append_left (next_of next from) (to ∷ []) j (subst (λ (k : ℕ). Leads next k j) is leads))) | inr ne ↦ subst (λ (l : List ℕ). Contains l j) (sym (next_set_other next from list i ne)) leads ]
