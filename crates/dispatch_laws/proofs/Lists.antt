-- What stands in a list, what a filter keeps of it, and what a test of any finds there.
use Rattle.std.proofs.Common.{◌≡◌, zero, suc, Bool, true, false, List, [], ◌∷◌, Contains, refl, sym, ◌∙◌, subst, inl, inr, arith}
use Rattle.std.specs.Prelude.{◌⊎◌, filter}
use Rattle.std.specs.List.{list_any}
use Rattle.std.proofs.lemmas.Bool.{cond-true, cond-false}
use Rattle.std.proofs.lemmas.List.Elements.{All-contains, All-contains_itself, All-filter, filter_passes}
use Rattle.std.proofs.lemmas.List.Folds.{list_any_at, Any-from_list_any}
use Rattle.worklist.proofs.Inserted.{nothing_in}

module _ {X : Type 0} where
  pub first_stands : (x : X) (xs : List X) → Contains (x ∷ xs) x
  first_stands x xs = (0, omega arith, refl)

  pub stands_behind : (x : X) (xs : List X) (y : X) → Contains xs y → Contains (x ∷ xs) y
  stands_behind x xs y c = (suc c.0, omega (arith, c.1), c.2)

  pub first_or_behind : (x : X) (xs : List X) (y : X) → Contains (x ∷ xs) y → (x ≡ y) ⊎ Contains xs y
  first_or_behind x xs y (zero, within, e) = inl e
  first_or_behind x xs y (suc n, within, e) = inr (n, omega (arith, within), e)

  -- an item that passes a test
  pub any_of : (p : X → Bool) (xs : List X) (x : X) → Contains xs x → p x ≡ true → list_any p xs ≡ true
  any_of p xs x c h = list_any_at p xs c.0 x c.1 (subst (λ (y : X). p y ≡ true) (sym c.2) h)

  pub record Passing (p : X → Bool) (xs : List X) : Type 0 where
    pub item : X
    pub stands : Contains xs item
    pub passes : p item ≡ true

  pub passing : (p : X → Bool) (xs : List X) → list_any p xs ≡ true → Passing p xs
  passing p xs h = let a = Any-from_list_any p xs h in record { item = a.1; stands = (a.0, a.2, a.3); passes = a.4 }

  -- what a filter keeps stands in the list and passes the test
  pub kept_stands : (p : X → Bool) (xs : List X) (x : X) → Contains (filter p xs) x → Contains xs x
  kept_stands p xs x c = All-contains (Contains xs) (filter p xs) x (All-filter p (Contains xs) xs (All-contains_itself xs)) c

  pub kept_passes : (p : X → Bool) (xs : List X) (x : X) → Contains (filter p xs) x → p x ≡ true
  kept_passes p xs x c = All-contains (λ (y : X). p y ≡ true) (filter p xs) x (filter_passes p xs) c

  pub is_kept : (p : X → Bool) (xs : List X) (x : X) → p x ≡ true → Contains xs x → Contains (filter p xs) x
  is_kept p [] x h c = nothing_in x c
  is_kept p (y ∷ ys) x h c = go (p y) refl (first_or_behind y ys x c) (is_kept p ys x h)
    where
      go : (b : Bool) → p y ≡ b → (y ≡ x) ⊎ Contains ys x → (Contains ys x → Contains (filter p ys) x) → Contains (filter p (y ∷ ys)) x
      go true e (inl s) later = subst (λ (l : List X). Contains l x) (sym (cond-true (p y) (y ∷ filter p ys) (filter p ys) e)) (subst (λ (z : X). Contains (y ∷ filter p ys) z) s (first_stands y (filter p ys)))
      go true e (inr k) later = subst (λ (l : List X). Contains l x) (sym (cond-true (p y) (y ∷ filter p ys) (filter p ys) e)) (stands_behind y (filter p ys) x (later k))
      go false e (inr k) later = subst (λ (l : List X). Contains l x) (sym (cond-false (p y) (y ∷ filter p ys) (filter p ys) e)) (later k)
      go false e (inl s) later = let wrong : false ≡ true = sym e ∙ subst (λ (z : X). p z ≡ true) (sym s) h in absurd (cc)
