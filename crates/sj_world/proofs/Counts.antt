-- Counting the items that pass a test.
use Rattle.std.proofs.Common.{◌≡◌, ℕ, zero, suc, ◌+◌, ◌<◌, ◌≤◌, List, [], ◌∷◌, Bool, true, false, slice_get, Some, refl, ap, ◌∙◌, arith, cond}
use Rattle.std.specs.Prelude.{count_by}
use Rattle.std.proofs.lemmas.List.Sums.{sum_by-cons}

module _ {X : Type 0} (p : X → Bool) where
  count-cons : (x : X) (w : List X) → count_by p (x ∷ w) ≡ cond (p x) 1 0 + count_by p w
  count-cons x w = sum_by-cons (λ y. cond (p y) 1 0) x w

  count-yes : (x : X) (w : List X) → p x ≡ true → count_by p (x ∷ w) ≡ 1 + count_by p w
  count-yes x w h = count-cons x w ∙ ap (λ (b : Bool). cond b 1 0 + count_by p w) h

  count-no : (x : X) (w : List X) → p x ≡ false → count_by p (x ∷ w) ≡ count_by p w
  count-no x w h = let e : count_by p (x ∷ w) ≡ 0 + count_by p w = count-cons x w ∙ ap (λ (b : Bool). cond b 1 0 + count_by p w) h in omega arith

  more : (x : X) (w : List X) → count_by p w ≤ count_by p (x ∷ w)
  more x w = omega (arith, count-cons x w)

  pub counts_one : (w : List X) (i : ℕ) (x : X) → slice_get w i ≡ Some x → p x ≡ true → 1 ≤ count_by p w
  counts_one [] i x at h = cc
  counts_one (y ∷ w) zero x at h = let e : y ≡ x = cc in omega (arith, count-yes y w (ap p e ∙ h))
  counts_one (y ∷ w) (suc i) x at h = omega (arith, more y w, counts_one w i x at h)

  pub counts_two : (w : List X) (i j : ℕ) (x y : X) → i < j → slice_get w i ≡ Some x → slice_get w j ≡ Some y → p x ≡ true → p y ≡ true → 2 ≤ count_by p w
  counts_two [] i j x y lt at then h k = cc
  counts_two (z ∷ w) i zero x y lt at then h k = absurd (omega arith)
  counts_two (z ∷ w) zero (suc j) x y lt at then h k = let e : z ≡ x = cc in omega (arith, count-yes z w (ap p e ∙ h), counts_one w j y then k)
  counts_two (z ∷ w) (suc i) (suc j) x y lt at then h k = omega (arith, more z w, counts_two w i j x y (omega arith) at then h k)

  -- an item that passes
  pub record One (w : List X) : Type 0 where
    pub place : ℕ
    pub item : X
    pub at : slice_get w place ≡ Some item
    pub passes : p item ≡ true

  -- two items that pass
  pub record Two (w : List X) : Type 0 where
    pub place : ℕ
    pub item : X
    pub at : slice_get w place ≡ Some item
    pub passes : p item ≡ true
    pub later : ℕ
    pub after : place < later
    pub other : X
    pub there : slice_get w later ≡ Some other
    pub passes_too : p other ≡ true

  pub one_counted : (w : List X) → 1 ≤ count_by p w → One w
  one_counted [] h = absurd (omega arith)
  one_counted (x ∷ w) h = go (one_counted w) (p x) refl
    where
      go : (1 ≤ count_by p w → One w) → (b : Bool) → p x ≡ b → One (x ∷ w)
      go below true e = record { place = 0; item = x; at = refl; passes = e }
      go below false e = let o = below (omega (arith, count-no x w e)) in record { place = suc o.place; item = o.item; at = o.at; passes = o.passes }

  pub two_counted : (w : List X) → 2 ≤ count_by p w → Two w
  two_counted [] h = absurd (omega arith)
  two_counted (x ∷ w) h = go (two_counted w) (p x) refl
    where
      go : (2 ≤ count_by p w → Two w) → (b : Bool) → p x ≡ b → Two (x ∷ w)
      go below true e = let o = one_counted w (omega (arith, count-yes x w e)) in record { place = 0; item = x; at = refl; passes = e; later = suc o.place; after = omega arith; other = o.item; there = o.at; passes_too = o.passes }
      go below false e = let o = below (omega (arith, count-no x w e)) in record { place = suc o.place; item = o.item; at = o.at; passes = o.passes; later = suc o.later; after = omega (arith, o.after); other = o.other; there = o.there; passes_too = o.passes_too }
