-- Lists that are sorted and hold nothing twice are one where they have the same members.
use Rattle.std.proofs.Common.{◌≡◌, ◌↔◌, ◌+◌, ℕ, suc, Bool, true, false, List, [], ◌∷◌, refl, sym, subst, ◌∙◌, Contains, arith}
use Rattle.std.specs.Cmp.{IsStrictWeakOrder}
use Rattle.std.specs.List.Sorted.{IsSortedBy}
use Rattle.std.specs.Prelude.{get_or}
use Rattle.std.proofs.lemmas.List.Sorted.{sorted_far}
use Rattle.sj_names.proofs.Same.{impossible}
use Rattle.linked_pieces.specs.Order.{AreInOrder}
use Rattle.linked_pieces.proofs.Order.{one_order}

module _ {A : Type 0} (before : A → A → Bool) (ranks : IsStrictWeakOrder before) where
  abbrev pub Before : A → A → Type 0
  Before a b = before a b ≡ true

  abbrev pub Differ : A → A → Type 0
  Differ a b = before a b ≡ false → before b a ≡ false → ⊥

  never : (a b : A) → Before a b → Before b a → ⊥
  never a b h k = impossible (sym (ranks.one_way a b h) ∙ k)

  first_low : (x : A) (xs : List A) → IsSortedBy before (x ∷ xs) → (y : A) → Contains xs y → before y x ≡ false
  first_low x xs sorted y h = subst (λ (z : A). before z x ≡ false) h.2 (sorted_far before ranks (x ∷ xs) sorted 0 (suc h.0) y (omega arith) (omega (arith, h.1)))

  rest_sorted : (x : A) (xs : List A) → IsSortedBy before (x ∷ xs) → IsSortedBy before xs
  rest_sorted x xs sorted k d low l =
      let next : suc k + 1 ≡ suc (k + 1) = omega arith in
      subst (λ (n : ℕ). before (get_or (x ∷ xs) n d) (get_or xs k d) ≡ false) next (sorted (suc k) d (omega arith) (omega (arith, l)))

  in_order : (xs : List A) → IsSortedBy before xs → AreInOrder Differ xs → AreInOrder Before xs
  in_order [] sorted apart = tt
  in_order (x ∷ xs) sorted apart = (λ y h. go y h (before x y) refl, in_order xs (rest_sorted x xs sorted) apart.1)
    where
      go : (y : A) → Contains xs y → (b : Bool) → before x y ≡ b → before x y ≡ true
      go y h true e = e
      go y h false e = absurd (apart.0 y h e (first_low x xs sorted y h))

  pub one_sorted : (xs ys : List A) → IsSortedBy before xs → IsSortedBy before ys → AreInOrder Differ xs → AreInOrder Differ ys → ((x : A) → Contains xs x ↔ Contains ys x) → xs ≡ ys
  one_sorted xs ys up too apart other same = one_order Before never xs ys (in_order xs up apart) (in_order ys too other) same
