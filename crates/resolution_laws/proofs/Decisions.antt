-- Whether facts hold, and which item of a list is the first with a property.
use Rattle.std.proofs.Common.{◌≡◌, ℕ, zero, suc, ◌<◌, Bool, true, false, List, [], ◌∷◌, slice_get, Some, refl, subst, inl, inr, arith}
use Rattle.std.specs.Prelude.{◌⊎◌}
use Rattle.sj_world.specs.Paths.{IsFirst, HasNone}

-- it holds, or it doesn't
abbrev pub Decided : Type 0 → Type 0
Decided P = P ⊎ (P → ⊥)

-- by a test that holds just where the fact does
pub by_test : {P : Type 0} (b : Bool) → (b ≡ true → P) → (P → b ≡ true) → Decided P
by_test true to back = inl (to refl)
by_test false to back = inr (λ p. let wrong : false ≡ true = back p in cc)

pub both : {P Q : Type 0} → Decided P → Decided Q → Decided (P × Q)
both (inl p) (inl q) = inl (p, q)
both (inl p) (inr not) = inr (λ h. not h.1)
both (inr not) q = inr (λ h. not h.0)

pub without : {P : Type 0} → Decided P → Decided (P → ⊥)
without (inl p) = inr (λ not. not p)
without (inr not) = inl not

pub decided_from : {P Q : Type 0} → (P → Q) → (Q → P) → Decided P → Decided Q
decided_from to back (inl p) = inl (to p)
decided_from to back (inr not) = inr (λ q. not (back q))

module _ {X : Type 0} (Has : X → Type 0) where
  pub record SomeFirst (xs : List X) : Type 0 where
    pub item : X
    pub first : IsFirst Has xs item

  -- by trying each item in turn
  pub search : ((x : X) → Decided (Has x)) → (xs : List X) → SomeFirst xs ⊎ HasNone Has xs
  search decide [] = inr (record { none = λ i x at h. absurd (cc) })
  search decide (x ∷ xs) = go (decide x) (search decide xs)
    where
      go : Decided (Has x) → SomeFirst xs ⊎ HasNone Has xs → SomeFirst (x ∷ xs) ⊎ HasNone Has (x ∷ xs)
      go (inl has) later = inl (record { item = x; first = record { place = 0; stands = refl; has = has; none_before = λ i y lt at h. absurd (omega arith) } })
      go (inr not) (inl r) = inl (record { item = r.item; first = record { place = suc r.first.place; stands = r.first.stands; has = r.first.has; none_before = none_here } })
        where
          none_here : (i : ℕ) (y : X) → i < suc r.first.place → slice_get (x ∷ xs) i ≡ Some y → Has y → ⊥
          none_here zero y lt at h = let same : y ≡ x = cc in not (subst Has same h)
          none_here (suc i) y lt at h = r.first.none_before i y (omega (arith, lt)) at h
      go (inr not) (inr none) = inr (record { none = none_here })
        where
          none_here : (i : ℕ) (y : X) → slice_get (x ∷ xs) i ≡ Some y → Has y → ⊥
          none_here zero y at h = let same : y ≡ x = cc in not (subst Has same h)
          none_here (suc i) y at h = none.none i y at h
