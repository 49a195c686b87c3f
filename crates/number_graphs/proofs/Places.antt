-- What stands at the places of lists.
use Rattle.number_graphs.specs.Graphs.{At}
use Rattle.std.proofs.Common.{◌≡◌, ℕ, zero, suc, ◌+◌, ◌-◌, ◌<◌, List, [], ◌∷◌, ◌++◌, Contains, refl, sym, ap, ◌∙◌, subst, length, take, drop, get_or, arith, inl, inr, Some}
use Rattle.std.specs.Prelude.{◌⊎◌, ◌≢◌}
use Rattle.std.proofs.Math.ListN.{set}
use Rattle.std.proofs.lemmas.Option.{slice_get_within, get_or_from_slice_get, slice_get_read}
use Rattle.std.proofs.lemmas.List.{length-drop, take-append-le}
use Rattle.std.proofs.Math.Seq.{take-length}
use Rattle.std.proofs.lemmas.List.Elements.{Contains-get_or, Contains-append_cases, Contains-push_cases}

module _ {X : Type 0} where
  pub within : (xs : List X) (i : ℕ) (x : X) → At xs i x → i < length xs
  within xs i x at = slice_get_within xs i x at

  pub one_at : (xs : List X) (i : ℕ) (x y : X) → At xs i x → At xs i y → x ≡ y
  one_at xs i x y p q = cc

  -- something stands at each place
  pub record There (xs : List X) (i : ℕ) : Type 0 where
    pub item : X
    pub at : At xs i item

  pub there : (xs : List X) (i : ℕ) → i < length xs → There xs i
  there [] i low = absurd (omega arith)
  there (x ∷ xs) zero low = record { item = x; at = refl }
  there (x ∷ xs) (suc i) low = let t = there xs i (omega (arith, low)) in record { item = t.item; at = t.at }

  pub at_left : (xs ys : List X) (i : ℕ) (x : X) → At xs i x → At (xs ++ ys) i x
  at_left [] ys i x at = cc
  at_left (y ∷ xs) ys zero x at = at
  at_left (y ∷ xs) ys (suc i) x at = at_left xs ys i x at

  pub record Behind (xs ys : List X) (i : ℕ) (x : X) : Type 0 where
    pub place : ℕ
    pub is : i ≡ length xs + place
    pub at : At ys place x

  pub at_cases : (xs ys : List X) (i : ℕ) (x : X) → At (xs ++ ys) i x → At xs i x ⊎ Behind xs ys i x
  at_cases [] ys i x at = inr (record { place = i; is = omega arith; at = at })
  at_cases (y ∷ xs) ys zero x at = inl at
  at_cases (y ∷ xs) ys (suc i) x at = elim (at_cases xs ys i x at) [ inl l ↦ inl l | inr b ↦ inr (let e = b.is in record { place = b.place; is = omega (arith, e); at = b.at }) ]

  pub at_right : (xs ys : List X) (i k : ℕ) (x : X) → At ys k x → i ≡ length xs + k → At (xs ++ ys) i x
  at_right [] ys i k x at e = let same : i ≡ k = omega (arith, e) in subst (λ (n : ℕ). At ys n x) (sym same) at
  at_right (y ∷ xs) ys zero k x at e = absurd (omega (arith, e))
  at_right (y ∷ xs) ys (suc i) k x at e = at_right xs ys i k x at (omega (arith, e))

  pub at_front : (xs ys : List X) (i : ℕ) (x : X) → At (xs ++ ys) i x → i < length xs → At xs i x
  at_front xs ys i x at low = elim (at_cases xs ys i x at) [ inl l ↦ l | inr b ↦ (let e = b.is in absurd (omega arith)) ]

  pub at_last : (xs : List X) (y : X) → At (xs ++ y ∷ []) (length xs) y
  at_last xs y = at_right xs (y ∷ []) (length xs) 0 y refl (omega arith)

  pub at_one : (y : X) (i : ℕ) (x : X) → At (y ∷ []) i x → (i ≡ 0) × (x ≡ y)
  at_one y zero x at = (refl, cc)
  at_one y (suc i) x at = cc

  -- what stands in a list with one item more
  pub at_push : (xs : List X) (y : X) (i : ℕ) (x : X) → At (xs ++ y ∷ []) i x → At xs i x ⊎ ((i ≡ length xs) × (x ≡ y))
  at_push xs y i x at = elim (at_cases xs (y ∷ []) i x at) [ inl l ↦ inl l | inr b ↦ inr (let o = at_one y b.place x b.at in let e = b.is in (omega (arith, o.0), o.1)) ]

  pub at_take : (n : ℕ) (xs : List X) (i : ℕ) (x : X) → At (take n xs) i x → At xs i x × (i < n)
  at_take zero xs i x at = cc
  at_take (suc n) [] i x at = cc
  at_take (suc n) (y ∷ xs) zero x at = (at, omega arith)
  at_take (suc n) (y ∷ xs) (suc i) x at = let r = at_take n xs i x at in (r.0, omega (arith, r.1))

  pub into_take : (n : ℕ) (xs : List X) (i : ℕ) (x : X) → At xs i x → i < n → At (take n xs) i x
  into_take zero xs i x at low = absurd (omega arith)
  into_take (suc n) [] i x at low = at
  into_take (suc n) (y ∷ xs) zero x at low = at
  into_take (suc n) (y ∷ xs) (suc i) x at low = into_take n xs i x at (omega (arith, low))

  pub at_set : (xs : List X) (i : ℕ) (y : X) → i < length xs → At (set xs i y) i y
  at_set [] i y low = absurd (omega arith)
  at_set (x ∷ xs) zero y low = refl
  at_set (x ∷ xs) (suc i) y low = at_set xs i y (omega (arith, low))

  pub at_set_other : (xs : List X) (i : ℕ) (y : X) (j : ℕ) (x : X) → j ≢ i → At xs j x → At (set xs i y) j x
  at_set_other [] i y j x other at = at
  at_set_other (z ∷ xs) zero y zero x other at = absurd (other refl)
  at_set_other (z ∷ xs) zero y (suc j) x other at = at
  at_set_other (z ∷ xs) (suc i) y zero x other at = at
  at_set_other (z ∷ xs) (suc i) y (suc j) x other at = at_set_other xs i y j x (λ e. other (ap suc e)) at

  pub from_set_other : (xs : List X) (i : ℕ) (y : X) (j : ℕ) (x : X) → j ≢ i → At (set xs i y) j x → At xs j x
  from_set_other [] i y j x other at = at
  from_set_other (z ∷ xs) zero y zero x other at = absurd (other refl)
  from_set_other (z ∷ xs) zero y (suc j) x other at = at
  from_set_other (z ∷ xs) (suc i) y zero x other at = at
  from_set_other (z ∷ xs) (suc i) y (suc j) x other at = from_set_other xs i y j x (λ e. other (ap suc e)) at

  pub contains_at : (xs : List X) (i : ℕ) (x : X) → At xs i x → Contains xs x
  contains_at xs i x at = let read : get_or xs i x ≡ x = get_or_from_slice_get xs i x x at in subst (λ (y : X). Contains xs y) read (Contains-get_or xs i x (within xs i x at))

  pub record Among (xs : List X) (x : X) : Type 0 where
    pub place : ℕ
    pub at : At xs place x

  pub among : (xs : List X) (x : X) → Contains xs x → Among xs x
  among [] x h = absurd (let p : h.0 < 0 = h.1 in omega arith)
  among (y ∷ xs) x h = elim (Contains-append_cases (y ∷ []) xs x h) [ inl first ↦ here (Contains-push_cases [] y x first) | inr later ↦ (let r = among xs x later in record { place = suc r.place; at = r.at }) ]
    where
      here : Contains [] x ⊎ (y ≡ x) → Among (y ∷ xs) x
      here (inl none) = absurd (let p : none.0 < 0 = none.1 in omega arith)
      here (inr e) = record { place = 0; at = ap Some e }

  pub at_drop : (n : ℕ) (xs : List X) (i : ℕ) (x : X) → At (drop n xs) i x → At xs (n + i) x
  at_drop zero xs i x at = let e : 0 + i ≡ i = omega arith in subst (λ (k : ℕ). At xs k x) (sym e) at
  at_drop (suc n) [] i x at = cc
  at_drop (suc n) (y ∷ xs) i x at = let e : suc n + i ≡ suc (n + i) = omega arith in subst (λ (k : ℕ). At (y ∷ xs) k x) (sym e) (at_drop n xs i x at)

  pub into_drop : (n : ℕ) (xs : List X) (i : ℕ) (x : X) → At xs (n + i) x → At (drop n xs) i x
  into_drop zero xs i x at = let e : 0 + i ≡ i = omega arith in subst (λ (k : ℕ). At xs k x) e at
  into_drop (suc n) [] i x at = cc
  into_drop (suc n) (y ∷ xs) i x at = let e : suc n + i ≡ suc (n + i) = omega arith in into_drop n xs i x (subst (λ (k : ℕ). At (y ∷ xs) k x) e at)

  pub at_read : (xs : List X) (i : ℕ) (x : X) → i < length xs → x ≡ get_or xs i x → At xs i x
  at_read xs i x low is = slice_get_read xs (length xs) i x refl low is

  pub all_behind : (n : ℕ) (xs : List X) → take (length xs - n) (drop n xs) ≡ drop n xs
  all_behind n xs = ap (λ k. take k (drop n xs)) (sym (length-drop n xs)) ∙ take-length (drop n xs)

  pub at_read_as : (xs : List X) (i : ℕ) (x y : X) → i < length xs → x ≡ get_or xs i x → x ≡ y → At xs i y
  at_read_as xs i x y low is same = subst (λ (z : X). At xs i z) same (at_read xs i x low is)

  pub whole_written : (n : ℕ) (xs ys : List X) → length ys ≡ n → take n (ys ++ drop (length ys) xs) ≡ ys
  whole_written n xs ys e = take-append-le n ys (drop (length ys) xs) (omega (arith, e)) ∙ ap (λ k. take k ys) (sym e) ∙ take-length ys
