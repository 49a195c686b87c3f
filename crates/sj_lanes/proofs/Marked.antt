-- The elements that pass a test, as the bits of a vector's mask, and the first of them in a list that is read a run at a time.
use Rattle.std.proofs.Common.{◌≡◌, ◌+◌, ◌<◌, ◌≤◌, ◌%◌, ◌^◌, ◌*◌, ◌||◌, ℕ, Bool, true, false, not, cond, eqb, ltb, List, [], ◌∷◌, length, get_or, map, replicate, Some, None, refl, sym, ap, ap₂, ◌∙◌, arith, inl, inr}
use Rattle.std.proofs.lemmas.Bool.{cases_Bool, cases_lt, lt-ltb, le-ltb, cond-true, cond-false}
use Rattle.std.proofs.lemmas.List.{length-map}
use Rattle.std.proofs.lemmas.List.Sums.{position_or_len_is}
use Rattle.std.proofs.lemmas.Simd.{zip2_splat, zip2_splat_left, mask_l-mod, length-chunk, trailing_mask_l, none_from_empty_mask, run_in_chunk_le, run_in_chunk_fails, run_in_chunk_stops}
use Rattle.std.specs.List.{position, position_or_len, prefix_len}
use lib.Bits.{bit_or}
use lib.Count.{count_trailing_zeros}
use lib.Lanes.{chunk, mask_l, top, zip2}
use Rattle.sj_lanes.specs.SpecialUnit.{is_special_unit}

-- a lane of a mask of 16 bits
abbrev lane : Bool → ℕ
lane b = cond b 65535 0

lane-or : (a b : Bool) → bit_or (lane a) (lane b) ≡ lane (a || b)
lane-or true true = refl
lane-or true false = refl
lane-or false true = refl
lane-or false false = refl

top-lane : (b : Bool) → top 15 (lane b) ≡ b
top-lane true = refl
top-lane false = refl

either_of_maps : (p q : ℕ → Bool) (v : List ℕ) → zip2 bit_or (map (λ x. lane (p x)) v) (map (λ x. lane (q x)) v) ≡ map (λ x. lane (p x || q x)) v
either_of_maps p q [] = refl
either_of_maps p q (x ∷ v) = ap₂ (λ a b. a ∷ b) (lane-or (p x) (q x)) (either_of_maps p q v)

either : (p q : ℕ → Bool) (v : List ℕ) {a b : List ℕ} → a ≡ map (λ x. lane (p x)) v → b ≡ map (λ x. lane (q x)) v → zip2 bit_or a b ≡ map (λ x. lane (p x || q x)) v
either p q v is also = ap₂ (zip2 bit_or) is also ∙ either_of_maps p q v

tops_of_lanes : (p : ℕ → Bool) (v : List ℕ) → map (top 15) (map (λ x. lane (p x)) v) ≡ map p v
tops_of_lanes p [] = refl
tops_of_lanes p (x ∷ v) = ap₂ (λ a b. a ∷ b) (top-lane (p x)) (tops_of_lanes p v)

-- the four comparisons of a vector, as one test of each lane
pub special_mask : (v : List ℕ) (n : ℕ) → length v ≡ n → n ≤ 64
    → mask_l (map (top 15) (zip2 bit_or
    (zip2 bit_or
    (zip2 bit_or (zip2 (λ a b. lane (ltb a b)) v (replicate n 0x20)) (zip2 (λ a b. lane (ltb a b)) (replicate n 0x7E) v))
    (zip2 (λ a b. lane (eqb a b)) v (replicate n 0x22)))
    (zip2 (λ a b. lane (eqb a b)) v (replicate n 0x5C)))) % 2 ^ 64
    ≡ mask_l (map is_special_unit v)
special_mask v n long few =
    let below = zip2_splat (λ a b. lane (ltb a b)) v n 0x20 long in
    let above = zip2_splat_left (λ a b. lane (ltb a b)) 0x7E n v long in
    let quote = zip2_splat (λ a b. lane (eqb a b)) v n 0x22 long in
    let backslash = zip2_splat (λ a b. lane (eqb a b)) v n 0x5C long in
    let outside = either (λ x. ltb x 0x20) (λ x. ltb 0x7E x) v below above in
    let three = either (λ x. ltb x 0x20 || ltb 0x7E x) (λ x. eqb x 0x22) v outside quote in
    let four = either (λ x. ltb x 0x20 || ltb 0x7E x || eqb x 0x22) (λ x. eqb x 0x5C) v three backslash in
    ap (λ z. mask_l (map (top 15) z) % 2 ^ 64) four ∙ ap (λ bs. mask_l bs % 2 ^ 64) (tops_of_lanes is_special_unit v)
    ∙ mask_l-mod (map is_special_unit v) 64 (omega (arith, length-map v is_special_unit))

-- a vector with no first lane that passes has an empty mask
empty_mask : (p : ℕ → Bool) (xs : List ℕ) → length xs ≤ prefix_len (λ x. not (p x)) xs → mask_l (map p xs) ≡ 0
empty_mask p [] whole = refl
empty_mask p (x ∷ xs) whole =
    elim (cases_Bool (p x)) [
      | inl passes ↦
          let none = ap (λ b. cond (not b) (1 + prefix_len (λ x. not (p x)) xs) 0) passes in
          absurd (omega arith)
      | inr fails ↦
          let rest = ap (λ b. cond (not b) (1 + prefix_len (λ x. not (p x)) xs) 0) fails in
          ap (λ b. cond b 1 0 + 2 * mask_l (map p xs)) fails ∙ ap (λ m. 0 + 2 * m) (empty_mask p xs (omega arith))
    ]

pub position_at : (p : ℕ → Bool) (xs : List ℕ) (i : ℕ) → i < length xs → ((k : ℕ) → k < i → p (get_or xs k 0) ≡ false) → p (get_or xs i 0) ≡ true → Some i ≡ position p xs
position_at p xs i inside before here =
    let is = position_or_len_is p xs i 0 (omega arith) before (λ _. here) in
    sym (cond-true (ltb (position_or_len p xs) (length xs)) (Some (position_or_len p xs)) None (lt-ltb _ _ (omega arith)) ∙ ap (λ k. Some k) is)

pub position_none : (p : ℕ → Bool) (xs : List ℕ) → ((k : ℕ) → k < length xs → p (get_or xs k 0) ≡ false) → None ≡ position p xs
position_none p xs none =
    let is = position_or_len_is p xs (length xs) 0 (omega arith) none (λ more. absurd (omega arith)) in
    sym (cond-false (ltb (position_or_len p xs) (length xs)) (Some (position_or_len p xs)) None (le-ltb _ _ (omega arith)))

module _ (p : ℕ → Bool) (xs : List ℕ) (i n seen m : ℕ) (few : n ≤ 64) (room : i + n ≤ length xs)
    (before : (k : ℕ) → k < seen → p (get_or xs k 0) ≡ false) (mask : m ≡ mask_l (map p (chunk i n xs))) where
  -- the lowest bit of a run's mask stands for the first element that passes, where the run begins within what did not
  pub first_in_run : i ≤ seen → (m ≡ 0 → ⊥) → Some (i + count_trailing_zeros 64 m) ≡ position p xs
  first_in_run overlaps some =
      let run = chunk i n xs in
      let long = length-chunk i n xs room in
      let r = prefix_len (λ x. not (p x)) run in
      let bounded = run_in_chunk_le p xs i n r 0 room refl in
      let short : r < n = elim (cases_lt r n) [ inl less ↦ less | inr whole ↦ absurd (some (mask ∙ empty_mask p run (omega arith))) ] in
      let is = ap (count_trailing_zeros 64) mask ∙ trailing_mask_l p 64 run (omega arith) (elim (cases_lt 0 (mask_l (map p run))) [ inl more ↦ more | inr zero ↦ absurd (some (omega arith)) ]) in
      ap (λ k. Some (i + k)) is
      ∙ position_at p xs (i + r) (omega arith)
      (λ k below. elim (cases_lt k seen) [ inl early ↦ before k early | inr late ↦ run_in_chunk_fails p xs i n r 0 room refl k (omega arith) below ])
      (run_in_chunk_stops p xs i n r 0 room refl short)

  -- what did not pass, and a run of none that goes on from there or overlaps it
  pub none_further : i ≤ seen → m ≡ 0 → (k : ℕ) → k < i + n → p (get_or xs k 0) ≡ false
  none_further overlaps empty k below =
      elim (cases_lt k seen) [
        | inl early ↦ before k early
        | inr late ↦ none_from_empty_mask p xs i n 0 room (sym mask ∙ empty) k (omega arith) below
      ]
