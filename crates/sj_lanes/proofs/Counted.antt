-- A count that each lane keeps for itself, and its sum.
use Rattle.std.proofs.Common.{◌≡◌, ◌+◌, ◌*◌, ◌<◌, ◌≤◌, ◌++◌, ◌^◌, ℕ, zero, suc, Bool, true, false, cond, eqb, List, [], ◌∷◌, length, take, drop, map, replicate, Fits, w8, w16, refl, sym, ap, ap₂, ◌∙◌, arith}
use Rattle.std.proofs.Math.Seq.{take-add}
use Rattle.std.proofs.lemmas.List.{drop-drop, length-map}
use Rattle.std.proofs.lemmas.List.Sums.{sum_by-append}
use Rattle.std.proofs.lemmas.List.Recursion.{is_count_by}
use Rattle.std.proofs.lemmas.Simd.{tops_compared, zip2_splat, length-zip2, sum-zip2, fold-sum, sum_bound, sum_fits, Each1-zip2, Each1-weaker, Each2-of}
use Rattle.std.specs.List.{count_by}
use lib.Lanes.{Each1, Each2, Steps, chunk, fold_l, sel_l, sum_l, top, zip2}

-- one where an element is y, and else zero
abbrev pub one_at : ℕ → ℕ → ℕ
one_at y x = cond (eqb x y) 1 0

sel_ones : (y : ℕ) (v : List ℕ) → sel_l (map (λ x. eqb x y) v) (replicate (length v) 1) (replicate (length v) 0) ≡ map (one_at y) v
sel_ones y [] = refl
sel_ones y (x ∷ v) = ap (λ r. one_at y x ∷ r) (sel_ones y v)

-- what a comparison with y selects of ones and zeros
pub selected : (y : ℕ) (v : List ℕ) (n : ℕ) → length v ≡ n
    → sel_l (map (top 7) (zip2 (λ a b. cond (eqb a b) 255 0) v (replicate n y))) (replicate n 1) (replicate n 0) ≡ map (one_at y) v
selected y v n long =
    let hits = tops_compared w8 eqb v (replicate n y) ∙ zip2_splat eqb v n y long in
    ap (λ bs. sel_l bs (replicate n 1) (replicate n 0)) hits
    ∙ ap (λ k. sel_l (map (λ x. eqb x y) v) (replicate k 1) (replicate k 0)) (sym long) ∙ sel_ones y v

one_at_small : (y : ℕ) (v : List ℕ) → Each1 (λ x. x ≤ 1) (map (one_at y) v)
one_at_small y [] = tt
one_at_small y (x ∷ v) = (small (eqb x y), one_at_small y v)
  where
    small : (b : Bool) → cond b 1 0 ≤ 1
    small true = omega arith
    small false = omega arith

sum_of_ones : (y : ℕ) (v : List ℕ) → sum_l (map (one_at y) v) ≡ count_by (λ x. eqb x y) v
sum_of_ones y = is_count_by (λ v. sum_l (map (one_at y) v)) (λ x. eqb x y) refl (λ x v. step (eqb x y) (sum_l (map (one_at y) v)))
  where
    step : (b : Bool) (rest : ℕ) → cond b 1 0 + rest ≡ cond b (1 + rest) rest
    step true rest = refl
    step false rest = omega arith

-- after k blocks of 64 bytes from `at` on, the lanes have counted the bytes that are y
pub record HasCounted (y at k : ℕ) (bytes counts : List ℕ) : Type 0 where
  pub long : length counts ≡ 64
  pub small : Each1 (λ x. x ≤ k) counts
  pub total : sum_l counts ≡ count_by (λ x. eqb x y) (chunk at (64 * k) bytes)

module _ (y at k : ℕ) (bytes counts : List ℕ) (so_far : HasCounted y at k bytes counts) where
  abbrev block : List ℕ
  block = map (one_at y) (chunk (at + 64 * k) 64 bytes)

  pub count_fits : k < 255 → Each2 (λ a b. Fits w8 (a + b)) counts block
  count_fits few =
      Each2-of (λ a. a ≤ k) (λ b. b ≤ 1) (λ a b. Fits w8 (a + b)) (λ a b small one. record { fits = omega arith }) counts block so_far.small (one_at_small y _)

  pub count_further : length (chunk (at + 64 * k) 64 bytes) ≡ 64 → HasCounted y at (k + 1) bytes (zip2 (λ a b. a + b) counts block)
  count_further full =
      let long = length-map (chunk (at + 64 * k) 64 bytes) (one_at y) ∙ full in
      let front = take-add (64 * k) 64 (drop at bytes) ∙ ap (λ r. take (64 * k) (drop at bytes) ++ take 64 r) (drop-drop (64 * k) at bytes) in
      let split = sum_by-append (λ x. cond (eqb x y) 1 0) (chunk at (64 * k) bytes) (chunk (at + 64 * k) 64 bytes) in
      let more = ap (λ n. count_by (λ x. eqb x y) (take n (drop at bytes))) (next k) ∙ ap (count_by (λ x. eqb x y)) front ∙ split in
      let sums = sum-zip2 counts block (so_far.long ∙ sym long) ∙ ap₂ (λ a b. a + b) so_far.total (sum_of_ones y (chunk (at + 64 * k) 64 bytes)) in
      record {
        long = length-zip2 (λ a b. a + b) counts block (so_far.long ∙ sym long) ∙ so_far.long;
        small = Each1-zip2 (λ a b. a + b) (λ x. x ≤ k + 1) counts block
            (Each2-of (λ a. a ≤ k) (λ b. b ≤ 1) (λ a b. a + b ≤ k + 1) (λ a b small one. omega arith) counts block so_far.small (one_at_small y _));
        total = sums ∙ sym more;
      }
    where
      next : (j : ℕ) → 64 * (j + 1) ≡ 64 * j + 64
      next j = omega arith

  pub count_widens : k ≤ 255 → Each1 (Fits w16) counts
  count_widens few = Each1-weaker (λ x. x ≤ k) (Fits w16) (λ x small. record { fits = omega arith }) counts so_far.small

  sum_below : k ≤ 255 → sum_l counts < 2 ^ 16
  sum_below few = omega (arith, sum_bound 255 counts (Each1-weaker (λ x. x ≤ k) (λ x. x ≤ 255) (λ x small. omega arith) counts so_far.small), so_far.long)

  pub sum_steps : k ≤ 255 → Steps (λ s x. Fits w16 (s + x)) (λ s x. s + x) 0 counts
  sum_steps few = sum_fits w16 0 counts (omega (arith, sum_below few))

  pub sum_is : fold_l (λ s x. s + x) 0 counts ≡ count_by (λ x. eqb x y) (chunk at (64 * k) bytes)
  sum_is = fold-sum 0 counts ∙ omega arith ∙ so_far.total

pub count_none : (y at : ℕ) (bytes : List ℕ) → HasCounted y at 0 bytes (replicate 64 0)
count_none y at bytes = record { long = refl; small = zeros 64; total = refl }
  where
    zeros : (n : ℕ) → Each1 (λ x. x ≤ 0) (replicate n 0)
    zeros zero = tt
    zeros (suc n) = (omega arith, zeros n)
