-- Two lists that are compared a run at a time.
use Rattle.std.proofs.Common.{◌≡◌, ◌↔◌, ◌+◌, ◌≤◌, ◌++◌, ◌%◌, ◌^◌, ◌*◌, ℕ, Bool, true, not, cond, eqb, List, [], ◌∷◌, length, take, map, refl, sym, ap, ap₂, ◌∙◌, w8, arith, inl, inr}
use Rattle.std.proofs.Math.Seq.{take-add}
use Rattle.std.proofs.lemmas.Bool.{cases_Bool, eq-eqb, eqb-true}
use Rattle.std.proofs.lemmas.List.{take-take, take_all}
use Rattle.std.proofs.lemmas.Simd.{tops_compared, mask_l-mod, length-zip2}
use lib.Lanes.{chunk, mask_l, top, zip2}

abbrev differ : ℕ → ℕ → Bool
differ x y = not (eqb x y)

abbrev bit : Bool → ℕ
bit b = cond b 1 0

same_from_mask : (xs ys : List ℕ) → length xs ≡ length ys → mask_l (zip2 differ xs ys) ≡ 0 → xs ≡ ys
same_from_mask [] [] long none = refl
same_from_mask [] (y ∷ ys) long none = absurd (omega arith)
same_from_mask (x ∷ xs) [] long none = absurd (omega arith)
same_from_mask (x ∷ xs) (y ∷ ys) long none =
    elim (cases_Bool (eqb x y)) [
      | inl same ↦ let alike = ap (λ b. bit (not b)) same in ap₂ (λ a b. a ∷ b) (eqb-true x y same) (same_from_mask xs ys (omega arith) (omega arith))
      | inr other ↦ let apart = ap (λ b. bit (not b)) other in absurd (omega arith)
    ]

mask_of_same : (xs : List ℕ) → mask_l (zip2 differ xs xs) ≡ 0
mask_of_same [] = refl
mask_of_same (x ∷ xs) = ap₂ (λ b m. bit (not b) + 2 * m) (eq-eqb x x refl) (mask_of_same xs)

-- no lane of two vectors differs where they are the same list
pub lanes_same : (xs ys : List ℕ) (n : ℕ) → length xs ≡ n → length ys ≡ n → n ≤ 64
    → (eqb (mask_l (map (top 7) (zip2 (λ a b. cond (differ a b) 255 0) xs ys)) % 2 ^ 64) 0 ≡ true) ↔ (xs ≡ ys)
lanes_same xs ys n long also few =
    let both = length-zip2 differ xs ys (long ∙ sym also) in
    let is = ap (λ bs. mask_l bs % 2 ^ 64) (tops_compared w8 differ xs ys) ∙ mask_l-mod (zip2 differ xs ys) 64 (omega arith) in (
      λ none. same_from_mask xs ys (long ∙ sym also) (sym is ∙ eqb-true _ _ none),
      λ same. eq-eqb _ _ (is ∙ ap (λ zs. mask_l (zip2 differ xs zs)) (sym same) ∙ mask_of_same xs),
    )

-- one more run
pub same_further : (xs ys : List ℕ) (i n : ℕ) → take i xs ≡ take i ys → chunk i n xs ≡ chunk i n ys → take (i + n) xs ≡ take (i + n) ys
same_further xs ys i n front run = take-add i n xs ∙ ap₂ (λ a b. a ++ b) front run ∙ sym (take-add i n ys)

-- a last run that overlaps what was compared
pub same_to_end : (xs ys : List ℕ) (i n seen : ℕ) → length xs ≡ length ys → i + n ≡ length xs → i ≤ seen → take seen xs ≡ take seen ys → chunk i n xs ≡ chunk i n ys → xs ≡ ys
same_to_end xs ys i n seen long ends overlaps front run =
    let begin = sym (take-take i seen xs overlaps) ∙ ap (take i) front ∙ take-take i seen ys overlaps in
    sym (take_all (i + n) xs (omega arith)) ∙ same_further xs ys i n begin run ∙ take_all (i + n) ys (omega arith)
