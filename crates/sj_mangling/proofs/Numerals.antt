-- Numerals differ, and are those that are printed.
use Rattle.std.proofs.Common.{◌≡◌, ◌<◌, ◌+◌, ◌^◌, ℕ, zero, suc, List, [], ◌∷◌, map, refl, sym, ap, arith, get_or}
use Rattle.std.specs.Prelude.{decimal}
use Rattle.std.specs.Int.Digits.{digits_of}
use Rattle.std.proofs.lemmas.Int.Digits.{same_from_digits_of, first_digits_of}
use Rattle.std.proofs.lemmas.Fmt.{decimal-digits_of, decimal_digit}
use Rattle.sj_mangling.specs.Numerals.{number_text, NumeralsDiffer}

same_heads : (x y : ℕ) (xs ys : List ℕ) → x ∷ xs ≡ y ∷ ys → (x ≡ y) × (xs ≡ ys)
same_heads x y xs ys e = (ap (λ l. get_or l 0 0) e, cc)

same_map : (xs ys : List ℕ) → map (λ d. 48 + d) xs ≡ map (λ d. 48 + d) ys → xs ≡ ys
same_map [] [] e = refl
same_map [] (y ∷ ys) e = absurd (cc)
same_map (x ∷ xs) [] e = absurd (cc)
same_map (x ∷ xs) (y ∷ ys) e =
    let h = same_heads (48 + x) (48 + y) (map (λ d. 48 + d) xs) (map (λ d. 48 + d) ys) e in
    let first : x ≡ y = omega (arith, h.0) in
    let rest : xs ≡ ys = same_map xs ys h.1 in
    cc

not_zero : (ds : List ℕ) → 0 < get_or ds 0 0 → 48 ∷ [] ≡ map (λ d. 48 + d) ds → ⊥
not_zero [] h e = omega (arith, h)
not_zero (d ∷ ds) h e = let k = same_heads 48 (48 + d) [] (map (λ d. 48 + d) ds) e in omega (arith, h, k.0)

pub numerals_differ : NumeralsDiffer
numerals_differ zero zero e = refl
numerals_differ zero (suc n) e = absurd (not_zero (digits_of 10 (suc n)) (first_digits_of 10 (suc n) (omega arith) (omega arith)) e)
numerals_differ (suc m) zero e = absurd (not_zero (digits_of 10 (suc m)) (first_digits_of 10 (suc m) (omega arith) (omega arith)) (sym e))
numerals_differ (suc m) (suc n) e = same_from_digits_of 10 (suc m) (suc n) (omega arith) (same_map (digits_of 10 (suc m)) (digits_of 10 (suc n)) e)

-- below 64 bits the numeral is what a number is printed as
pub number_text-decimal : (n : ℕ) → n < 2 ^ 64 → number_text n ≡ decimal n
number_text-decimal zero h = sym (decimal_digit 0 (omega arith))
number_text-decimal (suc n) h = sym (decimal-digits_of (suc n) (omega arith) h)
