-- Plain numerals.
use Rattle.std.proofs.Common.{◌≡◌, ℕ, ◌<◌, ◌^◌, Bool, true, false, List, [], ◌∷◌, Some, None, refl, sym, ap, arith, ◌&&◌, not, nat_le, drop, cond, ◌==◌, subst, if◌then◌else◌}
use Rattle.std.specs.List.{list_all}
use Rattle.std.specs.Str.Parse.{digits_value, IsNumeral, AllDigits, without_leading_plus}
use Rattle.std.specs.Char.{digit_value}
use Rattle.std.proofs.lemmas.Bool.Decides.{nat_tests}
use Rattle.sj_words.specs.Command.{is_digit, is_plain_numeral, number_of, most_classes}

digit_is : (c : ℕ) → is_digit c ≡ true → digit_value c < 10
digit_is c h = grind (arith, nat_tests)

first_holds : (a b : Bool) → a && b ≡ true → a ≡ true
first_holds true b h = refl
first_holds false b h = cc

rest_holds : (a b : Bool) → a && b ≡ true → b ≡ true
rest_holds true b h = h
rest_holds false b h = cc

all_digits : (cs : List ℕ) → list_all is_digit cs ≡ true → AllDigits 10 cs
all_digits [] h = tt
all_digits (c ∷ cs) h = (digit_is c (first_holds (is_digit c) (list_all is_digit cs) h), all_digits cs (rest_holds (is_digit c) (list_all is_digit cs) h))

plus_or_digit : (b : ℕ) → is_digit b ≡ true → (b == 43) ≡ false
plus_or_digit b h = grind (arith, nat_tests)

not_plus : (b : ℕ) (bs : List ℕ) → is_digit b ≡ true → without_leading_plus (b ∷ bs) ≡ b ∷ bs
not_plus b bs h = ap (λ (t : Bool). drop (cond t 1 0) (b ∷ bs)) (plus_or_digit b h)

-- with b for the first digit: what is tested of it, and of all
is_above : (n : ℕ) → (n < 2 ^ 32 → ⊥) → nat_le n most_classes ≡ false
is_above n above = grind (arith, nat_tests)

nothing_numbered : (p : Bool) (n : ℕ) → nat_le n most_classes ≡ false → None ≡ (if p && nat_le n most_classes then Some n else None)
nothing_numbered true n above = ap (λ (t : Bool). if t then Some n else None) (sym above)
nothing_numbered false n above = refl

-- a plain numeral that isn't read is above the greatest number
pub refused_number : (word : List ℕ) → is_plain_numeral word ≡ true → (IsNumeral 10 (without_leading_plus word) × (digits_value 10 (without_leading_plus word) < 2 ^ 32) → ⊥) → None ≡ number_of word
refused_number [] h unread = refl
refused_number (b ∷ bs) h unread = nothing_numbered (is_plain_numeral (b ∷ bs)) (digits_value 10 (b ∷ bs)) (is_above (digits_value 10 (b ∷ bs)) (λ small. unread (read small)))
  where
    digits : list_all is_digit (b ∷ bs) ≡ true
    digits = rest_holds (not (b == 48)) (list_all is_digit (b ∷ bs)) h

    whole : without_leading_plus (b ∷ bs) ≡ b ∷ bs
    whole = not_plus b bs (first_holds (is_digit b) (list_all is_digit bs) digits)

    read : digits_value 10 (b ∷ bs) < 2 ^ 32 → IsNumeral 10 (without_leading_plus (b ∷ bs)) × (digits_value 10 (without_leading_plus (b ∷ bs)) < 2 ^ 32)
    read small = let P : List ℕ → Type 0 = λ w. IsNumeral 10 w × (digits_value 10 w < 2 ^ 32) in subst P (sym whole) ((omega arith, all_digits (b ∷ bs) digits), small)
