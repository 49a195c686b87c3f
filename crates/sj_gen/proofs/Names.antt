-- The names of the generated classes are names.
use Rattle.std.proofs.Common.{◌≡◌, ℕ, ◌<◌, ◌^◌, List, [], ◌∷◌, ◌++◌, refl, arith, Bool, true, false, ◌==◌, ◌&&◌, codes, if◌then◌else◌, decimal, rules}
use Rattle.std.specs.List.{list_all}
use Rattle.std.proofs.lemmas.Fmt.{digits_decimal}
use Rattle.std.proofs.lemmas.Str.Parse.{IsNumeralModel, numerals_by_fold}
use Rattle.std.specs.Str.Parse.{digits_value_after}
use Rattle.std.proofs.lemmas.Bool.Decides.{nat_tests}
use Rattle.sj_names.specs.Grammar.{is_digit, is_name_byte, is_dotted, is_class_name}

digit_is_name : (b : ℕ) → is_digit b ≡ true → is_name_byte b ≡ true
digit_is_name b h = grind (arith, nat_tests)

digit_is_no_dot : (b : ℕ) → is_digit b ≡ true → (b == 46) ≡ false
digit_is_no_dot b h = grind (arith, nat_tests)

first_holds : (a b : Bool) → a && b ≡ true → a ≡ true
first_holds true b h = refl
first_holds false b h = cc

rest_holds : (a b : Bool) → a && b ≡ true → b ≡ true
rest_holds true b h = h
rest_holds false b h = cc

digits_are_dotted : (bs : List ℕ) → list_all is_digit bs ≡ true → is_dotted true bs ≡ true
digits_are_dotted [] h = refl
digits_are_dotted (b ∷ bs) h =
    let d = digit_is_no_dot b (first_holds (is_digit b) (list_all is_digit bs) h) in
    let n = digit_is_name b (first_holds (is_digit b) (list_all is_digit bs) h) in
    let r = digits_are_dotted bs (rest_holds (is_digit b) (list_all is_digit bs) h) in
    λ i. if d i then (true && is_dotted false bs) else (n i && r i)

own : IsNumeralModel (λ ds. list_all is_digit ds ≡ true) (digits_value_after 10 0)
own = numerals_by_fold (λ ds. list_all is_digit ds ≡ true) (search rules) (digits_value_after 10) (search rules)

-- `G` and a number in decimal is the name of a class
pub numbered_class : (n : ℕ) → n < 2 ^ 64 → is_class_name (codes "G" ++ decimal n) ≡ true
numbered_class n h = digits_are_dotted (decimal n) (digits_decimal own n h)

pub decimal_digits : (n : ℕ) → n < 2 ^ 64 → list_all is_digit (decimal n) ≡ true
decimal_digits n h = digits_decimal own n h
