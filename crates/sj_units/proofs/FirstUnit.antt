-- A text is read unit by unit.
use Rattle.std.proofs.Common.{◌≡◌, ◌<◌, ℕ, List, [], ◌∷◌, ◌++◌, Option, Some, None, option_map, length, arith, append_assoc, refl, sym, ap, ◌∙◌, Bool, true, false, is_some, if◌then◌else◌}
use Rattle.sj_units.specs.Modified.{first_unit, modified_units, is_one_byte, is_two_bytes, is_three_bytes, unit_of_two, unit_of_three}

-- the first of three that is chosen
abbrev picked : Bool → Bool → Bool → ℕ × List ℕ → ℕ × List ℕ → ℕ × List ℕ → Option (ℕ × List ℕ)
picked p q r one two three = if p then Some one else if q then Some two else if r then Some three else None

-- one choice made twice among three
choices : (p q r : Bool) (f : ℕ → List ℕ → Option (List ℕ)) (one two three unit : ℕ) (after_one after_two after_three rest : List ℕ) →
    picked p q r (one, after_one) (two, after_two) (three, after_three) ≡ Some (unit, rest) →
    (if p then f one after_one else if q then f two after_two else if r then f three after_three else None) ≡ f unit rest
choices true q r f one two three unit after_one after_two after_three rest e = grind arith
choices false true r f one two three unit after_one after_two after_three rest e = grind arith
choices false false true f one two three unit after_one after_two after_three rest e = grind arith
choices false false false f one two three unit after_one after_two after_three rest e = grind arith

-- the units of a text are its first one and those of the rest
pub units-first : (bytes rest : List ℕ) (unit : ℕ) → first_unit bytes ≡ Some (unit, rest) → modified_units bytes ≡ option_map (λ units. unit ∷ units) (modified_units rest)
units-first [] rest unit e = grind arith
units-first (a ∷ []) rest unit e = grind arith
units-first (a ∷ b ∷ []) rest unit e = grind arith
units-first (a ∷ b ∷ c ∷ others) rest unit e =
    choices (is_one_byte a) (is_two_bytes a b) (is_three_bytes a b c) (λ first bytes. option_map (λ units. first ∷ units) (modified_units bytes))
    a (unit_of_two a b) (unit_of_three a b c) unit (b ∷ c ∷ others) (c ∷ others) others rest e

pub shorter-first : (bytes rest : List ℕ) (unit : ℕ) → first_unit bytes ≡ Some (unit, rest) → length rest < length bytes
shorter-first [] rest unit e = grind arith
shorter-first (a ∷ []) rest unit e = grind arith
shorter-first (a ∷ b ∷ []) rest unit e = grind arith
shorter-first (a ∷ b ∷ c ∷ others) rest unit e = grind arith

-- bytes that begin with no unit are no text, or the empty one
pub units-none : (bytes : List ℕ) → first_unit bytes ≡ None → 0 < length bytes → modified_units bytes ≡ None
units-none [] e some = grind arith
units-none (a ∷ []) e some = grind arith
units-none (a ∷ b ∷ []) e some = grind arith
units-none (a ∷ b ∷ c ∷ others) e some = grind arith

-- where the first unit is told, the rest of the text is as good as the text
pub is_some-rest : (bytes rest : List ℕ) (unit : ℕ) (b : Bool) → Some (unit, rest) ≡ first_unit bytes → is_some (modified_units bytes) ≡ b → is_some (modified_units rest) ≡ b
is_some-rest bytes rest unit b first known = sym (is_some-map (modified_units rest) unit) ∙ sym (ap is_some (units-first bytes rest unit (sym first))) ∙ known
  where
    is_some-map : (found : Option (List ℕ)) (unit : ℕ) → is_some (option_map (λ units. unit ∷ units) found) ≡ is_some found
    is_some-map None unit = refl
    is_some-map (Some x) unit = refl

-- one unit more has been read
pub units-more : (units more bytes rest : List ℕ) (unit : ℕ) (all : Option (List ℕ)) → Some (unit, rest) ≡ first_unit bytes → more ≡ units ++ unit ∷ [] →
    option_map (λ others. units ++ others) (modified_units bytes) ≡ all → option_map (λ others. more ++ others) (modified_units rest) ≡ all
units-more units more bytes rest unit all first pushed known =
    regroup (modified_units rest) ∙ ap (option_map (λ others. units ++ others)) (sym (units-first bytes rest unit (sym first))) ∙ known
  where
    regroup : (found : Option (List ℕ)) → option_map (λ others. more ++ others) found ≡ option_map (λ others. units ++ others) (option_map (λ others. unit ∷ others) found)
    regroup None = refl
    regroup (Some x) = ap Some (rw (pushed, append_assoc) refl)
