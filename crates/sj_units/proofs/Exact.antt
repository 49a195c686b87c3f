-- Bytes are read as a text exactly where they are its bytes.
use Rattle.std.proofs.Common.{◌≡◌, ◌<◌, ◌≤◌, ◌^◌, ℕ, zero, suc, List, [], ◌∷◌, ◌++◌, Option, Some, None, option_map, length, arith, refl, ap, subst, ◌∙◌}
use Rattle.std.proofs.lemmas.List.Elements.{All-cons, All-head, All-tail}
use Rattle.sj_units.specs.Modified.{first_unit, unit_bytes, modified_units, modified_bytes, IsText, ReadsWhatIsWritten}
use Rattle.sj_units.proofs.FirstUnit.{units-first, shorter-first, units-none}
use Rattle.sj_units.proofs.OneUnit.{first_unit-unit_bytes, unit_bytes-first}

-- what a text is written as is read as the text
pub units-bytes : (units : List ℕ) → IsText units → modified_units (modified_bytes units) ≡ Some units
units-bytes [] fits = refl
units-bytes (unit ∷ units) fits =
    units-first (unit_bytes unit ++ modified_bytes units) (modified_bytes units) unit (first_unit-unit_bytes unit (modified_bytes units) (All-head (λ u. u < 2 ^ 16) unit units fits))
    ∙ ap (option_map (λ others. unit ∷ others)) (units-bytes units (All-tail (λ u. u < 2 ^ 16) unit units fits))

-- a text and its bytes
IsWritten : List ℕ → List ℕ → Type 0
IsWritten units bytes = IsText units × (modified_bytes units ≡ bytes)

-- where shorter bytes are read rightly, so are these
shorter_first : (bytes units : List ℕ) → ((rest others : List ℕ) → length rest < length bytes → modified_units rest ≡ Some others → IsWritten others rest) →
    0 < length bytes → modified_units bytes ≡ Some units → IsWritten units bytes
unfolding IsWritten
shorter_first bytes units shorter some e = by_first (first_unit bytes) refl
  where
    by_rest : (unit : ℕ) (rest : List ℕ) (found : Option (List ℕ)) → first_unit bytes ≡ Some (unit, rest) → modified_units rest ≡ found → IsWritten units bytes
    by_rest unit rest None first is =
        let none : modified_units bytes ≡ None = units-first bytes rest unit first ∙ ap (option_map (λ others. unit ∷ others)) is in
        cc
    by_rest unit rest (Some others) first is =
        let same : unit ∷ others ≡ units = let h : modified_units bytes ≡ Some (unit ∷ others) = units-first bytes rest unit first ∙ ap (option_map (λ others. unit ∷ others)) is in cc in
        let front = unit_bytes-first bytes rest unit first in
        let behind = shorter rest others (shorter-first bytes rest unit first) is in
        subst (λ us. IsWritten us bytes) same (All-cons (λ u. u < 2 ^ 16) unit others front.0 behind.0, ap (λ bs. unit_bytes unit ++ bs) behind.1 ∙ front.1)

    by_first : (first : Option (ℕ × List ℕ)) → first_unit bytes ≡ first → IsWritten units bytes
    by_first None is = let none = units-none bytes is some in cc
    by_first (Some x) is = by_rest x.0 x.1 (modified_units x.1) is refl

-- what is read as a text is written so; `n` bounds the length
bytes-units : (n : ℕ) (bytes units : List ℕ) → length bytes ≤ n → modified_units bytes ≡ Some units → IsWritten units bytes
unfolding IsWritten
bytes-units n [] units short e =
    let same : [] ≡ units = cc in
    subst (λ us. IsWritten us []) same ((λ k d h. absurd (omega arith)), refl)
bytes-units zero (a ∷ bytes) units short e = absurd (omega arith)
bytes-units (suc n) (a ∷ bytes) units short e =
    shorter_first (a ∷ bytes) units (λ rest others less is. bytes-units n rest others (omega arith) is) (omega arith) e

pub reads_what_is_written : ReadsWhatIsWritten
unfolding IsWritten
reads_what_is_written bytes units =
    ((λ e. bytes-units (length bytes) bytes units (omega arith) e), (λ written. subst (λ bs. modified_units bs ≡ Some units) written.1 (units-bytes units written.0)))

-- the bytes of what is read
pub modified_bytes_read : (bytes units : List ℕ) → modified_units bytes ≡ Some units → modified_bytes units ≡ bytes
modified_bytes_read bytes units e = ((reads_what_is_written bytes units).0 e).1
