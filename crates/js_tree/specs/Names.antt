-- The names of the emitted subset.
pub use Rattle.sj_names.specs.WellKnown.{is_same_text}
use Rattle.std.specs.Prelude.{ℕ, Bool, true, false, List, [], ◌∷◌, ◌==◌, ◌&&◌, ◌||◌, not, nat_le, codes, if◌then◌else◌}
use Rattle.std.specs.List.{list_all, list_any}

-- a letter of ASCII
abbrev pub is_letter : ℕ → Bool
is_letter b = (nat_le 65 b && nat_le b 90) || (nat_le 97 b && nat_le b 122)

abbrev pub is_digit : ℕ → Bool
is_digit b = nat_le 48 b && nat_le b 57

-- `_`, `$` or a digit: no reserved word of ECMAScript has one, and no global name that the subset uses
abbrev pub is_mark : ℕ → Bool
is_mark b = b == 95 || b == 36 || is_digit b

abbrev pub is_name_character : ℕ → Bool
is_name_character b = is_letter b || is_mark b

abbrev pub is_empty : {A : Type 0} → List A → Bool
is_empty [] = true
is_empty (_ ∷ _) = false

-- the name of a binding or a label: letters, digits, `_` and `$`, no digit in front, and with a mark or one letter alone
abbrev pub is_name : List ℕ → Bool
is_name [] = false
is_name (b ∷ bs) = list_all is_name_character (b ∷ bs) && not (is_digit b) && (list_any is_mark (b ∷ bs) || is_empty bs)

-- two underscores in front
abbrev pub is_dunder : List ℕ → Bool
is_dunder [] = false
is_dunder (b ∷ []) = false
is_dunder (b ∷ c ∷ bs) = b == 95 && c == 95

-- the name of a property: a name without two underscores in front, or one of three words
abbrev pub is_property : List ℕ → Bool
is_property p = (is_name p && not (is_dunder p)) || is_same_text p (codes "length") || is_same_text p (codes "fill") || is_same_text p (codes "charCodeAt")

-- a small letter, a digit or `-`
abbrev pub is_file_character : ℕ → Bool
is_file_character b = (nat_le 97 b && nat_le b 122) || is_digit b || b == 45

-- the rest of the name of a file, behind one of its characters or none
abbrev pub is_file_rest : Bool → List ℕ → Bool
is_file_rest begun [] = false
is_file_rest begun (b ∷ bs) = if b == 46 then (begun && is_same_text bs (codes "js")) else (is_file_character b && is_file_rest true bs)

-- the name of a file of a module: one or more of its characters, then `.js`
abbrev pub is_file : List ℕ → Bool
is_file f = is_file_rest false f
