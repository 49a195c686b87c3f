-- The tests of names, on the bytes of their texts.
use Rattle.std.specs.Prelude.{ℕ, Bool, true, false, List, [], ◌∷◌, ◌==◌, ◌&&◌, ◌||◌, not, length, nat_lt, nat_le, codes, if◌then◌else◌}
use Rattle.std.specs.List.{list_all}
use Rattle.std.specs.Cmp.Lexicographic.{pointwise}
use Rattle.std.specs.Prelude.{nat_eq}

-- a byte of a simple name: none of `.` `;` `[` `/` `<` `>`, none below U+0021, and not U+007F
abbrev pub is_name_byte : ℕ → Bool
is_name_byte b = nat_lt 32 b && not (b == 127) && not (b == 46) && not (b == 59) && not (b == 91) && not (b == 47) && not (b == 60) && not (b == 62)

-- one or more bytes of a simple name
abbrev pub is_plain_name : List ℕ → Bool
is_plain_name bs = nat_lt 0 (length bs) && list_all is_name_byte bs

-- a plain name, or the name of constructors
abbrev pub is_simple_name : List ℕ → Bool
is_simple_name bs = is_plain_name bs || pointwise nat_eq bs (codes "<init>")

-- plain names joined by dots, of which one has `begun` or not
abbrev pub is_dotted : Bool → List ℕ → Bool
is_dotted begun [] = begun
is_dotted begun (b ∷ bs) = if b == 46 then (begun && is_dotted false bs) else (is_name_byte b && is_dotted true bs)

-- the name of a class: one or more plain names joined by dots
abbrev pub is_class_name : List ℕ → Bool
is_class_name bs = is_dotted false bs

-- where a name that the inliner makes has come to: in its plain name, behind one slash, behind two, or in the digits of a
-- number, of which the first is no zero unless it stands alone
pub data Place : Type 0 where
  in_name : Place
  one_slash : Place
  two_slashes : Place
  lone_zero : Place
  in_number : Place

abbrev pub is_digit : ℕ → Bool
is_digit b = nat_le 48 b && nat_le b 57

-- the rest of a local or label name from this place on: `/` or `//` and a number, as often as it likes
abbrev pub is_inner_rest : Place → List ℕ → Bool
is_inner_rest in_name [] = true
is_inner_rest one_slash [] = false
is_inner_rest two_slashes [] = false
is_inner_rest lone_zero [] = true
is_inner_rest in_number [] = true
is_inner_rest in_name (b ∷ bs) = if is_name_byte b then is_inner_rest in_name bs else (b == 47 && is_inner_rest one_slash bs)
is_inner_rest one_slash (b ∷ bs) = if b == 47 then is_inner_rest two_slashes bs else (is_digit b && is_inner_rest (if b == 48 then lone_zero else in_number) bs)
is_inner_rest two_slashes (b ∷ bs) = is_digit b && is_inner_rest (if b == 48 then lone_zero else in_number) bs
is_inner_rest lone_zero (b ∷ bs) = b == 47 && is_inner_rest one_slash bs
is_inner_rest in_number (b ∷ bs) = if b == 47 then is_inner_rest one_slash bs else (is_digit b && is_inner_rest in_number bs)

-- the name of a local or a label: a plain name, or one that the inliner made of such a name
abbrev pub is_local_name : List ℕ → Bool
is_local_name [] = false
is_local_name (b ∷ bs) = is_name_byte b && is_inner_rest in_name bs
