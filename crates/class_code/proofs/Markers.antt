-- The marker of a class is read back as the class.
use Rattle.std.proofs.Common.{◌≡◌, ◌+◌, ◌*◌, ◌/◌, ◌%◌, ℕ, Bool, true, false, List, [], ◌∷◌, ◌++◌, refl, sym, ap, ◌∙◌, arith, Some, None, if◌then◌else◌}
use Rattle.std.specs.Prelude.{◌==◌, ◌&&◌}
use Rattle.std.specs.Char.{digit_char}
use Rattle.std.specs.Str.{is_utf8}
use Rattle.std.proofs.lemmas.Bool.{and_from}
use Rattle.js_mean.specs.Shows.{digit_value, with_byte, read_back, plainly, escaped, if_marker}
use Rattle.sj_mangling.specs.Bindings.{class_binding}
use Rattle.sj_mangling.specs.Mangling.{is_alphanumeric, mangled_byte, mangled}
use Rattle.sj_mangling.specs.declared.bindings.ClassBinding.TheVariants.{Marker}
use Rattle.sj_names.proofs.Same.{text-refl}
use Rattle.sj_names.specs.Grammar.{is_class_name}
use Rattle.sj_names.specs.Same.{is_same_text}
use Rattle.class_code.specs.Markers.{MarkersTellClasses}

digit-read : (n : ℕ) → digit_value (digit_char n) ≡ n
digit-read n = grind arith

digit-plain : (n : ℕ) → (digit_char n == 36) ≡ false
digit-plain n = grind arith

read-digits : (byte : ℕ) (rest : List ℕ) → read_back escaped (digit_char (byte / 16) ∷ digit_char (byte % 16) ∷ rest) ≡ with_byte byte (read_back plainly rest)
read-digits byte rest =
    let whole : digit_value (digit_char (byte / 16)) * 16 + digit_value (digit_char (byte % 16)) ≡ byte =
    rw (digit-read (byte / 16), digit-read (byte % 16)) (omega arith) in
    rw (digit-plain (byte / 16)) (ap (λ b. with_byte b (read_back plainly rest)) whole)

read-byte : (byte : ℕ) (rest : List ℕ) → read_back plainly (mangled_byte byte ++ rest) ≡ with_byte byte (read_back plainly rest)
read-byte byte rest = by_kind (is_alphanumeric byte) (byte == 46) (byte == 59) refl refl refl
  where
    by_kind : (plain dot semicolon : Bool) → is_alphanumeric byte ≡ plain → (byte == 46) ≡ dot → (byte == 59) ≡ semicolon → read_back plainly (mangled_byte byte ++ rest) ≡ with_byte byte (read_back plainly rest)
    by_kind true dot semicolon is is_dot is_semicolon =
        let other : (byte == 95) ≡ false = grind arith in
        let another : (byte == 36) ≡ false = grind arith in
        rw (is, another, other)
    by_kind false true semicolon is is_dot is_semicolon = let same : byte ≡ 46 = grind arith in rw (is, is_dot) (ap (λ b. with_byte b (read_back plainly rest)) (sym same))
    by_kind false false true is is_dot is_semicolon = let same : byte ≡ 59 = grind arith in rw (is, is_dot, is_semicolon) (ap (λ b. with_byte b (read_back plainly rest)) (sym same))
    by_kind false false false is is_dot is_semicolon = rw (is, is_dot, is_semicolon) (read-digits byte rest)

read-mangled : (c : List ℕ) → read_back plainly (mangled c) ≡ Some c
read-mangled [] = refl
read-mangled (b ∷ bs) = read-byte b (mangled bs) ∙ ap (with_byte b) (read-mangled bs)

pub marked : MarkersTellClasses
marked c named utf8 = ap (if_marker (class_binding Marker c)) (read-mangled c) ∙ ap (λ (t : Bool). if t then Some c else None) (and_from (is_class_name c && is_utf8 c) (is_same_text (class_binding Marker c) (class_binding Marker c)) (and_from (is_class_name c) (is_utf8 c) named utf8) (text-refl (class_binding Marker c)))
