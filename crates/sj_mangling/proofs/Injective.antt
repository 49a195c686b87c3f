-- Mangled texts are read back.
use Rattle.std.proofs.Common.{◌≡◌, ◌+◌, ◌-◌, ◌*◌, ◌/◌, ◌%◌, ℕ, Bool, true, false, List, [], ◌∷◌, ◌++◌, refl, sym, ap, ◌∙◌, arith, append_assoc, Option, Some, None, if◌then◌else◌}
use Rattle.std.specs.Prelude.{◌==◌, nat_lt}
use Rattle.std.specs.Char.{digit_char}
use Rattle.sj_mangling.specs.Mangling.{is_alphanumeric, mangled_byte, mangled, MangledTextsDiffer}

-- the number of a hexadecimal digit
unfoldable pub digit_number : ℕ → ℕ
digit_number digit = if nat_lt digit 58 then digit - 48 else digit - 87

-- the byte that a mangled text begins with, and the text behind it
unfoldable pub escaped : List ℕ → Option (ℕ × List ℕ)
escaped [] = None
escaped (high ∷ []) = if high == 36 then Some (59, []) else None
escaped (high ∷ low ∷ rest) = if high == 36 then Some (59, low ∷ rest) else Some (digit_number high * 16 + digit_number low, rest)

unfoldable pub unmangled : List ℕ → Option (ℕ × List ℕ)
unmangled [] = None
unmangled (byte ∷ rest) = if byte == 95 then Some (46, rest) else if byte == 36 then escaped rest else Some (byte, rest)

digit_number-digit_char : (n : ℕ) → digit_number (digit_char n) ≡ n
unfolding digit_number
digit_number-digit_char n = grind arith

digit_char-plain : (n : ℕ) → (digit_char n == 36) ≡ false
digit_char-plain n = grind arith

escaped-semicolon : (rest : List ℕ) → escaped (36 ∷ rest) ≡ Some (59, rest)
unfolding escaped
escaped-semicolon [] = refl
escaped-semicolon (b ∷ rest) = refl

escaped-digits : (byte : ℕ) (rest : List ℕ) → escaped (digit_char (byte / 16) ∷ digit_char (byte % 16) ∷ rest) ≡ Some (byte, rest)
unfolding escaped
escaped-digits byte rest =
    let whole : digit_number (digit_char (byte / 16)) * 16 + digit_number (digit_char (byte % 16)) ≡ byte =
    rw (digit_number-digit_char (byte / 16), digit_number-digit_char (byte % 16)) (omega arith) in
    rw (digit_char-plain (byte / 16)) (ap (λ b. Some (b, rest)) whole)

-- a mangled byte is read back, whatever follows
pub unmangled-mangled_byte : (byte : ℕ) (rest : List ℕ) → unmangled (mangled_byte byte ++ rest) ≡ Some (byte, rest)
unfolding unmangled
unmangled-mangled_byte byte rest = by_kind (is_alphanumeric byte) (byte == 46) (byte == 59) refl refl refl
  where
    by_kind : (plain dot semicolon : Bool) → is_alphanumeric byte ≡ plain → (byte == 46) ≡ dot → (byte == 59) ≡ semicolon → unmangled (mangled_byte byte ++ rest) ≡ Some (byte, rest)
    by_kind true dot semicolon is is_dot is_semicolon =
        let other : (byte == 95) ≡ false = grind arith in
        let another : (byte == 36) ≡ false = grind arith in
        rw (is, other, another)
    by_kind false true semicolon is is_dot is_semicolon = let same : byte ≡ 46 = grind arith in rw (is, is_dot) (ap (λ b. Some (b, rest)) (sym same))
    by_kind false false true is is_dot is_semicolon = let same : byte ≡ 59 = grind arith in rw (is, is_dot, is_semicolon) (escaped-semicolon rest ∙ ap (λ b. Some (b, rest)) (sym same))
    by_kind false false false is is_dot is_semicolon = rw (is, is_dot, is_semicolon) (escaped-digits byte rest)

-- in front of any rest
pub mangled-cons : (byte : ℕ) (text rest : List ℕ) → unmangled (mangled (byte ∷ text) ++ rest) ≡ Some (byte, mangled text ++ rest)
mangled-cons byte text rest =
    ap unmangled (append_assoc (mangled_byte byte) (mangled text) rest) ∙ unmangled-mangled_byte byte (mangled text ++ rest)

-- what two equal readings have in common
pub same_reading : (x y : ℕ) (xs ys : List ℕ) → ◌≡◌ {A = Option (ℕ × List ℕ)} (Some (x, xs)) (Some (y, ys)) → (x ≡ y) × (xs ≡ ys)
same_reading x y xs ys e =
    let both : ◌≡◌ {A = ℕ × List ℕ} (x, xs) (y, ys) = cc in
    (ap (λ p. p.0) both, ap (λ p. p.1) both)

pub no_reading : (y : ℕ) (ys : List ℕ) → ◌≡◌ {A = Option (ℕ × List ℕ)} None (Some (y, ys)) → ⊥
no_reading y ys e = cc

pub same_cons : (x y : ℕ) (xs ys : List ℕ) → x ≡ y → xs ≡ ys → x ∷ xs ≡ y ∷ ys
same_cons x y xs ys first rest = cc

pub mangled_texts_differ : MangledTextsDiffer
unfolding unmangled
mangled_texts_differ [] [] same = refl
mangled_texts_differ [] (y ∷ ys) same = absurd (no_reading y (mangled ys) (ap unmangled same ∙ unmangled-mangled_byte y (mangled ys)))
mangled_texts_differ (x ∷ xs) [] same = absurd (no_reading x (mangled xs) (ap unmangled (sym same) ∙ unmangled-mangled_byte x (mangled xs)))
mangled_texts_differ (x ∷ xs) (y ∷ ys) same =
    let read = same_reading x y (mangled xs) (mangled ys) (sym (unmangled-mangled_byte x (mangled xs)) ∙ ap unmangled same ∙ unmangled-mangled_byte y (mangled ys)) in
    same_cons x y xs ys read.0 (mangled_texts_differ xs ys read.1)
