-- What the grammar of class files is put together from, beside the grammars of `exact_place`: numbers, counts and values that a table names.
use Rattle.std.specs.Prelude.{◌≡◌, ◌<◌, ◌^◌, ℕ, zero, suc, Bool, true, false, List, [], ◌∷◌, length, Option, Some, None}
use Rattle.byteorder.specs.Endian.{big_number}
use Rattle.exact_place.specs.Grammar.{Spelling, ◌then◌, IsValue}

-- nothing is spelled so
pub record Never {A : Type 0} (x : A) (text : List ℕ) : Type 0 where
  pub never : ⊥

-- the value that is there, by no bytes
abbrev pub Found : {A : Type 0} → Option A → Spelling A
Found (Some value) = IsValue value
Found None = Never

-- the value, by no bytes, where the test holds
abbrev pub Tested : {A : Type 0} → Bool → A → Spelling A
Tested true value = IsValue value
Tested false value = Never

-- one byte
pub record IsByte (b : ℕ) (text : List ℕ) : Type 0 where
  pub byte : text ≡ b ∷ []
  pub small : b < 256

-- the n bytes of a number, high byte first
pub record IsNumber (n : ℕ) (number : ℕ) (text : List ℕ) : Type 0 where
  pub count : length text ≡ n
  pub value : number ≡ big_number n text
  pub small : number < 256 ^ n

-- n bytes as they are
pub record IsBytes (n : ℕ) (bytes : List ℕ) (text : List ℕ) : Type 0 where
  pub count : length text ≡ n
  pub same : bytes ≡ text

-- n things, one after the other
unfoldable pub IsEach : {A : Type 0} → Spelling A → ℕ → Spelling (List A)
IsEach P zero = IsValue []
IsEach P (suc n) = P then λ x. IsEach P n then λ xs. IsValue (x ∷ xs)

-- a count in four bytes, and so many things
abbrev pub IsCounted : {A : Type 0} → Spelling A → Spelling (List A)
IsCounted P = IsNumber 4 then λ n. IsEach P n
