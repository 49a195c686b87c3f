-- Reading a list of bytes from left to right: a value and the bytes after it, or the first fault. A fault holds how many bytes
-- are left at its place, so that no reader is handed an offset.
use Rattle.std.specs.Prelude.{ℕ, zero, suc, ◌^◌, ◌&&◌, Bool, true, false, List, [], ◌∷◌, length, take, drop, nat_lt, nat_le, Option, Some, None, Result, Ok, Err, if◌then◌else◌}
use Rattle.byteorder.specs.Endian.{big_number}
use Rattle.exact_place.specs.Reading.{◌>>=◌}
use Rattle.sj_read_spec.specs.declared.faults.Fault.{Fault}
use Rattle.sj_trees.specs.declared.refusals.Code.{Code}
use Rattle.sj_trees.specs.declared.refusals.Code.TheVariants.{Truncated}

abbrev pub Reading : Type 0 → Type 0
Reading A = Result (A × List ℕ) Fault

-- a fault at the place where these bytes are left
abbrev pub fault : Code → List ℕ → Fault
fault code bytes = record { code = code; left = length bytes }

-- one byte
abbrev pub byte_at : List ℕ → Reading ℕ
byte_at [] = Err (fault Truncated [])
byte_at (b ∷ rest) = if nat_lt b 256 then Ok (b, rest) else Err (fault Truncated (b ∷ rest))

-- n bytes, high byte first, as a number
abbrev pub number_at : ℕ → List ℕ → Reading ℕ
number_at n bytes = if nat_le n (length bytes) && nat_lt (big_number n bytes) (256 ^ n) then Ok (big_number n bytes, drop n bytes) else Err (fault Truncated bytes)

-- n bytes as they are
abbrev pub bytes_at : ℕ → List ℕ → Reading (List ℕ)
bytes_at n bytes = if nat_lt (length bytes) n then Err (fault Truncated bytes) else Ok (take n bytes, drop n bytes)

-- what was found for a field, or this fault where the field begins
abbrev pub found : {A : Type 0} → Code → Option A → List ℕ → List ℕ → Reading A
found code (Some x) front rest = Ok (x, rest)
found code None front rest = Err (fault code front)

-- a value that meets a test, or this fault where the field begins
abbrev pub tested : {A : Type 0} → Code → Bool → A → List ℕ → List ℕ → Reading A
tested code true x front rest = Ok (x, rest)
tested code false x front rest = Err (fault code front)

-- n things, one after the other
unfoldable pub many_at : {A : Type 0} → (List ℕ → Reading A) → ℕ → List ℕ → Reading (List A)
many_at read zero bytes = Ok ([], bytes)
many_at read (suc n) bytes = do
  first ← read bytes
  others ← many_at read n first.1
  Ok (first.0 ∷ others.0, others.1)

-- a count in four bytes, and so many things
abbrev pub list_at : {A : Type 0} → (List ℕ → Reading A) → List ℕ → Reading (List A)
list_at read bytes = number_at 4 bytes >>= λ n. many_at read n.0 n.1
