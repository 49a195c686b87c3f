-- A class as the fields of its file, one behind the other.
use Rattle.std.specs.Prelude.{ℕ, ℤ, Bool, true, false, List, [], ◌∷◌, length, slice_get, Option, Some, None}
use Rattle.std.specs.Int.{Width, cast_unsigned}
use Rattle.sj_names.specs.declared.method_names.MethodName.{MethodName}
use Rattle.sj_trees.specs.declared.positions.Position.{Position}

-- fields of a file: a number in so many bytes, bytes as they are, and what the class names by an index: a name, the name of a
-- method, a string, and the text of a position's source file, if there is one
pub data Fields : Type 0 where
  nothing : Fields
  number_field : ℕ → ℕ → Fields
  plain_field : List ℕ → Fields
  name_field : List ℕ → Fields
  method_field : MethodName → Fields
  string_field : List ℕ → Fields
  file_field : Option (List ℕ) → Fields
  both : Fields → Fields → Fields

infixr 10 ◌▸◌
-- the one and behind it the other
abbrev pub ◌▸◌ : Fields → Fields → Fields
fs ▸ gs = both fs gs

-- one byte
abbrev pub byte : ℕ → Fields
byte code = number_field 1 code

-- a mark, 0 or 1
abbrev pub mark : Bool → Fields
mark false = byte 0
mark true = byte 1

-- a signed number of this width in n bytes
abbrev pub signed : Width → ℕ → ℤ → Fields
signed w n z = number_field n (cast_unsigned w z)

-- how many there are
abbrev pub count : ℕ → Fields
count n = number_field 4 n

-- each of a list
abbrev pub each : {A : Type 0} → (A → Fields) → List A → Fields
each fields [] = nothing
each fields (x ∷ xs) = fields x ▸ each fields xs

-- how many there are, and each
abbrev pub list_fields : {A : Type 0} → (A → Fields) → List A → Fields
list_fields fields xs = count (length xs) ▸ each fields xs

-- a thing that may be missing
abbrev pub option_fields : {A : Type 0} → (A → Fields) → Option A → Fields
option_fields fields None = mark false
option_fields fields (Some x) = mark true ▸ fields x

-- a position in these source files: its file, line and column
abbrev pub position_fields : List (List ℕ) → Position → Fields
position_fields sources p = file_field (slice_get sources p.file) ▸ number_field 4 p.line ▸ number_field 4 p.column

-- each position has its source file
abbrev pub HasFiles : Fields → Type 0
HasFiles (file_field None) = ⊥
HasFiles (both fs gs) = HasFiles fs × HasFiles gs
HasFiles other = Unit {0}
