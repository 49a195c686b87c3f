-- Marks, codes, signed numbers, positions and types.
use Rattle.std.specs.Prelude.{ℕ, ℤ, Bool, true, false, List, Option, Some, None, Ok, Err, ◌==◌, if◌then◌else◌}
use Rattle.std.specs.Int.{Width, cast_signed}
use Rattle.sj_names.specs.Grammar.{is_class_name}
use Rattle.sj_names.specs.declared.method_names.Namespace.{Namespace}
use Rattle.sj_trees.specs.declared.positions.Position.{Position}
use Rattle.sj_trees.specs.declared.types.IrType.{IrType}
use Rattle.sj_trees.specs.declared.types.IrType.TheVariants.{Array}
use Rattle.sj_trees.specs.Types.{class_type}
use Rattle.sj_trees.specs.declared.refusals.Reserved.{Reserved}
use Rattle.sj_trees.specs.declared.refusals.Code.TheVariants.{BadTag, Unsupported}
use Rattle.sj_read_spec.specs.Codes.{plain_types, reserved_types, namespaces, reserved_namespaces}
use Rattle.sj_trees.specs.Forms.{among}
use Rattle.exact_place.specs.Reading.{◌>>=◌}
use Rattle.sj_read_spec.specs.Reading.{Reading, fault, byte_at, number_at, found}
use Rattle.exact_place.specs.Grammar.{Spelling, ◌then◌, IsValue, chosen}
use Rattle.sj_read_spec.specs.Spelling.{Found, IsByte, IsNumber}
use Rattle.sj_read_spec.specs.Tables.{below_at, IsBelow, name_at, IsName}
use Rattle.sj_read_spec.specs.References.{array_reference_at, IsArrayReference}

-- what a code stands for; a code that is reserved is Unsupported, and any other is BadTag
abbrev pub coded : {A : Type 0} → Option A → Option Reserved → List ℕ → List ℕ → Reading A
coded (Some x) form front rest = Ok (x, rest)
coded None (Some form) front rest = Err (fault (Unsupported form) front)
coded None None front rest = Err (fault BadTag front)

abbrev pub code_at : {A : Type 0} → (ℕ → Option A) → (ℕ → Option Reserved) → List ℕ → Reading A
code_at meaning reserved bytes = byte_at bytes >>= λ code. coded (meaning code.0) (reserved code.0) bytes code.1

abbrev pub IsCode : {A : Type 0} → (ℕ → Option A) → Spelling A
IsCode meaning = IsByte then λ code. Found (meaning code)

-- a mark, 0 or 1
abbrev pub mark_with : ℕ → Option Bool
mark_with code = if code == 0 then Some false else if code == 1 then Some true else None

abbrev pub mark_at : List ℕ → Reading Bool
mark_at bytes = byte_at bytes >>= λ code. found BadTag (mark_with code.0) bytes code.1

abbrev pub IsMark : Spelling Bool
IsMark = IsCode mark_with

-- a thing that may be missing: 0, or 1 and the thing
abbrev pub option_of : {A : Type 0} → (List ℕ → Reading A) → Bool → List ℕ → Reading (Option A)
option_of read true bytes = read bytes >>= λ x. Ok (Some x.0, x.1)
option_of read false bytes = Ok (None, bytes)

abbrev pub option_at : {A : Type 0} → (List ℕ → Reading A) → List ℕ → Reading (Option A)
option_at read bytes = mark_at bytes >>= λ there. option_of read there.0 there.1

abbrev pub IsOptionOf : {A : Type 0} → Spelling A → Bool → Spelling (Option A)
IsOptionOf P true = P then λ x. IsValue (Some x)
IsOptionOf P false = IsValue None

abbrev pub IsOption : {A : Type 0} → Spelling A → Spelling (Option A)
IsOption P = IsMark then λ there. IsOptionOf P there

-- a signed number of n bytes in two's complement
abbrev pub signed_at : Width → ℕ → List ℕ → Reading ℤ
signed_at w n bytes = number_at n bytes >>= λ x. Ok (cast_signed w x.0, x.1)

abbrev pub IsSigned : Width → ℕ → Spelling ℤ
IsSigned w n = IsNumber n then λ x. IsValue (cast_signed w x)

-- a position: one of the source files, a line and a column
unfoldable pub position_at : ℕ → List ℕ → Reading Position
position_at files bytes = do
  file ← below_at files bytes
  line ← number_at 4 file.1
  column ← number_at 4 line.1
  Ok (record { file = file.0; line = line.0; column = column.0 }, column.1)

unfoldable pub IsPosition : ℕ → Spelling Position
IsPosition files = IsBelow files then λ file. IsNumber 4 then λ line. IsNumber 4 then λ column. IsValue (record { file = file; line = line; column = column })

-- a namespace
abbrev pub namespace_at : List ℕ → Reading Namespace
namespace_at bytes = code_at (among namespaces) (among reserved_namespaces) bytes

abbrev pub IsNamespace : Spelling Namespace
IsNamespace = IsCode (among namespaces)

-- a type behind its code: 12 and a class name, 13 and an array reference, or a code alone
unfoldable pub type_of : List (List ℕ) → ℕ → List ℕ → List ℕ → Reading IrType
type_of names code front rest = if code == 12 then (name_at is_class_name names rest >>= λ c. Ok (class_type c.0, c.1)) else if code == 13 then (array_reference_at names rest >>= λ a. Ok (Array a.0, a.1)) else coded (among plain_types code) (among reserved_types code) front rest

abbrev pub type_at : List (List ℕ) → List ℕ → Reading IrType
type_at names bytes = byte_at bytes >>= λ code. type_of names code.0 bytes code.1

unfoldable pub IsTypeOf : List (List ℕ) → ℕ → Spelling IrType
IsTypeOf names code = chosen (code == 12) (IsName is_class_name names then λ c. IsValue (class_type c)) (chosen (code == 13) (IsArrayReference names then λ a. IsValue (Array a)) (Found (among plain_types code)))

abbrev pub IsType : List (List ℕ) → Spelling IrType
IsType names = IsByte then λ code. IsTypeOf names code
