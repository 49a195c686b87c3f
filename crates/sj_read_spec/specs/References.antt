-- References to types, and method names.
use Rattle.std.specs.Prelude.{ℕ, List, Option, Some, None, Ok, ◌==◌, nat_lt, if◌then◌else◌}
use Rattle.sj_names.specs.Grammar.{is_class_name, is_simple_name}
use Rattle.sj_names.specs.declared.references.TypeRef.{TypeRef}
use Rattle.sj_names.specs.declared.references.TypeRef.TheVariants.{Void, Boolean, Char, Byte, Short, Int, Long, Class, Array}
use Rattle.sj_names.specs.declared.references.BaseRef.{BaseRef}
use Rattle.sj_names.specs.declared.references.BaseRef.TheVariants as bases
use Rattle.sj_names.specs.declared.references.ArrayRef.{ArrayRef}
use Rattle.sj_names.specs.declared.method_names.MethodName.{MethodName}
use Rattle.sj_trees.specs.declared.refusals.Code.TheVariants.{BadTag}
use Rattle.exact_place.specs.Reading.{◌>>=◌}
use Rattle.sj_read_spec.specs.Reading.{Reading, byte_at, found, tested, list_at}
use Rattle.exact_place.specs.Grammar.{Spelling, ◌then◌, IsValue, chosen}
use Rattle.sj_read_spec.specs.Spelling.{Found, Tested, IsByte, IsCounted}
use Rattle.sj_read_spec.specs.Tables.{name_at, IsName}

-- the base of an array that one code gives: 2 Z, 3 C, 4 B, 5 S, 6 I, 7 J
abbrev pub plain_base : ℕ → Option BaseRef
plain_base code = if code == 2 then Some bases.Boolean else if code == 3 then Some bases.Char else if code == 4 then Some bases.Byte else if code == 5 then Some bases.Short else if code == 6 then Some bases.Int else if code == 7 then Some bases.Long else None

-- the same for a reference that is no class and no array, and not V
abbrev pub plain_reference : ℕ → Option TypeRef
plain_reference code = if code == 2 then Some Boolean else if code == 3 then Some Char else if code == 4 then Some Byte else if code == 5 then Some Short else if code == 6 then Some Int else if code == 7 then Some Long else None

-- the base of an array: 8 and a class name, or a code alone
abbrev pub base_of : List (List ℕ) → ℕ → List ℕ → List ℕ → Reading BaseRef
base_of names code front rest = if code == 8 then (name_at is_class_name names rest >>= λ c. Ok (bases.Class c.0, c.1)) else found BadTag (plain_base code) front rest

abbrev pub base_at : List (List ℕ) → List ℕ → Reading BaseRef
base_at names bytes = byte_at bytes >>= λ code. base_of names code.0 bytes code.1

abbrev pub IsBase : List (List ℕ) → Spelling BaseRef
IsBase names = IsByte then λ code. chosen (code == 8) (IsName is_class_name names then λ c. IsValue (bases.Class c)) (Found (plain_base code))

-- an array behind its code: how many dimensions, at least one, and the base
abbrev pub dimensions_at : List ℕ → Reading ℕ
dimensions_at bytes = byte_at bytes >>= λ n. tested BadTag (nat_lt 0 n.0) n.0 bytes n.1

unfoldable pub array_at : List (List ℕ) → List ℕ → Reading ArrayRef
array_at names bytes = dimensions_at bytes >>= λ n. base_at names n.1 >>= λ base. Ok (record { dimensions = n.0; base = base.0 }, base.1)

unfoldable pub IsArray : List (List ℕ) → Spelling ArrayRef
IsArray names = (IsByte then λ n. Tested (nat_lt 0 n) n) then λ n. IsBase names then λ base. IsValue (record { dimensions = n; base = base })

-- an array with its code, 9
unfoldable pub array_reference_at : List (List ℕ) → List ℕ → Reading ArrayRef
array_reference_at names bytes = byte_at bytes >>= λ code. tested BadTag (code.0 == 9) code.0 bytes code.1 >>= λ nine. array_at names nine.1

unfoldable pub IsArrayReference : List (List ℕ) → Spelling ArrayRef
IsArrayReference names = IsByte then λ code. Tested (code == 9) code then λ nine. IsArray names

-- a reference other than V behind its code: 8 and a class name, 9 and an array, or a code alone
unfoldable pub reference_of : List (List ℕ) → ℕ → List ℕ → List ℕ → Reading TypeRef
reference_of names code front rest = if code == 8 then (name_at is_class_name names rest >>= λ c. Ok (Class c.0, c.1)) else if code == 9 then (array_at names rest >>= λ a. Ok (Array a.0, a.1)) else found BadTag (plain_reference code) front rest

unfoldable pub IsReference : List (List ℕ) → ℕ → Spelling TypeRef
IsReference names code = chosen (code == 8) (IsName is_class_name names then λ c. IsValue (Class c)) (chosen (code == 9) (IsArray names then λ a. IsValue (Array a)) (Found (plain_reference code)))

-- the reference of a parameter
abbrev pub parameter_at : List (List ℕ) → List ℕ → Reading TypeRef
parameter_at names bytes = byte_at bytes >>= λ code. reference_of names code.0 bytes code.1

abbrev pub IsParameter : List (List ℕ) → Spelling TypeRef
IsParameter names = IsByte then λ code. IsReference names code

-- the reference of a result: 0 for none, as a reflective proxy has it, 1 for V, or as for a parameter
abbrev pub result_of : List (List ℕ) → ℕ → List ℕ → List ℕ → Reading (Option TypeRef)
result_of names code front rest = if code == 0 then Ok (None, rest) else if code == 1 then Ok (Some Void, rest) else (reference_of names code front rest >>= λ r. Ok (Some r.0, r.1))

abbrev pub result_at : List (List ℕ) → List ℕ → Reading (Option TypeRef)
result_at names bytes = byte_at bytes >>= λ code. result_of names code.0 bytes code.1

abbrev pub IsResult : List (List ℕ) → Spelling (Option TypeRef)
IsResult names = IsByte then λ code. chosen (code == 0) (IsValue None) (chosen (code == 1) (IsValue (Some Void)) (IsReference names code then λ r. IsValue (Some r)))

-- an entry of the table of method names: a simple name, the parameters and the result
unfoldable pub method_name_at : List (List ℕ) → List ℕ → Reading MethodName
method_name_at names bytes = do
  simple ← name_at is_simple_name names bytes
  params ← list_at (parameter_at names) simple.1
  result ← result_at names params.1
  Ok (record { simple = simple.0; params = params.0; result = result.0 }, result.1)

unfoldable pub IsMethodName : List (List ℕ) → Spelling MethodName
IsMethodName names = IsName is_simple_name names then λ simple. IsCounted (IsParameter names) then λ params. IsResult names then λ result. IsValue (record { simple = simple; params = params; result = result })
