-- Types, references and names of methods are told by what is written of them.
use Rattle.std.proofs.Common.{◌≡◌, ℕ, List, [], ◌∷◌, ◌++◌, Option, Some, None, refl, ◌==◌, if◌then◌else◌}
use Rattle.sj_names.specs.declared.references.BaseRef.{BaseRef}
use Rattle.sj_names.specs.declared.references.ArrayRef.{ArrayRef}
use Rattle.sj_names.specs.declared.references.TypeRef.{TypeRef}
use Rattle.sj_names.specs.declared.method_names.MethodName.{MethodName}
use Rattle.sj_names.specs.declared.method_names.Namespace.{Namespace}
use Rattle.sj_trees.specs.declared.types.IrType.{IrType}
use Rattle.sj_canon.specs.Numbers.{text_bytes, list_bytes, option_bytes}
use Rattle.sj_canon.specs.Names.{Made, base_code, base_class, base_bytes, array_bytes, made_bytes, reference_made, reference_bytes, type_made, type_bytes, method_name_bytes, namespace_byte}
use Rattle.sj_canon.proofs.Exact.{Shows, IsExact, both, two, of_part, seen_as, byte_shows, text_exact, list_exact, option_exact}

-- the thing whose code is the number, among these, or the last
base_with : ℕ × List ℕ → BaseRef
base_with p =
    if p.0 == 2 then BaseRef.Boolean
    else if p.0 == 3 then BaseRef.Char
    else if p.0 == 4 then BaseRef.Byte
    else if p.0 == 5 then BaseRef.Short
    else if p.0 == 6 then BaseRef.Int
    else if p.0 == 7 then BaseRef.Long
    else BaseRef.Class p.1

base_is : (b : BaseRef) → base_with (base_code b, base_class b) ≡ b
unfolding base_with
base_is BaseRef.Boolean = refl
base_is BaseRef.Char = refl
base_is BaseRef.Byte = refl
base_is BaseRef.Short = refl
base_is BaseRef.Int = refl
base_is BaseRef.Long = refl
base_is (BaseRef.Class name) = refl

base_exact : IsExact base_bytes
unfolding base_bytes
base_exact = seen_as (λ b. two (base_code b) (base_class b)) (λ b. b) base_with base_bytes base_is (both base_code base_class (λ b. base_code b ∷ []) (λ b. text_bytes (base_class b)) (byte_shows base_code) (of_part base_class (λ t. t) text_bytes text_exact))

array_with : ℕ × BaseRef → ArrayRef
array_with p = record { dimensions = p.0; base = p.1 }

array_is : (a : ArrayRef) → array_with (a.dimensions, a.base) ≡ a
unfolding array_with
array_is a = refl

pub array_exact : IsExact array_bytes
unfolding array_bytes
array_exact = seen_as (λ (a : ArrayRef). two a.dimensions a.base) (λ a. a) array_with array_bytes array_is (both (λ (a : ArrayRef). a.dimensions) (λ (a : ArrayRef). a.base) (λ a. a.dimensions ∷ []) (λ a. base_bytes a.base) (byte_shows (λ (a : ArrayRef). a.dimensions)) (of_part (λ (a : ArrayRef). a.base) (λ b. b) base_bytes base_exact))

made_with : (ℕ × List ℕ) × Option ArrayRef → Made
made_with p = record { code = p.0.0; class = p.0.1; array = p.1 }

made_is : (m : Made) → made_with ((m.code, m.class), m.array) ≡ m
unfolding made_with
made_is m = refl

head_shows : Shows (λ (m : Made). two m.code m.class) (λ (m : Made). m.code ∷ text_bytes m.class)
head_shows = both (λ (m : Made). m.code) (λ (m : Made). m.class) (λ m. m.code ∷ []) (λ m. text_bytes m.class) (byte_shows (λ (m : Made). m.code)) (of_part (λ (m : Made). m.class) (λ t. t) text_bytes text_exact)

made_exact : IsExact made_bytes
unfolding made_bytes
made_exact = seen_as (λ (m : Made). two (two m.code m.class) m.array) (λ m. m) made_with made_bytes made_is (both (λ (m : Made). two m.code m.class) (λ (m : Made). m.array) (λ (m : Made). m.code ∷ text_bytes m.class) (λ (m : Made). option_bytes array_bytes m.array) head_shows (of_part (λ (m : Made). m.array) (λ a. a) (option_bytes array_bytes) (option_exact array_bytes array_exact)))

reference_of_array : Option ArrayRef → TypeRef
reference_of_array None = TypeRef.Void
reference_of_array (Some a) = TypeRef.Array a

reference_with : Made → TypeRef
reference_with m =
    if m.code == 1 then TypeRef.Void
    else if m.code == 2 then TypeRef.Boolean
    else if m.code == 3 then TypeRef.Char
    else if m.code == 4 then TypeRef.Byte
    else if m.code == 5 then TypeRef.Short
    else if m.code == 6 then TypeRef.Int
    else if m.code == 7 then TypeRef.Long
    else if m.code == 8 then TypeRef.Class m.class
    else reference_of_array m.array

reference_is : (r : TypeRef) → reference_with (reference_made r) ≡ r
unfolding reference_with reference_of_array
reference_is TypeRef.Void = refl
reference_is TypeRef.Boolean = refl
reference_is TypeRef.Char = refl
reference_is TypeRef.Byte = refl
reference_is TypeRef.Short = refl
reference_is TypeRef.Int = refl
reference_is TypeRef.Long = refl
reference_is (TypeRef.Class name) = refl
reference_is (TypeRef.Array array) = refl

pub reference_exact : IsExact reference_bytes
reference_exact = seen_as reference_made (λ r. r) reference_with reference_bytes reference_is (of_part reference_made (λ m. m) made_bytes made_exact)

type_of_array : Option ArrayRef → IrType
type_of_array None = IrType.NoType
type_of_array (Some a) = IrType.Array a

type_with : Made → IrType
type_with m =
    if m.code == 1 then IrType.Any
    else if m.code == 2 then IrType.Nothing
    else if m.code == 3 then IrType.Undefined
    else if m.code == 4 then IrType.Boolean
    else if m.code == 5 then IrType.Char
    else if m.code == 6 then IrType.Byte
    else if m.code == 7 then IrType.Short
    else if m.code == 8 then IrType.Int
    else if m.code == 9 then IrType.Long
    else if m.code == 10 then IrType.String
    else if m.code == 11 then IrType.Null
    else if m.code == 12 then IrType.Class m.class
    else type_of_array m.array

type_is : (t : IrType) → type_with (type_made t) ≡ t
unfolding type_with type_of_array
type_is IrType.Any = refl
type_is IrType.Nothing = refl
type_is IrType.Undefined = refl
type_is IrType.Boolean = refl
type_is IrType.Char = refl
type_is IrType.Byte = refl
type_is IrType.Short = refl
type_is IrType.Int = refl
type_is IrType.Long = refl
type_is IrType.String = refl
type_is IrType.Null = refl
type_is (IrType.Class name) = refl
type_is (IrType.Array array) = refl
type_is IrType.NoType = refl

pub type_exact : IsExact type_bytes
type_exact = seen_as type_made (λ t. t) type_with type_bytes type_is (of_part type_made (λ m. m) made_bytes made_exact)

name_with : (List ℕ × List TypeRef) × Option TypeRef → MethodName
name_with p = record { simple = p.0.0; params = p.0.1; result = p.1 }

name_is : (m : MethodName) → name_with ((m.simple, m.params), m.result) ≡ m
unfolding name_with
name_is m = refl

signature_shows : Shows (λ (m : MethodName). two m.simple m.params) (λ (m : MethodName). text_bytes m.simple ++ list_bytes reference_bytes m.params)
signature_shows = both (λ (m : MethodName). m.simple) (λ (m : MethodName). m.params) (λ m. text_bytes m.simple) (λ m. list_bytes reference_bytes m.params) (of_part (λ (m : MethodName). m.simple) (λ t. t) text_bytes text_exact) (of_part (λ (m : MethodName). m.params) (λ p. p) (list_bytes reference_bytes) (list_exact reference_bytes reference_exact))

pub method_name_exact : IsExact method_name_bytes
unfolding method_name_bytes
method_name_exact = seen_as (λ (m : MethodName). two (two m.simple m.params) m.result) (λ m. m) name_with method_name_bytes name_is (both (λ (m : MethodName). two m.simple m.params) (λ (m : MethodName). m.result) (λ (m : MethodName). text_bytes m.simple ++ list_bytes reference_bytes m.params) (λ (m : MethodName). option_bytes reference_bytes m.result) signature_shows (of_part (λ (m : MethodName). m.result) (λ r. r) (option_bytes reference_bytes) (option_exact reference_bytes reference_exact)))

pub namespace_with : ℕ → Namespace
namespace_with n =
    if n == 1 then Namespace.Public
    else if n == 2 then Namespace.PublicStatic
    else if n == 3 then Namespace.Private
    else if n == 4 then Namespace.PrivateStatic
    else Namespace.Constructor

pub namespace_is : (n : Namespace) → namespace_with (namespace_byte n) ≡ n
unfolding namespace_with
namespace_is Namespace.Public = refl
namespace_is Namespace.PublicStatic = refl
namespace_is Namespace.Private = refl
namespace_is Namespace.PrivateStatic = refl
namespace_is Namespace.Constructor = refl

pub namespace_shows : Shows (λ (n : Namespace). n) (λ (n : Namespace). namespace_byte n ∷ [])
namespace_shows = seen_as namespace_byte (λ n. n) namespace_with (λ (n : Namespace). namespace_byte n ∷ []) namespace_is (byte_shows namespace_byte)
