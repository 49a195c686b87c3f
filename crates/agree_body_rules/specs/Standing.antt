-- Which types stand where another is expected, as far as the kind of a value tells: the types that tell chars, texts and objects from other values are told
-- apart. A char that stands where another type is expected becomes an object that holds it, where one can be made.
pub use Rattle.agree_body_forms.specs.Rules.{call_type}
use Rattle.std.specs.Prelude.{◌≡◌, ℕ, zero, suc, Bool, true, false, ◌&&◌, ◌||◌, not, List, [], ◌∷◌, codes}
use Rattle.agree_body_forms.specs.Built.{Usable, may_make}
use Rattle.sj_emit_expr_spec.specs.Coercions.{is_char}
use Rattle.sj_names.specs.Same.{is_same_text}
use Rattle.sj_names.specs.declared.references.BaseRef.{BaseRef}
use Rattle.sj_names.specs.declared.references.TypeRef.{TypeRef}
use Rattle.sj_trees.specs.Types.{class_type, reference_type}
use Rattle.sj_trees.specs.declared.types.IrType.{IrType}
use Rattle.sj_trees.specs.declared.types.IrType.TheVariants.{Any, Class, Array, Nothing, Undefined, Boolean, Char, Byte, Short, Int, Long, String, Null}

-- a type at which neither an object of a class stands nor one that holds a char: a primitive one, that of texts, one without values, or one of arrays
abbrev pub is_bare : IrType → Bool
is_bare Any = false
is_bare (Class c) = is_same_text c (codes "java.lang.String")
is_bare _ = true

abbrev pub is_array_type : IrType → Bool
is_array_type (Array r) = true
is_array_type _ = false

-- a type at which no object stands at all: what joins to a text is of such a type
abbrev pub is_joined : IrType → Bool
is_joined (Array r) = false
is_joined t = is_bare t

-- the items of an array with the second base may stand where those with the first are expected, as far as their kind tells
abbrev pub base_fits : BaseRef → BaseRef → Bool
base_fits BaseRef.Boolean BaseRef.Boolean = true
base_fits BaseRef.Char BaseRef.Char = true
base_fits BaseRef.Byte BaseRef.Byte = true
base_fits BaseRef.Short BaseRef.Short = true
base_fits BaseRef.Int BaseRef.Int = true
base_fits BaseRef.Long BaseRef.Long = true
base_fits (BaseRef.Class c) (BaseRef.Class d) = not (is_bare (class_type c)) || is_bare (class_type d)
base_fits _ _ = false

-- an array may be an item where no bare one is expected
abbrev pub may_hold_arrays : BaseRef → Bool
may_hold_arrays (BaseRef.Class c) = not (is_bare (class_type c))
may_hold_arrays _ = false

-- and so with their dimensions
abbrev pub array_fits : ℕ → BaseRef → ℕ → BaseRef → Bool
array_fits (suc n) b (suc m) c = array_fits n b m c
array_fits zero b zero c = base_fits b c
array_fits zero b (suc m) c = may_hold_arrays b
array_fits (suc n) b zero c = false

-- a tree of the second type may stand where the first is expected, as far as its value's kind tells
abbrev pub fits : IrType → IrType → Bool
fits expected Nothing = true
fits Nothing own = false
fits Undefined Undefined = true
fits Undefined own = false
fits Boolean Boolean = true
fits Boolean own = false
fits Char Char = true
fits Char own = false
fits Byte Byte = true
fits Byte own = false
fits Short Short = true
fits Short own = false
fits Int Int = true
fits Int own = false
fits Long Long = true
fits Long own = false
fits String String = true
fits String own = false
fits Null Null = true
fits Null own = false
fits (Array r) Null = true
fits (Array r) (Array q) = array_fits r.dimensions r.base q.dimensions q.base
fits (Array r) own = false
fits expected Char = false
fits expected (Array q) = not (is_bare expected)
fits expected own = not (is_bare expected) || is_bare own

abbrev pub Fits : IrType → IrType → Type 0
Fits expected own = fits expected own ≡ true

-- arguments are as many as the parameters, and stand for them
abbrev pub FitAll : List IrType → List IrType → Type 0
FitAll [] [] = Unit {0}
FitAll (t ∷ ts) (own ∷ owns) = Fits t own × FitAll ts owns
FitAll _ _ = ⊥

-- the types of these references
abbrev pub types_referred : List TypeRef → List IrType
types_referred [] = []
types_referred (r ∷ rs) = reference_type r ∷ types_referred rs

-- no char stands where another type is expected, or an object can be made that holds it
abbrev pub MayStand : Usable → IrType → IrType → Type 0
MayStand has expected own = may_make has (is_char own && not (is_char expected)) ≡ true

-- no char stands where another type is expected
abbrev pub NoBox : IrType → IrType → Type 0
NoBox expected own = (is_char own && not (is_char expected)) ≡ false
