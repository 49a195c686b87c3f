-- What is asked of a relation of subtypes.
use Rattle.std.specs.Prelude.{◌≡◌, Bool, true, false, ◌⊎◌}
use Rattle.agree_body_rules.specs.Standing.{is_bare, is_array_type, Fits}
use Rattle.sj_emit_expr_spec.specs.Coercions.{is_char}
use Rattle.sj_names.specs.declared.references.ArrayRef.{ArrayRef}
use Rattle.sj_trees.specs.declared.types.IrType.{IrType}
use Rattle.sj_trees.specs.declared.types.IrType.TheVariants.{Any, Array, Nothing, Undefined, Boolean, Char, Byte, Short, Int, Long, String, Null, NoType}

-- a type of which only itself and nothing are subtypes
abbrev pub is_lowest : IrType → Bool
is_lowest Undefined = true
is_lowest Boolean = true
is_lowest Char = true
is_lowest Byte = true
is_lowest Short = true
is_lowest Int = true
is_lowest Long = true
is_lowest String = true
is_lowest Null = true
is_lowest NoType = true
is_lowest Nothing = true
is_lowest _ = false

-- each type is a subtype of itself, and of what its supertypes are subtypes of; none is a subtype of none alone; below a type at which no object stands
-- there are such types alone; above that of chars objects stand at each other one; nothing but itself and nothing is a subtype of the types that are lowest;
-- below a type of arrays there are such types, null and nothing alone, and above one such types and any alone
pub record IsSubtyping (sub : IrType → IrType → Type 0) : Type 0 where
  pub same : (t : IrType) → sub t t
  pub further : (s t u : IrType) → sub s t → sub t u → sub s u
  pub from_none : (t : IrType) → sub NoType t → t ≡ NoType
  pub bare : (s t : IrType) → is_bare t ≡ true → sub s t → is_bare s ≡ true
  pub chars : (t : IrType) → sub Char t → is_char t ≡ false → is_bare t ≡ false
  pub lowest : (s t : IrType) → is_lowest t ≡ true → sub s t → (s ≡ t) ⊎ (s ≡ Nothing)
  pub arrays : (s : IrType) (r : ArrayRef) → sub s (Array r) → Fits (Array r) s
  pub above_arrays : (r : ArrayRef) (t : IrType) → sub (Array r) t → (t ≡ Any) ⊎ (is_array_type t ≡ true)
