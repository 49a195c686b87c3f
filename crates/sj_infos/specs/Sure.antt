-- Receivers that are never null.
use Rattle.std.specs.Prelude.{ℕ, Bool, true, false, not, ◌||◌, List, [], ◌∷◌, ◌++◌, if◌then◌else◌}
use Rattle.std.specs.List.{list_any}
use Rattle.sj_names.specs.WellKnown.{is_same_text}
use Rattle.sj_trees.specs.Term.{Term, var_def, new_object, load_module, new_array, array_value, var_ref, this_ref}
use Rattle.sj_trees.specs.TypeOf.{type_of_term}
use Rattle.sj_trees.specs.declared.types.IrType.{IrType}

-- the types of values that are no objects
abbrev pub is_primitive : IrType → Bool
is_primitive IrType.Undefined = true
is_primitive IrType.Boolean = true
is_primitive IrType.Char = true
is_primitive IrType.Byte = true
is_primitive IrType.Short = true
is_primitive IrType.Int = true
is_primitive IrType.Long = true
is_primitive IrType.String = true
is_primitive IrType.Null = true
is_primitive _ = false

-- a primitive type other than null
abbrev pub is_sure_type : IrType → Bool
is_sure_type IrType.Null = false
is_sure_type t = is_primitive t

-- whether the name is one of these
abbrev pub is_among : List (List ℕ) → List ℕ → Bool
is_among names x = list_any (is_same_text x) names

-- by its form, and a local by what it is defined as
abbrev pub is_sure_form : List (List ℕ) → Term → Bool
is_sure_form sure (this_ref p t) = true
is_sure_form sure (new_object p c m ts) = true
is_sure_form sure (new_array p r e) = true
is_sure_form sure (array_value p r ts) = true
is_sure_form sure (load_module p c) = true
is_sure_form sure (var_ref p x t) = is_among sure x
is_sure_form sure _ = false

-- by its form or its type
abbrev pub is_sure : List (List ℕ) → Term → Bool
is_sure sure t = is_sure_form sure t || is_sure_type (type_of_term t)

-- with a further name, once
abbrev pub with_name : List (List ℕ) → List ℕ → List (List ℕ)
with_name names x = if is_among names x then names else names ++ x ∷ []

-- the sure locals behind a tree: an immutable local whose right side is sure is one
abbrev pub with_local : List (List ℕ) → Term → List (List ℕ)
with_local sure (var_def p x t false e) = if is_sure sure e then with_name sure x else sure
with_local sure _ = sure

-- the sure locals behind these trees
abbrev pub sure_among : List (List ℕ) → List Term → List (List ℕ)
sure_among sure [] = sure
sure_among sure (t ∷ ts) = sure_among (with_local sure t) ts
