-- Names and types, compared.
pub use Rattle.sj_names.specs.WellKnown.{is_same_text, is_object, is_number, is_init, is_hijacked}
pub use Rattle.sj_trees.specs.SameTypes.{is_same_type}
use Rattle.std.specs.Prelude.{ℕ, Bool, true, false, List, Option, Some, None}
use Rattle.sj_trees.specs.declared.types.IrType.{IrType}

-- a name is there, and passes the test
abbrev pub is_some_name : (List ℕ → Bool) → Option (List ℕ) → Bool
is_some_name test None = false
is_some_name test (Some name) = test name

-- none or nothing, of which there is no value
abbrev pub is_empty_type : IrType → Bool
is_empty_type IrType.Nothing = true
is_empty_type IrType.NoType = true
is_empty_type _ = false
