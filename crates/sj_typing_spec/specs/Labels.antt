-- The labels around a tree.
use Rattle.std.specs.Prelude.{ℕ, List, [], ◌∷◌, Option, Some, None, if◌then◌else◌}
use Rattle.sj_trees.specs.declared.types.IrType.{IrType}
use Rattle.sj_ask.specs.Known.{is_same}
use Rattle.sj_typing_spec.specs.declared.labels.Label.{Label}

-- the type of the innermost label of this name; the outermost stands first
abbrev pub label_type : List Label → List ℕ → Option IrType → Option IrType
label_type [] name found = found
label_type (l ∷ ls) name found = label_type ls name (if is_same l.name name then Some l.tpe else found)

abbrev pub type_of_label : List Label → List ℕ → Option IrType
type_of_label ls name = label_type ls name None
