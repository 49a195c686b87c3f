-- Arguments of a call by the references of its parameters.
use Rattle.std.specs.Prelude.{List, [], ◌∷◌, ◌++◌}
use Rattle.sj_core.specs.Terms.{Expression, followed}
use Rattle.sj_desugar_spec.specs.Coercions.{coerced, coerced_arguments, coerced_items}
use Rattle.sj_desugar_spec.specs.Spill.{Code, Spilled}
use Rattle.sj_names.specs.declared.references.TypeRef.{TypeRef}
use Rattle.sj_trees.specs.Types.{reference_type}
use Rattle.sj_trees.specs.declared.types.IrType.{IrType}

-- an argument for the first parameter
abbrev pub coerced_argument : List TypeRef → IrType → Expression → Expression
coerced_argument [] t e = e
coerced_argument (r ∷ rs) t e = coerced (reference_type r) t e

abbrev pub without_first : List TypeRef → List TypeRef
without_first [] = []
without_first (r ∷ rs) = rs

abbrev pub with_arguments : List TypeRef → List IrType → Spilled → Spilled
with_arguments rs ts r = record { statements = r.statements; expressions = coerced_arguments rs ts r.expressions; next = r.next }

-- the same for items of an array whose elements have this type
abbrev pub with_items : IrType → List IrType → Spilled → Spilled
with_items t ts r = record { statements = r.statements; expressions = coerced_items t ts r.expressions; next = r.next }

-- behind code and the expressions that were written, what operands come to
abbrev pub arguments_onto : Code → List Expression → Spilled → Spilled
arguments_onto c es r = record { statements = followed c.statements r.statements; expressions = es ++ r.expressions; next = r.next }
