-- Arguments of a call, the first and those behind it.
use Rattle.std.proofs.Common.{◌≡◌, List, [], ◌∷◌, refl}
use Rattle.sj_core.specs.Terms.{Expression}
use Rattle.sj_desugar_spec.specs.Coercions.{coerced_arguments}
use Rattle.sj_desugar_plain.specs.Arguments.{coerced_argument, without_first}
use Rattle.sj_names.specs.declared.references.TypeRef.{TypeRef}
use Rattle.sj_trees.specs.declared.types.IrType.{IrType}

pub arguments-first : (rs : List TypeRef) (t : IrType) (ts : List IrType) (e : Expression) (es : List Expression) → coerced_arguments rs (t ∷ ts) (e ∷ es) ≡ coerced_argument rs t e ∷ coerced_arguments (without_first rs) ts es
arguments-first [] t ts e es = refl
arguments-first (r ∷ rs) t ts e es = refl

pub arguments-none : (rs : List TypeRef) (es : List Expression) → coerced_arguments rs [] es ≡ es
arguments-none [] es = refl
arguments-none (r ∷ rs) es = refl

pub ruleset arguments = (arguments-first, arguments-none)
