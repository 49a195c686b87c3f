-- What stands for its type isn't coerced.
use Rattle.std.proofs.Common.{◌≡◌, Bool, true, false, refl, ap}
use Rattle.std.specs.Prelude.{if◌then◌else◌, not, ◌||◌}
use Rattle.agree_body_rules.proofs.Arrays.{arrays-same}
use Rattle.agree_body_rules.specs.Standing.{is_bare, Fits, NoBox}
use Rattle.sj_emit_expr_spec.specs.Terms as core
use Rattle.sj_emit_expr_spec.specs.Coercions.{coerced}
use Rattle.sj_names.proofs.Same.{impossible}
use Rattle.sj_trees.specs.declared.types.IrType.{IrType}
use Rattle.sj_trees.specs.declared.types.IrType.TheVariants.{Any, Nothing, Undefined, Boolean, Char, Byte, Short, Int, Long, String, Class, Null, Array, NoType}

no_box : (expected own : IrType) → Fits expected own → NoBox expected own
no_box Char Char f = refl
no_box expected Char f = impossible f
no_box expected own f = refl

-- what stands for its type isn't coerced
pub coerced-same : (expected own : IrType) (e : core.Expression) → Fits expected own → coerced expected own e ≡ e
coerced-same expected own e f = ap (λ (b : Bool). if b then core.boxed_char e else e) (no_box expected own f)

excluded : (b : Bool) → (not b || b) ≡ true
excluded true = refl
excluded false = refl

pub fits-same : (t : IrType) → Fits t t
fits-same Any = refl
fits-same Nothing = refl
fits-same Undefined = refl
fits-same Boolean = refl
fits-same Char = refl
fits-same Byte = refl
fits-same Short = refl
fits-same Int = refl
fits-same Long = refl
fits-same String = refl
fits-same (Class c) = excluded (is_bare (Class c))
fits-same Null = refl
fits-same (Array r) = arrays-same r.dimensions r.base
fits-same NoType = refl
