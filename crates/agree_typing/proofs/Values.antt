-- There are values of the types of parameters and results, and numbers of a file have 32 bits or 64.
use Rattle.std.proofs.Common.{◌≡◌, ◌≤◌, ◌^◌, ℕ, Bool, true, false, List, [], ◌∷◌, Some, refl, sym, subst, arith, if◌then◌else◌}
use Rattle.std.specs.Prelude.{ℤ, pos, negsuc, FitsSigned, All, nat_eq}
use Rattle.std.specs.Int.{w32, w64}
use Rattle.std.specs.Cmp.Lexicographic.{pointwise}
use Rattle.std.proofs.lemmas.List.Elements.{All-head, All-tail}
use Rattle.js_tree.specs.Rules.{IsBelow}
use Rattle.agree_local_rules.specs.Desugar.{has_no_value}
use Rattle.sj_names.proofs.Same.{impossible}
use Rattle.sj_names.specs.MethodNames.{IsParameter}
use Rattle.sj_names.specs.declared.references.TypeRef.{TypeRef}
use Rattle.agree_local_rules.specs.Methods.{HaveTypes}
use Rattle.agree_local_rules.proofs.RulesGive.{class_has_value}
use Rattle.agree_local_rules.specs.Locals.{local_of, HasValue}
use Rattle.agree_local_rules.specs.Typing.{AllHaveValues}
use Rattle.sj_trees.specs.Types.{reference_type}
use Rattle.sj_trees.specs.declared.classes.ParamDef.{ParamDef}

no_void : (r : TypeRef) → (r ≡ TypeRef.Void → ⊥) → has_no_value (reference_type r) ≡ false
no_void TypeRef.Void h = absurd (h refl)
no_void TypeRef.Boolean h = refl
no_void TypeRef.Char h = refl
no_void TypeRef.Byte h = refl
no_void TypeRef.Short h = refl
no_void TypeRef.Int h = refl
no_void TypeRef.Long h = refl
no_void (TypeRef.Class c) h = class_has_value c
no_void (TypeRef.Array r) h = refl

parameter_value : (r : TypeRef) → IsParameter r → HasValue (reference_type r)
parameter_value r h = no_void r h.1

pub all_have_values : (rs : List TypeRef) → All IsParameter rs → AllHaveValues rs
all_have_values [] h = tt
all_have_values (r ∷ rs) h = (parameter_value r (All-head IsParameter r rs h), all_have_values rs (All-tail IsParameter r rs h))

-- parameters by the references in the name
pub parameters_have_values : (ps : List ParamDef) (rs : List TypeRef) → HaveTypes ps rs → All IsParameter rs → (x : List ℕ) (p : ParamDef) → local_of ps x ≡ Some p → HasValue p.tpe
parameters_have_values [] [] types is x p e = impossible (cc)
parameters_have_values [] (r ∷ rs) types is x p e = absurd types
parameters_have_values (d ∷ ds) [] types is x p e = absurd types
parameters_have_values (d ∷ ds) (r ∷ rs) types is x p e =
    go (pointwise nat_eq x d.name) e (subst HasValue (sym types.0) (parameter_value r (All-head IsParameter r rs is))) (λ k. parameters_have_values ds rs types.1 (All-tail IsParameter r rs is) x p k)
  where
    go : (b : Bool) → (if b then Some d else local_of ds x) ≡ Some p → HasValue d.tpe → (local_of ds x ≡ Some p → HasValue p.tpe) → HasValue p.tpe
    go true k first others = let same : d ≡ p = cc in subst (λ (a : ParamDef). HasValue a.tpe) same first
    go false k first others = others k

pub fits : (limit : ℕ) (z : ℤ) → limit ≤ 2 ^ 31 → IsBelow limit z → FitsSigned w32 z
fits limit (pos n) small h = record { sfits = omega (arith, h, small) }
fits limit (negsuc n) small h = record { sfits = omega (arith, h, small) }

pub fits_long : (z : ℤ) → IsBelow (2 ^ 63) z → FitsSigned w64 z
fits_long (pos n) h = record { sfits = h }
fits_long (negsuc n) h = record { sfits = h }
