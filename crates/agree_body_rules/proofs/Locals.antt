-- Locals that are in scope.
use Rattle.std.proofs.Common.{◌≡◌, ℕ, Bool, true, false, List, [], ◌∷◌, Some, refl, sym, ap, ◌∙◌, subst, ◌⊎◌, inl, inr, if◌then◌else◌}
use Rattle.std.specs.Prelude.{nat_eq}
use Rattle.std.specs.Cmp.Lexicographic.{pointwise}
use Rattle.agree_body_rules.proofs.Equal.{equals, is-equal}
use Rattle.agree_body_rules.specs.Locals.{IsParameter, with_local, parameters_of, local_of, HasValue, HaveValues, AreMutable}
use Rattle.agree_body_rules.specs.Typing.{Scene, IsLocal}
use Rattle.sj_names.proofs.Same.{impossible}
use Rattle.sj_trees.specs.declared.classes.ParamDef.{ParamDef}
use Rattle.sj_trees.specs.declared.types.IrType.{IrType}

-- a local of this name is among those in scope
pub local-there : (ds : List ParamDef) (x : List ℕ) (d : ParamDef) → local_of ds x ≡ Some d → IsParameter ds x
local-there [] x d e = impossible (cc)
local-there (c ∷ cs) x d e = go (pointwise nat_eq x c.name) refl e (local-there cs x d)
  where
    go : (b : Bool) → pointwise nat_eq x c.name ≡ b → (if b then Some c else local_of cs x) ≡ Some d → (local_of cs x ≡ Some d → IsParameter cs x) → (x ≡ c.name) ⊎ IsParameter cs x
    go true i k later = inl (is-equal x c.name i)
    go false i k later = inr (later k)

-- and it is in scope with its type
pub typed-there : (ds : List ParamDef) (x : List ℕ) (d : ParamDef) → local_of ds x ≡ Some d → parameters_of ds x d.tpe
typed-there [] x d e = impossible (cc)
typed-there (c ∷ cs) x d e = go (pointwise nat_eq x c.name) refl e (typed-there cs x d)
  where
    go : (b : Bool) → pointwise nat_eq x c.name ≡ b → (if b then Some c else local_of cs x) ≡ Some d → (local_of cs x ≡ Some d → parameters_of cs x d.tpe) → with_local c.name c.tpe (parameters_of cs) x d.tpe
    go true i k later = let same : c ≡ d = cc in inl (is-equal x c.name i, ap (λ (a : ParamDef). a.tpe) (sym same))
    go false i k later = inr ((λ e. impossible (sym (subst (λ n. pointwise nat_eq x n ≡ false) (sym e) i) ∙ equals x)), later k)

pub values-behind : (ds : List ParamDef) (d : ParamDef) → HaveValues ds → HasValue d.tpe → HaveValues (d ∷ ds)
values-behind ds d v h y c e = go (pointwise nat_eq y d.name) e
  where
    go : (b : Bool) → (if b then Some d else local_of ds y) ≡ Some c → HasValue c.tpe
    go true k = let same : d ≡ c = cc in subst (λ (a : ParamDef). HasValue a.tpe) same h
    go false k = v y c k

pub mutable-behind : (is_mutable : List ℕ → Bool) (ds : List ParamDef) (d : ParamDef) → AreMutable is_mutable ds → (d.«mutable» ≡ true → is_mutable d.name ≡ true) → AreMutable is_mutable (d ∷ ds)
mutable-behind is_mutable ds d v h y c e m = go (pointwise nat_eq y d.name) refl e
  where
    go : (b : Bool) → pointwise nat_eq y d.name ≡ b → (if b then Some d else local_of ds y) ≡ Some c → is_mutable y ≡ true
    go true i k = let same : d ≡ c = cc in subst (λ n. is_mutable n ≡ true) (sym (is-equal y d.name i)) (h (ap (λ (a : ParamDef). a.«mutable») same ∙ m))
    go false i k = v y c k m

pub local-value : (s : Scene) (x : List ℕ) (t : IrType) → HaveValues s.locals → IsLocal s x t → HasValue t
local-value s x t v i = subst HasValue i.type_is (v x i.local i.is)

pub there : (s : Scene) (x : List ℕ) (t : IrType) → IsLocal s x t → parameters_of s.locals x t
there s x t i = subst (parameters_of s.locals x) i.type_is (typed-there s.locals x i.local i.is)
