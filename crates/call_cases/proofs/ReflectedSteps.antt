-- Steps on the way to the cases of a reflective call.
use Rattle.std.proofs.Common.{◌≡◌, ℕ, ◌+◌, ◌≤◌, List, [], ◌∷◌, ◌++◌, Option, Some, None, Contains, length, slice_get, sym, subst}
use Rattle.std.specs.Prelude.{◌↔◌, MatchOption}
use Rattle.call_cases.specs.Reached.{HasNoneReached, IsReachedAmong}
use Rattle.call_cases.specs.declared.reflected.Target.{Target}
use Rattle.call_cases.proofs.Steps.{None_reached}
use Rattle.sj_emit_help_spec.specs.Words.{kind_class}
use Rattle.sj_emit_help_spec.specs.declared.kinds.Kind.{Kind}
use Rattle.sj_emit_class_spec.specs.Dispatch as rules
use Rattle.sj_emit_class_spec.specs.Dispatch.{AreReflected, reflected, unreflected, IsReachedTarget, IsReflectedTarget}
use Rattle.proxy_targets.specs.Proxies.{IsTargetName}
use Rattle.sj_names.specs.declared.method_names.MethodName.{MethodName}
use Rattle.sj_world.specs.Known.{Name, Classes}
use Rattle.sj_world.specs.declared.facts.Fact.{Fact}
use Rattle.sj_world.proofs.Searches.{NoneYet, none_more, none_whole, none_among}

-- a call of the method has a reached target
pub record SomeReached (w : Classes) (known : List Fact) (c : Name) (m : MethodName) : Type 0 where
  pub owner : Name
  pub reached : IsReachedTarget w known c m owner

module _ (w : Classes) (known : List Fact) (c : Name) where
  pub no_more_reached : (names : List MethodName) (n : ℕ) (m : MethodName) → NoneYet (SomeReached w known c) names n → slice_get names n ≡ Some m → None_reached w known c m → NoneYet (SomeReached w known c) names (n + 1)
  no_more_reached names n m before at none = none_more (SomeReached w known c) names n m before at (λ h. none h.owner h.reached)

  pub none_reached : (names : List MethodName) (n : ℕ) → NoneYet (SomeReached w known c) names n → length names ≤ n → HasNoneReached w known c names
  none_reached names n before all = record { none = λ m owner h. none_among (SomeReached w known c) names m (none_whole (SomeReached w known c) names n before all) h.among (record { owner = owner; reached = h.reached }) }

  module _ (p : MethodName) where
    abbrev pub None_reflected : Type 0
    None_reflected = (t : MethodName) (owner : Name) → IsReflectedTarget w known c p t owner → ⊥

    reflected_at : (names : List MethodName) (found : Option Target) → ((m : MethodName) → Contains names m ↔ IsTargetName w c p m) → MatchOption found (HasNoneReached w known c names) (λ f. IsReachedAmong w known c names f.method f.owner) → MatchOption found None_reflected (λ f. IsReflectedTarget w known c p f.method f.owner)
    reflected_at names None exact h = λ t owner q. h.none t owner (record { among = (exact t).1 (record { definition = q.definition; owner = q.declared_by; is_target = q.proxy; name_is = sym q.method_is }); reached = q.target })
    reflected_at names (Some f) exact h = let q = (exact f.method).0 h.among in record { definition = q.definition; declared_by = q.owner; proxy = q.is_target; method_is = sym q.name_is; target = h.reached }

    -- in the same world, and of the same names
    pub reflected_of : (v : Classes) (names listed : List MethodName) (found : Option Target) → v ≡ w → listed ≡ names → ((m : MethodName) → Contains names m ↔ IsTargetName v c p m) → MatchOption found (HasNoneReached w known c listed) (λ f. IsReachedAmong w known c listed f.method f.owner) → MatchOption found None_reflected (λ f. IsReflectedTarget w known c p f.method f.owner)
    reflected_of v names listed found same is exact h = reflected_at listed found (subst (λ (ns : List MethodName). (m : MethodName) → Contains ns m ↔ IsTargetName w c p m) (sym is) (subst (λ (x : Classes). (m : MethodName) → Contains names m ↔ IsTargetName x c p m) same exact)) h

    pub target_is : (found : Option Target) (t : Target) → found ≡ Some t → MatchOption found None_reflected (λ f. IsReflectedTarget w known c p f.method f.owner) → IsReflectedTarget w known c p t.method t.owner
    target_is found t is = subst (λ (o : Option Target). MatchOption o None_reflected (λ f. IsReflectedTarget w known c p f.method f.owner)) is

    pub none_is : (found : Option Target) → found ≡ None → MatchOption found None_reflected (λ f. IsReflectedTarget w known c p f.method f.owner) → None_reflected
    none_is found is = subst (λ (o : Option Target). MatchOption o None_reflected (λ f. IsReflectedTarget w known c p f.method f.owner)) is

-- one kind more
pub one_reflected : (w : Classes) (known : List Fact) (p : MethodName) (k : Kind) (c owner : Name) (t : MethodName) (old new : List rules.Reflected) → c ≡ kind_class k → IsReflectedTarget w known c p t owner → new ≡ old ++ record { kind = k; owner = owner; method = t } ∷ [] → (ks : List Kind) → AreReflected w known p ks old → AreReflected w known p (ks ++ k ∷ []) new
one_reflected w known p k c owner t old new is q put ks are = subst (AreReflected w known p (ks ++ k ∷ [])) (sym put) (reflected k ks t owner old are (subst (λ (d : Name). IsReflectedTarget w known d p t owner) is q))

pub one_unreflected : (w : Classes) (known : List Fact) (p : MethodName) (k : Kind) (c : Name) (old : List rules.Reflected) → c ≡ kind_class k → None_reflected w known c p → (ks : List Kind) → AreReflected w known p ks old → AreReflected w known p (ks ++ k ∷ []) old
one_unreflected w known p k c old is none ks are = unreflected k ks old are (subst (λ (d : Name). None_reflected w known d p) is none)
