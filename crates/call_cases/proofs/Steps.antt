-- Steps on the way to the cases of a call.
use Rattle.std.proofs.Common.{◌≡◌, List, [], ◌∷◌, ◌++◌, Option, Some, None, Contains, sym, subst}
use Rattle.std.specs.Prelude.{MatchOption}
use Rattle.sj_emit_help_spec.specs.Words.{kind_class}
use Rattle.sj_emit_help_spec.specs.declared.kinds.Kind.{Kind}
use Rattle.sj_emit_class_spec.specs.Dispatch as rules
use Rattle.sj_emit_class_spec.specs.Dispatch.{AreTold, told, untold, IsReachedTarget}
use Rattle.sj_reach_spec.specs.Rules.{public_member}
use Rattle.sj_names.specs.declared.method_names.MethodName.{MethodName}
use Rattle.sj_trees.specs.declared.classes.MethodDef.{MethodDef}
use Rattle.sj_world.specs.Known.{Name, Classes}
use Rattle.sj_world.specs.Resolution.{Resolves, target, abstract, missing}
use Rattle.sj_world.specs.declared.facts.Fact.{Fact}
use Rattle.sj_world.specs.declared.facts.Fact.TheVariants.{Body}
use Rattle.sj_baselink_spec.proofs.Owners.{one_owner}
use Rattle.sj_baselink.proofs.Chosen.{no_target_abstract, no_target_missing}

module _ (w : Classes) (known : List Fact) (c : Name) (m : MethodName) where
  abbrev pub None_reached : Type 0
  None_reached = (owner : Name) → IsReachedTarget w known c m owner → ⊥

  -- what the resolution in the same world says of a reached target
  pub reached : (v : Classes) (d : MethodDef) (owner : Name) (found : Option Name) → v ≡ w → Resolves v c m (target d owner) → MatchOption found (Contains known (Body (public_member owner m)) → ⊥) (λ f. (f ≡ owner) × Contains known (Body (public_member owner m))) → MatchOption found None_reached (λ f. IsReachedTarget w known c m f)
  reached v d owner None same r none = λ other q. none (subst (λ (o : Name). Contains known (Body (public_member o m))) (one_owner w c m other owner q.is_target (record { body = d; resolves = subst (λ (x : Classes). Resolves x c m (target d owner)) same r })) q.reached)
  reached v d owner (Some f) same r q = subst (λ (o : Name). IsReachedTarget w known c m o) (sym q.0) (record { is_target = record { body = d; resolves = subst (λ (x : Classes). Resolves x c m (target d owner)) same r }; reached = q.1 })

  pub none_abstract : (v : Classes) → v ≡ w → Resolves v c m abstract → None_reached
  none_abstract v same r owner q = no_target_abstract w c m owner (subst (λ (x : Classes). Resolves x c m abstract) same r) q.is_target

  pub none_missing : (v : Classes) → v ≡ w → Resolves v c m missing → None_reached
  none_missing v same r owner q = no_target_missing w c m owner (subst (λ (x : Classes). Resolves x c m missing) same r) q.is_target

-- one kind more
pub one_told : (w : Classes) (known : List Fact) (m : MethodName) (k : Kind) (c owner : Name) (old new : List rules.Told) → c ≡ kind_class k → IsReachedTarget w known c m owner → new ≡ old ++ record { kind = k; owner = owner } ∷ [] → (ks : List Kind) → AreTold w known m ks old → AreTold w known m (ks ++ k ∷ []) new
one_told w known m k c owner old new is q put ks are = subst (AreTold w known m (ks ++ k ∷ [])) (sym put) (told k ks owner old are (subst (λ (d : Name). IsReachedTarget w known d m owner) is q))

pub one_untold : (w : Classes) (known : List Fact) (m : MethodName) (k : Kind) (c : Name) (old : List rules.Told) → c ≡ kind_class k → ((owner : Name) → IsReachedTarget w known c m owner → ⊥) → (ks : List Kind) → AreTold w known m ks old → AreTold w known m (ks ++ k ∷ []) old
one_untold w known m k c old is none ks are = untold k ks old are (subst (λ (d : Name). (owner : Name) → IsReachedTarget w known d m owner → ⊥) is none)

-- which of the two was found
pub target_is : (w : Classes) (known : List Fact) (c : Name) (m : MethodName) (found : Option Name) (owner : Name) → found ≡ Some owner → MatchOption found (None_reached w known c m) (λ f. IsReachedTarget w known c m f) → IsReachedTarget w known c m owner
target_is w known c m found owner is = subst (λ (o : Option Name). MatchOption o (None_reached w known c m) (λ f. IsReachedTarget w known c m f)) is

pub none_is : (w : Classes) (known : List Fact) (c : Name) (m : MethodName) (found : Option Name) → found ≡ None → MatchOption found (None_reached w known c m) (λ f. IsReachedTarget w known c m f) → None_reached w known c m
none_is w known c m found is = subst (λ (o : Option Name). MatchOption o (None_reached w known c m) (λ f. IsReachedTarget w known c m f)) is
