-- The target of a member is what the IR runs where the member is called.
use Rattle.std.proofs.Common.{◌≡◌, ℕ, suc, ◌+◌, List, [], ◌∷◌, length, Option, Some, None, refl, sym, ap, ◌∙◌, subst, arith, Bool, true, false, if◌then◌else◌}
use Rattle.ir_mean.specs.Dispatch.{chain_from, chain_of, longest, Found, body_at, or_found, nearest, candidates, least_class, default_of, or_default, resolved}
use Rattle.ir_mean.specs.Meaning.{method_found, static_target}
use Rattle.ir_mean.specs.World.{member_of}
use Rattle.ir_mean.proofs.TargetsFound.{target_found}
use Rattle.sj_names.specs.declared.method_names.Member.{Member}
use Rattle.sj_names.specs.declared.method_names.MethodName.{MethodName}
use Rattle.sj_names.specs.declared.method_names.Namespace.{Namespace}
use Rattle.sj_names.specs.declared.method_names.Namespace.TheVariants.{Public}
use Rattle.sj_trees.specs.Term.{Term}
use Rattle.sj_trees.specs.Types.{class_type}
use Rattle.sj_trees.specs.declared.types.IrType.{IrType}
use Rattle.sj_trees.specs.declared.types.IrType.TheVariants.{Any, Class, NoType}
use Rattle.sj_trees.specs.declared.classes.ClassDef.{ClassDef}
use Rattle.sj_trees.specs.declared.classes.MethodDef.{MethodDef}
use Rattle.ir_mean.specs.Ancestors.{IsAncestor, next_on_chain}
use Rattle.ir_mean.specs.Known.{Name, Classes, is_same, object}
use Rattle.ir_mean.specs.Resolution.{IsBodyAt}
use Rattle.ir_mean.specs.Laws.{IsTopped}
use Rattle.ir_mean.specs.Subtypes.{IsSub, equal, to_any, class_to_class}
use Rattle.ir_mean.proofs.Orders.{same_name}
use Rattle.dispatch_laws.proofs.OwnTargets.{own_target}
use Rattle.dispatch_laws.specs.Laws.{TargetsRun}
use Rattle.dispatch_laws.specs.Targets.{at_owner, target_from, IsTargetOf}
use Rattle.dispatch_laws.proofs.Bodies.{body_at-right}
use Rattle.dispatch_laws.proofs.Chains.{nearest_found, chain_of-right, chain_rises}
use Rattle.dispatch_laws.proofs.Defaults.{least_stands, candidate_above}

abbrev type_by : Bool → Name → IrType
type_by b c = if b then Any else Class c

has_value : (b : Bool) (c : Name) → type_by b c ≡ NoType → ⊥
has_value true c e = cc
has_value false c e = cc

-- below an ancestor also in types, where nothing stands above `java.lang.Object`
below : (w : Classes) → IsTopped w → (c d : Name) → IsAncestor w c d → IsSub w (class_type c) (class_type d)
below w topped c d a = go (is_same c object) refl (is_same d object) refl
  where
    go : (b : Bool) → is_same c object ≡ b → (b' : Bool) → is_same d object ≡ b' → IsSub w (type_by (is_same c object) c) (type_by (is_same d object) d)
    go b e true f = to_any (ap (λ (x : Bool). type_by x d) f) (has_value (is_same c object) c)
    go true e false f = let same : d ≡ c = topped.top d (subst (λ (x : Name). IsAncestor w x d) (same_name c object e) a) ∙ sym (same_name c object e) in equal (ap class_type (sym same))
    go false e false f = class_to_class c d (ap (λ (x : Bool). type_by x c) e) (ap (λ (x : Bool). type_by x d) f) a

module _ (w : Classes) where
  -- a target: its owner is an ancestor, and has its body
  record IsAbove (c : Name) (m : MethodName) (f : Found) : Type 0 where
    above : IsAncestor w c f.owner
    body : body_at w m f.owner ≡ Some f.method

  module _ (c : Name) (m : MethodName) (f : Found) where
    above_by_chain : nearest w m (chain_of w c) ≡ Some f → IsAbove c m f
    above_by_chain e =
        let n = nearest_found w m (chain_of w c) f e in
        let b : IsBodyAt w m f.owner f.method = body_at-right w m f.owner (Some f.method) n.body in
        record { above = chain_rises w c f.owner b.class (chain_of-right w c f.owner n.among) b.is_class; body = n.body }

    above_by_default : (o : Option ClassDef) → least_class (candidates w m c) ≡ o → default_of w m o ≡ Some f → IsAbove c m f
    above_by_default None l e = absurd (cc)
    above_by_default (Some k) l e = go (body_at w m k.name) refl e
      where
        go : (o : Option MethodDef) → body_at w m k.name ≡ o → or_found o k.name None ≡ Some f → IsAbove c m f
        go None b h = absurd (cc)
        go (Some d) b h =
            let same : record { owner = k.name; method = d } ≡ f = cc in
            subst (IsAbove c m) same (record { above = candidate_above w m c k (least_stands (candidates w m c) k l); body = b })

    is_above : resolved w c m ≡ Some f → IsAbove c m f
    is_above e = go (nearest w m (chain_of w c)) refl e
      where
        go : (o : Option Found) → nearest w m (chain_of w c) ≡ o → or_default w m c o ≡ Some f → IsAbove c m f
        go None n h = above_by_default (least_class (candidates w m c)) refl h
        go (Some g) n h = above_by_chain (n ∙ h)

  -- a chain begins with its class
  begins : (n : ℕ) (c : Name) (m : MethodName) (d : MethodDef) → body_at w m c ≡ Some d → nearest w m (chain_from w (suc n) [] c) ≡ Some (record { owner = c; method = d })
  begins n c m d e = ap (λ (o : Option MethodDef). or_found o c (nearest w m (elim (next_on_chain w c) as (λ o. List Name) [ None ↦ [] | Some b ↦ chain_from w n (c ∷ []) b ]))) e

  resolves_to_own : (c : Name) (m : MethodName) (d : MethodDef) → body_at w m c ≡ Some d → resolved w c m ≡ Some (record { owner = c; method = d })
  resolves_to_own c m d e = ap (or_default w m c) (ap (λ (n : ℕ). nearest w m (chain_from w n [] c)) long ∙ begins (length w + 9) c m d e)
    where
      long : longest w ≡ suc (length w + 9)
      long = omega arith

  -- the method that a class has with a body is the body that is found there
  same_method : (c : Name) (m : MethodName) (d x : MethodDef) (e : Term) → body_at w m c ≡ Some x → d.body ≡ Some e → member_of w c Public m ≡ Some d → Some x ≡ Some d
  same_method c m d x e b has found = sym (ap method_found (resolves_to_own c m x b)) ∙ target_found w c Public m d e has found

  at_found : IsTopped w → (k : Member) → k.namespace ≡ Public → (o : Option Found) → resolved w k.class k.method ≡ o → IsTargetOf w k (at_owner k o)
  at_found topped k public None r = own_target w k
  at_found topped k public (Some f) r =
      let a = is_above k.class k.method f r in
      record {
        namespace = refl;
        method = refl;
        above = below w topped k.class f.owner a.above;
        runs = λ d e has found.
            let there : member_of w f.owner Public k.method ≡ Some d = subst (λ (n : Namespace). member_of w f.owner n k.method ≡ Some d) public found in
            let runs : static_target w k.class Public k.method ≡ Some d = ap method_found r ∙ same_method f.owner k.method d f.method e a.body has there in
            subst (λ (n : Namespace). static_target w k.class n k.method ≡ Some d) (sym public) runs;
      }

  target_from-right : IsTopped w → (k : Member) (n : Namespace) → k.namespace ≡ n → IsTargetOf w k (target_from w n k)
  target_from-right topped k Public e = at_found topped k e (resolved w k.class k.method) refl
  target_from-right topped k _ e = own_target w k

pub targets_run : TargetsRun
targets_run w topped k = target_from-right w topped k k.namespace refl
