-- Whether a class above declares a method.
use Rattle.std.proofs.Common.{◌≡◌, ◌&&◌, List, Option, Some, None, refl, sym, ◌∙◌, subst, inl, inr, true}
use Rattle.std.specs.Prelude.{◌⊎◌}
use Rattle.std.proofs.lemmas.Bool.{and_parts, and_from}
use Rattle.ir_mean.specs.Dispatch.{is_public}
use Rattle.sj_names.proofs.Same.{method-same, namespace-same}
use Rattle.sj_names.specs.Same.{is_same_method, is_same_namespace}
use Rattle.sj_names.specs.declared.method_names.MethodName.{MethodName}
use Rattle.sj_names.specs.declared.method_names.Namespace.{Namespace}
use Rattle.sj_names.specs.declared.method_names.Namespace.TheVariants.{Public}
use Rattle.sj_trees.specs.declared.classes.ClassDef.{ClassDef}
use Rattle.sj_trees.specs.declared.classes.MethodDef.{MethodDef}
use Rattle.sj_world.specs.Ancestors.{IsAncestor}
use Rattle.sj_world.specs.Known.{Name, Classes, class_of}
use Rattle.sj_world.specs.Paths.{HasNone}
use Rattle.sj_world.specs.Resolution.{IsPublic, HasPublic, IsDeclaredAt, IsDeclared}
use Rattle.sj_world.proofs.ByName.{class_of-stands}
use Rattle.sj_world.proofs.Orders.{same_name}
use Rattle.sj_world.proofs.Searches.{contains_at, none_among}
use Rattle.dispatch_laws.proofs.SameNames.{method-itself}
use Rattle.resolution_laws.proofs.Decisions.{Decided, by_test, both, SomeFirst, search}
use Rattle.resolution_laws.proofs.Defaults.{ancestor_decided}

module _ (m : MethodName) where
  public_decided : (d : MethodDef) → Decided (IsPublic m d)
  public_decided d = by_test (is_public d && is_same_method m d.name) right tells
    where
      right : (is_public d && is_same_method m d.name) ≡ true → IsPublic m d
      right h = let p = and_parts (is_public d) (is_same_method m d.name) h in record { namespace_is = namespace-same d.namespace Public p.0; name_is = sym (method-same m d.name p.1) }

      tells : IsPublic m d → (is_public d && is_same_method m d.name) ≡ true
      tells p = and_from (is_public d) (is_same_method m d.name) (subst (λ (n : Namespace). is_same_namespace n Public ≡ true) (sym p.namespace_is) refl) (subst (λ (n : MethodName). is_same_method m n ≡ true) (sym p.name_is) (method-itself m))

  methods_decided : (methods : List MethodDef) → Decided (HasPublic m methods)
  methods_decided methods = go (search (IsPublic m) public_decided methods)
    where
      go : SomeFirst (IsPublic m) methods ⊎ HasNone (IsPublic m) methods → Decided (HasPublic m methods)
      go (inl r) = inl (record { method = r.item; among = contains_at methods r.first.place r.item r.first.stands; is_public = r.first.has })
      go (inr none) = inr (λ h. none_among (IsPublic m) methods h.method none h.among h.is_public)

  module _ (w : Classes) where
    declared_at_decided : (name : Name) → Decided (IsDeclaredAt w m name)
    declared_at_decided name = go (class_of w name) refl
      where
        moved : (k : ClassDef) → class_of w name ≡ Some k → IsDeclaredAt w m name → HasPublic m k.methods
        moved k e h = let found : Some h.class ≡ Some k = sym h.is_class ∙ e in let same : h.class ≡ k = cc in subst (λ (x : ClassDef). HasPublic m x.methods) same h.declared

        in_class : (k : ClassDef) → class_of w name ≡ Some k → Decided (HasPublic m k.methods) → Decided (IsDeclaredAt w m name)
        in_class k e (inl h) = inl (record { class = k; is_class = e; declared = h })
        in_class k e (inr none) = inr (λ h. none (moved k e h))

        go : (o : Option ClassDef) → class_of w name ≡ o → Decided (IsDeclaredAt w m name)
        go None e = inr (λ h. let wrong : None ≡ Some h.class = sym e ∙ h.is_class in cc)
        go (Some k) e = in_class k e (methods_decided k.methods)

    module _ (c : Name) where
      -- a class above that declares the method
      abbrev Declares : ClassDef → Type 0
      Declares x = IsAncestor w c x.name × IsDeclaredAt w m x.name

      listed : IsDeclared w (IsAncestor w c) m → HasNone Declares w → ⊥
      listed d none =
          let s = class_of-stands w d.owner d.declared.class d.declared.is_class in
          none.none s.place d.declared.class s.at (subst (λ (n : Name). IsAncestor w c n × IsDeclaredAt w m n) (sym (same_name d.declared.class.name d.owner s.same)) (d.above, d.declared))

      pub declared_decided : Decided (IsDeclared w (IsAncestor w c) m)
      declared_decided = go (search Declares (λ x. both (ancestor_decided w c x.name) (declared_at_decided x.name)) w)
        where
          go : SomeFirst Declares w ⊎ HasNone Declares w → Decided (IsDeclared w (IsAncestor w c) m)
          go (inl r) = inl (record { owner = r.item.name; above = r.first.has.0; declared = r.first.has.1 })
          go (inr none) = inr (λ d. listed d none)
