-- The least default above a class, or that there is none.
use Rattle.std.proofs.Common.{◌≡◌, ℕ, ◌<◌, true, false, Option, Some, None, slice_get, refl, sym, ap, ◌∙◌, subst, inl, inr, arith}
use Rattle.std.specs.Prelude.{◌⊎◌}
use Rattle.ir_mean.specs.Dispatch.{is_ancestor, body_at}
use Rattle.ir_mean.proofs.AncestorsFound.{ancestors_are_worked_out}
use Rattle.sj_names.specs.declared.method_names.MethodName.{MethodName}
use Rattle.sj_trees.specs.declared.classes.ClassDef.{ClassDef}
use Rattle.sj_trees.specs.declared.classes.ClassKind.{ClassKind}
use Rattle.sj_trees.specs.declared.classes.ClassKind.TheVariants.{Interface}
use Rattle.sj_trees.specs.declared.classes.MethodDef.{MethodDef}
use Rattle.sj_world.specs.Ancestors.{IsAncestor}
use Rattle.sj_world.specs.Known.{Name, Classes, is_same}
use Rattle.sj_world.specs.Paths.{HasNone}
use Rattle.sj_world.specs.Refusals.{is_before, IsInOrder}
use Rattle.sj_world.specs.Resolution.{IsBodyAt, IsDefault, IsOverride, IsOverridden, IsCandidate, IsLeastCandidate, HasNoCandidate}
use Rattle.sj_world.proofs.ByName.{class_of-stands}
use Rattle.sj_world.proofs.Orders.{same_name, is_same_itself, not_before_itself, before_not_after}
use Rattle.sj_world.proofs.Searches.{Some_candidate}
use Rattle.dispatch_laws.proofs.Bodies.{body_at-right}
use Rattle.resolution_laws.proofs.Decisions.{Decided, by_test, both, without, decided_from, SomeFirst, search}

interface_decided : (k : ClassKind) → Decided (k ≡ Interface)
interface_decided Interface = inl refl
interface_decided _ = inr (λ e. cc)

same_decided : (a b : Name) → Decided (a ≡ b)
same_decided a b = by_test (is_same a b) (same_name a b) (λ e. subst (λ (x : Name). is_same a x ≡ true) e (is_same_itself a))

module _ (w : Classes) where
  pub ancestor_decided : (c d : Name) → Decided (IsAncestor w c d)
  ancestor_decided c d = let worked = ancestors_are_worked_out w c d in by_test (is_ancestor w c d) worked.0 worked.1

  module _ (m : MethodName) where
    -- the interface of this name has a body
    record SomeDefault (name : Name) : Type 0 where
      method : MethodDef
      is_default : IsDefault w m name method

    default_decided : (name : Name) → Decided (SomeDefault name)
    default_decided name = go (body_at w m name) refl
      where
        body_of : (d : MethodDef) → IsDefault w m name d → IsBodyAt w m name d
        body_of d h = record { class = h.class; is_class = h.is_class; first = h.first }

        by_kind : (d : MethodDef) (b : IsBodyAt w m name d) → Decided (b.class.kind ≡ Interface) → Decided (SomeDefault name)
        by_kind d b (inl e) = inl (record { method = d; is_default = record { class = b.class; is_class = b.is_class; is_interface = e; first = b.first } })
        by_kind d b (inr other) = inr (λ s. other (kind_at s))
          where
            kind_at : SomeDefault name → b.class.kind ≡ Interface
            kind_at s =
                let found : Some s.is_default.class ≡ Some b.class = sym s.is_default.is_class ∙ b.is_class in
                let same : s.is_default.class ≡ b.class = cc in
                subst (λ (x : ClassDef). x.kind ≡ Interface) same s.is_default.is_interface

        go : (o : Option MethodDef) → body_at w m name ≡ o → Decided (SomeDefault name)
        go None e = inr (λ s. (body_at-right w m name None e).none s.method (body_of s.method s.is_default))
        go (Some d) e = let b = body_at-right w m name (Some d) e in by_kind d b (interface_decided b.class.kind)

    override_decided : (name other : Name) → Decided (IsOverride w m name other)
    override_decided name other =
        decided_from
        (λ h. record { apart = h.0; below = h.1.0; method = h.1.1.method; is_default = h.1.1.is_default })
        (λ o. (o.apart, (o.below, record { method = o.method; is_default = o.is_default })))
        (both (without (same_decided other name)) (both (ancestor_decided other name) (default_decided other)))

    module _ (c : Name) where
      -- a class above that overrides the interface of this name
      abbrev Overrides : Name → ClassDef → Type 0
      Overrides name x = IsAncestor w c x.name × IsOverride w m name x.name

      overridden_decided : (name : Name) → Decided (IsOverridden w (IsAncestor w c) m name)
      overridden_decided name = go (search (Overrides name) (λ x. both (ancestor_decided c x.name) (override_decided name x.name)) w)
        where
          listed : IsOverridden w (IsAncestor w c) m name → HasNone (Overrides name) w → ⊥
          listed o none =
              let s = class_of-stands w o.other o.override.is_default.class o.override.is_default.is_class in
              none.none s.place o.override.is_default.class s.at (subst (λ (n : Name). IsAncestor w c n × IsOverride w m name n) (sym (same_name o.override.is_default.class.name o.other s.same)) (o.above, o.override))

          go : SomeFirst (Overrides name) w ⊎ HasNone (Overrides name) w → Decided (IsOverridden w (IsAncestor w c) m name)
          go (inl r) = inl (record { other = r.item.name; above = r.first.has.0; override = r.first.has.1 })
          go (inr none) = inr (λ o. listed o none)

      -- a class that is a candidate
      abbrev IsCandidateClass : ClassDef → Type 0
      IsCandidateClass x = Some_candidate w (IsAncestor w c) m x.name

      candidate_decided : (x : ClassDef) → Decided (IsCandidateClass x)
      candidate_decided x =
          decided_from
          (λ h. record { method = h.1.0.method; is_candidate = record { above = h.0; default = h.1.0.is_default; not_overridden = h.1.1 } })
          (λ s. (s.is_candidate.above, (record { method = s.method; is_default = s.is_candidate.default }, s.is_candidate.not_overridden)))
          (both (ancestor_decided c x.name) (both (default_decided x.name) (without (overridden_decided x.name))))

      -- where a candidate stands among the classes
      record CandidateAt (name : Name) : Type 0 where
        class : ClassDef
        place : ℕ
        at : slice_get w place ≡ Some class
        named : class.name ≡ name
        candidate : IsCandidateClass class

      candidate_at : (name : Name) (d : MethodDef) → IsCandidate w (IsAncestor w c) m name d → CandidateAt name
      candidate_at name d x =
          let s = class_of-stands w name x.default.class x.default.is_class in
          let named : x.default.class.name ≡ name = same_name x.default.class.name name s.same in
          record { class = x.default.class; place = s.place; at = s.at; named = named; candidate = record { method = d; is_candidate = subst (λ (n : Name). IsCandidate w (IsAncestor w c) m n d) (sym named) x } }

      -- a least candidate
      pub record HasLeast : Type 0 where
        pub method : MethodDef
        pub owner : Name
        pub least : IsLeastCandidate w (IsAncestor w c) m method owner

      -- the first of classes in order is the least
      least_first : IsInOrder w → SomeFirst IsCandidateClass w → HasLeast
      least_first sorted r = record { method = r.first.has.method; owner = r.item.name; least = record { candidate = r.first.has.is_candidate; least = λ other e x. least other (candidate_at other e x) } }
        where
          by_place : (other : Name) (a : CandidateAt other) → (a.place < r.first.place) ⊎ ((a.place ≡ r.first.place) ⊎ (r.first.place < a.place)) → is_before a.class.name r.item.name ≡ false
          by_place other a (inl lt) = absurd (r.first.none_before a.place a.class lt a.at a.candidate)
          by_place other a (inr (inl p)) = let found : Some a.class ≡ Some r.item = sym a.at ∙ ap (slice_get w) p ∙ r.first.stands in let same : a.class ≡ r.item = cc in subst (λ (x : ClassDef). is_before x.name r.item.name ≡ false) (sym same) (not_before_itself r.item.name)
          by_place other a (inr (inr lt)) = before_not_after r.item.name a.class.name (sorted.rises r.first.place a.place r.item a.class lt r.first.stands a.at)

          places : (i j : ℕ) → (i < j) ⊎ ((i ≡ j) ⊎ (j < i))
          places i j = grind arith

          least : (other : Name) → CandidateAt other → is_before other r.item.name ≡ false
          least other a = subst (λ (n : Name). is_before n r.item.name ≡ false) a.named (by_place other a (places a.place r.first.place))

      pub least_or_none : IsInOrder w → HasLeast ⊎ HasNoCandidate w (IsAncestor w c) m
      least_or_none sorted = go (search IsCandidateClass candidate_decided w)
        where
          go : SomeFirst IsCandidateClass w ⊎ HasNone IsCandidateClass w → HasLeast ⊎ HasNoCandidate w (IsAncestor w c) m
          go (inl r) = inl (least_first sorted r)
          go (inr none) = inr (record { none = λ name d x. let a = candidate_at name d x in none.none a.place a.class a.at a.candidate })
