-- Where objects of a class are made, `java.lang.Object` is live: it ends the chain of each such class.
use Rattle.std.proofs.Common.{◌≡◌, ◌&&◌, ◌∙◌, Bool, true, false, List, [], ◌∷◌, Option, Some, None, ◌++◌, inl, inr, refl, sym, ap, subst, Contains, if◌then◌else◌}
use Rattle.std.specs.Prelude.{not, is_some, ◌↔◌}
use Rattle.declared_pieces.proofs.Chains.{Stands, whole_chain}
use Rattle.declared_pieces.proofs.Live.{next_is, live_next, live_free, classes_kept}
use Rattle.declared_pieces.proofs.Defined.{last}
use Rattle.declared_pieces.proofs.Derivations.{closed}
use Rattle.declared_pieces.proofs.Made as made
use Rattle.declared_pieces.proofs.Pieces.{extending}
use Rattle.declared_pieces.proofs.Plain.{class_found}
use Rattle.declared_pieces.specs.Accepted.{IsAccepted}
use Rattle.declared_pieces.specs.Bodies.{AreBodies}
use Rattle.declared_pieces.specs.EmittedMethods.{EmittedMethod}
use Rattle.declared_pieces.specs.Entries.{IsLive}
use Rattle.declared_pieces.specs.Pieces.{AreLinkedPieces}
use Rattle.declared_pieces.specs.Reachable.{Reachable}
use Rattle.declared_pieces.specs.Refusals.{wrong_kind, IsOtherKind, needed, no_class_above, no_class_made, no_module, no_exception}
use Rattle.declared_pieces.specs.Rules.{Rule, above, new_needed, new_made, load_needed, load_made, array_made, throw_needed, throw_made}
use Rattle.sj_emit_help_spec.specs.Helpers.{failure_class}
use Rattle.sj_emit_help_spec.specs.declared.kinds.Failure.TheVariants.{Store}
use Rattle.sj_emit_help_spec.specs.declared.kinds.Helper.TheVariants.{ArrayClass}
use Rattle.js_tree.specs.Terms.{Piece}
use Rattle.sj_local.specs.ClassRules.{is_class, is_empty, is_interface, keeps_superclass}
use Rattle.sj_names.proofs.Same.{impossible, text-same}
use Rattle.sj_names.specs.WellKnown.{object, is_object}
use Rattle.sj_names.specs.declared.entry_points.EntryPoint.{EntryPoint}
use Rattle.sj_names.specs.declared.folders.SourceFile.{SourceFile}
use Rattle.sj_split.proofs.Members.{at_first}
use Rattle.sj_trees.specs.declared.classes.ClassDef.{ClassDef}
use Rattle.sj_trees.specs.declared.classes.ClassKind.{ClassKind}
use Rattle.sj_trees.specs.declared.classes.ClassKind.TheVariants.{Class, ModuleClass}
use Rattle.sj_world.proofs.LawsHold.{joined}
use Rattle.sj_world.specs.Ancestors.{listed, written_in, IsWritten, IsNext, IsOnChain}
use Rattle.sj_world.specs.Known.{Name, Classes, class_of, is_hijacked}
use Rattle.sj_world.specs.Linked.{Linked}
use Rattle.sj_world.specs.Paths.{stay, on}
use Rattle.sj_world.specs.declared.facts.Fact.{Fact}
use Rattle.sj_world.specs.declared.facts.Fact.TheVariants.{Needed, Made}

-- a class without a superclass that is no interface is `java.lang.Object`
is_the_top : (k : ClassDef) → keeps_superclass k ≡ true → is_interface k.kind ≡ false → k.superclass ≡ None → is_object k.name ≡ true
is_the_top k kept other none = go (is_object k.name) refl (subst (λ (b : Bool). (if is_object k.name then is_class k.kind && not (is_some k.superclass) && is_empty k.interfaces else if b then not (is_some k.superclass) else is_some k.superclass) ≡ true) other kept)
  where
    go : (b : Bool) → is_object k.name ≡ b → (if b then is_class k.kind && not (is_some k.superclass) && is_empty k.interfaces else is_some k.superclass) ≡ true → is_object k.name ≡ true
    go true e h = e
    go false e h = impossible (sym (ap is_some none) ∙ h)

module _ (entries : List EntryPoint) (files : List SourceFile) (w : Classes) (a : IsAccepted entries files w) (facts : List Fact) (holds : (f : Fact) → Contains facts f → Reachable w entries f) where
  -- a class that is live, is needed and is no interface
  record IsGood (c : Name) : Type 0 where
    live : IsLive w facts c
    reached : Reachable w entries (Needed c)
    class : ClassDef
    found : class_of w c ≡ Some class
    other : is_interface class.kind ≡ false

  -- a class that is of this kind is no interface
  of_kind : (c : Name) (kind : ClassKind) → is_interface kind ≡ false → IsLive w facts c → Reachable w entries (Needed c) → (IsOtherKind w kind c → ⊥) → IsGood c
  of_kind c kind is live r right = let k = made.present w entries a.resolved (classes_kept entries files w a) c r in record { live = live; reached = r; class = k.0; found = k.1; other = go k.0 k.1 (is_interface k.0.kind) refl }
    where
      go : (k : ClassDef) → class_of w c ≡ Some k → (b : Bool) → is_interface k.kind ≡ b → is_interface k.kind ≡ false
      go k found false e = e
      go k found true e = absurd (right (record { class = k; is_class = found; other = λ same. impossible (sym is ∙ subst (λ (x : ClassKind). is_interface x ≡ true) same e) }))

  itself : (c : Name) → Contains facts (Made c) → IsLive w facts c
  itself c i = record { made = c; is_made = i; on_chain = stay }

  -- what it extends is so too
  module _ (c : Name) (g : IsGood c) where
    free : is_hijacked c ≡ false
    free = live_free entries files w a facts holds c g.live

    next : (d : Name) → g.class.superclass ≡ Some d → IsNext w c d
    next d super = next_is w c g.class g.found free ∙ super

    is_written : (d : Name) → g.class.superclass ≡ Some d → IsWritten w c d
    is_written d super = subst (λ (o : Option ClassDef). Contains (written_in o) d) (sym g.found) (subst (λ (o : Option Name). Contains (listed o ++ g.class.interfaces) d) (sym super) (at_first d g.class.interfaces))

    super_good : (d : Name) → g.class.superclass ≡ Some d → IsGood d
    super_good d super = of_kind d Class refl (live_next w facts c d g.live (next d super)) (closed w entries (Needed d) (above c d g.reached (is_written d super))) (λ o. a.resolved (wrong_kind d) (no_class_above c d g.class (needed g.reached) g.found super o))

    abbrev stands : Stands w IsGood c
    stands = record { class = g.class; found = g.found; free = free; up = super_good }

    at_top : g.class.superclass ≡ None → c ≡ object
    at_top none =
        let at = class_found w c g.class g.found in
        let top = is_the_top g.class ((classes_kept entries files w a).superclass g.class at.0) g.other none in
        text-same c object (subst (λ (n : Name). is_object n ≡ true) at.1 top)

  -- the chain of these classes comes to `java.lang.Object`
  abbrev Ends : List Name → Type 0
  Ends [] = ⊥
  Ends (c ∷ cs) = IsOnChain w c object

  climbs : (c : Name) → IsGood c → IsLive w facts object
  climbs c g =
      let chain = whole_chain w (classes_kept entries files w a) a.world.no_cycle IsGood stands Ends
      (λ d h none. subst (IsOnChain w d) (at_top d h none) stay)
      (λ d e es h super rest. joined (IsNext w) d e object (on d e stay (next d h e super)) rest)
      c g in
      record { made = g.live.made; is_made = g.live.is_made; on_chain = joined (IsNext w) g.live.made c object g.live.on_chain chain.classes }

  by_rule : (c : Name) → Rule w entries (Reachable w entries) (Made c) → Contains facts (Made c) → IsLive w facts object
  by_rule _ (new_made c m h) i = climbs c (of_kind c Class refl (itself c i) (closed w entries (Needed c) (new_needed c m h)) (λ o. a.resolved (wrong_kind c) (no_class_made c m h o)))
  by_rule _ (load_made c h) i = climbs c (of_kind c ModuleClass refl (itself c i) (closed w entries (Needed c) (load_needed c h)) (λ o. a.resolved (wrong_kind c) (no_module c h o)))
  by_rule _ (array_made h) i = itself object i
  by_rule _ (throw_made c h) i = climbs c (of_kind c Class refl (itself c i) (closed w entries (Needed c) (throw_needed c h)) (λ o. a.resolved (wrong_kind c) (no_exception c h o)))

  -- where a class is made, the class of all objects is live
  pub object_lives : (c : Name) → Contains facts (Made c) → IsLive w facts object
  object_lives c i = by_rule c (last w entries (Made c) (holds (Made c) i)) i

-- where the class of arrays is a helper, the class that it extends is live
pub arrays_extend : (entries : List EntryPoint) (files : List SourceFile) (l : Linked) (all : List EmittedMethod) (ps : List Piece) → IsAccepted entries files l.world → AreBodies l.world entries all → ((f : Fact) → Contains l.facts f ↔ Reachable l.world entries f) → (p : AreLinkedPieces l all ps) → Contains p.helpers ArrayClass → IsLive l.world l.facts object
arrays_extend entries files l all ps a bodies exact p i = elim (extending entries files l all ps a bodies (λ f. (exact f).0) p i) [
  | inl r ↦ lives object r
  | inr r ↦ lives (failure_class Store) r
]
  where
    lives : (c : Name) → Reachable l.world entries (Made c) → IsLive l.world l.facts object
    lives c r = object_lives entries files l.world a l.facts (λ f. (exact f).0) c ((exact (Made c)).1 r)
