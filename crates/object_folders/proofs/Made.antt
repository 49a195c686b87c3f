-- What is made of an accepted folder, and what is live, isn't hijacked, and is needed.
use Rattle.std.proofs.Common.{◌≡◌, Bool, true, false, List, ◌++◌, ◌&&◌, ◌||◌, ◌∙◌, Option, Some, None, refl, sym, subst, if◌then◌else◌, Contains}
use Rattle.std.specs.Prelude.{not}
use Rattle.std.specs.List.{list_any}
use Rattle.std.proofs.lemmas.Bool.{and_parts}
use Rattle.linked_entries.proofs.Objects.{interfaces}
use Rattle.linked_entries.proofs.Lists.{at_front}
use Rattle.linked_entries.proofs.Plain.{class_found, plain_world}
use Rattle.linked_entries.proofs.Chains.{stands_itself}
use Rattle.linked_entries.specs.Worlds.{AreClassesKept, WritesInterfaces}
use Rattle.linked_entries.specs.Entries.{IsLive}
use Rattle.linked_entries.proofs.Defined.{last}
use Rattle.linked_entries.proofs.Derivations.{closed}
use Rattle.linked_entries.specs.Reachable.{Reachable, Unresolved}
use Rattle.linked_entries.specs.Refusals.{Refusal, missing_class, wrong_kind, IsOtherKind, needed, no_class, no_class_made, no_module, no_exception}
use Rattle.linked_entries.specs.SjReachSpecRules.{Rule, the_object, above, new_needed, new_made, load_needed, load_made, array_made, throw_needed, throw_made}
use Rattle.sj_local.specs.ClassRules.{is_hijacked_kind, is_rightly_hijacked, is_right_number, keeps_hijacked}
use Rattle.sj_local.specs.Names.{is_some_name}
use Rattle.sj_names.proofs.Same.{impossible}
use Rattle.sj_names.specs.WellKnown.{is_object, is_number}
use Rattle.sj_names.specs.declared.entry_points.EntryPoint.{EntryPoint}
use Rattle.sj_trees.specs.declared.classes.ClassDef.{ClassDef}
use Rattle.sj_trees.specs.declared.classes.ClassKind.{ClassKind}
use Rattle.sj_trees.specs.declared.classes.ClassKind.TheVariants.{Class, ModuleClass}
use Rattle.sj_world.specs.Ancestors.{listed, written_in, superclass_in, IsWritten, IsNext, IsOnChain}
use Rattle.sj_world.specs.Known.{Name, Classes, class_of, is_hijacked, object}
use Rattle.sj_world.specs.Paths.{stay, on}
use Rattle.sj_world.specs.declared.facts.Fact.{Fact}
use Rattle.sj_world.specs.declared.facts.Fact.TheVariants.{Needed, Made}

-- a class of another kind isn't hijacked
free_kind : (k : ClassDef) → keeps_hijacked k ≡ true → is_hijacked_kind k.kind ≡ false → is_hijacked k.name ≡ false
free_kind k kept other = free (is_hijacked k.name) refl rightly
  where
    rightly : is_rightly_hijacked k ≡ true
    rightly = (and_parts (is_rightly_hijacked k) (is_right_number k) (and_parts (is_rightly_hijacked k && is_right_number k) (not (is_some_name is_hijacked k.superclass)) (and_parts (is_rightly_hijacked k && is_right_number k && not (is_some_name is_hijacked k.superclass)) (not (list_any is_hijacked k.interfaces)) kept).0).0).0

    free : (b : Bool) → is_hijacked k.name ≡ b → (if b then is_hijacked_kind k.kind && is_some_name (λ d. is_object d || is_number d) k.superclass else not (is_hijacked_kind k.kind)) ≡ true → is_hijacked k.name ≡ false
    free false e h = e
    free true e h = impossible (sym other ∙ (and_parts (is_hijacked_kind k.kind) (is_some_name (λ d. is_object d || is_number d) k.superclass) h).0)

module _ (w : Classes) (entries : List EntryPoint) (resolved : (r : Refusal) → Unresolved w entries r → ⊥) (kept : AreClassesKept w) where
  abbrev Holds : Fact → Type 0
  Holds = Reachable w entries

  abbrev IsFree : Name → Type 0
  IsFree c = Holds (Needed c) × (is_hijacked c ≡ false)

  -- a class that is needed is there
  pub present : (c : Name) → Holds (Needed c) → (k : ClassDef) × (class_of w c ≡ Some k)
  present c r = go (class_of w c) refl
    where
      go : (o : Option ClassDef) → class_of w c ≡ o → (k : ClassDef) × (class_of w c ≡ Some k)
      go None e = absurd (resolved (missing_class c) (no_class c r e))
      go (Some k) e = (k, e)

  of_kind : (c : Name) (kind : ClassKind) → is_hijacked_kind kind ≡ false → Holds (Needed c) → (IsOtherKind w kind c → ⊥) → IsFree c
  of_kind c kind other r right = (r, go (is_hijacked_kind class.kind) refl)
    where
      class : ClassDef
      class = (present c r).0

      found : class_of w c ≡ Some class
      found = (present c r).1

      go : (b : Bool) → is_hijacked_kind class.kind ≡ b → is_hijacked c ≡ false
      go true e = absurd (right (record { class = class; is_class = found; other = λ same. impossible (sym other ∙ subst (λ (k : ClassKind). is_hijacked_kind k ≡ true) same e) }))
      go false e = let at = class_found w c class found in subst (λ (n : Name). is_hijacked n ≡ false) at.1 (free_kind class (kept.hijacked class at.0) e)

  made : (c : Name) → Rule w entries Holds (Made c) → IsFree c
  made _ (new_made c m h) = of_kind c Class refl (closed w entries (Needed c) (new_needed c m h)) (λ o. resolved (wrong_kind c) (no_class_made c m h o))
  made _ (load_made c h) = of_kind c ModuleClass refl (closed w entries (Needed c) (load_needed c h)) (λ o. resolved (wrong_kind c) (no_module c h o))
  made _ (array_made h) = (closed w entries (Needed object) the_object, refl)
  made _ (throw_made c h) = of_kind c Class refl (closed w entries (Needed c) (throw_needed c h)) (λ o. resolved (wrong_kind c) (no_exception c h o))

  -- a superclass that is written is needed, and isn't hijacked
  next : (b d : Name) → IsFree b → IsNext w b d → IsFree d
  next b d h step = (closed w entries (Needed d) (above b d h.0 is_written), (plain_world w kept.superclass kept.hijacked).apart b d is_written)
    where
      class : ClassDef
      class = (present b h.0).0

      found : class_of w b ≡ Some class
      found = (present b h.0).1

      superclass : class.superclass ≡ Some d
      superclass = subst (λ (o : Option ClassDef). superclass_in o b ≡ Some d) found (subst (λ (n : Name). superclass_in (class_of w n) n ≡ Some d) (stands_itself b h.1) step)

      is_written : IsWritten w b d
      is_written = subst (λ (o : Option ClassDef). Contains (written_in o) d) (sym found) (subst (λ (o : Option Name). Contains (listed o ++ class.interfaces) d) (sym superclass) (at_front d class.interfaces))

  chain : (c d : Name) → IsFree c → IsOnChain w c d → IsFree d
  chain c _ h stay = h
  chain c _ h (on b d path step) = next b d (chain c b h path) step

  -- what is live isn't hijacked, and what it writes as an interface is one
  pub live_free : (facts : List Fact) → ((f : Fact) → Contains facts f → Holds f) → (c : Name) → IsLive w facts c → (is_hijacked c ≡ false) × WritesInterfaces w c
  live_free facts reached c h = let free = chain h.made c (made h.made (last w entries (Made h.made) (reached (Made h.made) h.is_made))) h.on_chain in (free.1, interfaces w entries resolved c (needed free.0))

  -- and is there
  pub live_there : (facts : List Fact) → ((f : Fact) → Contains facts f → Holds f) → (c : Name) → IsLive w facts c → (k : ClassDef) × (class_of w c ≡ Some k)
  live_there facts reached c h = present c (chain h.made c (made h.made (last w entries (Made h.made) (reached (Made h.made) h.is_made))) h.on_chain).0
