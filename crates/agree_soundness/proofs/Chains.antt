-- What stands below a class with fields has it on its chain of superclasses, and no primitive type stands there.
use Rattle.std.proofs.Common.{◌≡◌, Bool, true, false, [], ◌&&◌, ◌||◌, Contains, Option, Some, None, codes, refl, sym, ap, ◌∙◌, subst, ◌⊎◌, inl, inr, if◌then◌else◌}
use Rattle.std.specs.Prelude.{not, is_some}
use Rattle.std.specs.List.{list_any}
use Rattle.std.proofs.lemmas.Bool.{and_parts}
use Rattle.std.proofs.lemmas.List.Elements.{Contains-append_cases}
use Rattle.agree_early_errors.proofs.Lists.{nothing_in, in_front_or_behind, from_filter}
use Rattle.agree_early_errors.proofs.Plain.{class_found, plain_world}
use Rattle.agree_early_errors.proofs.Topped.{absent_above, topped}
use Rattle.agree_soundness.specs.Worlds.{AreClassesKept, HasFields, WritesInterfaces}
use Rattle.sj_local.specs.ClassRules.{is_empty, is_class, is_interface, is_hijacked_kind, is_rightly_hijacked, is_right_number, keeps_superclass, keeps_hijacked}
use Rattle.sj_local.specs.MemberRules.{has_no_fields, breaks_field}
use Rattle.sj_local.specs.Names.{is_some_name, is_empty_type}
use Rattle.sj_names.proofs.Same.{impossible, text-same}
use Rattle.sj_names.specs.WellKnown.{is_object, is_number}
use Rattle.sj_trees.specs.Types.{class_type}
use Rattle.sj_trees.specs.declared.classes.ClassDef.{ClassDef}
use Rattle.sj_trees.specs.declared.classes.FieldDef.{FieldDef}
use Rattle.sj_trees.specs.declared.types.IrType.{IrType}
use Rattle.sj_trees.specs.declared.types.IrType.TheVariants.{Any, Nothing, Null, Array, Class}
use Rattle.dispatch_laws.specs.Ancestors.{listed, superclass_in, above_in, written_in, directly_above, IsParent, IsAncestor, Way, by_path, is_object as is_top, IsOnChain}
use Rattle.dispatch_laws.specs.Known.{Name, Classes, is_same, class_of, is_known, is_hijacked, stands_as, integer, object}
use Rattle.dispatch_laws.specs.SjWorldLaws.{IsPlain}
use Rattle.dispatch_laws.specs.Paths.{Path, stay, on}
use Rattle.dispatch_laws.specs.Subtypes.{hijacked_class, IsSub, equal, from_nothing, to_any, null_to_class, null_to_array, class_to_class, primitive_to_class, arrays_alike, arrays_of_arrays}

either_false : (a b : Bool) → (a || b) ≡ true → a ≡ false → b ≡ true
either_false true b h k = impossible (sym k)
either_false false b h k = h

-- a class that isn't hijacked stands as itself
pub byte_not : (b : Name) → is_hijacked b ≡ false → (n : Name) → is_hijacked n ≡ true → is_same b n ≡ false
byte_not b free n h = go (is_same b n) refl
  where
    go : (q : Bool) → is_same b n ≡ q → is_same b n ≡ false
    go false e = e
    go true e = impossible (sym free ∙ subst (λ (m : Name). is_hijacked m ≡ true) (sym (text-same b n e)) h)

pub stands_itself : (b : Name) → is_hijacked b ≡ false → stands_as b ≡ b
stands_itself b free = (λ i. if (byte_not b free (codes "java.lang.Byte") refl i || byte_not b free (codes "java.lang.Short") refl i) then integer else b)

only_listed : (s : Option Name) (c : Name) → Contains (listed s) c → s ≡ Some c
only_listed None c h = nothing_in c h
only_listed (Some d) c h = elim (in_front_or_behind d [] c h) [ inl e ↦ ap Some e | inr none ↦ nothing_in c none ]

-- a class with a superclass is no interface, and isn't `java.lang.Object`
has_superclass : (k : ClassDef) (c : Name) → keeps_superclass k ≡ true → k.superclass ≡ Some c → (is_interface k.kind ≡ false) × (is_object k.name ≡ false)
has_superclass k c h s = go (is_object k.name) refl (is_interface k.kind) refl (subst (λ (o : Option Name). (if is_object k.name then is_class k.kind && not (is_some o) && is_empty k.interfaces else if is_interface k.kind then not (is_some o) else is_some o) ≡ true) s h)
  where
    go : (a : Bool) → is_object k.name ≡ a → (b : Bool) → is_interface k.kind ≡ b → (if a then is_class k.kind && false && is_empty k.interfaces else if b then false else true) ≡ true → (is_interface k.kind ≡ false) × (is_object k.name ≡ false)
    go true e b f q = impossible (and_parts (is_class k.kind) false (and_parts (is_class k.kind && false) (is_empty k.interfaces) q).0).1
    go false e true f q = impossible q
    go false e false f q = (f, e)

both_false : (a b : Bool) → (a || b) ≡ false → (a ≡ false) × (b ≡ false)
both_false true b h = impossible (sym h)
both_false false b h = (refl, h)

-- a class with an instance field, by the local rules
pub has_fields : (w : Classes) (c : ClassDef) (f : FieldDef) → class_of w c.name ≡ Some c → keeps_hijacked c ≡ true → breaks_field c f ≡ false → f.is_static ≡ false → HasFields w c.name
has_fields w c f there k field instance = record { class = c; found = there; no_interface = second.0; no_object = first.1; no_number = parts.1; no_hijacked = free (is_hijacked c.name) refl rightly }
  where
    none : has_no_fields c ≡ false
    none = subst (λ (b : Bool). (not b && has_no_fields c) ≡ false) instance (both_false (is_empty_type f.tpe) (not f.is_static && has_no_fields c) field).1

    parts : ((is_interface c.kind || is_hijacked_kind c.kind || is_object c.name) ≡ false) × (is_number c.name ≡ false)
    parts = both_false (is_interface c.kind || is_hijacked_kind c.kind || is_object c.name) (is_number c.name) none

    first : ((is_interface c.kind || is_hijacked_kind c.kind) ≡ false) × (is_object c.name ≡ false)
    first = both_false (is_interface c.kind || is_hijacked_kind c.kind) (is_object c.name) parts.0

    second : (is_interface c.kind ≡ false) × (is_hijacked_kind c.kind ≡ false)
    second = both_false (is_interface c.kind) (is_hijacked_kind c.kind) first.0

    rightly : is_rightly_hijacked c ≡ true
    rightly = (and_parts (is_rightly_hijacked c) (is_right_number c) (and_parts (is_rightly_hijacked c && is_right_number c) (not (is_some_name is_hijacked c.superclass)) (and_parts (is_rightly_hijacked c && is_right_number c && not (is_some_name is_hijacked c.superclass)) (not (list_any is_hijacked c.interfaces)) k).0).0).0

    free : (b : Bool) → is_hijacked c.name ≡ b → (if b then is_hijacked_kind c.kind && is_some_name (λ d. is_object d || is_number d) c.superclass else not (is_hijacked_kind c.kind)) ≡ true → is_hijacked c.name ≡ false
    free false e h = e
    free true e h = impossible (sym second.1 ∙ (and_parts (is_hijacked_kind c.kind) (is_some_name (λ d. is_object d || is_number d) c.superclass) h).0)

name_is : (c d : Name) → ◌≡◌ {A = Option Name} (Some c) (Some d) → c ≡ d
name_is c d e = cc

module _ (w : Classes) (kept : AreClassesKept w) where
  plain : IsPlain w
  plain = plain_world w kept.superclass kept.hijacked

  -- what a class writes above itself: its superclass or an interface
  above_it : (b c : Name) → is_object c ≡ false → IsParent w b c → (class : ClassDef) × (class_of w (stands_as b) ≡ Some class) × ((class.superclass ≡ Some c) ⊎ Contains class.interfaces c)
  above_it b c top step = go (class_of w (stands_as b)) refl (from_filter (is_known w) (directly_above w (stands_as b)) c step)
    where
      go : (o : Option ClassDef) → class_of w (stands_as b) ≡ o → Contains (above_in o (stands_as b)) c → (class : ClassDef) × (class_of w (stands_as b) ≡ Some class) × ((class.superclass ≡ Some c) ⊎ Contains class.interfaces c)
      go None e i = impossible (sym top ∙ ap is_object (absent_above (stands_as b) c i))
      go (Some k) e i = (k, e, elim (Contains-append_cases (listed k.superclass) k.interfaces c i) [ inl first ↦ inl (only_listed k.superclass c first) | inr rest ↦ inr rest ])

  -- nothing but a hijacked class itself leads to one
  free_above : (d : Name) → is_hijacked d ≡ false → (b : Name) → Path (IsParent w) d b → is_hijacked b ≡ false
  free_above d free _ stay = free
  free_above d free _ (on b c path step) = go (class_of w (stands_as b)) refl (from_filter (is_known w) (directly_above w (stands_as b)) c step)
    where
      go : (o : Option ClassDef) → class_of w (stands_as b) ≡ o → Contains (above_in o (stands_as b)) c → is_hijacked c ≡ false
      go None e i = ap is_hijacked (absent_above (stands_as b) c i)
      go (Some k) e i = plain.apart (stands_as b) c (subst (λ (o : Option ClassDef). Contains (written_in o) c) (sym e) i)

  interface_not : {A : Type 0} (d b c : Name) → WritesInterfaces w d → Path (IsParent w) d b → (class : ClassDef) → class_of w (stands_as b) ≡ Some class → Contains class.interfaces c → (k : ClassDef) → class_of w c ≡ Some k → is_interface k.kind ≡ false → A
  interface_not d b c faces path class found i k there other = impossible (sym other ∙ faces b path class found c k i there)

  climb : (d : Name) → is_hijacked d ≡ false → WritesInterfaces w d → (c : Name) → Path (IsParent w) d c → (k : ClassDef) → class_of w c ≡ Some k → is_interface k.kind ≡ false → is_object c ≡ false → IsOnChain w d c
  climb d free faces _ stay k there other top = stay
  climb d free faces _ (on b c path step) k there other top = go (climb d free faces b path) (above_it b c top step)
    where
      same : stands_as b ≡ b
      same = stands_itself b (free_above d free b path)

      further : ((k : ClassDef) → class_of w b ≡ Some k → is_interface k.kind ≡ false → is_object b ≡ false → IsOnChain w d b) → (class : ClassDef) → class_of w (stands_as b) ≡ Some class → class.superclass ≡ Some c → IsOnChain w d c
      further rise class found super =
          let its : class_of w b ≡ Some class = subst (λ (n : Name). class_of w n ≡ Some class) same found in
          let at = class_found w b class its in
          let parts = has_superclass class c (kept.superclass class at.0) super in
          on b c (rise class its parts.0 (subst (λ (n : Name). is_object n ≡ false) at.1 parts.1)) (ap (λ (o : Option ClassDef). superclass_in o (stands_as b)) found ∙ super)

      go : ((k : ClassDef) → class_of w b ≡ Some k → is_interface k.kind ≡ false → is_object b ≡ false → IsOnChain w d b) → (class : ClassDef) × (class_of w (stands_as b) ≡ Some class) × ((class.superclass ≡ Some c) ⊎ Contains class.interfaces c) → IsOnChain w d c
      go rise found = elim found.2 [ inl super ↦ further rise found.0 found.1 super | inr face ↦ interface_not d b c faces path found.0 found.1 face k there other ]

  -- what is made below a class with fields has it on its chain
  pub on_chain : (c d : Name) → HasFields w c → is_hijacked d ≡ false → WritesInterfaces w d → IsSub w (Class d) (class_type c) → IsOnChain w d c
  on_chain c d h free faces sub = go (subst (λ (t : IrType). IsSub w (Class d) t) (ap (λ (b : Bool). if b then Any else Class c) h.no_object) sub)
    where
      up : Way w d c → IsOnChain w d c
      up (by_path path) = climb d free faces c path h.class h.found h.no_interface h.no_object
      up (is_top e) = impossible (sym h.no_object ∙ ap is_object e)

      go : IsSub w (Class d) (Class c) → IsOnChain w d c
      go (equal e) = let same : d ≡ c = cc in subst (λ (n : Name). IsOnChain w d n) same stay
      go (from_nothing e) = absurd (cc)
      go (to_any e n) = absurd (cc)
      go (null_to_class b e f) = absurd (cc)
      go (null_to_array b e f) = absurd (cc)
      go (class_to_class a b e f k) = let one : a ≡ d = cc in let two : b ≡ c = cc in up (subst (λ (n : Name). Way w n c) one (subst (λ (n : Name). Way w a n) two k.way))
      go (primitive_to_class a b e f k) = absurd (cc)
      go (arrays_alike a b e f g k) = absurd (cc)
      go (arrays_of_arrays a b e f g k) = absurd (cc)

  -- what a class that is written as hijacked has for its superclass
  hijacked_above : (class : ClassDef) (c : Name) → is_hijacked class.name ≡ true → keeps_hijacked class ≡ true → class.superclass ≡ Some c → (is_object c || is_number c) ≡ true
  hijacked_above class c h k super = go (is_hijacked class.name) h rightly
    where
      rightly : is_rightly_hijacked class ≡ true
      rightly = (and_parts (is_rightly_hijacked class) (is_right_number class) (and_parts (is_rightly_hijacked class && is_right_number class) (not (is_some_name is_hijacked class.superclass)) (and_parts (is_rightly_hijacked class && is_right_number class && not (is_some_name is_hijacked class.superclass)) (not (list_any is_hijacked class.interfaces)) k).0).0).0

      go : (b : Bool) → b ≡ true → (if b then is_hijacked_kind class.kind && is_some_name (λ d. is_object d || is_number d) class.superclass else not (is_hijacked_kind class.kind)) ≡ true → (is_object c || is_number c) ≡ true
      go false e q = impossible e
      go true e q = subst (λ (o : Option Name). is_some_name (λ d. is_object d || is_number d) o ≡ true) super (and_parts (is_hijacked_kind class.kind) (is_some_name (λ d. is_object d || is_number d) class.superclass) q).1

  -- a class above which another than `java.lang.Object` stands isn't `java.lang.Number`
  number_not : (class : ClassDef) (c : Name) → keeps_hijacked class ≡ true → class.superclass ≡ Some c → is_object c ≡ false → is_number class.name ≡ false
  number_not class c k super top = go (is_number class.name) right
    where
      right : is_right_number class ≡ true
      right = (and_parts (is_rightly_hijacked class) (is_right_number class) (and_parts (is_rightly_hijacked class && is_right_number class) (not (is_some_name is_hijacked class.superclass)) (and_parts (is_rightly_hijacked class && is_right_number class && not (is_some_name is_hijacked class.superclass)) (not (list_any is_hijacked class.interfaces)) k).0).0).1

      go : (b : Bool) → (not b || (is_class class.kind && is_some_name is_object class.superclass)) ≡ true → b ≡ false
      go false q = refl
      go true q = impossible (sym top ∙ subst (λ (o : Option Name). is_some_name is_object o ≡ true) super (and_parts (is_class class.kind) (is_some_name is_object class.superclass) q).1)

  stands_hijacked : (b : Name) → is_hijacked b ≡ true → is_hijacked (stands_as b) ≡ true
  stands_hijacked b h = go (is_same b (codes "java.lang.Byte") || is_same b (codes "java.lang.Short"))
    where
      go : (q : Bool) → is_hijacked (if q then integer else b) ≡ true
      go true = refl
      go false = h

  no_climb : (h : Name) → is_hijacked h ≡ true → WritesInterfaces w h → (c : Name) → Path (IsParent w) h c → (k : ClassDef) → class_of w c ≡ Some k → is_interface k.kind ≡ false → is_object c ≡ false → is_number c ≡ false → is_hijacked c ≡ false → ⊥
  no_climb h hijacked faces _ stay k there other top number free = impossible (sym free ∙ hijacked)
  no_climb h hijacked faces _ (on b c path step) k there other top number free = go (no_climb h hijacked faces b path) (is_hijacked b) refl (above_it b c top step)
    where
      further : ((k : ClassDef) → class_of w b ≡ Some k → is_interface k.kind ≡ false → is_object b ≡ false → is_number b ≡ false → is_hijacked b ≡ false → ⊥) → (q : Bool) → is_hijacked b ≡ q → (class : ClassDef) → class_of w (stands_as b) ≡ Some class → class.superclass ≡ Some c → ⊥
      further rise true e class found super = let at = class_found w (stands_as b) class found in impossible (sym number ∙ either_false (is_object c) (is_number c) (hijacked_above class c (subst (λ (n : Name). is_hijacked n ≡ true) (sym at.1) (stands_hijacked b e)) (kept.hijacked class at.0) super) top)
      further rise false e class found super =
          let its : class_of w b ≡ Some class = subst (λ (n : Name). class_of w n ≡ Some class) (stands_itself b e) found in
          let at = class_found w b class its in
          let parts = has_superclass class c (kept.superclass class at.0) super in
          rise class its parts.0 (subst (λ (n : Name). is_object n ≡ false) at.1 parts.1) (subst (λ (n : Name). is_number n ≡ false) at.1 (number_not class c (kept.hijacked class at.0) super top)) e

      go : ((k : ClassDef) → class_of w b ≡ Some k → is_interface k.kind ≡ false → is_object b ≡ false → is_number b ≡ false → is_hijacked b ≡ false → ⊥) → (q : Bool) → is_hijacked b ≡ q → (class : ClassDef) × (class_of w (stands_as b) ≡ Some class) × ((class.superclass ≡ Some c) ⊎ Contains class.interfaces c) → ⊥
      go rise q e found = elim found.2 [ inl super ↦ further rise q e found.0 found.1 super | inr face ↦ interface_not h b c faces path found.0 found.1 face k there other ]

  -- nothing above the class of all objects has fields
  pub no_top : (c : Name) → HasFields w c → IsSub w (Class object) (class_type c) → ⊥
  no_top c fields sub = go (subst (λ (t : IrType). IsSub w (Class object) t) (ap (λ (b : Bool). if b then Any else Class c) fields.no_object) sub)
    where
      other : c ≡ object → ⊥
      other e = impossible (sym fields.no_object ∙ ap is_object e)

      go : IsSub w (Class object) (Class c) → ⊥
      go (equal e) = let same : c ≡ object = cc in other same
      go (from_nothing e) = absurd (cc)
      go (to_any e n) = absurd (cc)
      go (null_to_class b e f) = absurd (cc)
      go (null_to_array b e f) = absurd (cc)
      go (class_to_class a b e f k) = let one : a ≡ object = cc in let two : b ≡ c = cc in other ((topped w plain).top c (subst (λ (n : Name). IsAncestor w n c) one (subst (λ (n : Name). IsAncestor w a n) two k)))
      go (primitive_to_class a b e f k) = absurd (cc)
      go (arrays_alike a b e f g k) = absurd (cc)
      go (arrays_of_arrays a b e f g k) = absurd (cc)

  none_there : {A : Type 0} (o t : IrType) (h : Name) → o ≡ t → hijacked_class t ≡ None → hijacked_class o ≡ Some h → A
  none_there o t h e n k = let both : ◌≡◌ {A = Option Name} None (Some h) = sym n ∙ sym (ap hijacked_class e) ∙ k in absurd (cc)

  pub class_hijacked : (o : IrType) (h : Name) → hijacked_class o ≡ Some h → is_hijacked h ≡ true
  class_hijacked IrType.Undefined h e = subst (λ (n : Name). is_hijacked n ≡ true) (name_is (codes "java.lang.Void") h e) refl
  class_hijacked IrType.Boolean h e = subst (λ (n : Name). is_hijacked n ≡ true) (name_is (codes "java.lang.Boolean") h e) refl
  class_hijacked IrType.Char h e = subst (λ (n : Name). is_hijacked n ≡ true) (name_is (codes "java.lang.Character") h e) refl
  class_hijacked IrType.Byte h e = subst (λ (n : Name). is_hijacked n ≡ true) (name_is (codes "java.lang.Byte") h e) refl
  class_hijacked IrType.Short h e = subst (λ (n : Name). is_hijacked n ≡ true) (name_is (codes "java.lang.Short") h e) refl
  class_hijacked IrType.Int h e = subst (λ (n : Name). is_hijacked n ≡ true) (name_is (codes "java.lang.Integer") h e) refl
  class_hijacked IrType.Long h e = subst (λ (n : Name). is_hijacked n ≡ true) (name_is (codes "java.lang.Long") h e) refl
  class_hijacked IrType.String h e = subst (λ (n : Name). is_hijacked n ≡ true) (name_is (codes "java.lang.String") h e) refl
  class_hijacked o h e = none_there o o h refl refl e

  -- no primitive type stands below a class with fields
  pub no_primitive : (c : Name) (o : IrType) (h : Name) → HasFields w c → hijacked_class o ≡ Some h → WritesInterfaces w h → IsSub w o (class_type c) → ⊥
  no_primitive c o h fields its faces sub = go (subst (λ (t : IrType). IsSub w o t) (ap (λ (b : Bool). if b then Any else Class c) fields.no_object) sub)
    where
      up : Way w h c → ⊥
      up (by_path path) = no_climb h (class_hijacked o h its) faces c path fields.class fields.found fields.no_interface fields.no_object fields.no_number fields.no_hijacked
      up (is_top e) = impossible (sym fields.no_object ∙ ap is_object e)

      go : IsSub w o (Class c) → ⊥
      go (equal e) = none_there o (Class c) h e refl its
      go (from_nothing e) = none_there o Nothing h e refl its
      go (to_any e n) = absurd (cc)
      go (null_to_class b e f) = none_there o Null h e refl its
      go (null_to_array b e f) = none_there o Null h e refl its
      go (class_to_class a b e f k) = none_there o (Class a) h e refl its
      go (primitive_to_class a b e f k) = let one : a ≡ h = name_is a h (sym e ∙ its) in let two : b ≡ c = cc in up (subst (λ (n : Name). Way w n c) one (subst (λ (n : Name). Way w a n) two k.way))
      go (arrays_alike a b e f g k) = none_there o (Array a) h e refl its
      go (arrays_of_arrays a b e f g k) = none_there o (Array a) h e refl its
