-- What the code of the written classes can use has its pieces.
use Rattle.std.proofs.Common.{◌≡◌, ◌&&◌, ◌||◌, not, Bool, true, false, List, inl, inr, Option, Some, None, IsTrue, refl, sym, ap, subst, ◌∙◌, ◌⊎◌, if◌then◌else◌}
use Rattle.std.specs.Prelude.{◌↔◌}
use Rattle.std.specs.Str.{is_utf8}
use Rattle.std.specs.List.{Contains, filter, flat_map, list_any}
use Rattle.std.proofs.lemmas.Bool.{and_parts, and_from, or_cases, or_left, or_right}
use Rattle.std.proofs.lemmas.List.Elements.{Contains-append_left}
use Rattle.std.proofs.lemmas.List.Folds.{Any-from_list_any, list_any_at}
use Rattle.std.proofs.lemmas.List.Sorted.{Contains-permutation, IsPermutation-sym}
use Rattle.object_helpers.proofs.Members.{same-class, defined}
use Rattle.object_helpers.specs.Accepted.{IsAccepted}
use Rattle.object_helpers.specs.Bodies.{AreBodies}
use Rattle.object_helpers.proofs.Plain.{class_found}
use Rattle.object_helpers.specs.Standing.{call_type}
use Rattle.object_helpers.specs.Built.{Usable, has_static, is_static, has_no_value}
use Rattle.declared_pieces.proofs.Blocks.{OwnPieces, own_pieces, method_there, helper_there}
use Rattle.declared_pieces.proofs.Chains.{Stands}
use Rattle.declared_pieces.proofs.Fields.{static_there, class_named, class_utf8}
use Rattle.declared_pieces.proofs.HelperNames.{one_helper}
use Rattle.declared_pieces.proofs.Below.{stands_above}
use Rattle.declared_pieces.proofs.Live.{classes_kept}
use Rattle.declared_pieces.proofs.Looked as looked
use Rattle.declared_pieces.proofs.Reached.{made_lives}
use Rattle.declared_pieces.proofs.Parts.{constants_among, statics_among, in_statics, is_reached, test_among, cast_among}
use Rattle.declared_pieces.proofs.Forms.{body_tells, test_form, cast_form, base_form}
use Rattle.declared_pieces.specs.Closed.{IsClosed}
use Rattle.declared_pieces.specs.Laws.{FindsEntry, TestThere, CastThere, BaseThere, WhatIsUsedHasPieces}
use Rattle.file_declarations.specs.Declared.{alone, on_receiver, running, completing}
use Rattle.object_helpers.proofs.Facts.{made_known, called_known}
use Rattle.object_helpers.specs.Entries.{AreEntries, IsLive}
use Rattle.object_helpers.specs.Targets.{has_hijacked_in}
use Rattle.ir_mean.specs.Dispatch.{is_ancestor}
use Rattle.sj_emit_help_spec.specs.Helpers.{helper_name, helper_piece}
use Rattle.sj_emit_help_spec.specs.Words.{all_kinds, helper}
use Rattle.sj_emit_help_spec.specs.declared.kinds.Helper.{Helper}
use Rattle.sj_emit_help_spec.specs.declared.kinds.Helper.TheVariants.{TestOf}
use Rattle.js_tree.specs.Terms.{Piece}
use Rattle.object_helpers.specs.Pieces.{pieces_of_block, by_piece, AreLinkedPieces}
use Rattle.object_helpers.proofs.Statics.{static_is}
use Rattle.object_helpers.specs.Used.{used_of, makes, calls_on, tells_apart, is_among, is_received, is_constructor, has_static_in, needs_static, is_tested, is_cast, is_based_on}
use Rattle.file_declarations.specs.Settings.{IsStaticField}
use Rattle.object_helpers.proofs.Made as made
use Rattle.object_helpers.specs.Running.{CanRun}
use Rattle.file_declarations.specs.Classes.{AreSorted, is_own, HasForm}
use Rattle.file_declarations.specs.Pieces.{Parts, constants_piece, class_piece, all_statics, variable_piece, setter_piece, test_piece, test_uses, kind_of_class, cast_piece}
use Rattle.object_helpers.proofs.Derivations.{closed}
use Rattle.object_helpers.specs.Rules.{Reads, the_object, class_named as class_named_by}
use Rattle.object_helpers.specs.Reachable.{Reachable}
use Rattle.sj_names.proofs.Same.{impossible, text-same, text-refl}
use Rattle.sj_names.specs.Grammar.{is_class_name}
use Rattle.sj_names.specs.Same.{is_same_text}
use Rattle.sj_names.specs.WellKnown.{is_object, object}
use Rattle.sj_names.specs.declared.entry_points.EntryPoint.{EntryPoint}
use Rattle.sj_names.specs.declared.folders.SourceFile.{SourceFile}
use Rattle.sj_names.specs.declared.method_names.Member.{Member}
use Rattle.sj_names.specs.declared.method_names.MethodName.{MethodName}
use Rattle.sj_names.specs.declared.method_names.Namespace.{Namespace}
use Rattle.sj_names.specs.declared.method_names.Namespace.TheVariants.{Public, PublicStatic, Private, PrivateStatic, Constructor}
use Rattle.sj_names.specs.declared.references.TypeRef.{TypeRef}
use Rattle.sj_names.specs.declared.references.TypeRef.TheVariants as References
use Rattle.object_helpers.specs.EmittedMethods.{EmittedMethod}
use Rattle.object_helpers.proofs.Same.{has_function-is}
use Rattle.object_helpers.specs.Linked.{has_function}
use Rattle.sj_split.proofs.Members.{into_filter, from_filter}
use Rattle.sj_trees.specs.declared.classes.FieldDef.{FieldDef}
use Rattle.sj_trees.specs.declared.classes.ClassDef.{ClassDef}
use Rattle.sj_trees.specs.declared.types.IrType.{IrType}
use Rattle.sj_trees.specs.declared.types.IrType.TheVariants.{NoType}
use Rattle.sj_world.proofs.OnCycles.{among}
use Rattle.sj_world.specs.Known.{Name, Classes, class_of, is_hijacked}
use Rattle.sj_world.specs.Linked.{Linked}
use Rattle.sj_world.specs.declared.facts.Fact.{Fact}
use Rattle.sj_world.specs.declared.facts.Fact.TheVariants.{Needed as NeededClass, NeededField, Body}
use Rattle.sj_infos.specs.declared.forms.BodyForm.TheVariants as forms
use Rattle.sj_infos.specs.declared.infos.Info.TheVariants.{Class as NamesClass}

pub static_alone : (n : Namespace) → is_static n ≡ true → running n ≡ alone
static_alone PublicStatic h = refl
static_alone PrivateStatic h = refl
static_alone Public h = impossible h
static_alone Private h = impossible h
static_alone Constructor h = impossible h

pub constructor_is : (n : Namespace) → is_constructor n ≡ true → n ≡ Constructor
constructor_is Constructor h = refl
constructor_is Public h = impossible h
constructor_is Private h = impossible h
constructor_is PublicStatic h = impossible h
constructor_is PrivateStatic h = impossible h

own_mark : (b : Bool) → b ≡ false → not b ≡ true
own_mark true h = impossible (sym h)
own_mark false h = refl

no_mark : (b : Bool) → not b ≡ true → b ≡ false
no_mark true h = impossible h
no_mark false h = refl

-- a member that is received runs on a receiver, or completes an object and has a value
pub received_runs : (c : Name) (n : Namespace) (m : MethodName) → is_received (record { class = c; namespace = n; method = m }) ≡ true → (running n ≡ on_receiver) ⊎ ((running n ≡ completing) × (has_no_value m.result ≡ false))
received_runs c Public m h = inl refl
received_runs c Private m h = inl refl
received_runs c PublicStatic m h = impossible h
received_runs c PrivateStatic m h = impossible h
received_runs c Constructor m h = inr (refl, no_mark (has_no_value m.result) h)

pub no_value : (r : Option TypeRef) → has_no_value r ≡ true → call_type r ≡ NoType
no_value (Some References.Void) h = refl
no_value (Some References.Boolean) h = impossible h
no_value (Some References.Char) h = impossible h
no_value (Some References.Byte) h = impossible h
no_value (Some References.Short) h = impossible h
no_value (Some References.Int) h = impossible h
no_value (Some References.Long) h = impossible h
no_value (Some (References.Class c)) h = impossible h
no_value (Some (References.Array r)) h = impossible h
no_value None h = impossible h

pub with_value : (r : Option TypeRef) → has_no_value r ≡ false → call_type r ≡ NoType → ⊥
with_value (Some References.Void) h e = impossible (sym h)
with_value (Some (References.Class c)) h e = of_class (is_object c) e
  where
    of_class : (b : Bool) → (if b then IrType.Any else IrType.Class c) ≡ NoType → ⊥
    of_class true e = cc
    of_class false e = cc
with_value _ h e = cc

some_class : (a b : ClassDef) → ◌≡◌ {A = Option ClassDef} (Some a) (Some b) → a ≡ b
some_class a b e = cc

-- the fact that says so
need_is : (c f : Name) (x : Fact) → needs_static c f x ≡ true → x ≡ NeededField c f true
need_is c f (NeededField d g true) h = let q = and_parts (is_same_text c d) (is_same_text f g) h in ap (λ n. NeededField n g true) (sym (text-same c d q.0)) ∙ ap (λ n. NeededField c n true) (sym (text-same f g q.1))
need_is c f (NeededField d g false) h = impossible h
need_is c f _ h = impossible h

-- the fields of the parts are those of instances
pub own_fields : (given sorted : List FieldDef) → AreSorted (filter is_own given) sorted → (f : FieldDef) → Contains sorted f → Contains given f × (f.is_static ≡ false)
own_fields given sorted h f i = let p = from_filter is_own given f (Contains-permutation sorted (filter is_own given) f (IsPermutation-sym (filter is_own given) sorted h.exact) i) in (p.among, no_mark f.is_static p.passes)

pub whole_fields : (given sorted : List FieldDef) → AreSorted (filter is_own given) sorted → (f : FieldDef) → Contains given f → f.is_static ≡ false → Contains sorted f
whole_fields given sorted h f i mark = Contains-permutation (filter is_own given) sorted f h.exact (into_filter is_own given f i (own_mark f.is_static mark))

module _ (entries : List EntryPoint) (files : List SourceFile) (l : Linked) (all : List EmittedMethod) (live written : List Name) (ps : List Piece) (a : IsAccepted entries files l.world) (bodies : AreBodies l.world entries all) (p : AreLinkedPieces l all ps) (are : AreEntries l.world l.facts l.entries) (are_live : (c : Name) → Contains live c ↔ IsLive l.world l.facts c) (run : CanRun l.world entries l.facts all live p.helpers written) (owned : IsClosed ps written) where
  abbrev w : Classes
  w = l.world

  abbrev has : Usable
  has = used_of w l.facts all live p.helpers written

  -- members

  -- a method of a class that is written, of this member
  pub record Method (m : Member) : Type 0 where
    pub method : EmittedMethod
    pub listed : Contains all method
    pub is : method.member ≡ m
    pub here : Contains written method.member.class

  pub method_of : (m : Member) → (is_among written m.class && has_function all m) ≡ true → Method m
  method_of m h =
      let q = and_parts (is_among written m.class) (has_function all m) h in
      let f = has_function-is all m q.1 in
      record { method = f.method; listed = f.listed; is = f.is; here = subst (λ (k : Member). Contains written k.class) (sym f.is) ((among written m.class).0 q.0) }

  -- classes

  pub record Good (c : Name) : Type 0 where
    pub is_live : Contains live c
    pub is_written : Contains written c

  abbrev exact : (f : Fact) → Contains l.facts f ↔ Reachable w entries f
  exact f = (run.reached f, run.whole f)

  module _ (c : Name) (good : Good c) where
    abbrev stood : looked.Stood entries files l all written ps a bodies p are exact owned c
    stood = record { lives = (are_live c).0 good.is_live; here = good.is_written }

    pub free : is_hijacked c ≡ false
    free = looked.free entries files l all written ps a bodies p are exact owned c stood

    abbrev pub own : OwnPieces l all ps p c
    own = looked.own entries files l all written ps a bodies p are exact owned c stood

    abbrev pub its : Parts
    its = own.parts

    pub is_named : IsTrue (is_class_name c)
    is_named = subst (λ (n : Name). IsTrue (is_class_name n)) (looked.named entries files l all written ps a bodies p are exact owned c stood) (class_named entries files w a its.class (class_found w c its.class own.are.class_is).0)

    pub is_utf8_named : IsTrue (is_utf8 c)
    is_utf8_named = subst (λ (n : Name). IsTrue (is_utf8 n)) (looked.named entries files l all written ps a bodies p are exact owned c stood) (class_utf8 entries files w a its.class (class_found w c its.class own.are.class_is).0)

    pub constants_here : Contains ps (constants_piece c its.ancestors)
    constants_here = looked.constants_here entries files l all written ps a bodies p are exact owned c stood

    abbrev pub class_of_its : Piece
    class_of_its = class_piece c its.class.superclass its.entries its.fields

    pub class_here : Contains ps class_of_its
    class_here = looked.class_here entries files l all written ps a bodies p are exact owned c stood

    pub super_good : (d : Name) → its.class.superclass ≡ Some d → Good d
    super_good d super = let above = looked.super_stood entries files l all written ps a bodies p are exact owned c stood d super in record { is_live = (are_live d).1 above.lives; is_written = above.here }

    abbrev pub stands : Stands w Good c
    stands = record { class = its.class; found = own.are.class_is; free = free; up = super_good }

  pub live_good : (c : Name) → (is_among written c && is_among live c) ≡ true → Good c
  live_good c h = let q = and_parts (is_among written c) (is_among live c) h in record { is_live = (among live c).0 q.1; is_written = (among written c).0 q.0 }

  -- a class of which objects are made is live
  pub made_is_live : (c : Name) → has.made c ≡ true → has.live c ≡ true
  made_is_live c h =
      let q = and_parts (is_among written c) (list_any (makes c) l.facts) h in
      and_from (is_among written c) (is_among live c) q.0 ((among live c).1 ((are_live c).1 (made_lives entries files w l.facts a exact c (made_known l.facts c q.1))))

  -- methods that are looked up

  pub entry_called : (c : Name) (m : MethodName) → list_any (calls_on c m) l.facts ≡ true → (d : Name) → has.made d ≡ true → is_ancestor w d c ≡ true → FindsEntry l ps written d m
  entry_called c m called d made below =
      let r = and_parts (is_among written d) (list_any (makes d) l.facts) made in
      looked.finds entries files l all written ps a bodies p are exact owned c m (called_known l.facts c m called) d ((among written d).0 r.0) (made_known l.facts d r.1) (stands_above w d c below)

  pub entry_there : (c : Name) (m : MethodName) → has.looked_up c m ≡ true → (d : Name) → has.made d ≡ true → is_ancestor w d c ≡ true → FindsEntry l ps written d m
  entry_there c m h = entry_called c m (and_parts (list_any (calls_on c m) l.facts) (not (has_hijacked_in w c) || tells_apart w l.facts all written m) h).0

  -- static fields

  pub record Needed (c f : Name) (t : IrType) : Type 0 where
    pub here : Contains written c
    pub fact : Contains l.facts (NeededField c f true)
    pub field : IsStaticField w c f t

  pub needed_static : (c f : Name) (t : IrType) → has_static has c f t ≡ true → Needed c f t
  needed_static c f t h =
      let q = and_parts (is_among written c) (list_any (needs_static c f) l.facts && has_static_in (class_of w c) f t) (static_is w l.facts all live p.helpers written c f t h) in
      let r = and_parts (list_any (needs_static c f) l.facts) (has_static_in (class_of w c) f t) q.1 in
      let found = Any-from_list_any (needs_static c f) l.facts r.0 in
      record { here = (among written c).0 q.0; fact = subst (Contains l.facts) (need_is c f found.1 found.4) (found.0, found.2, found.3); field = static_there w c f t r.1 }

  module _ (c f : Name) (t : IrType) (need : Needed c f t) where
    abbrev d : FieldDef
    d = need.field.field

    its_class : class_of w c ≡ Some need.field.definition
    its_class = sym (same-class w c) ∙ need.field.found

    pieces_of_it : OwnPieces l all ps p c
    pieces_of_it = own_pieces l all ps p c need.field.definition its_class

    abbrev parts : Parts
    parts = pieces_of_it.parts

    name_is : parts.class.name ≡ c
    name_is = (class_found w c parts.class pieces_of_it.are.class_is).1

    among_fields : Contains parts.class.fields d
    among_fields = subst (λ (k : ClassDef). Contains k.fields d) (some_class need.field.definition parts.class (sym its_class ∙ pieces_of_it.are.class_is)) need.field.among

    reached : Contains pieces_of_it.are.statics.reached d
    reached = is_reached l.facts c parts.class.fields pieces_of_it.are.statics.reached pieces_of_it.are.statics.are_reached d among_fields need.field.of_class (subst (λ (n : Name). Contains l.facts (NeededField c n true)) (sym need.field.named) need.fact)

    there : Contains (all_statics parts.class.name parts.statics) (variable_piece parts.class.name d) × Contains (all_statics parts.class.name parts.statics) (setter_piece parts.class.name d)
    there = in_statics parts.class.name parts.statics d (Contains-permutation pieces_of_it.are.statics.reached parts.statics d pieces_of_it.are.statics.sorted.exact reached)

    pub variable_there : Contains ps (variable_piece c d)
    variable_there = subst (λ (n : Name). Contains ps (variable_piece n d)) name_is (pieces_of_it.there (variable_piece parts.class.name d) (statics_among parts (variable_piece parts.class.name d) there.0))

    pub setter_there : Contains ps (setter_piece c d)
    setter_there = subst (λ (n : Name). Contains ps (setter_piece n d)) name_is (pieces_of_it.there (setter_piece parts.class.name d) (statics_among parts (setter_piece parts.class.name d) there.1))

  -- tests of classes, and casts to them

  -- a class that a body names is there
  own_needed : (c : Name) → Reads w entries (Reachable w entries) (NamesClass c) → OwnPieces l all ps p c
  own_needed c r = let k = made.present w entries a.resolved (classes_kept entries files w a) c (closed w entries (NeededClass c) (class_named_by c r)) in own_pieces l all ps p c k.0 k.1

  reads_test : (c : Name) → HasForm w l.facts (forms.Test c) → Reads w entries (Reachable w entries) (NamesClass c)
  reads_test c form = record { member = form.member; needed = run.reached (Body form.member) form.needed; definition = form.definition; defined = form.defined; asked = body_tells form.definition.body (forms.Test c) form.has }

  reads_cast : (c : Name) → HasForm w l.facts (forms.Cast c) → Reads w entries (Reachable w entries) (NamesClass c)
  reads_cast c form = record { member = form.member; needed = run.reached (Body form.member) form.needed; definition = form.definition; defined = form.defined; asked = body_tells form.definition.body (forms.Cast c) form.has }

  module _ (c : Name) (here : Contains written c) (own : OwnPieces l all ps p c) where
    abbrev parts_of_it : Parts
    parts_of_it = own.parts

    name_of_it : parts_of_it.class.name ≡ c
    name_of_it = (class_found w c parts_of_it.class own.are.class_is).1

    abbrev test_of_it : Name → Piece
    test_of_it n = test_piece n parts_of_it.instances (kind_of_class n all_kinds)

    tested_there : (parts_of_it.is_tested || parts_of_it.is_cast) ≡ true → TestThere l written ps p.helpers c
    tested_there h = record {
      parts = parts_of_it;
      are = own.are;
      here = here;
      test = subst (λ (n : Name). Contains ps (test_of_it n)) name_of_it (own.there (test_of_it parts_of_it.class.name) (test_among parts_of_it h));
      kinds = λ k u. (p.are_helpers.exact (TestOf k)).1 (by_piece (test_of_it parts_of_it.class.name) (TestOf k) (Contains-append_left (flat_map (pieces_of_block l.world) p.blocks) p.told (test_of_it parts_of_it.class.name) (own.in_blocks (test_of_it parts_of_it.class.name) (test_among parts_of_it h))) (subst (λ (n : Name). Contains (test_uses parts_of_it.instances (kind_of_class n all_kinds)) (helper (helper_name (TestOf k)))) (sym name_of_it) u));
    }

    cast_there : parts_of_it.is_cast ≡ true → CastThere l written ps p.helpers c
    cast_there h = record {
      tests = tested_there (or_right parts_of_it.is_tested parts_of_it.is_cast h);
      cast = subst (λ (n : Name). Contains ps (cast_piece n)) name_of_it (own.there (cast_piece parts_of_it.class.name) (cast_among parts_of_it h));
    }

  pub class_cast_there : (c : Name) → (is_among written c && is_cast all c) ≡ true → CastThere l written ps p.helpers c
  class_cast_there c h =
      let q = and_parts (is_among written c) (is_cast all c) h in
      let form = cast_form w entries l.facts all bodies run.listed c q.1 in
      let own = own_needed c (reads_cast c form) in
      cast_there c ((among written c).0 q.0) own (own.are.cast.1 form)

  pub class_test_there : (c : Name) → (is_among written c && (is_tested all c || is_cast all c)) ≡ true → TestThere l written ps p.helpers c
  class_test_there c h = let q = and_parts (is_among written c) (is_tested all c || is_cast all c) h in elim (or_cases (is_tested all c) (is_cast all c) q.1) [
    | inl tested ↦ let form = test_form w entries l.facts all bodies run.listed c tested in let own = own_needed c (reads_test c form) in tested_there c ((among written c).0 q.0) own (or_left own.parts.is_tested own.parts.is_cast (own.are.tested.1 form))
    | inr cast ↦ (class_cast_there c (and_from (is_among written c) (is_cast all c) q.0 cast)).tests
  ]

  -- the bases of arrays

  reads_base : (c : Name) → HasForm w l.facts (forms.Base c) → Reads w entries (Reachable w entries) (NamesClass c)
  reads_base c form = record { member = form.member; needed = run.reached (Body form.member) form.needed; definition = form.definition; defined = form.defined; asked = body_tells form.definition.body (forms.Base c) form.has }

  pub class_base_there : (c : Name) → (is_among written c && is_based_on all c) ≡ true → BaseThere l written ps c
  class_base_there c h =
      let q = and_parts (is_among written c) (is_based_on all c) h in
      let form = base_form w entries l.facts all bodies run.listed c q.1 in
      let own = own_needed c (reads_base c form) in
      let its = own.parts in
      record {
        parts = its;
        are = own.are;
        here = (among written c).0 q.0;
        constants = subst (λ (n : Name). Contains ps (constants_piece n its.ancestors)) (class_found w c its.class own.are.class_is).1 (own.there (constants_piece its.class.name its.ancestors) (constants_among its (or_right its.is_live its.is_base (own.are.base.1 form))));
      }

  -- helpers

  abbrev IsNamed : Name → Helper → Bool
  IsNamed x h = is_same_text x (helper_name h)

  pub record IsWritten (h : Helper) : Type 0 where
    pub among_helpers : Contains p.helpers h
    pub with_object : Contains written object

  pub helper_written : (h : Helper) → has.helper (helper_name h) ≡ true → IsWritten h
  helper_written h e =
      let q = and_parts (is_among written object) (list_any (IsNamed (helper_name h)) p.helpers) e in
      let found = Any-from_list_any (IsNamed (helper_name h)) p.helpers q.1 in
      let same : h ≡ found.1 = one_helper h found.1 (text-same (helper_name h) (helper_name found.1) found.4) in
      record { among_helpers = subst (Contains p.helpers) (sym same) (found.0, found.2, found.3); with_object = (among written object).0 q.0 }

  pub helper_had : (h : Helper) → IsWritten h → has.helper (helper_name h) ≡ true
  helper_had h i =
      let j = i.among_helpers in
      and_from (is_among written object) (list_any (IsNamed (helper_name h)) p.helpers) ((among written object).1 i.with_object) (list_any_at (IsNamed (helper_name h)) p.helpers j.0 h j.1 (subst (λ (g : Helper). IsNamed (helper_name h) g ≡ true) (sym j.2) (text-refl (helper_name h))))

  pub helper_listed : (h : Helper) → IsWritten h → Contains ps (helper_piece p.above h)
  helper_listed h i = let k = made.present w entries a.resolved (classes_kept entries files w a) object (closed w entries (NeededClass object) the_object) in helper_there l all ps p k.0 k.1 h i.among_helpers

pub has_pieces : WhatIsUsedHasPieces
has_pieces entries files l all live written ps a bodies p are are_live run owned = record {
  methods = λ m h.
      let f = method_of entries files l all live written ps a bodies p are are_live run owned m h in
      let d = defined l.world f.method.member f.method.definition (bodies.found f.method f.listed).found in
      record { method = f.method; listed = f.listed; is = f.is; function = method_there l all ps p f.method f.listed d.class d.is_class };
  entries = entry_there entries files l all live written ps a bodies p are are_live run owned;
  reflections = looked.reflection_there entries files l all written ps a bodies p are (exact entries files l all live written ps a bodies p are are_live run owned) owned;
  names = λ m h d made.
      let there = looked.reflection_there entries files l all written ps a bodies p are (exact entries files l all live written ps a bodies p are are_live run owned) owned m h in
      let q = and_parts (is_among written d) (list_any (makes d) l.facts) made in
      looked.answer_there entries files l all written ps a bodies p are (exact entries files l all live written ps a bodies p are are_live run owned) owned m there.called d ((among written d).0 q.0) (made_known l.facts d q.1);
  dispatched = looked.dispatch_there entries files l all written ps a bodies p are (exact entries files l all live written ps a bodies p are are_live run owned) owned;
  classes = λ c h. let good = live_good entries files l all live written ps a bodies p are are_live run owned c h in record {
    parts = its entries files l all live written ps a bodies p are are_live run owned c good;
    are = (own entries files l all live written ps a bodies p are are_live run owned c good).are;
    constants = constants_here entries files l all live written ps a bodies p are are_live run owned c good;
    class = class_here entries files l all live written ps a bodies p are are_live run owned c good;
  };
  statics = λ c f t h. let need = needed_static entries files l all live written ps a bodies p are are_live run owned c f t h in record {
    field = need.field;
    variable = variable_there entries files l all live written ps a bodies p are are_live run owned c f t need;
    setter = setter_there entries files l all live written ps a bodies p are are_live run owned c f t need;
  };
  tests = λ c h. class_test_there entries files l all live written ps a bodies p are are_live run owned c h;
  casts = λ c h. class_cast_there entries files l all live written ps a bodies p are are_live run owned c h;
  bases = λ c h. class_base_there entries files l all live written ps a bodies p are are_live run owned c h;
  helpers = λ h e. helper_listed entries files l all live written ps a bodies p are are_live run owned h (helper_written entries files l all live written ps a bodies p are are_live run owned h e);
}
