-- The files of a plan declare all that their code can use.
use Rattle.std.proofs.Common.{arith, ◌<◌, ◌⊎◌, ◌++◌, ◌≡◌, ◌∙◌, not, ◌&&◌, ◌||◌, inl, inr, Bool, true, false, List, [], ◌∷◌, Option, Some, None, codes, map, refl, sym, ap, subst, IsTrue}
use Rattle.std.specs.Prelude.{◌↔◌}
use Rattle.std.specs.List.{Contains, list_all, list_any}
use Rattle.std.specs.Str.{is_utf8}
use Rattle.std.proofs.lemmas.Bool.{and_parts, and_from, or_cases, or_left, or_right}
use Rattle.std.proofs.lemmas.List.Elements.{Contains-append_left, Contains-append_right}
use Rattle.module_uses.proofs.Tested.{kind_uses, cast_kind_uses}
use Rattle.module_uses.proofs.Written.{divisors_fit}
use Rattle.module_uses.proofs.Markers.{marked}
use Rattle.module_uses.proofs.KindHelpers.{helpers_of}
use Rattle.module_uses.specs.Declared.{Spread, all_items, Leads, FunctionDeclared, ReceivedDeclared, as_method, as_constructor, ClassDeclared, ChainDeclared, extends_none, extends_one, MadeDeclared, StaticDeclared, StoreDeclared, LoadDeclared, KindTestDeclared, ClassTestDeclared, by_marker, by_kind, TestDeclared, of_kind, of_class, KindCastDeclared, ClassCastDeclared, CastDeclared, to_kind, to_class, TargetDeclared, EntryDeclared, has_entry as entry_declared_here, has_none as no_entry_declared, CaseDeclared, DispatchDeclared, KindsDeclared, no_kinds, some_kinds, LookupDeclared, TellsApart, Uses as UsesTop, Makes as CanMake, ReflectedDeclared, ReflectedKind, no_case, has_case as has_case_declared, NoEntryDeclared, none_left, none_here, ProxyDeclared, proxy_here, AnswerDeclared, no_answer, has_answer, ReflectionDeclared, ArraysDeclared, ConstantsDeclared, ArrayCallDeclared, of_array, to_array}
use Rattle.module_uses.specs.Placed.{placed}
use Rattle.module_uses.proofs.Blocks.{method_there}
use Rattle.module_uses.proofs.Cells.{CellThere, loaded_there, stored_there}
use Rattle.module_uses.proofs.DeclaredPiecesBelow.{stands_above, kind_hijacked, told_below, none_below, above_found, known_class}
use Rattle.module_uses.proofs.DeclaredPiecesChains.{Stands, Chained, whole_chain}
use Rattle.module_uses.proofs.DeclaredPiecesLooked.{runs_target, target_of, called_free, dispatch_there, told_case, has_case, reflection_there, kind_target, answer_there, boxed, parameters_differ, differ_from_receiver}
use Rattle.module_uses.proofs.LinkedEntriesOne.{one_method}
use Rattle.module_uses.proofs.ReflectedCases.{reflected_case, worked_out, kind_reflected}
use Rattle.module_uses.specs.Reflected.{HasReflected}
use Rattle.declared_modules.proofs.Boxes.{boxes_bare}
use Rattle.module_uses.proofs.Facts.{called_known, made_known}
use Rattle.module_uses.proofs.Fields.{field_there, fields_kept, class_named, class_utf8}
use Rattle.module_uses.proofs.Live.{classes_kept}
use Rattle.module_uses.proofs.Members.{same-class, defined, has_function-from}
use Rattle.module_uses.proofs.Parts.{uses_superclass, uses_constants}
use Rattle.module_uses.proofs.Whole.{static_alone, received_runs, constructor_is, no_value, with_value, own_fields, whole_fields, method_of, Good, free, own, its, is_named, is_utf8_named, constants_here, class_of_its, class_here, super_good, live_good, made_is_live, entry_there, Needed, needed_static, variable_there, setter_there, class_test_there, class_cast_there, IsWritten, helper_written, helper_had, helper_listed, class_base_there, entry_called}
use Rattle.module_uses.specs.Accepted.{IsAccepted}
use Rattle.module_uses.specs.Bodies.{AreBodies}
use Rattle.module_uses.specs.Built.{can_look_up, Usable, has_static, has_cell, is_static, has_kind, has_no_value}
use Rattle.module_uses.specs.Closed.{IsClosed}
use Rattle.module_uses.specs.FileDeclarationsDeclared.{Running, alone, on_receiver, completing, running}
use Rattle.module_uses.specs.EmittedMethods.{EmittedMethod}
use Rattle.module_uses.specs.Dispatch.{Told, IsReachedTarget, dispatch_piece, Reflected, reflective_piece}
use Rattle.module_uses.specs.Entries.{AreEntries, IsLive}
use Rattle.module_uses.specs.ClassTestsKinds.{is_told}
use Rattle.module_uses.specs.DeclaredPiecesLaws.{TestThere, EntryThere, has_entry, has_none, DispatchThere, ReflectionThere, ProxyThere, proxy_there, NoEntryThere, nothing_there, none_there, NamedThere, not_named, is_named as is_named_there}
use Rattle.module_uses.specs.Looked.{HasCase}
use Rattle.module_uses.specs.Reachable.{Reachable}
use Rattle.module_uses.specs.SjReachSpecRules.{on_hijacked}
use Rattle.module_uses.specs.Targets.{has_hijacked_in}
use Rattle.module_uses.specs.Linked.{has_function}
use Rattle.module_uses.specs.Pieces.{Parts, members, class_piece, constants_piece, entry_member, variable_piece, setter_piece, cell_piece, load_piece, store_piece, test_piece, test_binding, test_uses as kind_tests, kind_of_class, cast_piece, box_uses}
use Rattle.module_uses.specs.LinkedPiecesPieces.{piece_of_member, AreLinkedPieces}
use Rattle.module_uses.specs.Running.{CanRun}
use Rattle.module_uses.specs.LinkedPiecesUsed.{used_of, makes, calls_on, tells_apart, is_among, is_received, is_constructor, is_constructor_without_value, uses_static, uses_helper as written_helper, uses_test, uses_cast, is_tested, is_cast, is_loaded}
use Rattle.sj_emit_help_spec.specs.Helpers.{helper_name, helper_item, helper_piece, used_helpers, used_of_classes, failure_class, of}
use Rattle.sj_emit_help_spec.specs.Words.{kind_class, object_class, all_kinds, is_name, bound, public_function, helper as helper_binding}
use Rattle.sj_emit_help_spec.specs.declared.kinds.Failure.{Failure}
use Rattle.sj_emit_help_spec.specs.declared.kinds.Failure.TheVariants.{Cast, Method}
use Rattle.sj_emit_help_spec.specs.declared.kinds.Helper.{Helper}
use Rattle.sj_emit_help_spec.specs.declared.kinds.Helper.TheVariants as helpers
use Rattle.sj_emit_help_spec.specs.declared.kinds.Kind.{Kind}
use Rattle.ir_mean.specs.Dispatch.{chain_of, is_ancestor, proxy_target}
use Rattle.ir_mean.specs.Meaning.{with_message, without_parameters}
use Rattle.js_tree.specs.Terms.{Name, Item, Piece}
use Rattle.js_tree.specs.declared.items.Binding.{Binding}
use Rattle.module_uses.proofs.Found.{uses_are_owned}
use Rattle.module_uses.specs.Files.{AreWhole, StandsIn, StandTogether}
use Rattle.sj_emit_module_spec.specs.Laws.{by_piece}
use Rattle.sj_emit_module_spec.specs.Modules.{file_with}
use Rattle.module_uses.proofs.Bodies.{built_here}
use Rattle.module_uses.proofs.InFiles.{used_there}
use Rattle.module_uses.specs.Used.{restricted, uses_in}
use Rattle.module_uses.proofs.Chains.{byte_not}
use Rattle.module_uses.proofs.Methods.{right_method}
use Rattle.module_uses.proofs.Throwing.{exception_made, module_made}
use Rattle.module_uses.specs.Rules.{RightMember}
use Rattle.sj_desugar_spec.specs.Desugar.{member}
use Rattle.sj_desugar_spec.specs.Plain.{is_no_type}
use Rattle.sj_emit_expr_spec.specs.Templates.{static_name}
use Rattle.sj_emit_expr_spec.specs.Tests.{test_name, cast_name}
use Rattle.sj_emit_expr_spec.specs.Uses.{object_binding, function_binding, class_use, static_use, setter_use, load_use, store_use, test_uses, cast_uses, looked_up_uses, call_uses, base_uses}
use Rattle.sj_desugar_spec.specs.CalleeVariants as callees
use Rattle.sj_names.proofs.Same.{impossible}
use Rattle.sj_names.specs.declared.entry_points.EntryPoint.{EntryPoint}
use Rattle.sj_names.specs.declared.folders.SourceFile.{SourceFile}
use Rattle.sj_names.specs.declared.method_names.Member.{Member}
use Rattle.sj_names.specs.declared.method_names.MethodName.{MethodName}
use Rattle.sj_names.specs.declared.method_names.Namespace.TheVariants.{Public, Constructor}
use Rattle.module_uses.specs.Settings.{Top, a_function, a_method, a_constructor, a_dispatch, a_reflection, a_class, some_constants, a_static, a_setter, a_cell, a_loader, a_storer, a_test, a_cast, a_helper, top_name, is_named as is_named_top}
use Rattle.sj_split.proofs.Members.{at_first, further, into_map}
use Rattle.sj_split.specs.declared.plans.PlannedModule.{PlannedModule}
use Rattle.sj_trees.specs.declared.classes.FieldDef.{FieldDef}
use Rattle.sj_trees.specs.declared.types.IrType.{IrType}
use Rattle.sj_trees.specs.declared.types.IrType.TheVariants.{NoType, Class, Array}
use Rattle.sj_world.proofs.OnCycles.{among}
use Rattle.sj_world.specs.Known.{Classes, class_of, is_hijacked}
use Rattle.sj_world.specs.Linked.{Linked}
use Rattle.sj_world.specs.declared.facts.Fact.{Fact}
use Rattle.sj_world.specs.declared.facts.Fact.TheVariants.{Body, Called}
use Rattle.declared_modules.proofs.HijackedKinds.{kind_is, not_hijacked}
use Rattle.declared_modules.specs.Laws.{ModulesDeclare}
use Rattle.declared_modules.specs.Spread.{owner_of, file_or_none, spread_of, AllStand, DeclaresConstants}
use Rattle.module_uses.proofs.Plain.{plain_world, class_found}
use Rattle.sj_world.specs.Ancestors.{IsWritten as IsWrittenAbove, is_object, listed as in_list, written_in}
use Rattle.sj_world.specs.Laws.{IsPlain}
use Rattle.sj_names.specs.declared.references.BaseRef.{BaseRef}
use Rattle.sj_names.specs.Grammar.{is_class_name}
use Rattle.sj_trees.specs.declared.classes.ClassDef.{ClassDef}

valued : (t : IrType) → (t ≡ NoType → ⊥) → is_no_type t ≡ false
valued NoType h = absurd (h refl)
valued _ h = refl

-- the binding at a top, with the class that owns it
abbrev binding_of : Top → Binding
binding_of t = record { owner = owner_of t; name = top_name t }

-- the helpers of primitive types are owned by `java.lang.Object`
kind_owned : (t : IrType) → has_kind t ≡ true → owner_of (a_test t) ≡ object_class
kind_owned (Class c) h = impossible h
kind_owned _ h = refl

cast_owned : (t : IrType) → has_kind t ≡ true → owner_of (a_cast t) ≡ object_class
cast_owned (Class c) h = impossible h
cast_owned _ h = refl

kind_used : (uses : Binding → Bool) (t : IrType) → has_kind t ≡ true → list_all uses (test_uses t) ≡ true → uses (object_binding (test_name t)) ≡ true
kind_used uses t k h = (and_parts (uses (object_binding (test_name t))) true (subst (λ (bs : List Binding). list_all uses bs ≡ true) (kind_uses t k) h)).0

cast_kind_used : (uses : Binding → Bool) (t : IrType) → has_kind t ≡ true → list_all uses (cast_uses t) ≡ true → uses (object_binding (cast_name t)) ≡ true
cast_kind_used uses t k h = (and_parts (uses (object_binding (cast_name t))) true (subst (λ (bs : List Binding). list_all uses bs ≡ true) (cast_kind_uses t k) h)).0

-- a test and a cast that can be used have a function, and use its binding
test_used : (all : List EmittedMethod) (hs : List Helper) (written : List Name) (uses : Binding → Bool) (t : IrType) → uses_test all hs written t ≡ true → list_all uses (test_uses t) ≡ true → uses (binding_of (a_test t)) ≡ true
test_used all hs written uses (Class c) h u = (and_parts (uses (binding_of (a_test (Class c)))) true u).0
test_used all hs written uses (Array r) h u = (and_parts (uses (binding_of (a_test (Array r)))) true u).0
test_used all hs written uses t h u = let k = (and_parts (has_kind t) (written_helper hs written (test_name t)) h).0 in subst (λ (c : Name). uses (record { owner = c; name = test_name t }) ≡ true) (sym (kind_owned t k)) (kind_used uses t k u)

cast_used : (all : List EmittedMethod) (hs : List Helper) (written : List Name) (uses : Binding → Bool) (t : IrType) → uses_cast all hs written t ≡ true → list_all uses (cast_uses t) ≡ true → uses (binding_of (a_cast t)) ≡ true
cast_used all hs written uses (Class c) h u = (and_parts (uses (binding_of (a_cast (Class c)))) true u).0
cast_used all hs written uses (Array r) h u = (and_parts (uses (binding_of (a_cast (Array r)))) true u).0
cast_used all hs written uses t h u = let k = (and_parts (has_kind t) (written_helper hs written (cast_name t)) h).0 in subst (λ (c : Name). uses (record { owner = c; name = cast_name t }) ≡ true) (sym (cast_owned t k)) (cast_kind_used uses t k u)

-- what the code of a file names it uses, where the bindings of tests and casts that can be used are used with these
named_used : (has : Usable) (uses : Binding → Bool) → ((t : IrType) → has.tests t ≡ true → list_all uses (test_uses t) ≡ true → uses (binding_of (a_test t)) ≡ true) → ((t : IrType) → has.casts t ≡ true → list_all uses (cast_uses t) ≡ true → uses (binding_of (a_cast t)) ≡ true) → (t : Top) → is_named_top (restricted has uses) t ≡ true → uses (binding_of t) ≡ true
named_used has uses tests casts (a_function m) h = (and_parts (has.linked m) (uses (function_binding m)) h).1
named_used has uses tests casts (a_method m) h = (and_parts (has.received m) (uses (function_binding m)) h).1
named_used has uses tests casts (a_dispatch m) h = (and_parts (uses (binding_of (a_dispatch m))) true (and_parts (has.dispatched m) (list_all uses (looked_up_uses true m)) h).1).0
named_used has uses tests casts (a_reflection m) h = (and_parts (uses (binding_of (a_reflection m))) true (and_parts (has.reflected m) (list_all uses (call_uses has.lookup (callees.Reflective m))) h).1).0
named_used has uses tests casts (a_constructor m) h = (and_parts (has.built m) (uses (function_binding m)) h).1
named_used has uses tests casts (a_class c) h = (and_parts (has.live c) (uses (class_use c)) h).1
named_used has uses tests casts (some_constants c) h = (and_parts (uses (binding_of (some_constants c))) true (and_parts (has.bases c) (uses (binding_of (some_constants c)) && true) h).1).0
named_used has uses tests casts (a_static c f t) h = (and_parts (has.static_field c f t) (uses (static_use c f)) h).1
named_used has uses tests casts (a_setter c f t) h = (and_parts (has.static_setter c f t) (uses (setter_use c f)) h).1
named_used has uses tests casts (a_cell c) h = impossible h
named_used has uses tests casts (a_loader c) h = (and_parts (has.modules c) (uses (load_use c)) h).1
named_used has uses tests casts (a_storer c) h = (and_parts (has.stored c) (uses (store_use c)) h).1
named_used has uses tests casts (a_test k) h = let q = and_parts (has.tests k) (list_all uses (test_uses k)) h in tests k q.0 q.1
named_used has uses tests casts (a_cast k) h = let q = and_parts (has.casts k) (list_all uses (cast_uses k)) h in casts k q.0 q.1
named_used has uses tests casts (a_helper x) h = (and_parts (has.helper (helper_name x)) (uses (object_binding (helper_name x))) h).1

module _ (entries : List EntryPoint) (files : List SourceFile) (l : Linked) (all : List EmittedMethod) (live written : List Name) (modules : List PlannedModule) (ps : List Piece) (front : List Name) (last : Name) (declared : List Item) (a : IsAccepted entries files l.world) (bodies : AreBodies l.world entries all) (p : AreLinkedPieces l all ps) (are : AreEntries l.world l.facts l.entries) (are_live : (c : Name) → Contains live c ↔ IsLive l.world l.facts c) (run : CanRun l.world entries l.facts all live p.helpers written) (owned : IsClosed ps written) (extends : Contains p.helpers helpers.ArrayClass → IsLive l.world l.facts object_class) (together : StandTogether modules ps) (whole : AreWhole modules ps) (stand : AllStand modules ps written (spread_of modules ps l.world (used_of l.world l.facts all live p.helpers written) front last declared)) (marks : DeclaresConstants (spread_of modules ps l.world (used_of l.world l.facts all live p.helpers written) front last declared)) where
  abbrev w : Classes
  w = l.world

  -- what is there at all
  abbrev there : Usable
  there = used_of w l.facts all live p.helpers written

  abbrev z : Spread
  z = spread_of modules ps w there front last declared

  abbrev IsUsed : Name → Binding → Type 0
  IsUsed f b = uses_in modules ps f b ≡ true

  abbrev StandsThere : Name → Type 0
  StandsThere c = StandsIn modules ps c

  abbrev home_of : Name → Name
  home_of c = file_or_none (file_with modules c)

  -- the owner of what is used stands in a file
  owner_stands : (f : Name) (b : Binding) → IsUsed f b → StandsThere b.owner
  owner_stands f b h = whole f b ((used_there modules ps f b).0 h)

  at_home : (c : Name) (s : StandsThere c) → home_of c ≡ s.its_file
  at_home c s = ap file_or_none s.is

  -- a file leads to what it uses
  leads_to : (f : Name) (t : Top) → IsUsed f (binding_of t) → Leads z f t
  leads_to f t h =
      let s = owner_stands f (binding_of t) h in
      uses_are_owned modules ps together f s.its_file (binding_of t) ((used_there modules ps f (binding_of t)).0 h) s.is ∙ ap Some (sym (at_home (owner_of t) s))

  -- what a piece uses is used in its file
  used_at_home : (q : Piece) → StandsThere q.owner → Contains ps q → (b : Binding) → Contains q.uses b → IsUsed (home_of q.owner) b
  used_at_home q s i b u = subst (λ (f : Name). IsUsed f b) (sym (at_home q.owner s)) ((used_there modules ps s.its_file b).1 (by_piece q b i s.is u))

  -- and its item stands there
  stands_at_home : (q : Piece) → StandsThere q.owner → Contains ps q → Contains written q.owner → Contains (all_items z) (placed (home_of q.owner) q.item)
  stands_at_home q s i k = subst (λ (f : Name). Contains (all_items z) (placed f q.item)) (sym (at_home q.owner s)) (stand q s.its_file i k s.is)

  -- members

  -- a member whose function stands in this file
  record CodeIn (f : Name) (r : Running) (m : Member) : Type 0 where
    right : RightMember w w (restricted there (uses_in modules ps f)) m
    runs : running right.definition.namespace ≡ r
    function : Contains (all_items z) (placed f (piece_of_member w (record { member = m; definition = right.definition; its_body = right.its_body })).item)

  code_of : (e : EmittedMethod) → Contains all e → Contains written e.member.class → StandsThere e.member.class → (r : Running) → running e.member.namespace ≡ r → CodeIn (home_of e.member.class) r e.member
  code_of e i here s r runs =
      let its_definition = defined w e.member e.definition (bodies.found e i).found in
      let q : Piece = piece_of_member w e in
      let listed : Contains ps q = method_there l all ps p e i its_definition.class its_definition.is_class in
      let home = home_of e.member.class in
      let built = built_here there (uses_in modules ps home) e.definition e.its_body (run.are_built e i here) (divisors_fit entries files w all a bodies e i) (used_at_home q s listed) in
      record {
        right = right_method entries files w a all bodies (restricted there (uses_in modules ps home)) e i built;
        runs = ap running its_definition.first.has.namespace_is ∙ runs;
        function = stands_at_home q s listed here;
      }

  abbrev IsThere : Member → Type 0
  IsThere m = (is_among written m.class && has_function all m) ≡ true

  code_in : (m : Member) → IsThere m → StandsThere m.class → (r : Running) → running m.namespace ≡ r → CodeIn (home_of m.class) r m
  code_in m h s r runs =
      let f = method_of entries files l all live written ps a bodies p are are_live run owned m h in
      subst (λ (k : Member). CodeIn (home_of k.class) r k) f.is (code_of f.method f.listed f.here (subst (λ (k : Member). StandsThere k.class) (sym f.is) s) r (subst (λ (k : Member). running k.namespace ≡ r) (sym f.is) runs))

  linked_declared : (f : Name) (m : Member) → (z.has f).linked m ≡ true → FunctionDeclared z (a_function m) alone m
  linked_declared f m h =
      let q = and_parts (there.linked m) (uses_in modules ps f (function_binding m)) h in
      let r = and_parts (is_static m.namespace) (is_among written m.class && has_function all m) q.0 in
      let c = code_in m r.1 (owner_stands f (function_binding m) q.1) alone (static_alone m.namespace r.0) in
      record { right = c.right; runs = c.runs; function = c.function }

  received_declared : (f : Name) (m : Member) → (z.has f).received m ≡ true → ReceivedDeclared z m
  received_declared f m h =
      let q = and_parts (there.received m) (uses_in modules ps f (function_binding m)) h in
      let r = and_parts (is_received m) (is_among written m.class && has_function all m) q.0 in
      let s = owner_stands f (function_binding m) q.1 in
      elim (received_runs m.class m.namespace m.method r.0) [
        | inl e ↦ let c = code_in m r.1 s on_receiver e in record { how = on_receiver; member = record { right = c.right; runs = c.runs; function = c.function }; receives = as_method }
        | inr k ↦ let c = code_in m r.1 s completing k.0 in record { how = completing; member = record { right = c.right; runs = c.runs; function = c.function }; receives = as_constructor (valued c.right.definition.result (λ none. with_value m.method.result k.1 (sym c.right.result_is ∙ none))) }
      ]

  built_declared : (f : Name) (m : Member) → (z.has f).built m ≡ true → (b : FunctionDeclared z (a_constructor m) completing m) × (b.right.definition.result ≡ NoType)
  built_declared f m h =
      let q = and_parts (there.built m) (uses_in modules ps f (function_binding m)) h in
      let r = and_parts (is_constructor_without_value m) (is_among written m.class && has_function all m) q.0 in
      let t = and_parts (is_constructor m.namespace) (has_no_value m.method.result) r.0 in
      let c = code_in m r.1 (owner_stands f (function_binding m) q.1) completing (ap running (constructor_is m.namespace t.0)) in
      (record { right = c.right; runs = c.runs; function = c.function }, c.right.result_is ∙ no_value m.method.result t.1)

  -- classes

  -- a class whose objects the code of a file can make
  record MadeIn (c : Name) : Type 0 where
    good : Good entries files l all live written ps a bodies p are are_live run owned c
    user : Name
    used : IsUsed user (class_use c)

  module _ (c : Name) (m : MadeIn c) where
    abbrev parts : Parts
    parts = its entries files l all live written ps a bodies p are are_live run owned c m.good

    stands_there : StandsThere c
    stands_there = owner_stands m.user (class_use c) m.used

    abbrev its_class : Piece
    its_class = class_of_its entries files l all live written ps a bodies p are are_live run owned c m.good

    class_listed : Contains ps its_class
    class_listed = class_here entries files l all live written ps a bodies p are are_live run owned c m.good

    own_class : class_of w c ≡ Some parts.class
    own_class = (own entries files l all live written ps a bodies p are are_live run owned c m.good).are.class_is

    class_declared : ClassDeclared z c parts.class.superclass
    class_declared = record {
      user = m.user;
      there = and_from (there.live c) (uses_in modules ps m.user (class_use c)) (and_from (is_among written c) (is_among live c) ((among written c).1 m.good.is_written) ((among live c).1 m.good.is_live)) m.used;
      definition = parts.class;
      found = same-class w c ∙ own_class;
      fields = parts.fields;
      own = own_fields parts.class.fields parts.fields (own entries files l all live written ps a bodies p are are_live run owned c m.good).are.fields;
      whole = whole_fields parts.class.fields parts.fields (own entries files l all live written ps a bodies p are are_live run owned c m.good).are.fields;
      ancestors = parts.ancestors;
      constants = stands_at_home (constants_piece c parts.ancestors) stands_there (constants_here entries files l all live written ps a bodies p are are_live run owned c m.good) m.good.is_written;
      leads = leads_to (home_of c) (some_constants c) (used_at_home its_class stands_there class_listed (binding_of (some_constants c)) (uses_constants c parts.class.superclass parts.entries));
      others = map entry_member parts.entries;
      class = stands_at_home its_class stands_there class_listed m.good.is_written;
      marked = marked c (is_named entries files l all live written ps a bodies p are are_live run owned c m.good) (is_utf8_named entries files l all live written ps a bodies p are are_live run owned c m.good);
      no_char = byte_not c (free entries files l all live written ps a bodies p are are_live run owned c m.good) (codes "java.lang.Character") refl;
    }

    uses_above : (d : Name) → parts.class.superclass ≡ Some d → IsUsed (home_of c) (class_use d)
    uses_above d super = used_at_home its_class stands_there class_listed (class_use d) (uses_superclass c d parts.class.superclass parts.entries super)

    super_made : (d : Name) → parts.class.superclass ≡ Some d → MadeIn d
    super_made d super = record { good = super_good entries files l all live written ps a bodies p are are_live run owned c m.good d super; user = home_of c; used = uses_above d super }

    abbrev stands : Stands w MadeIn c
    stands = record { class = parts.class; found = own_class; free = free entries files l all live written ps a bodies p are are_live run owned c m.good; up = super_made }

  chain_ends : (c : Name) (m : MadeIn c) → (parts c m).class.superclass ≡ None → ChainDeclared z (c ∷ [])
  chain_ends c m e = extends_none c (subst (ClassDeclared z c) e (class_declared c m))

  chain_goes_on : (c d : Name) (ds : List Name) (m : MadeIn c) → (parts c m).class.superclass ≡ Some d → ChainDeclared z (d ∷ ds) → ChainDeclared z (c ∷ d ∷ ds)
  chain_goes_on c d ds m e rest = extends_one c d ds (subst (ClassDeclared z c) e (class_declared c m)) (leads_to (home_of c) (a_class d) (uses_above c m d e)) rest

  class_made : (f c : Name) → (z.has f).live c ≡ true → MadeDeclared z c
  class_made f c h =
      let q = and_parts (there.live c) (uses_in modules ps f (class_use c)) h in
      let m : MadeIn c = record { good = live_good entries files l all live written ps a bodies p are are_live run owned c q.0; user = f; used = q.1 } in
      let chain = whole_chain w (classes_kept entries files w a) a.world.no_cycle MadeIn stands (ChainDeclared z) chain_ends chain_goes_on c m in
      record { above = chain.above; chain = chain.is_chain; classes = chain.classes }

  -- static fields

  record StaticUsed (c g : Name) (t : IrType) : Type 0 where
    need : Needed entries files l all live written ps a bodies p are are_live run owned c g t
    in_file : StandsThere c

  static_used : (f c g : Name) (t : IrType) → has_static (z.has f) c g t ≡ true → StaticUsed c g t
  static_used f c g t h = elim (or_cases ((z.has f).static_field c g t) ((z.has f).static_setter c g t) h) [
    | inl read ↦ let q = and_parts (there.static_field c g t) (uses_in modules ps f (static_use c g)) read in needs q.0 (owner_stands f (static_use c g) q.1)
    | inr set ↦ let q = and_parts (there.static_setter c g t) (uses_in modules ps f (setter_use c g)) set in needs q.0 (owner_stands f (setter_use c g) q.1)
  ]
    where
      needs : uses_static w l.facts written c g t ≡ true → StandsThere c → StaticUsed c g t
      needs k s = record { need = needed_static entries files l all live written ps a bodies p are are_live run owned c g t (or_left (uses_static w l.facts written c g t) (uses_static w l.facts written c g t) k); in_file = s }

  static_declared : (f c g : Name) (t : IrType) → has_static (z.has f) c g t ≡ true → StaticDeclared z c g t
  static_declared f c g t h =
      let u = static_used f c g t h in
      let d : FieldDef = u.need.field.field in
      let setter = setter_there entries files l all live written ps a bodies p are are_live run owned c g t u.need in
      let used = used_at_home (setter_piece c d) u.in_file setter (record { owner = c; name = static_name c d.name }) (at_first (record { owner = c; name = static_name c d.name }) []) in
      record {
        field = u.need.field;
        variable = stands_at_home (variable_piece c d) u.in_file (variable_there entries files l all live written ps a bodies p are are_live run owned c g t u.need) u.need.here;
        setter = stands_at_home (setter_piece c d) u.in_file setter u.need.here;
        beside = refl;
        leads = leads_to (home_of c) (a_static c g t) (subst (λ (n : Name). IsUsed (home_of c) (static_use c n)) u.need.field.named used);
      }

  -- cells of modules

  -- the cell of a module that is written, in a file
  record CellIn (c : Name) : Type 0 where
    there_is : CellThere w ps written c
    in_file : StandsThere c

  cell_used : (f c : Name) → has_cell (z.has f) c ≡ true → CellIn c
  cell_used f c h = elim (or_cases ((z.has f).modules c) ((z.has f).stored c) h) [
    | inl loaded ↦ let q = and_parts (there.modules c) (uses_in modules ps f (load_use c)) loaded in record { there_is = (loaded_there entries files l all live written ps a bodies p run c q.0).its; in_file = owner_stands f (load_use c) q.1 }
    | inr stored ↦ let q = and_parts (there.stored c) (uses_in modules ps f (store_use c)) stored in record { there_is = stored_there entries files l all live written ps a bodies p run c q.0; in_file = owner_stands f (store_use c) q.1 }
  ]

  store_declared : (f c : Name) → has_cell (z.has f) c ≡ true → StoreDeclared z c
  store_declared f c h =
      let u = cell_used f c h in
      let used = used_at_home (store_piece c) u.in_file u.there_is.storer (binding_of (a_cell c)) (at_first (binding_of (a_cell c)) []) in
      record {
        class = record { definition = u.there_is.class; found = same-class w c ∙ u.there_is.found };
        cell = stands_at_home (cell_piece c) u.in_file u.there_is.cell u.there_is.here;
        storer = stands_at_home (store_piece c) u.in_file u.there_is.storer u.there_is.here;
        beside = refl;
        leads = leads_to (home_of c) (a_cell c) used;
      }

  load_declared : (f c : Name) → (z.has f).modules c ≡ true → LoadDeclared z c
  load_declared f c h =
      let q = and_parts (there.modules c) (uses_in modules ps f (load_use c)) h in
      let its = loaded_there entries files l all live written ps a bodies p run c q.0 in
      let s = owner_stands f (load_use c) q.1 in
      let can = module_made w l.facts all live p.helpers written c its.its.here (run.loads c (and_parts (is_among written c) (is_loaded all c) q.0).1) in
      let used : (b : Binding) → Contains (load_piece c).uses b → IsUsed (home_of c) b = used_at_home (load_piece c) s its.loader in
      let constructor = function_binding (member c Constructor without_parameters) in
      record {
        loader = stands_at_home (load_piece c) s its.loader its.its.here;
        beside = refl;
        made = and_from (there.made c) (uses_in modules ps (home_of c) (class_use c)) can.0 (used (class_use c) (further (binding_of (a_cell c)) (class_use c) (constructor ∷ class_use c ∷ []) (further constructor (class_use c) (class_use c ∷ []) (at_first (class_use c) []))));
        built = and_from (there.built (member c Constructor without_parameters)) (uses_in modules ps (home_of c) constructor) can.1 (used constructor (further (binding_of (a_cell c)) constructor (constructor ∷ class_use c ∷ []) (at_first constructor (class_use c ∷ []))));
      }

  -- helpers

  record HelperUsed (h : Helper) : Type 0 where
    is_written : IsWritten entries files l all live written ps a bodies p are are_live run owned h
    in_file : StandsThere object_class

  helper_used : (f : Name) (h : Helper) → (z.has f).helper (helper_name h) ≡ true → HelperUsed h
  helper_used f h e = let q = and_parts (there.helper (helper_name h)) (uses_in modules ps f (object_binding (helper_name h))) e in record { is_written = helper_written entries files l all live written ps a bodies p are are_live run owned h q.0; in_file = owner_stands f (object_binding (helper_name h)) q.1 }

  -- the test of a primitive type, at home with the helpers
  kind_test_declared : (f : Name) (t : IrType) → has_kind t ≡ true → written_helper p.helpers written (test_name t) ≡ true → list_all (uses_in modules ps f) (test_uses t) ≡ true → KindTestDeclared z f t
  kind_test_declared f t k h u = let d = helpers_of t k in record {
    kind = d.kind;
    its_kind = d.its_kind;
    helper = subst (λ (x : Name). (z.has f).helper x ≡ true) d.test (and_from (there.helper (test_name t)) (uses_in modules ps f (object_binding (test_name t))) h (kind_used (uses_in modules ps f) t k u));
    home = ap home_of (kind_owned t k);
  }

  -- the test of a class, which its file declares
  module _ (c : Name) (t : TestThere l written ps p.helpers c) (s : StandsThere c) where
    abbrev piece_by : Option Kind → Piece
    piece_by o = test_piece c t.parts.instances o

    module _ (o : Option Kind) (e : kind_of_class c all_kinds ≡ o) where
      listed_by : Contains ps (piece_by o)
      listed_by = subst (λ (k : Option Kind). Contains ps (piece_by k)) e t.test

      item_by : Contains (all_items z) (placed (home_of c) (piece_by o).item)
      item_by = stands_at_home (piece_by o) s listed_by t.here

      kind_by : (k : Kind) → Contains (kind_tests t.parts.instances o) (helper_binding (helper_name (helpers.TestOf k))) → UsesTop z (a_test (Class c)) (a_helper (helpers.TestOf k))
      kind_by k u = and_from (there.helper (helper_name (helpers.TestOf k))) (uses_in modules ps (home_of c) (object_binding (helper_name (helpers.TestOf k))))
          (helper_had entries files l all live written ps a bodies p are are_live run owned (helpers.TestOf k) (record { among_helpers = t.kinds k (subst (λ (x : Option Kind). Contains (kind_tests t.parts.instances x) (helper_binding (helper_name (helpers.TestOf k)))) (sym e) u); with_object = owned (piece_by o) listed_by t.here (helper_binding (helper_name (helpers.TestOf k))) u }))
          (used_at_home (piece_by o) s listed_by (helper_binding (helper_name (helpers.TestOf k))) u)

    class_test_declared : ClassTestDeclared z c
    class_test_declared = go (kind_of_class c all_kinds) refl
      where
        go : (o : Option Kind) → kind_of_class c all_kinds ≡ o → ClassTestDeclared z c
        go None e = by_marker c t.parts.instances (not_hijacked c e) t.are.instances (item_by None e) (λ k i. kind_by None e k (into_map test_binding t.parts.instances k i))
        go (Some k) e =
            let same = kind_is c all_kinds k e in
            subst (ClassTestDeclared z) (sym same) (by_kind k t.parts.instances (subst (λ (n : Name). Contains (all_items z) (placed (home_of n) (test_piece n t.parts.instances (Some k)).item)) same (item_by (Some k) e)) (subst (λ (n : Name). UsesTop z (a_test (Class n)) (a_helper (helpers.TestOf k))) same (kind_by (Some k) e k (at_first (helper_binding (helper_name (helpers.TestOf k))) []))))

  test_declared : (f : Name) (t : IrType) → (z.has f).tests t ≡ true → TestDeclared z f t
  test_declared f (Class c) h = let q = and_parts (there.tests (Class c)) (list_all (uses_in modules ps f) (test_uses (Class c))) h in let b = binding_of (a_test (Class c)) in of_class c (class_test_declared c (class_test_there entries files l all live written ps a bodies p are are_live run owned c q.0) (owner_stands f b (and_parts (uses_in modules ps f b) true q.1).0))
  test_declared f (Array r) h =
      let q = and_parts (there.tests (Array r)) (list_all (uses_in modules ps f) (test_uses (Array r))) h in
      of_array r (record { helper = and_from (there.helper (test_name (Array r))) (uses_in modules ps f (object_binding (test_name (Array r)))) q.0 (and_parts (uses_in modules ps f (object_binding (test_name (Array r)))) true q.1).0; home = refl })
  test_declared f t h =
      let q = and_parts (there.tests t) (list_all (uses_in modules ps f) (test_uses t)) h in
      let k = and_parts (has_kind t) (written_helper p.helpers written (test_name t)) q.0 in
      of_kind t (kind_test_declared f t k.0 k.1 q.1)

  module _ (h : Helper) (u : HelperUsed h) where
    listed : Contains ps (helper_piece p.above h)
    listed = helper_listed entries files l all live written ps a bodies p are are_live run owned h u.is_written

    helper_stands : Contains (all_items z) (placed (home_of object_class) (helper_item p.above h))
    helper_stands = stands_at_home (helper_piece p.above h) u.in_file listed u.is_written.with_object

    -- what it uses is written with it
    beside : (k : Helper) → Contains (used_helpers h) k → HelperUsed k
    beside k i = record { is_written = record { among_helpers = run.closed h k u.is_written.among_helpers i; with_object = u.is_written.with_object }; in_file = u.in_file }

    uses_helper : (k : Helper) → Contains (used_helpers h) k → UsesTop z (a_helper h) (a_helper k)
    uses_helper k i = and_from (there.helper (helper_name k)) (uses_in modules ps (home_of object_class) (object_binding (helper_name k))) (helper_had entries files l all live written ps a bodies p are are_live run owned k (beside k i).is_written) (used_at_home (helper_piece p.above h) u.in_file listed (of k) (Contains-append_right (used_of_classes h) (map of (used_helpers h)) (of k) (into_map of (used_helpers h) k i)))

  -- an exception of this class can be made where the helper is that throws it
  abbrev Makes : Failure → Type 0
  Makes x = (there.made (failure_class x) ≡ true) × (there.built (member (failure_class x) Constructor with_message) ≡ true)

  abbrev Throwing : Failure → Type 0
  Throwing x = CanMake z (a_helper (helpers.Throws x)) (failure_class x) × UsesTop z (a_helper (helpers.Throws x)) (a_constructor (member (failure_class x) Constructor with_message))

  throwing : (x : Failure) → HelperUsed (helpers.Throws x) → Makes x → Throwing x
  throwing x u makes =
      let c = failure_class x in
      let thrower : Helper = helpers.Throws x in
      let init = function_binding (member c Constructor with_message) in
      let used : (b : Binding) → Contains (init ∷ class_use c ∷ []) b → IsUsed (home_of object_class) b = λ b i. used_at_home (helper_piece p.above thrower) u.in_file (listed thrower u) b (Contains-append_left (init ∷ class_use c ∷ []) [] b i) in
      (and_from (there.made c) (uses_in modules ps (home_of object_class) (class_use c)) makes.0 (used (class_use c) (further init (class_use c) (class_use c ∷ []) (at_first (class_use c) []))), and_from (there.built (member c Constructor with_message)) (uses_in modules ps (home_of object_class) init) makes.1 (used init (at_first init (class_use c ∷ []))))

  failure_declared : (f : Name) (x : Failure) → (z.has f).helper (helper_name (helpers.Throws x)) ≡ true → Throwing x
  failure_declared f x e = let u = helper_used f (helpers.Throws x) e in throwing x u (exception_made w l.facts all live p.helpers written (failure_class x) (run.thrown x u.is_written.among_helpers u.is_written.with_object))

  -- the cast to a primitive type, at home with the helpers
  kind_cast_declared : (f : Name) (t : IrType) → has_kind t ≡ true → written_helper p.helpers written (cast_name t) ≡ true → list_all (uses_in modules ps f) (cast_uses t) ≡ true → KindCastDeclared z f t
  kind_cast_declared f t k h u = let d = helpers_of t k in record {
    kind = d.kind;
    its_kind = d.its_kind;
    helper = subst (λ (x : Name). (z.has f).helper x ≡ true) d.cast (and_from (there.helper (cast_name t)) (uses_in modules ps f (object_binding (cast_name t))) h (cast_kind_used (uses_in modules ps f) t k u));
    home = ap home_of (cast_owned t k);
  }

  -- the cast to a class, with its test
  class_cast_declared : (c : Name) → there.casts (Class c) ≡ true → StandsThere c → ClassCastDeclared z c
  class_cast_declared c can s =
      let k = class_cast_there entries files l all live written ps a bodies p are are_live run owned c can in
      let its_test = binding_of (a_test (Class c)) in
      let its_thrower = helper_binding (helper_name (helpers.Throws Cast)) in
      let parts = and_parts (is_among written c) (is_cast all c) can in
      let thrower_written : IsWritten entries files l all live written ps a bodies p are are_live run owned (helpers.Throws Cast) = let both = run.casts c k.tests.here parts.1 in record { among_helpers = both.1; with_object = both.0 } in
      let used_thrower = used_at_home (cast_piece c) s k.cast its_thrower (further its_test its_thrower (its_thrower ∷ []) (at_first its_thrower [])) in
      record {
        cast = stands_at_home (cast_piece c) s k.cast k.tests.here;
        test = class_test_declared c k.tests s;
        tests = and_from (there.tests (Class c)) (list_all (uses_in modules ps (home_of c)) (test_uses (Class c))) (and_from (is_among written c) (is_tested all c || is_cast all c) parts.0 (or_right (is_tested all c) (is_cast all c) parts.1)) (and_from (uses_in modules ps (home_of c) its_test) true (used_at_home (cast_piece c) s k.cast its_test (at_first its_test (its_thrower ∷ []))) refl);
        thrower = and_from (there.helper (helper_name (helpers.Throws Cast))) (uses_in modules ps (home_of c) its_thrower) (helper_had entries files l all live written ps a bodies p are are_live run owned (helpers.Throws Cast) thrower_written) used_thrower;
      }

  cast_declared : (f : Name) (t : IrType) → (z.has f).casts t ≡ true → CastDeclared z f t
  cast_declared f (Class c) h = let q = and_parts (there.casts (Class c)) (list_all (uses_in modules ps f) (cast_uses (Class c))) h in let b = binding_of (a_cast (Class c)) in to_class c (class_cast_declared c q.0 (owner_stands f b (and_parts (uses_in modules ps f b) true q.1).0))
  cast_declared f (Array r) h =
      let q = and_parts (there.casts (Array r)) (list_all (uses_in modules ps f) (cast_uses (Array r))) h in
      to_array r (record { helper = and_from (there.helper (cast_name (Array r))) (uses_in modules ps f (object_binding (cast_name (Array r)))) q.0 (and_parts (uses_in modules ps f (object_binding (cast_name (Array r)))) true q.1).0; home = refl; tests = refl })
  cast_declared f t h =
      let q = and_parts (there.casts t) (list_all (uses_in modules ps f) (cast_uses t)) h in
      let k = and_parts (has_kind t) (written_helper p.helpers written (cast_name t)) q.0 in
      to_kind t (kind_cast_declared f t k.0 k.1 q.1)

  -- methods that are looked up

  abbrev exact : (f : Fact) → Contains l.facts f ↔ Reachable w entries f
  exact f = (run.reached f, run.whole f)

  abbrev AllMade : List Name → Type 0
  AllMade [] = Unit {0}
  AllMade (c ∷ cs) = MadeIn c × AllMade cs

  chain_made : (c : Name) → MadeIn c → Chained AllMade (chain_of w c) c
  chain_made = whole_chain w (classes_kept entries files w a) a.world.no_cycle MadeIn stands AllMade (λ c m e. (m, tt)) (λ c d ds m e rest. (m, rest))

  -- the target of a call, whose function the file of the binding uses
  target_declared : (t : Top) (d : Name) (m : MethodName) (owner : Name) → IsReachedTarget w l.facts d m owner → Contains written owner → IsUsed (z.home t) (function_binding (member owner Public m)) → TargetDeclared z t d m
  target_declared t d m owner target here used =
      let k : Member = member owner Public m in
      record {
        owner = owner;
        target = runs_target entries files w l.facts a exact d m owner target.is_target;
        uses = and_from (there.received k) (uses_in modules ps (z.home t) (function_binding k)) (and_from (is_among written owner) (has_function all k) ((among written owner).1 here) (has_function-from all k ((bodies.exact k).1 (run.reached (Body k) target.reached)))) used;
      }

  -- along classes that are made in some file, what their pieces have
  entry_declared : (d : Name) (m : MethodName) (owner : Name) → IsReachedTarget w l.facts d m owner → Contains written owner → (cs : List Name) → EntryThere l ps written m owner cs → AllMade cs → EntryDeclared z d m cs
  unfolding target_declared
  entry_declared d m owner target here _ (has_entry c cs th c_here code used) made =
      let q : Piece = class_piece c th.parts.class.superclass th.parts.entries th.parts.fields in
      let s = stands_there c made.0 in
      entry_declared_here c cs th.parts.class.superclass (members c th.parts.class.superclass th.parts.entries th.parts.fields) (stands_at_home q s th.class c_here) (target_declared (a_class c) d m owner target here (used_at_home q s th.class (function_binding (member owner Public m)) used)) code
  entry_declared d m owner target here _ (has_none c cs th c_here none rest) made =
      let q : Piece = class_piece c th.parts.class.superclass th.parts.entries th.parts.fields in
      no_entry_declared c cs th.parts.class.superclass (members c th.parts.class.superclass th.parts.entries th.parts.fields) (stands_at_home q (stands_there c made.0) th.class c_here) none (entry_declared d m owner target here cs rest made.1)

  -- a function that tells receivers apart, where a file uses it
  record DispatchUsed (m : MethodName) : Type 0 where
    function : DispatchThere l ps written p.helpers m
    in_file : StandsThere object_class

  dispatch_used : (f : Name) (m : MethodName) → (z.has f).dispatched m ≡ true → DispatchUsed m
  dispatch_used f m h =
      let b = binding_of (a_dispatch m) in
      let q = and_parts (there.dispatched m) (list_all (uses_in modules ps f) (looked_up_uses true m)) h in
      record { function = dispatch_there entries files l all written ps a bodies p are exact owned m q.0; in_file = owner_stands f b (and_parts (uses_in modules ps f b) true q.1).0 }

  module _ (m : MethodName) (u : DispatchUsed m) where
    abbrev its_dispatch : DispatchThere l ps written p.helpers m
    its_dispatch = u.function

    dispatch_stands : Contains (all_items z) (placed (home_of object_class) (dispatch_piece m its_dispatch.cases).item)
    dispatch_stands = stands_at_home (dispatch_piece m its_dispatch.cases) u.in_file its_dispatch.piece its_dispatch.here

    case_declared : (t : Told) → Contains its_dispatch.cases t → CaseDeclared z m t
    unfolding target_declared
    case_declared t i =
        let its = told_case w l.facts m its_dispatch.cases its_dispatch.are_told t i in
        let q : Piece = dispatch_piece m its_dispatch.cases in
        let tests = helper_binding (helper_name (helpers.TestOf t.kind)) in
        record {
          told = its.told;
          test = and_from (there.helper (helper_name (helpers.TestOf t.kind))) (uses_in modules ps (home_of object_class) tests)
              (helper_had entries files l all live written ps a bodies p are are_live run owned (helpers.TestOf t.kind) (record { among_helpers = its_dispatch.tests t i; with_object = its_dispatch.here }))
              (used_at_home q u.in_file its_dispatch.piece tests (its_dispatch.asks t i));
          its = target_declared (a_dispatch m) (kind_class t.kind) m t.owner its.target (its_dispatch.owners t i) (used_at_home q u.in_file its_dispatch.piece (function_binding (member t.owner Public m)) (its_dispatch.calls t i));
          owner_is = refl;
        }

    module _ (c : Name) (called : Contains l.facts (Called c m)) (free : is_hijacked c ≡ false) where
      case_for : (k : Kind) → is_told k ≡ true → is_ancestor w (kind_class k) c ≡ true → HasCase its_dispatch.cases k
      case_for k told below =
          let t = target_of entries files w l.facts a exact (kind_class k) m (on_hijacked (kind_class k) c (run.reached (Called c m) called) (kind_hijacked k) (stands_above w (kind_class k) c below)) in
          has_case w l.facts m its_dispatch.cases its_dispatch.are_told k told t.owner t.target

      -- with a case at least, since some hijacked class is told there or below
      dispatch_declared : has_hijacked_in w c ≡ true → DispatchDeclared z c m
      dispatch_declared e = let some = told_below w c free e in go its_dispatch.cases (case_for some.kind some.told some.below) (λ t i. case_declared t i) case_for dispatch_stands
        where
          go : (ts : List Told) → HasCase ts (told_below w c free e).kind → ((t : Told) → Contains ts t → CaseDeclared z m t) → ((k : Kind) → is_told k ≡ true → is_ancestor w (kind_class k) c ≡ true → HasCase ts k) → Contains (all_items z) (placed (home_of object_class) (dispatch_piece m ts).item) → DispatchDeclared z c m
          go [] some runs each item = let none : some.among.0 < 0 = some.among.1 in absurd (omega arith)
          go (t ∷ ts) some runs each item = record { first = t; others = ts; function = item; distinct = differ_from_receiver m; runs = runs; each = each }

  told_apart : (f : Name) (m : MethodName) → (z.has f).dispatched m ≡ true → TellsApart z m
  told_apart f m h = let u = dispatch_used f m h in record { cases = u.function.cases; function = dispatch_stands m u }

  looked_declared : (f c : Name) (m : MethodName) → can_look_up (z.has f) c m ≡ true → LookupDeclared z c m ((z.has f).lookup.has_hijacked c)
  looked_declared f c m h = record { objects = objects; distinct = parameters_differ m; kinds = kinds (has_hijacked_in w c) refl }
    where
      q : (there.looked_up c m ≡ true) × (((z.has f).dispatched m || not (has_hijacked_in w c)) ≡ true)
      q = and_parts (there.looked_up c m) ((z.has f).dispatched m || not (has_hijacked_in w c)) h

      called : Contains l.facts (Called c m)
      called = called_known l.facts c m (and_parts (list_any (calls_on c m) l.facts) (not (has_hijacked_in w c) || tells_apart w l.facts all written m) q.0).0

      free : is_hijacked c ≡ false
      free = called_free entries files w l.facts a exact c m called

      objects : (g d : Name) → (z.has g).made d ≡ true → is_ancestor w d c ≡ true → EntryDeclared z d m (chain_of w d)
      objects g d made below =
          let s = and_parts (there.made d) (uses_in modules ps g (class_use d)) made in
          let found = entry_there entries files l all live written ps a bodies p are are_live run owned c m q.0 d s.0 below in
          let chain = chain_made d (record { good = live_good entries files l all live written ps a bodies p are are_live run owned d (made_is_live entries files l all live written ps a bodies p are are_live run owned d s.0); user = g; used = s.1 }) in
          entry_declared d m found.owner found.target found.here (chain_of w d) found.entry (subst AllMade (sym chain.is_chain) chain.classes)

      dispatched : has_hijacked_in w c ≡ true → (z.has f).dispatched m ≡ true
      dispatched e = elim (or_cases ((z.has f).dispatched m) (not (has_hijacked_in w c)) q.1) [
        | inl it ↦ it
        | inr free_below ↦ impossible (sym (ap not e) ∙ free_below)
      ]

      kinds : (b : Bool) → has_hijacked_in w c ≡ b → KindsDeclared z c m b
      kinds true e = some_kinds (dispatch_declared m (dispatch_used f m (dispatched e)) c called free e)
      kinds false e = no_kinds (none_below w c free e)

  -- arrays

  plain : IsPlain w
  plain = let kept = classes_kept entries files w a in plain_world w kept.superclass kept.hijacked

  -- the first of these classes extends the second
  abbrev Extends : List Name → Type 0
  Extends (c ∷ d ∷ ds) = IsWrittenAbove w c d
  Extends _ = Unit {0}

  writes_above : (c d : Name) (m : MadeIn c) → (parts c m).class.superclass ≡ Some d → IsWrittenAbove w c d
  writes_above c d m e = subst (λ (o : Option ClassDef). Contains (written_in o) d) (sym (own_class c m)) (subst (λ (o : Option Name). Contains (in_list o ++ (parts c m).class.interfaces) d) (sym e) (at_first d (parts c m).class.interfaces))

  -- no class stands above that of all objects
  object_alone : MadeIn object_class → chain_of w object_class ≡ object_class ∷ []
  object_alone m = let chain = whole_chain w (classes_kept entries files w a) a.world.no_cycle MadeIn stands Extends (λ c m e. tt) (λ c d ds m e rest. writes_above c d m e) object_class m in go chain.above chain.is_chain chain.classes
    where
      go : (cs : List Name) → chain_of w object_class ≡ object_class ∷ cs → Extends (object_class ∷ cs) → chain_of w object_class ≡ object_class ∷ []
      go [] e h = e
      go (d ∷ ds) e h = absurd (plain.topped d h)

  arrays_declared : (f : Name) → (z.has f).helper (helper_name helpers.ArrayClass) ≡ true → ArraysDeclared z
  arrays_declared f e = record {
    live = and_from (there.live object_class) (uses_in modules ps (home_of object_class) (class_use object_class)) object_live uses_object;
    alone = object_alone (record { good = live_good entries files l all live written ps a bodies p are are_live run owned object_class object_live; user = home_of object_class; used = uses_object });
    made = λ g can. and_from (there.made object_class) (uses_in modules ps (home_of object_class) (class_use object_class)) can uses_object;
  }
    where
      u : HelperUsed helpers.ArrayClass
      u = helper_used f helpers.ArrayClass e

      uses_object : IsUsed (home_of object_class) (class_use object_class)
      uses_object = used_at_home (helper_piece p.above helpers.ArrayClass) u.in_file (listed helpers.ArrayClass u) (class_use object_class) (at_first (class_use object_class) [])

      object_live : there.live object_class ≡ true
      object_live = and_from (is_among written object_class) (is_among live object_class) ((among written object_class).1 u.is_written.with_object) ((among live object_class).1 ((are_live object_class).1 (extends u.is_written.among_helpers)))

  -- the constants of a class that is named as the base of arrays
  base_declared : (f c : Name) → (z.has f).bases c ≡ true → ConstantsDeclared z c
  base_declared f c h =
      let q = and_parts (there.bases c) (list_all (uses_in modules ps f) (base_uses (BaseRef.Class c))) h in
      let its = class_base_there entries files l all live written ps a bodies p are are_live run owned c q.0 in
      let b = binding_of (some_constants c) in
      let s = owner_stands f b (and_parts (uses_in modules ps f b) true q.1).0 in
      record {
        ancestors = its.parts.ancestors;
        constants = stands_at_home (constants_piece c its.parts.ancestors) s its.constants its.here;
        marked = let found = class_found w c its.parts.class its.are.class_is in marked c (subst (λ (n : Name). IsTrue (is_class_name n)) found.1 (class_named entries files w a its.parts.class found.0)) (subst (λ (n : Name). IsTrue (is_utf8 n)) found.1 (class_utf8 entries files w a its.parts.class found.0));
      }

  -- a method that is called on arrays is found on objects of the class of all objects
  array_call_declared : (f : Name) (m : MethodName) → (z.has f).on_arrays m ≡ true → ArrayCallDeclared z m
  array_call_declared f m h = record { objects = objects; distinct = parameters_differ m }
    where
      objects : (g : Name) → (z.has g).made object_class ≡ true → EntryDeclared z object_class m (chain_of w object_class)
      objects g made =
          let s = and_parts (there.made object_class) (uses_in modules ps g (class_use object_class)) made in
          let its : MadeIn object_class = record { good = live_good entries files l all live written ps a bodies p are are_live run owned object_class (made_is_live entries files l all live written ps a bodies p are are_live run owned object_class s.0); user = g; used = s.1 } in
          let below : is_ancestor w object_class object_class ≡ true = above_found w object_class object_class (record { known = known_class w object_class (parts object_class its).class (own_class object_class its); way = is_object refl }) in
          let found = entry_called entries files l all live written ps a bodies p are are_live run owned object_class m h object_class s.0 below in
          let chain = chain_made object_class its in
          entry_declared object_class m found.owner found.target found.here (chain_of w object_class) found.entry (subst AllMade (sym chain.is_chain) chain.classes)

  -- the function of a reflective name, where a file uses it
  record ReflectionUsed (m : MethodName) : Type 0 where
    function : ReflectionThere l ps written p.helpers m
    in_file : StandsThere object_class

  reflection_used : (f : Name) (m : MethodName) → (z.has f).reflected m ≡ true → ReflectionUsed m
  reflection_used f m h =
      let b = binding_of (a_reflection m) in
      let q = and_parts (there.reflected m) (list_all (uses_in modules ps f) (call_uses there.lookup (callees.Reflective m))) h in
      record { function = reflection_there entries files l all written ps a bodies p are exact owned m q.0; in_file = owner_stands f b (and_parts (uses_in modules ps f b) true q.1).0 }

  helper_with : (h : Helper) → Contains p.helpers h → Contains written object_class → there.helper (helper_name h) ≡ true
  helper_with h i here = helper_had entries files l all live written ps a bodies p are are_live run owned h (record { among_helpers = i; with_object = here })

  module _ (m : MethodName) (u : ReflectionUsed m) where
    abbrev its_reflection : ReflectionThere l ps written p.helpers m
    its_reflection = u.function

    abbrev its_function : Piece
    its_function = reflective_piece m its_reflection.cases

    reflection_stands : Contains (all_items z) (placed (home_of object_class) its_function.item)
    reflection_stands = stands_at_home its_function u.in_file its_reflection.piece its_reflection.here

    used_here : (b : Binding) → Contains its_function.uses b → IsUsed (home_of object_class) b
    used_here b i = used_at_home its_function u.in_file its_reflection.piece b i

    helper_here : (h : Helper) → Contains p.helpers h → Contains its_function.uses (helper_binding (helper_name h)) → UsesTop z (a_reflection m) (a_helper h)
    helper_here h i v = and_from (there.helper (helper_name h)) (uses_in modules ps (home_of object_class) (helper_binding (helper_name h))) (helper_with h i its_reflection.here) (used_here (helper_binding (helper_name h)) v)

    reflected_declared : (t : Reflected) → Contains its_reflection.cases t → ReflectedDeclared z m t
    unfolding target_declared
    reflected_declared t i =
        let k = reflected_case w l.facts m its_reflection.cases its_reflection.are_reflected t i in
        let found = worked_out w l.facts m (λ c d e o q. one_method entries files w a c m d e o q) (kind_class t.kind) t.method t.owner k.target in
        let last = bound t.owner (public_function t.owner t.method) in
        record {
          told = k.told;
          test = helper_here (helpers.TestOf t.kind) (its_reflection.tests t i) (its_reflection.uses t i (helper_binding (is_name t.kind)) (at_first (helper_binding (is_name t.kind)) (box_uses t.method ++ last ∷ [])));
          definition = found.definition;
          proxy = found.proxy;
          method_is = found.method_is;
          params = found.params;
          its = target_declared (a_reflection m) (kind_class t.kind) t.method t.owner k.target.target (its_reflection.owners t i) (used_here last (its_reflection.uses t i last (further (helper_binding (is_name t.kind)) last (box_uses t.method ++ last ∷ []) (Contains-append_right (box_uses t.method) (last ∷ []) last (at_first last [])))));
          owner_is = refl;
          boxes = λ e. helper_here helpers.BoxedChar (its_reflection.boxes t i e) (its_reflection.uses t i (helper_binding (codes "$C")) (further (helper_binding (is_name t.kind)) (helper_binding (codes "$C")) (box_uses t.method ++ last ∷ []) (Contains-append_left (box_uses t.method) (last ∷ []) (helper_binding (codes "$C")) (boxed t.method e))));
        }

    kind_declared : (k : Kind) → is_told k ≡ true → ReflectedKind z m its_reflection.cases k
    kind_declared k is = go (kind_reflected w l.facts m its_reflection.cases its_reflection.are_reflected k is (λ d e. let its = kind_target entries files w l.facts a exact m its_reflection.called k d e in (its.owner, its.target)))
      where
        go : (proxy_target w (kind_class k) m ≡ None) ⊎ HasReflected its_reflection.cases k → ReflectedKind z m its_reflection.cases k
        go (inl none) = no_case none
        go (inr case) = has_case_declared case

    no_entries : (cs : List Name) → NoEntryThere l ps written m cs → AllMade cs → NoEntryDeclared z m cs
    no_entries _ nothing_there made = none_left
    no_entries _ (none_there c cs th here none rest) made =
        let q : Piece = class_piece c th.parts.class.superclass th.parts.entries th.parts.fields in
        none_here c cs th.parts.class.superclass (members c th.parts.class.superclass th.parts.entries th.parts.fields) (stands_at_home q (stands_there c made.0) th.class here) none (no_entries cs rest made.1)

    proxy_declared : (t : MethodName) (cs : List Name) → ProxyThere l ps written p.helpers m t cs → AllMade cs → ProxyDeclared z m t cs
    proxy_declared t _ (proxy_there c cs th here code boxes) made =
        let q : Piece = class_piece c th.parts.class.superclass th.parts.entries th.parts.fields in
        let s = stands_there c made.0 in
        let b = helper_binding (helper_name helpers.BoxedChar) in
        proxy_here c cs th.parts.class.superclass (members c th.parts.class.superclass th.parts.entries th.parts.fields) (stands_at_home q s th.class here) code (λ e. (let k = boxes e in and_from (there.helper (helper_name helpers.BoxedChar)) (uses_in modules ps (home_of c) b) (helper_with helpers.BoxedChar k.1 (owned q th.class here b k.0)) (used_at_home q s th.class b k.0)))

    answers_declared : (f d : Name) → (z.has f).made d ≡ true → AnswerDeclared z d m
    answers_declared f d made = go (answer_there entries files l all written ps a bodies p are exact owned m its_reflection.called d ((among written d).0 q.0) (made_known l.facts d q.1))
      where
        s : (there.made d ≡ true) × IsUsed f (class_use d)
        s = and_parts (there.made d) (uses_in modules ps f (class_use d)) made

        q : (is_among written d ≡ true) × (list_any (makes d) l.facts ≡ true)
        q = and_parts (is_among written d) (list_any (makes d) l.facts) s.0

        all_made : AllMade (chain_of w d)
        all_made = let chain = chain_made d (record { good = live_good entries files l all live written ps a bodies p are are_live run owned d (made_is_live entries files l all live written ps a bodies p are are_live run owned d s.0); user = f; used = s.1 }) in subst AllMade (sym chain.is_chain) chain.classes

        go : NamedThere l ps written p.helpers d m → AnswerDeclared z d m
        go (not_named none lacks) = no_answer none (no_entries (chain_of w d) lacks all_made)
        go (is_named_there t is params hands found) = has_answer t is params (proxy_declared t.name (chain_of w d) hands all_made) (entry_declared d t.name found.owner found.target found.here (chain_of w d) found.entry all_made)

    its_declaration : ReflectionDeclared z m
    its_declaration = record {
      cases = its_reflection.cases;
      function = reflection_stands;
      distinct = differ_from_receiver m;
      runs = reflected_declared;
      each = kind_declared;
      objects = answers_declared;
      boxes = record { bare = λ n. boxes_bare n l all ps p modules (home_of object_class) };
      thrower = helper_here (helpers.Throws Method) its_reflection.thrower its_reflection.throws;
    }

  reflection_declared : (f : Name) (m : MethodName) → (z.has f).reflected m ≡ true → ReflectionDeclared z m
  reflection_declared f m h = its_declaration m (reflection_used f m h)

pub modules_declare : ModulesDeclare
modules_declare entries files l all live written modules ps front last declared a bodies p are are_live run owned extends together whole stand marks = record {
  leads = λ f t h. leads_to entries files l all live written modules ps front last declared a bodies p are are_live run owned extends together whole stand marks f t (named_used (used_of l.world l.facts all live p.helpers written) (uses_in modules ps f) (test_used all p.helpers written (uses_in modules ps f)) (cast_used all p.helpers written (uses_in modules ps f)) t h);
  linked = linked_declared entries files l all live written modules ps front last declared a bodies p are are_live run owned extends together whole stand marks;
  received = received_declared entries files l all live written modules ps front last declared a bodies p are are_live run owned extends together whole stand marks;
  looked = looked_declared entries files l all live written modules ps front last declared a bodies p are are_live run owned extends together whole stand marks;
  dispatched = told_apart entries files l all live written modules ps front last declared a bodies p are are_live run owned extends together whole stand marks;
  reflected = reflection_declared entries files l all live written modules ps front last declared a bodies p are are_live run owned extends together whole stand marks;
  built = built_declared entries files l all live written modules ps front last declared a bodies p are are_live run owned extends together whole stand marks;
  live = class_made entries files l all live written modules ps front last declared a bodies p are are_live run owned extends together whole stand marks;
  bases = base_declared entries files l all live written modules ps front last declared a bodies p are are_live run owned extends together whole stand marks;
  on_arrays = array_call_declared entries files l all live written modules ps front last declared a bodies p are are_live run owned extends together whole stand marks;
  made = λ f c h. let q = and_parts ((used_of l.world l.facts all live p.helpers written).made c) (uses_in modules ps f (class_use c)) h in and_from ((used_of l.world l.facts all live p.helpers written).live c) (uses_in modules ps f (class_use c)) (made_is_live entries files l all live written ps a bodies p are are_live run owned c q.0) q.1;
  field = λ f. field_there l.world;
  static_field = static_declared entries files l all live written modules ps front last declared a bodies p are are_live run owned extends together whole stand marks;
  stored = store_declared entries files l all live written modules ps front last declared a bodies p are are_live run owned extends together whole stand marks;
  loaded = load_declared entries files l all live written modules ps front last declared a bodies p are are_live run owned extends together whole stand marks;
  tests = test_declared entries files l all live written modules ps front last declared a bodies p are are_live run owned extends together whole stand marks;
  casts = cast_declared entries files l all live written modules ps front last declared a bodies p are are_live run owned extends together whole stand marks;
  marked = marks;
  kept = fields_kept entries files l.world a;
  ancestors = p.above;
  helper = λ f h e. helper_stands entries files l all live written modules ps front last declared a bodies p are are_live run owned extends together whole stand marks h (its_helper f h e);
  helpers = λ f h k e i. uses_helper entries files l all live written modules ps front last declared a bodies p are are_live run owned extends together whole stand marks h (its_helper f h e) k i;
  failures = failure_declared entries files l all live written modules ps front last declared a bodies p are are_live run owned extends together whole stand marks;
  arrays = arrays_declared entries files l all live written modules ps front last declared a bodies p are are_live run owned extends together whole stand marks;
}
  where
    its_helper : (f : Name) (h : Helper) → (restricted (used_of l.world l.facts all live p.helpers written) (uses_in modules ps f)).helper (helper_name h) ≡ true → HelperUsed entries files l all live written modules ps front last declared a bodies p are are_live run owned extends together whole stand marks h
    its_helper f h e = helper_used entries files l all live written modules ps front last declared a bodies p are are_live run owned extends together whole stand marks f h e
