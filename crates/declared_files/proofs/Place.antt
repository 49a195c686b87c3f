-- Files that declare what can be used: their state behind the declarations stands for the opening of the IR, and they have what objects ask.
use Rattle.std.specs.Prelude.{is_some, not}
use Rattle.std.proofs.Common.{◌≡◌, ◌≤◌, ℕ, suc, Bool, true, false, List, [], ◌∷◌, ◌++◌, length, map, slice_get, refl, sym, ap, ◌∙◌, subst, Contains, inl, inr, ⊎_elim, Option, Some, None, cond, codes, arith, if◌then◌else◌}
use Rattle.agree_body_rules.proofs.Lists.{nothing_in, in_front_or_behind, at_front, further_on}
use Rattle.agree_body_forms.proofs.Statics.{set_static, static_among, store_cell}
use Rattle.agree_body_forms.specs.Built.{has_static, has_cell, can_box, divides, compares, can_look_up}
use Rattle.file_declarations.proofs.Fields.{fields_differ, begins, statics_differ, cells_differ, static_begins}
use Rattle.file_declarations.proofs.Items.{IsClassItem, alone as class_alone, extending, code_found, members_found}
use Rattle.file_declarations.proofs.Begun.{marker_held, same_classes, chain_length, zero_literal_is}
use Rattle.file_declarations.specs.Declarations.{behind}
use Rattle.file_declarations.specs.Declared.{Running, alone as by_itself, completing, running}
use Rattle.file_tops.proofs.Run.{some_same}
use Rattle.file_tops.specs.Tops.{literal_value, link}
use Rattle.agree_soundness.specs.Targets.{IsTargetOf}
use Rattle.sj_emit_help_spec.specs.Helpers.{failure_class, helper_name, helper_item, tests_and_constants, used_helpers, constants, box_constructor}
use Rattle.sj_emit_help_spec.specs.Words.{class_name, constants_name, kind_class, object_class, worded_kinds, entry_name, first_parameters, parameters_of, units_of}
use Rattle.sj_emit_help_spec.specs.declared.kinds.Failure.{Failure}
use Rattle.sj_emit_help_spec.specs.declared.kinds.Failure.TheVariants.{NullReceiver, Division, Cast, Index, Method, Size, Store}
use Rattle.sj_emit_help_spec.specs.declared.kinds.Helper.{Helper}
use Rattle.sj_emit_help_spec.specs.declared.kinds.Helper.TheVariants as helpers
use Rattle.sj_emit_help_spec.specs.declared.kinds.Kind.{Kind}
use Rattle.sj_emit_help_spec.specs.declared.kinds.Kind.TheVariants as kinds
use Rattle.ir_mean.specs.Dispatch.{chain_of, longest}
use Rattle.ir_mean.specs.States as ir
use Rattle.ir_mean.specs.World as ir_world
use Rattle.js_mean.specs.Classes.{members_in, members_of, method_in, method_among, method_code}
use Rattle.js_mean.specs.Objects.{method_on}
use Rattle.js_mean.specs.Files.{items_in}
use Rattle.js_mean.specs.Meaning as js_meaning
use Rattle.js_mean.specs.Shows.{object_shown, char_shown}
use Rattle.js_mean.specs.States as js
use Rattle.js_tree.specs.Terms.{Name, Statements, Member, constructor_of, Item, function_item, object_item, let_item}
use Rattle.js_tree.specs.Views.{statements_of}
use Rattle.outcomes.specs.Agreement.{Room}
use Rattle.outcomes.specs.Shown as shown_ends
use Rattle.file_declarations.specs.Pieces.{is_char as is_char_result, class_item_of, constructor_body, setter, cell_piece, load_piece, store_piece, test_piece, cast_piece, zero_of as zero_literal}
use Rattle.file_declarations.proofs.Shapes.{stands_there, zero_alike}
use Rattle.file_declarations.specs.Bridges.{bridge}
use Rattle.file_declarations.specs.Chains as chains
use Rattle.file_declarations.specs.ClassCastsClasses.{class_cast_code, hijacked_test_code}
use Rattle.file_declarations.specs.Tests.{class_test_code}
use Rattle.file_declarations.proofs.Casting.{cast_named}
use Rattle.file_declarations.proofs.Testing.{test_named}
use Rattle.file_declarations.specs.Helpers.{ReachesBoxes, ReachesHelper, ReachesTest, ReachesThrower, ClassTest, by_marker, by_kind, CanTest, CanCompare, helper_code, HelperStands, BoxStands, failing_code, checking_code, division_code}
use Rattle.file_declarations.specs.ClassTestsKinds.{dispatch_code}
use Rattle.file_declarations.specs.Dispatch.{Told, dispatch_item, dispatch_name, Reflected, reflective_item, reflective_name}
use Rattle.file_declarations.specs.Looked.{RunsTarget, FindsTarget, CaseRuns, KindsRun, no_kinds, some_kinds, LooksUpThere}
use Rattle.file_declarations.specs.Reflected.{ObjectAnswers, no_entry, has_entry, ReflectedRuns, KindAnswers, no_case, has_case, ReflectionStands}
use Rattle.file_declarations.specs.Reflecting.{reflective_code, proxy_code}
use Rattle.file_declarations.specs.Made.{zero_shown}
use Rattle.file_declarations.specs.Methods.{Linked, parameters_in, function_of}
use Rattle.file_declarations.specs.Names.{emitted_in}
use Rattle.file_declarations.specs.Objects.{PassesObject, RunsOn, Constructs, function_on, body_of}
use Rattle.file_declarations.specs.Objects as on_objects
use Rattle.file_declarations.specs.Arrays.{CanGiveArrays, ReachesArrays, CanMakeArrays, ChecksIndex, TellsClasses, TellsItems, CanPut, CanTestArrays, array_members}
use Rattle.file_declarations.specs.Worlds.{IsMade, CanCheck, CanDivide, Tested, of_kind, of_class, of_array, ThrowsCast, CanCast, CanCastClass, Casted, to_kind, to_class, to_array, StaticStands, setter_code, CellStands, StoreStands, LoadStands, HasObjects}
use Rattle.sj_core.specs.Terms.{named, receiver}
use Rattle.sj_desugar_spec.specs.Desugar.{is_mutable_in, names_of, body_code, completed, desugared_member, member}
use Rattle.sj_emit_expr_spec.specs.Members.{with_receiver, member_piece}
use Rattle.sj_emit_expr_spec.specs.Names.{variable_name, label_name}
use Rattle.sj_emit_expr_spec.specs.Templates.{check_name, member_name, static_name, setter_name, load_name, store_name, parameter_names, statement_templates}
use Rattle.sj_emit_expr_spec.specs.Tests.{test_name, cast_name}
use Rattle.sj_names.proofs.Same.{impossible}
use Rattle.sj_names.specs.declared.references.ArrayRef.{ArrayRef}
use Rattle.sj_names.specs.MethodNames.{spelled_method}
use Rattle.sj_names.specs.declared.references.TypeRef.{TypeRef}
use Rattle.js_mean.specs.Proper.{is_among, are_distinct}
use Rattle.std.proofs.lemmas.Bool.{and_parts, or_cases}
use Rattle.sj_names.specs.declared.method_names.Member.{Member as MemberName}
use Rattle.sj_names.specs.declared.method_names.MethodName.{MethodName}
use Rattle.sj_names.specs.declared.method_names.Namespace.{Namespace}
use Rattle.sj_names.specs.declared.method_names.Namespace.TheVariants.{Public, PublicStatic, Private, PrivateStatic, Constructor}
use Rattle.file_declarations.specs.Settings.{Place, Top, a_function, a_method, a_constructor, a_dispatch, a_reflection, a_class, some_constants, a_static, a_setter, a_cell, a_loader, a_storer, cell_name, a_test, a_cast, a_helper, top_name, is_usable, IsField, HasField, Holding, holding, HoldsConstants, TopHolds, SameHeap, SameState, MadeSomewhere, Reaches, array_links, link_of, links_of, box_link, division_helper}
use Rattle.file_declarations.specs.AgreePlainTreesWorlds.{World, SameValue}
use Rattle.file_declarations.specs.Modules.{loader_code, storer_code}
use Rattle.sj_names.specs.Same.{is_same_text}
use Rattle.sj_trees.specs.Types.{class_type}
use Rattle.sj_trees.specs.Term.{Term}
use Rattle.sj_world.specs.Known.{is_hijacked}
use Rattle.sj_trees.specs.declared.classes.ClassDef.{ClassDef}
use Rattle.sj_trees.specs.declared.classes.FieldDef.{FieldDef}
use Rattle.sj_trees.specs.declared.classes.MethodDef.{MethodDef}
use Rattle.sj_trees.specs.declared.operators.BinaryOp.{BinaryOp}
use Rattle.sj_trees.specs.declared.operators.BinaryOp.TheVariants.{IntDivide, IntRemainder, LongDivide, LongRemainder}
use Rattle.sj_trees.specs.declared.types.IrType.{IrType}
use Rattle.sj_trees.specs.declared.types.IrType.TheVariants.{Any, Array, Class}
use Rattle.agree_body_forms.specs.Built.{Usable}
use Rattle.declared_files.specs.Declared as declared
use Rattle.declared_files.specs.Declared.{Spread, all_items, Stands, FunctionDeclared, ClassDeclared, ConstantsDeclared, ChainDeclared, KindTestDeclared, ClassTestDeclared, TestDeclared, KindCastDeclared, ClassCastDeclared, CastDeclared, TargetDeclared, EntryDeclared, CaseDeclared, KindsDeclared, ReflectedDeclared, ReflectedKind, NoEntryDeclared, ProxyDeclared, AnswerDeclared, BoxesDeclared, Declared, IsLawful, Receives, as_method, as_constructor}
use Rattle.declared_files.specs.Placed.{Placed, placed, Holds, AllHold, OfPlaced, RunInOrder}
use Rattle.declared_files.proofs.Made.{marks_ancestors}
use Rattle.declared_files.proofs.Tops.{good_module, stands_in, all_pass, HasModule}
use Rattle.js_mean.specs.Files.{is_good_file}

-- an item among those that hold what they are to hold
held_among : (p : js.Program) (t : js.State) (ls : List Placed) (n : ℕ) → AllHold p t n ls → (l : Placed) → Contains ls l → (k : ℕ) × Holds p t k l.file l.item
held_among p t [] n h l c = nothing_in l c
held_among p t (m ∷ ms) n h l c = ⊎_elim (λ same. (n, subst (λ (o : Placed). Holds p t n o.file o.item) same h.0)) (λ later. held_among p t ms (behind n m.item) h.1 l later) (in_front_or_behind m ms l c)

-- a helper tests for each of these kinds, and names the constants of its class
both_used : (ks : List Kind) (k : Kind) → Contains ks k → Contains (tests_and_constants ks) (helpers.TestOf k) × Contains (tests_and_constants ks) (helpers.ConstantsOf k)
both_used [] k i = nothing_in k i
both_used (j ∷ js) k i = ⊎_elim first (λ c. later (both_used js k c)) (in_front_or_behind j js k i)
  where
    rest : List Helper
    rest = tests_and_constants js

    first : j ≡ k → Contains (tests_and_constants (j ∷ js)) (helpers.TestOf k) × Contains (tests_and_constants (j ∷ js)) (helpers.ConstantsOf k)
    first e = (subst (λ (q : Kind). Contains (tests_and_constants (j ∷ js)) (helpers.TestOf q)) e (at_front (helpers.TestOf j) (helpers.ConstantsOf j ∷ rest)), subst (λ (q : Kind). Contains (tests_and_constants (j ∷ js)) (helpers.ConstantsOf q)) e (further_on (helpers.TestOf j) (helpers.ConstantsOf j ∷ rest) (helpers.ConstantsOf j) (at_front (helpers.ConstantsOf j) rest)))

    behind_two : (h : Helper) → Contains rest h → Contains (tests_and_constants (j ∷ js)) h
    behind_two h c = further_on (helpers.TestOf j) (helpers.ConstantsOf j ∷ rest) h (further_on (helpers.ConstantsOf j) rest h c)

    later : Contains rest (helpers.TestOf k) × Contains rest (helpers.ConstantsOf k) → Contains (tests_and_constants (j ∷ js)) (helpers.TestOf k) × Contains (tests_and_constants (j ∷ js)) (helpers.ConstantsOf k)
    later r = (behind_two (helpers.TestOf k) r.0, behind_two (helpers.ConstantsOf k) r.1)

module _ (z : Spread) where
  -- each chain has room, and so has a helper
  abbrev pub room : Room
  room = record { each = 5; beyond = suc (longest z.classes) }

  abbrev pub place : Place
  place = emitted_in z.classes z.classes z.program z.home z.has room

  module _ (rest : List Item) (run : RunInOrder z.program z.front z.last z.declared rest) (can : Declared z) where
    pub reaches : (f : Name) → Reaches place f
    reaches f t u = can.leads f t u

    -- an item stands in a good file
    module_with : (f : Name) (i : Item) → Contains (all_items z) (placed f i) → HasModule z.program f
    module_with f i h = good_module z.program f (all_pass (is_good_file z.program) (z.front ++ z.last ∷ []) f run.good (stands_in z.program z.front z.last z.declared rest run.items (placed f i) h).0)

    among_its : (f : Name) (i : Item) (h : Contains (all_items z) (placed f i)) → Contains (module_with f i h).its_module.items i
    among_its f i h = subst (λ o. Contains (items_in o) i) (module_with f i h).there (stands_in z.program z.front z.last z.declared rest run.items (placed f i) h).1

    function_there : (f x : Name) (xs : List Name) (ss : Statements) → Contains (all_items z) (placed f (function_item x xs ss)) → js_meaning.code_of z.program f x ≡ Some (record { parameters = xs; body = ss })
    function_there f x xs ss h = let m = module_with f (function_item x xs ss) h in ap (λ o. js_meaning.code_in o x) m.there ∙ code_found m.its_module.items x xs ss m.distinct (among_its f (function_item x xs ss) h)

    members_there : (f x : Name) (ms : List Member) (c : Item) → IsClassItem x ms c → Contains (all_items z) (placed f c) → members_of z.program (link f x) ≡ Some ms
    members_there f x ms c k h = let m = module_with f c h in ap (λ o. members_in o x) m.there ∙ members_found m.its_module.items x ms c k m.distinct (among_its f c h)

    -- the functions of members
    parameters-are : (xs : List (List ℕ)) → parameter_names xs ≡ parameters_in place xs
    parameters-are [] = refl
    parameters-are (x ∷ xs) = ap (λ ns. place.name (named x) ∷ ns) (parameters-are xs)

    abbrev code_at : Name → Namespace → MethodDef → Term → js_meaning.Code
    code_at f n d e = record { parameters = with_receiver n (parameter_names (names_of d.params)); body = statement_templates variable_name label_name (z.has f).lookup (completed n (body_code (is_mutable_in d e) d.result e)) }

    alone_code : (f : Name) (n : Namespace) (d : MethodDef) (e : Term) → running n ≡ by_itself → code_at f n d e ≡ function_of place f d e
    alone_code f PublicStatic d e r = λ i. record { parameters = parameters-are (names_of d.params) i; body = (code_at f PublicStatic d e).body }
    alone_code f PrivateStatic d e r = λ i. record { parameters = parameters-are (names_of d.params) i; body = (code_at f PublicStatic d e).body }
    alone_code f Public d e r = cc
    alone_code f Private d e r = cc
    alone_code f Constructor d e r = cc

    received_code : (f : Name) (n : Namespace) (d : MethodDef) (e : Term) (how : Running) → Receives d.result how → running n ≡ how → code_at f n d e ≡ function_on place f d (completed n (body_of d e))
    received_code f Public d e how k r = λ i. record { parameters = variable_name receiver ∷ parameters-are (names_of d.params) i; body = (code_at f Public d e).body }
    received_code f Private d e how k r = λ i. record { parameters = variable_name receiver ∷ parameters-are (names_of d.params) i; body = (code_at f Public d e).body }
    received_code f Constructor d e how k r = λ i. record { parameters = variable_name receiver ∷ parameters-are (names_of d.params) i; body = (code_at f Constructor d e).body }
    received_code f PublicStatic d e _ as_method r = cc
    received_code f PublicStatic d e _ (as_constructor v) r = cc
    received_code f PrivateStatic d e _ as_method r = cc
    received_code f PrivateStatic d e _ (as_constructor v) r = cc

    passes_object : (n : Namespace) (t : IrType) (how : Running) → Receives t how → running n ≡ how → PassesObject n t
    passes_object Constructor t _ as_method r = cc
    passes_object Constructor t _ (as_constructor v) r = v
    passes_object Public t how k r = tt
    passes_object Private t how k r = tt
    passes_object PublicStatic t how k r = tt
    passes_object PrivateStatic t how k r = tt

    completing_code : (f : Name) (n : Namespace) (d : MethodDef) (e : Term) → running n ≡ completing → code_at f n d e ≡ function_on place f d (on_objects.constructor_body d e)
    completing_code f Constructor d e r = λ i. record { parameters = variable_name receiver ∷ parameters-are (names_of d.params) i; body = (code_at f Constructor d e).body }
    completing_code f Public d e r = cc
    completing_code f Private d e r = cc
    completing_code f PublicStatic d e r = cc
    completing_code f PrivateStatic d e r = cc

    code_there : (t : Top) (r : Running) (m : MemberName) (d : FunctionDeclared z t r m) → js_meaning.code_of z.program (z.home t) (member_name m) ≡ Some (code_at (z.home t) d.right.definition.namespace d.right.definition d.right.its_body)
    code_there t r m d = let n = d.right.definition.namespace in let k = d.right.definition in let c = code_at (z.home t) n k d.right.its_body in function_there (z.home t) (member_name m) c.parameters c.body d.function

    abbrev member_item : {t : Top} {r : Running} {m : MemberName} → FunctionDeclared z t r m → Item
    member_item {t} {r} {m} d = (member_piece (z.has (z.home t)).lookup m (desugared_member d.right.definition d.right.its_body)).item

    linked_here : (f : Name) (m : MemberName) → (z.has f).linked m ≡ true → Linked place m
    linked_here f m l = let d = can.linked f m l in record { definition = d.right.definition; its_body = d.right.its_body; found = d.right.found; has_body = d.right.has_body; parameters = d.right.parameters; result_is = d.right.result_is; emitted = code_there (a_function m) by_itself m d ∙ ap Some (alone_code (z.home (a_function m)) d.right.definition.namespace d.right.definition d.right.its_body d.runs); rules = d.right.rules; reaches = reaches (z.home (a_function m)) }

    runs_here : (f : Name) (m : MemberName) → (z.has f).received m ≡ true → RunsOn place m
    runs_here f m l = let its = can.received f m l in let d = its.member in record { definition = d.right.definition; its_body = d.right.its_body; found = d.right.found; has_body = d.right.has_body; parameters = d.right.parameters; result_is = d.right.result_is; emitted = code_there (a_method m) its.how m d ∙ ap Some (received_code (z.home (a_method m)) d.right.definition.namespace d.right.definition d.right.its_body its.how its.receives d.runs); passes = passes_object d.right.definition.namespace d.right.definition.result its.how its.receives d.runs; rules = d.right.rules; reaches = reaches (z.home (a_method m)) }

    constructs_here : (f : Name) (m : MemberName) → (z.has f).built m ≡ true → Constructs place m
    constructs_here f m l = let k = can.built f m l in let d = k.0 in record { definition = d.right.definition; its_body = d.right.its_body; found = d.right.found; has_body = d.right.has_body; parameters = d.right.parameters; result_is = k.1; emitted = code_there (a_constructor m) completing m d ∙ ap Some (completing_code (z.home (a_constructor m)) d.right.definition.namespace d.right.definition d.right.its_body d.runs); rules = d.right.rules; reaches = reaches (z.home (a_constructor m)) }

    -- the classes of a chain
    class_item_is : (c : Name) (superclass : Option Name) (ms : List Member) → IsClassItem (class_name c) ms (class_item_of c superclass ms)
    class_item_is c None ms = class_alone
    class_item_is c (Some d) ms = extending (class_name d)

    abbrev its_members : (c : Name) (superclass : Option Name) → ClassDeclared z c superclass → List Member
    its_members c superclass k = constructor_of [] (statements_of (constructor_body c superclass k.fields)) ∷ k.others

    abbrev class_stands : (c : Name) (superclass : Option Name) (k : ClassDeclared z c superclass) → chains.ClassStands place c superclass k.fields
    class_stands c superclass k = record {
      others = k.others;
      members_are = members_there (z.home (a_class c)) (class_name c) (its_members c superclass k) (class_item_of c superclass (its_members c superclass k)) (class_item_is c superclass (its_members c superclass k)) k.class;
      reached = k.leads;
      user = k.user;
      usable = k.there;
      no_char = k.no_char;
    }

    abbrev chain_stands : (cs : List Name) → ChainDeclared z cs → chains.ChainStands place cs
    chain_stands _ (declared.extends_none c k) = chains.extends_none c k.fields (class_stands c None k)
    chain_stands _ (declared.extends_one c d ds k to rest) = chains.extends_one c d ds k.fields (class_stands c (Some d) k) (chain_stands (d ∷ ds) rest)

    all_fields : (c : Name) (fs : List FieldDef) → ((g : FieldDef) → Contains fs g → IsField z.classes c g.name g.tpe) → chains.AllFields place c fs
    all_fields c [] h = tt
    all_fields c (g ∷ gs) h = (h g (at_front g gs), all_fields c gs (λ x i. h x (further_on g gs x i)))

    has_among : (fs : List FieldDef) (g : FieldDef) → Contains fs g → chains.HasAmong fs g.name g.tpe
    has_among [] g h = nothing_in g h
    has_among (x ∷ xs) g h = ⊎_elim (λ same. inl (ap (λ (y : FieldDef). y.name) same, ap (λ (y : FieldDef). y.tpe) same)) (λ later. inr (has_among xs g later)) (in_front_or_behind x xs g h)

    own_fields : (c : Name) (superclass : Option Name) (k : ClassDeclared z c superclass) → chains.AllFields place c k.fields × ((g : Name) (t : IrType) → IsField z.classes c g t → chains.HasAmong k.fields g t)
    own_fields c superclass k = (all_fields c k.fields (λ g i. let o = k.own g i in record { definition = k.definition; field = g; found = k.found; among = o.0; of_objects = o.1; named = refl; typed = refl }), λ g t i. among g t i)
      where
        among : (g : Name) (t : IrType) → IsField z.classes c g t → chains.HasAmong k.fields g t
        among g t i = subst (λ n. chains.HasAmong k.fields n t) i.named (subst (λ u. chains.HasAmong k.fields i.field.name u) i.typed (has_among k.fields i.field (k.whole i.field (subst (λ (d : ClassDef). Contains d.fields i.field) (some_same i.definition k.definition (sym i.found ∙ k.found)) i.among) i.of_objects)))

    chain_fields : (cs : List Name) (k : ChainDeclared z cs) → chains.ChainFields place cs (chain_stands cs k)
    chain_fields _ (declared.extends_none c k) = own_fields c None k
    chain_fields _ (declared.extends_one c d ds k to rest) = let o = own_fields c (Some d) k in (o.0, o.1, chain_fields (d ∷ ds) rest)

    made_here : (f c : Name) → (z.has f).made c ≡ true → IsMade place c
    made_here f c l = let k = can.live f c (can.made f c l) in record {
      depth = let h : length (chain_of z.classes c) ≤ longest z.classes = chain_length z.classes (longest z.classes) [] c in omega (arith, h);
      stands = λ y s u same. stands_there place (fields_differ place can.kept) (begins place can.kept) c k.above (chain_stands (c ∷ k.above) k.classes) (chain_fields (c ∷ k.above) k.classes) k.chain y s u same;
    }

    -- methods that are looked up
    abbrev target_runs : (t : Top) (c : Name) (m : MethodName) → TargetDeclared z t c m → RunsTarget place (z.home t) c m
    target_runs t c m d = record {
      owner = d.owner;
      target = d.target;
      runs = runs_here (z.home t) (member d.owner Public m) d.uses;
      reached = reaches (z.home t) (a_method (member d.owner Public m)) d.uses;
      user = z.home t;
      usable = d.uses;
    }

    class_method : (c : Name) (superclass : Option Name) (ms : List Member) → Stands z (a_class c) (class_item_of c superclass ms) → (x : Name) → method_code z.program (link_of place c) x ≡ method_among ms x
    class_method c superclass ms h x = ap (λ o. method_in o x) (members_there (z.home (a_class c)) (class_name c) ms (class_item_of c superclass ms) (class_item_is c superclass ms) h)

    -- along these classes an object of this one finds a method that hands on to the function of the target
    record FindsAlong (d : Name) (m : MethodName) (cs : List Name) : Type 0 where
      at : Name
      above : List js.ClassLink
      lookup : method_on z.program (map (link_of place) cs) (entry_name m) ≡ Some (js.method (link_of place at ∷ above) (entry_name m))
      its : RunsTarget place (z.home (a_class at)) d m
      code : method_code z.program (link_of place at) (entry_name m) ≡ Some (bridge (member_name (member its.owner Public m)) (parameters_of m))

    finds_along : (d : Name) (m : MethodName) (cs : List Name) → EntryDeclared z d m cs → FindsAlong d m cs
    finds_along d m _ (declared.has_entry c cs superclass ms h its e) =
        let code = class_method c superclass ms h (entry_name m) ∙ e in
        record {
          at = c;
          above = map (link_of place) cs;
          lookup = ap (λ (o : Option js_meaning.Code). if is_some o then Some (js.method (link_of place c ∷ map (link_of place) cs) (entry_name m)) else method_on z.program (map (link_of place) cs) (entry_name m)) code;
          its = target_runs (a_class c) d m its;
          code = code;
        }
    finds_along d m _ (declared.has_none c cs superclass ms h e rest) =
        let k = finds_along d m cs rest in
        record {
          at = k.at;
          above = k.above;
          lookup = ap (λ (o : Option js_meaning.Code). if is_some o then Some (js.method (link_of place c ∷ map (link_of place) cs) (entry_name m)) else method_on z.program (map (link_of place) cs) (entry_name m)) (class_method c superclass ms h (entry_name m) ∙ e) ∙ k.lookup;
          its = k.its;
          code = k.code;
        }

    -- helpers
    helper_there : (f : Name) (h : Helper) → (z.has f).helper (helper_name h) ≡ true → Stands z (a_helper h) (helper_item can.ancestors h)
    helper_there f h l = can.helper f h l

    -- one that is a function, and a file whose code can use it
    helper_stands : (f : Name) (h : Helper) → helper_item can.ancestors h ≡ function_item (helper_name h) (helper_code h).parameters (helper_code h).body → (z.has f).helper (helper_name h) ≡ true → HelperStands place h (helper_code h)
    helper_stands f h e l = function_there (z.home (a_helper h)) (helper_name h) (helper_code h).parameters (helper_code h).body (subst (Stands z (a_helper h)) e (helper_there f h l))

    reaches_helper : (g : Name) (h : Helper) → helper_item can.ancestors h ≡ function_item (helper_name h) (helper_code h).parameters (helper_code h).body → (z.has g).helper (helper_name h) ≡ true → ReachesHelper place g h
    reaches_helper g h e l = record { stands = helper_stands g h e l; owned = reaches g (a_helper h) l; user = g; usable = l }

    reaches_thrower : (g : Name) (x : Failure) → (z.has g).helper (helper_name (helpers.Throws x)) ≡ true → ReachesThrower place g (helpers.Throws x) (failure_class x)
    reaches_thrower g x l = let k = can.failures g x l in record {
      failure = helper_stands g (helpers.Throws x) refl l;
      owned = reaches g (a_helper (helpers.Throws x)) l;
      user = g;
      usable = l;
      reaches = reaches (z.home (a_helper (helpers.Throws x)));
      built = k.1;
      made = k.0;
    }

    module _ (all : Usable) (laws : IsLawful z all) where
      object_here : (f c : Name) → (z.has f).made c ≡ true → is_hijacked c ≡ false
      object_here f c l = laws.objects.made c ((laws.among f).made c l)

      field_here : (f c g : Name) (t : IrType) → (z.has f).field c g t ≡ true → HasField place c g t
      field_here f c g t l = record { field = can.field f c g t l; value = (laws.objects.fields c g t ((laws.among f).fields c g t l)).0; differ = fields_differ place can.kept }

      static_here : (f c g : Name) (t : IrType) → has_static (z.has f) c g t ≡ true → StaticStands place c g t
      static_here f c g t l = let its = can.static_field f c g t l in record {
        field = record { field = its.field; value = (laws.objects.statics c g t (static_among (z.has f) all c g t ((laws.among f).tops (a_static c g t)) ((laws.among f).tops (a_setter c g t)) l)).0; differ = statics_differ place can.kept };
        beside = its.beside;
        sets = function_there (z.home (a_setter c g t)) (setter_name c g) (setter_code c g).parameters (setter_code c g).body (subst (λ n. Stands z (a_setter c g t) (setter (setter_name c n) (static_name c n))) its.field.named its.setter);
        owned = its.leads ∙ ap Some its.beside;
      }

      cell_here : (f c : Name) → has_cell (z.has f) c ≡ true → CellStands place c
      cell_here f c l = let its = can.stored f c l in record { class = its.class; differ = cells_differ place can.kept; owned = its.leads }

      store_here : (f c : Name) → (z.has f).stored c ≡ true → StoreStands place c
      store_here f c l = let its = can.stored f c (store_cell (z.has f) c l) in record { beside = its.beside; stores = function_there (z.home (a_storer c)) (store_name c) (storer_code c).parameters (storer_code c).body its.storer }

      load_here : (f c : Name) → (z.has f).modules c ≡ true → LoadStands place c
      load_here f c l = let its = can.loaded f c l in record {
        beside = its.beside;
        loads = function_there (z.home (a_loader c)) (load_name c) (loader_code c).parameters (loader_code c).body its.loader;
        reaches = reaches (z.home (a_loader c));
        built = its.built;
        made = its.made;
      }

      check_here : (f : Name) → (z.has f).helper check_name ≡ true → CanCheck place
      check_here f l = let t = can.helpers f helpers.NotNull (helpers.Throws NullReceiver) l (at_front (helpers.Throws NullReceiver) []) in let g = z.home (a_helper helpers.NotNull) in record {
        check = function_there g (helper_name helpers.NotNull) checking_code.parameters checking_code.body (helper_there f helpers.NotNull l);
        failure = function_there (z.home (a_helper (helpers.Throws NullReceiver))) (helper_name (helpers.Throws NullReceiver)) [] (failing_code (codes "java.lang.NullPointerException") (codes "null")).body (helper_there g (helpers.Throws NullReceiver) t);
        owned = reaches g (a_helper (helpers.Throws NullReceiver)) t;
        held = λ y s u same. same.tops g (a_helper (helpers.Throws NullReceiver)) t;
        reaches = reaches (z.home (a_helper (helpers.Throws NullReceiver)));
        built = (can.failures g NullReceiver t).1;
        made = (can.failures g NullReceiver t).0;
      }

      divide_here : (f : Name) (o : BinaryOp) → (z.has (z.home (a_helper (division_helper o)))).helper (helper_name (helpers.Throws Division)) ≡ true → HelperStands place (division_helper o) (division_code o) → divides (z.has f) o ≡ true → CanDivide place o
      divide_here f o t stands d = let g = z.home (a_helper (division_helper o)) in record {
        division = stands;
        failure = function_there (z.home (a_helper (helpers.Throws Division))) (helper_name (helpers.Throws Division)) [] (failing_code (codes "java.lang.ArithmeticException") (codes "/ by zero")).body (helper_there g (helpers.Throws Division) t);
        owned = reaches g (a_helper (helpers.Throws Division)) t;
        held = λ y s u same. same.tops g (a_helper (helpers.Throws Division)) t;
        reaches = reaches (z.home (a_helper (helpers.Throws Division)));
        built = (can.failures g Division t).1;
        made = (can.failures g Division t).0;
      }

      throws_too : (f : Name) (h : Helper) → (z.has f).helper (helper_name h) ≡ true → Contains (used_helpers h) (helpers.Throws Division) → (z.has (z.home (a_helper h))).helper (helper_name (helpers.Throws Division)) ≡ true
      throws_too f h l u = can.helpers f h (helpers.Throws Division) l u

      divided_here : (f : Name) (o : BinaryOp) → divides (z.has f) o ≡ true → CanDivide place o
      divided_here f IntDivide l = divide_here f IntDivide (throws_too f helpers.IntQuotient l (at_front (helpers.Throws Division) [])) (function_there (z.home (a_helper helpers.IntQuotient)) (helper_name helpers.IntQuotient) (division_code IntDivide).parameters (division_code IntDivide).body (helper_there f helpers.IntQuotient l)) l
      divided_here f IntRemainder l = divide_here f IntRemainder (throws_too f helpers.IntRemainder l (at_front (helpers.Throws Division) [])) (function_there (z.home (a_helper helpers.IntRemainder)) (helper_name helpers.IntRemainder) (division_code IntRemainder).parameters (division_code IntRemainder).body (helper_there f helpers.IntRemainder l)) l
      divided_here f LongDivide l = divide_here f LongDivide (throws_too f helpers.LongQuotient l (at_front (helpers.Throws Division) [])) (function_there (z.home (a_helper helpers.LongQuotient)) (helper_name helpers.LongQuotient) (division_code LongDivide).parameters (division_code LongDivide).body (helper_there f helpers.LongQuotient l)) l
      divided_here f LongRemainder l = divide_here f LongRemainder (throws_too f helpers.LongRemainder l (at_front (helpers.Throws Division) [])) (function_there (z.home (a_helper helpers.LongRemainder)) (helper_name helpers.LongRemainder) (division_code LongRemainder).parameters (division_code LongRemainder).body (helper_there f helpers.LongRemainder l)) l
      divided_here f _ l = impossible l

      box_here : (f : Name) → can_box (z.has f) ≡ true → BoxStands place
      box_here f l = let g = z.home (a_helper helpers.BoxedChar) in let u = can.helpers f helpers.BoxedChar (helpers.ConstantsOf kinds.Char) l (at_front (helpers.ConstantsOf kinds.Char) []) in record {
        members_are = members_there g (helper_name helpers.BoxedChar) (box_constructor ∷ []) (helper_item can.ancestors helpers.BoxedChar) class_alone (helper_there f helpers.BoxedChar l);
        reached = reaches g (a_helper (helpers.ConstantsOf kinds.Char)) u;
        user = g;
        usable = u;
      }

      -- the file of a helper that uses the class of objects that hold chars
      boxes_here : (g : Name) → (z.has g).helper (helper_name helpers.BoxedChar) ≡ true → ReachesBoxes place g
      boxes_here g l = record { reached = reaches g (a_helper helpers.BoxedChar) l; user = g; usable = l }

      -- the test of a kind, and that of chars with the class of objects that hold them
      kind_test_here : (f : Name) (k : Kind) → (z.has f).helper (helper_name (helpers.TestOf k)) ≡ true → HelperStands place (helpers.TestOf k) (helper_code (helpers.TestOf k))
      kind_test_here f k l = function_there (z.home (a_helper (helpers.TestOf k))) (helper_name (helpers.TestOf k)) (helper_code (helpers.TestOf k)).parameters (helper_code (helpers.TestOf k)).body (helper_there f (helpers.TestOf k) l)

      test_boxes_here : (f : Name) (k : Kind) → (z.has f).helper (helper_name (helpers.TestOf k)) ≡ true → k ≡ kinds.Char → ReachesBoxes place (z.home (a_helper (helpers.TestOf k)))
      test_boxes_here f k l e = boxes_here (z.home (a_helper (helpers.TestOf k))) (can.helpers f (helpers.TestOf k) helpers.BoxedChar l (subst (λ k. Contains (used_helpers (helpers.TestOf k)) helpers.BoxedChar) (sym e) (at_front helpers.BoxedChar [])))

      -- the test of a kind is reached from a file whose code can use it
      reaches_test : (g : Name) (k : Kind) → (z.has g).helper (helper_name (helpers.TestOf k)) ≡ true → ReachesTest place g k
      reaches_test g k l = record { test = kind_test_here g k l; boxes = test_boxes_here g k l; owned = reaches g (a_helper (helpers.TestOf k)) l; user = g; usable = l }

      class_test_here : (c : Name) → ClassTestDeclared z c → ClassTest place c
      class_test_here _ (declared.by_marker c kinds plain instances item uses) = let g = z.home (a_test (Class c)) in by_marker c kinds plain instances (function_there g (test_name (Class c)) (class_test_code c kinds).parameters (class_test_code c kinds).body item) (λ k i. reaches_test g k (uses k i))
      class_test_here _ (declared.by_kind k kinds item uses) = let c = kind_class k in let g = z.home (a_test (Class c)) in by_kind k (function_there g (test_name (Class c)) (hijacked_test_code k).parameters (hijacked_test_code k).body item) (reaches_test g k uses)

      kind_tested_here : (f : Name) (t : IrType) → KindTestDeclared z f t → CanTest place t
      kind_tested_here f t d = record {
        kind = d.kind;
        its_kind = d.its_kind;
        test = ap (js_meaning.code_of z.program (z.home (a_test t))) (test_named t d.kind d.its_kind) ∙ ap (λ x. js_meaning.code_of z.program x (helper_name (helpers.TestOf d.kind))) d.home ∙ kind_test_here f d.kind d.helper;
        boxes = λ e. subst (ReachesBoxes place) (sym d.home) (test_boxes_here f d.kind d.helper e);
      }

      -- the class of arrays
      arrays_here : (f h : Name) → (z.has f).helper (helper_name helpers.ArrayClass) ≡ true → (z.has h).arrays ≡ true → CanGiveArrays place
      arrays_here f h l arrays = let d = can.arrays f l in let g = z.home (a_helper helpers.ArrayClass) in let made = d.made h arrays in record {
        members_are = members_there g (helper_name helpers.ArrayClass) array_members (helper_item can.ancestors helpers.ArrayClass) (extending (class_name object_class)) (helper_there f helpers.ArrayClass l);
        alone = d.alone;
        top = made_here g object_class made;
        somewhere = record { maker = h; can = arrays; file = f; made = l };
        made = record { file = g; made = made };
      }

      reaches_arrays : (g : Name) → (z.has g).helper (helper_name helpers.ArrayClass) ≡ true → ReachesArrays place g
      reaches_arrays g l = record { owned = reaches g (a_helper helpers.ArrayClass) l; user = g; usable = l }

      array_test_here : (f : Name) (r : ArrayRef) → z.home (a_test (Array r)) ≡ z.home (a_helper helpers.TestOfArray) → (z.has f).helper (helper_name helpers.TestOfArray) ≡ true → CanTestArrays place r
      array_test_here f r home l = let g = z.home (a_helper helpers.TestOfArray) in record {
        home = home;
        stands = helper_stands f helpers.TestOfArray refl l;
        arrays = reaches_arrays g (can.helpers f helpers.TestOfArray helpers.ArrayClass l (at_front helpers.ArrayClass (helpers.Covers ∷ [])));
        covers = reaches_helper g helpers.Covers refl (can.helpers f helpers.TestOfArray helpers.Covers l (further_on helpers.ArrayClass (helpers.Covers ∷ []) helpers.Covers (at_front helpers.Covers [])));
      }

      makes_here : (f : Name) → (z.has f).helper (helper_name helpers.MakeArray) ≡ true → CanMakeArrays place
      makes_here f l = let g = z.home (a_helper helpers.MakeArray) in record {
        stands = helper_stands f helpers.MakeArray refl l;
        arrays = reaches_arrays g (can.helpers f helpers.MakeArray helpers.ArrayClass l (further_on (helpers.Throws Size) (helpers.ArrayClass ∷ []) helpers.ArrayClass (at_front helpers.ArrayClass [])));
        throws = reaches_thrower g Size (can.helpers f helpers.MakeArray (helpers.Throws Size) l (at_front (helpers.Throws Size) (helpers.ArrayClass ∷ [])));
      }

      -- a helper that checks an index
      index_here : (f : Name) (h : Helper) → helper_item can.ancestors h ≡ function_item (helper_name h) (helper_code h).parameters (helper_code h).body → Contains (used_helpers h) helpers.CheckIndex → (z.has f).helper (helper_name h) ≡ true → ChecksIndex place h
      index_here f h e u l =
          let its_check = can.helpers f h helpers.CheckIndex l u in
          let g = z.home (a_helper h) in
          record {
            stands = helper_stands f h e l;
            check = reaches_helper g helpers.CheckIndex refl its_check;
            throws = reaches_thrower (z.home (a_helper helpers.CheckIndex)) Index (can.helpers g helpers.CheckIndex (helpers.Throws Index) its_check (at_front (helpers.Throws Index) []));
          }

      gets_here : (f : Name) → (z.has f).helper (helper_name helpers.Get) ≡ true → ChecksIndex place helpers.Get
      gets_here f l = index_here f helpers.Get refl (at_front helpers.CheckIndex []) l

      sets_here : (f : Name) → (z.has f).helper (helper_name helpers.Set) ≡ true → ChecksIndex place helpers.Set
      sets_here f l = index_here f helpers.Set refl (at_front helpers.CheckIndex []) l

      -- the helper that tells the class of a value
      classes_here : (f : Name) → (z.has f).helper (helper_name helpers.ClassOf) ≡ true → TellsClasses place
      classes_here f l = let g = z.home (a_helper helpers.ClassOf) in record {
        tests = λ k i. reaches_test g k (can.helpers f helpers.ClassOf (helpers.TestOf k) l (both_used worded_kinds k i).0);
        constants = λ k i. let u = can.helpers f helpers.ClassOf (helpers.ConstantsOf k) l (both_used worded_kinds k i).1 in record { owned = reaches g (a_helper (helpers.ConstantsOf k)) u; user = g; usable = u };
      }

      -- the helper that tells whether a value may be an item
      items_here : (f : Name) → (z.has f).helper (helper_name helpers.Fits) ≡ true → TellsItems place
      items_here f l = record {
        arrays = reaches_arrays g (its helpers.ArrayClass (at_front helpers.ArrayClass behind_arrays));
        covers = reaches_helper g helpers.Covers refl (its helpers.Covers (further_on helpers.ArrayClass behind_arrays helpers.Covers (at_front helpers.Covers behind_covers)));
        byte = reaches_helper g (helpers.TestOf kinds.Byte) refl (its (helpers.TestOf kinds.Byte) (further_on helpers.ArrayClass behind_arrays (helpers.TestOf kinds.Byte) (further_on helpers.Covers behind_covers (helpers.TestOf kinds.Byte) (at_front (helpers.TestOf kinds.Byte) behind_bytes))));
        short = reaches_helper g (helpers.TestOf kinds.Short) refl (its (helpers.TestOf kinds.Short) (further_on helpers.ArrayClass behind_arrays (helpers.TestOf kinds.Short) (further_on helpers.Covers behind_covers (helpers.TestOf kinds.Short) (further_on (helpers.TestOf kinds.Byte) behind_bytes (helpers.TestOf kinds.Short) (at_front (helpers.TestOf kinds.Short) behind_shorts)))));
        class_of = reaches_helper g helpers.ClassOf refl tells;
        classes = classes_here g tells;
      }
        where
          g : Name
          g = z.home (a_helper helpers.Fits)

          behind_shorts : List Helper
          behind_shorts = helpers.ClassOf ∷ []

          behind_bytes : List Helper
          behind_bytes = helpers.TestOf kinds.Short ∷ behind_shorts

          behind_covers : List Helper
          behind_covers = helpers.TestOf kinds.Byte ∷ behind_bytes

          behind_arrays : List Helper
          behind_arrays = helpers.Covers ∷ behind_covers

          its : (k : Helper) → Contains (used_helpers helpers.Fits) k → (z.has g).helper (helper_name k) ≡ true
          its k i = can.helpers f helpers.Fits k l i

          tells : (z.has g).helper (helper_name helpers.ClassOf) ≡ true
          tells = its helpers.ClassOf (further_on helpers.ArrayClass behind_arrays helpers.ClassOf (further_on helpers.Covers behind_covers helpers.ClassOf (further_on (helpers.TestOf kinds.Byte) behind_bytes helpers.ClassOf (further_on (helpers.TestOf kinds.Short) behind_shorts helpers.ClassOf (at_front helpers.ClassOf [])))))

      puts_here : (f : Name) → (z.has f).helper (helper_name helpers.Put) ≡ true → CanPut place
      puts_here f l =
          let g = z.home (a_helper helpers.Put) in
          let fits = can.helpers f helpers.Put helpers.Fits l (further_on helpers.CheckIndex (helpers.Fits ∷ helpers.Throws Store ∷ []) helpers.Fits (at_front helpers.Fits (helpers.Throws Store ∷ []))) in
          record {
            index = index_here f helpers.Put refl (at_front helpers.CheckIndex (helpers.Fits ∷ helpers.Throws Store ∷ [])) l;
            fits = reaches_helper g helpers.Fits refl fits;
            items = items_here g fits;
            throws = reaches_thrower g Store (can.helpers f helpers.Put (helpers.Throws Store) l (further_on helpers.CheckIndex (helpers.Fits ∷ helpers.Throws Store ∷ []) (helpers.Throws Store) (further_on helpers.Fits (helpers.Throws Store ∷ []) (helpers.Throws Store) (at_front (helpers.Throws Store) []))));
          }

      tested_here : (f : Name) (t : IrType) → (z.has f).tests t ≡ true → Tested place t
      tested_here f t l = by_declaration t (can.tests f t l)
        where
          by_declaration : (t : IrType) → TestDeclared z f t → Tested place t
          by_declaration _ (declared.of_kind t d) = of_kind t (kind_tested_here f t d)
          by_declaration _ (declared.of_class c d) = of_class c (class_test_here c d)
          by_declaration _ (declared.of_array r d) = of_array r (array_test_here f r d.home d.helper)

      kind_cast_here : (f : Name) (t : IrType) → KindCastDeclared z f t → CanCast place t
      kind_cast_here f t d =
          let g = z.home (a_helper (helpers.CastTo d.kind)) in
          let its_test = can.helpers f (helpers.CastTo d.kind) (helpers.TestOf d.kind) d.helper (at_front (helpers.TestOf d.kind) (helpers.Throws Cast ∷ [])) in
          let thrower = can.helpers f (helpers.CastTo d.kind) (helpers.Throws Cast) d.helper (further_on (helpers.TestOf d.kind) (helpers.Throws Cast ∷ []) (helpers.Throws Cast) (at_front (helpers.Throws Cast) [])) in
          record {
            kind = d.kind;
            its_kind = d.its_kind;
            cast = ap (js_meaning.code_of z.program (z.home (a_cast t))) (cast_named t d.kind d.its_kind) ∙ ap (λ x. js_meaning.code_of z.program x (helper_name (helpers.CastTo d.kind))) d.home ∙ function_there g (helper_name (helpers.CastTo d.kind)) (helper_code (helpers.CastTo d.kind)).parameters (helper_code (helpers.CastTo d.kind)).body (helper_there f (helpers.CastTo d.kind) d.helper);
            tests = subst (λ (x : Name). ReachesTest place x d.kind) (sym d.home) (reaches_test g d.kind its_test);
            throws = subst (ThrowsCast place) (sym d.home) (reaches_thrower g Cast thrower);
          }

      class_cast_here : (c : Name) → ClassCastDeclared z c → CanCastClass place c
      class_cast_here c d = let g = z.home (a_cast (Class c)) in record {
        cast = function_there g (cast_name (Class c)) (class_cast_code c).parameters (class_cast_code c).body d.cast;
        test = class_test_here c d.test;
        named = refl;
        owned = reaches g (a_test (Class c)) d.tests;
        user = g;
        usable = d.tests;
        throws = reaches_thrower g Cast d.thrower;
      }

      cast_here : (f : Name) (t : IrType) → (z.has f).casts t ≡ true → Casted place t
      cast_here f t l = by_declaration t (can.casts f t l)
        where
          by_declaration : (t : IrType) → CastDeclared z f t → Casted place t
          by_declaration _ (declared.to_kind t d) = to_kind t (kind_cast_here f t d)
          by_declaration _ (declared.to_class c d) = to_class c (class_cast_here c d)
          by_declaration _ (declared.to_array r d) =
              let its_test = can.helpers f helpers.CastToArray helpers.TestOfArray d.helper (at_front helpers.TestOfArray (helpers.Throws Cast ∷ [])) in
              let thrower = can.helpers f helpers.CastToArray (helpers.Throws Cast) d.helper (further_on helpers.TestOfArray (helpers.Throws Cast ∷ []) (helpers.Throws Cast) (at_front (helpers.Throws Cast) [])) in
              let g = z.home (a_helper helpers.CastToArray) in
              to_array r (record { home = d.home; stands = helper_stands f helpers.CastToArray refl d.helper; tests = array_test_here g r d.tests its_test; test = reaches_helper g helpers.TestOfArray refl its_test; throws = reaches_thrower g Cast thrower })

      case_runs : (m : MethodName) (t : Told) → CaseDeclared z m t → CaseRuns place m t
      case_runs m t d = record { told = d.told; test = reaches_test (z.home (a_dispatch m)) t.kind d.test; its = target_runs (a_dispatch m) (kind_class t.kind) m d.its; owner_is = d.owner_is }

      kinds_run : (c : Name) (m : MethodName) (b : Bool) → KindsDeclared z c m b → KindsRun place c m b
      kinds_run c m _ (declared.no_kinds none) = no_kinds none
      kinds_run c m _ (declared.some_kinds d) =
          let code = dispatch_code m (d.first ∷ d.others) in
          some_kinds (record { first = d.first; others = d.others; code = function_there (z.home (a_dispatch m)) (dispatch_name m) code.parameters code.body d.function; distinct = d.distinct; runs = λ t i. case_runs m t (d.runs t i); each = d.each })

      -- what can be looked up by what the code of a file can use
      looked_here : (f c : Name) (m : MethodName) → can_look_up (z.has f) c m ≡ true → LooksUpThere place c m ((z.has f).lookup.has_hijacked c)
      looked_here f c m l = let d = can.looked f c m l in record {
        objects = λ o made below. let k = finds_along o m (chain_of z.classes o) (d.objects made.file o made.made below) in record { at = k.at; above = k.above; lookup = k.lookup; its = k.its; code = k.code; distinct = d.distinct };
        kinds = kinds_run c m ((z.has f).lookup.has_hijacked c) d.kinds;
      }

      called_on_arrays : (f : Name) (m : MethodName) → (z.has f).on_arrays m ≡ true → MadeSomewhere place object_class → FindsTarget place object_class m
      called_on_arrays f m l somewhere = let d = can.on_arrays f m l in let k = finds_along object_class m (chain_of z.classes object_class) (d.objects somewhere.file somewhere.made) in record { at = k.at; above = k.above; lookup = k.lookup; its = k.its; code = k.code; distinct = d.distinct }

      -- none of these classes has an entry of the name
      none_along : (m : MethodName) (cs : List Name) → NoEntryDeclared z m cs → method_on z.program (map (link_of place) cs) (entry_name m) ≡ None
      none_along m _ declared.none_left = refl
      none_along m _ (declared.none_here c cs superclass ms h e rest) = ap (λ (o : Option js_meaning.Code). if is_some o then Some (js.method (link_of place c ∷ map (link_of place) cs) (entry_name m)) else method_on z.program (map (link_of place) cs) (entry_name m)) (class_method c superclass ms h (entry_name m) ∙ e) ∙ none_along m cs rest

      -- the first has one, which hands on to the entry of the method
      record ProxyAlong (m t : MethodName) (cs : List Name) : Type 0 where
        at : Name
        above : List js.ClassLink
        lookup : method_on z.program (map (link_of place) cs) (entry_name m) ≡ Some (js.method (link_of place at ∷ above) (entry_name m))
        code : method_code z.program (link_of place at) (entry_name m) ≡ Some (proxy_code t (parameters_of m))
        boxes : is_char_result t.result ≡ true → ReachesBoxes place (z.home (a_class at))

      proxy_along : (m t : MethodName) (cs : List Name) → ProxyDeclared z m t cs → ProxyAlong m t cs
      proxy_along m t _ (declared.proxy_here c cs superclass ms h e uses) =
          let code = class_method c superclass ms h (entry_name m) ∙ e in
          record {
            at = c;
            above = map (link_of place) cs;
            lookup = ap (λ (o : Option js_meaning.Code). if is_some o then Some (js.method (link_of place c ∷ map (link_of place) cs) (entry_name m)) else method_on z.program (map (link_of place) cs) (entry_name m)) code;
            code = code;
            boxes = λ q. boxes_here (z.home (a_class c)) (uses q);
          }

      answers_here : (d : Name) (m : MethodName) → are_distinct (parameters_of m) ≡ true → AnswerDeclared z d m → ObjectAnswers place d m
      answers_here d m distinct (declared.no_answer none entries) = no_entry none (none_along m (chain_of z.classes d) entries)
      answers_here d m distinct (declared.has_answer t e params proxy entry) =
          let h = proxy_along m t.name (chain_of z.classes d) proxy in
          let k = finds_along d t.name (chain_of z.classes d) entry in
          has_entry t e params (record { at = h.at; above = h.above; lookup = h.lookup; code = h.code; boxes = h.boxes }) (record { at = k.at; above = k.above; lookup = k.lookup; its = k.its; code = k.code; distinct = subst (λ (rs : List TypeRef). are_distinct (first_parameters (length rs)) ≡ true) (sym params) distinct })

      reflected_runs : (m : MethodName) (t : Reflected) → ReflectedDeclared z m t → ReflectedRuns place m t
      reflected_runs m t d = record { told = d.told; test = reaches_test (z.home (a_reflection m)) t.kind d.test; definition = d.definition; proxy = d.proxy; method_is = d.method_is; params = d.params; its = target_runs (a_reflection m) (kind_class t.kind) t.method d.its; owner_is = d.owner_is; boxes = λ e. boxes_here (z.home (a_reflection m)) (d.boxes e) }

      kind_answers : (m : MethodName) (cases : List Reflected) (k : Kind) → ReflectedKind z m cases k → KindAnswers place m cases k
      kind_answers m cases k (declared.no_case none) = no_case none
      kind_answers m cases k (declared.has_case c) = has_case c

      -- objects that hold chars have no entries
      box_bare : (m : MethodName) → BoxesDeclared z → method_on z.program (box_link place ∷ []) (entry_name m) ≡ None
      box_bare m boxes = ap (λ (o : Option js_meaning.Code). if is_some o then Some (js.method (box_link place ∷ []) (entry_name m)) else None) (boxes.bare m)

      -- what can be called by a reflective name by what the code of a file can use
      reflected_here : (f : Name) (m : MethodName) → (z.has f).reflected m ≡ true → ReflectionStands place m
      reflected_here f m l =
          let d = can.reflected f m l in
          let code = reflective_code m (units_of (spelled_method m)) d.cases in
          let entries = (and_parts (not (is_among (parameters_of m) (codes "x"))) (are_distinct (parameters_of m)) d.distinct).1 in
          record {
            cases = d.cases;
            code = function_there (z.home (a_reflection m)) (reflective_name m) code.parameters code.body d.function;
            distinct = d.distinct;
            entries = entries;
            runs = λ t i. reflected_runs m t (d.runs t i);
            each = λ k told. kind_answers m d.cases k (d.each k told);
            objects = λ o made. answers_here o m entries (d.objects made.file o made.made);
            boxless = box_bare m d.boxes;
            throws = reaches_thrower (z.home (a_reflection m)) Method d.thrower;
          }

      compared_here : (f : Name) → compares (z.has f) ≡ true → CanCompare place
      compared_here f l = let g = z.home (a_helper helpers.Equal) in record {
        equality = function_there g (helper_name helpers.Equal) (helper_code helpers.Equal).parameters (helper_code helpers.Equal).body (helper_there f helpers.Equal l);
        boxes = boxes_here g (can.helpers f helpers.Equal helpers.BoxedChar l (at_front helpers.BoxedChar []));
      }

      -- what a call runs by what the code of a file can use, it runs by what can be used at all
      target_here : (f : Name) (m : MemberName) → (z.has f).received ((z.has f).lookup.target m) ≡ true → IsTargetOf z.classes m ((z.has f).lookup.target m)
      target_here f m l = let same = (laws.among f).targets m in subst (IsTargetOf z.classes m) same (laws.objects.targets m (subst (λ (o : MemberName). all.received o ≡ true) (sym same) ((laws.among f).tops (a_method ((z.has f).lookup.target m)) l)))

      pub has_objects : HasObjects place
      has_objects = record { linked = linked_here; received = runs_here; targets = target_here; looked = looked_here; reflected = reflected_here; built = constructs_here; made = made_here; lives = can.made; objects = object_here; field = field_here; statics = static_here; cells = cell_here; stores = store_here; loads = load_here; checked = check_here; divided = divided_here; boxes = box_here; tested = tested_here; cast = cast_here; compared = compared_here; gives = arrays_here; makes = makes_here; gets = gets_here; sets = sets_here; puts = puts_here; on_arrays = called_on_arrays; each = omega arith; beyond = omega arith }

    -- the state behind the declarations
    module _ (t : js.State) (hold : AllHold z.program t 0 (all_items z)) (made : (a : ℕ) (y : js.Stored) → slice_get t.heap a ≡ Some y → OfPlaced (all_items z) y) where
      held_in : (f : Name) (i : Item) → Contains (all_items z) (placed f i) → (k : ℕ) × Holds z.program t k f i
      held_in f i h = held_among z.program t (all_items z) 0 hold (placed f i) h

      -- nothing is made, and what stands on the heap is the emitted code's own
      abbrev pub begun : World
      begun = record { place = λ i. None; classes = λ i. None; arrays = λ i. None; owned = λ a. slice_get t.heap a; pending = λ a. None; boxes = box_link place ∷ [] }

      none_there : {A : Type 0} (o : A) → None ≡ Some o → ⊥
      none_there o e = cc

      heaps_begin : SameHeap place begun [] t.heap
      heaps_begin = record {
        objects = λ i a e. absurd (none_there a e);
        arrays = λ i k e. absurd (none_there k e);
        items_differ = λ i j k l e g h. absurd (none_there k e);
        items_apart = λ i k o e g. none_there k e;
        items_born = λ i k o e g. none_there k e;
        differ = λ i j a e g. absurd (none_there a e);
        owned = λ a o e. e;
        pending = λ a o e. absurd (none_there o e);
        apart = λ i a o e g. none_there a e;
        unborn = λ i a o e g. none_there a e;
        separate = λ a o b e g. none_there b g;
        marked = λ a constants e. marks_ancestors z.classes (all_items z) can.marked constants (made a (js.plain [] constants) e);
        free = λ i c e. absurd (none_there c e);
        made = λ i c e. absurd (none_there c e);
        boxes = refl;
      }

      class_held : (c : Name) (cs : List Name) → ChainDeclared z (c ∷ cs) → t.tops (z.home (a_class c)) (class_name c) ≡ js.holds false (js.class (map (link_of place) (c ∷ cs)))
      class_held _ _ (declared.extends_none c k) = (held_in (z.home (a_class c)) (class_item_of c None (its_members c None k)) k.class).1
      class_held _ _ (declared.extends_one c d ds k to rest) =
          let h = (held_in (z.home (a_class c)) (class_item_of c (Some d) (its_members c (Some d) k)) k.class).1 in
          let from : h.from ≡ z.home (a_class d) = some_same h.from (z.home (a_class d)) (sym h.owned ∙ to) in
          h.held ∙ ap (λ ls. js.holds false (js.class (link (z.home (a_class c)) (class_name c) ∷ ls))) (same_classes h.above (map (link_of place) (d ∷ ds)) (sym h.held_above ∙ ap (λ g. t.tops g (class_name d)) from ∙ class_held d ds rest))

      constants_held : (c : Name) → ConstantsDeclared z c → HoldsConstants begun.owned c (t.tops (z.home (some_constants c)) (constants_name c))
      constants_held c k = let h = held_in (z.home (some_constants c)) (object_item (constants_name c) (constants c k.ancestors)) k.constants in record {
        address = h.0;
        constants = h.1.properties;
        held = h.1.held;
        owned_there = h.1.there;
        marked = marker_held c k.ancestors h.1.properties h.1.literal;
        known = λ no_char v. ap (λ o. object_shown o v) k.marked ∙ ap (λ (b : Bool). cond b (char_shown v) (Some (shown_ends.object_of c))) no_char;
      }

      first_constants : (c : Name) (cs : List Name) → ChainDeclared z (c ∷ cs) → HoldsConstants begun.owned c (t.tops (z.home (some_constants c)) (constants_name c))
      first_constants _ _ (declared.extends_none c k) = constants_held c (record { ancestors = k.ancestors; constants = k.constants; marked = k.marked })
      first_constants _ _ (declared.extends_one c d ds k to rest) = constants_held c (record { ancestors = k.ancestors; constants = k.constants; marked = k.marked })

      whole_class_held : (f c : Name) → (z.has f).live c ≡ true → t.tops (z.home (a_class c)) (class_name c) ≡ js.holds false (js.class (links_of place c))
      whole_class_held f c l = let k = can.live f c l in class_held c k.above k.classes ∙ ap (λ cs. js.holds false (js.class (map (link_of place) cs))) (sym k.chain)

      -- the class of arrays holds itself in front of that of all objects
      arrays_held : (f : Name) → (z.has f).helper (helper_name helpers.ArrayClass) ≡ true → t.tops (z.home (a_helper helpers.ArrayClass)) (helper_name helpers.ArrayClass) ≡ js.holds false (js.class (array_links place))
      arrays_held f l =
          let g = z.home (a_helper helpers.ArrayClass) in
          let d = can.arrays f l in
          let h = (held_in g (helper_item can.ancestors helpers.ArrayClass) (can.helper f helpers.ArrayClass l)).1 in
          let from : h.from ≡ z.home (a_class object_class) = some_same h.from (z.home (a_class object_class)) (sym h.owned ∙ can.leads g (a_class object_class) d.live) in
          h.held ∙ ap (λ ls. js.holds false (js.class (link g (helper_name helpers.ArrayClass) ∷ ls))) (same_classes h.above (links_of place object_class) (sym h.held_above ∙ ap (λ (q : Name). t.tops q (class_name object_class)) from ∙ whole_class_held g object_class d.live))

      helper_held : (f : Name) (h : Helper) → (z.has f).helper (helper_name h) ≡ true → TopHolds place begun.owned (a_helper h) (t.tops (z.home (a_helper h)) (helper_name h))
      helper_held f (helpers.ConstantsOf k) l = let h = held_in (z.home (a_helper (helpers.ConstantsOf k))) (helper_item can.ancestors (helpers.ConstantsOf k)) (can.helper f (helpers.ConstantsOf k) l) in record { address = h.0; constants = h.1.properties; held = h.1.held; owned_there = h.1.there; marked = marker_held (kind_class k) (can.ancestors k) h.1.properties h.1.literal }
      helper_held f helpers.ArrayClass l = arrays_held f l
      helper_held f h l = (held_in (z.home (a_helper h)) (helper_item can.ancestors h) (can.helper f h l)).1

      -- tests and casts
      abbrev HoldsFunction : Top → Type 0
      HoldsFunction x = t.tops (z.home x) (top_name x) ≡ js.holds false (js.function (z.home x) (top_name x))

      named_helper_held : (f : Name) (x : Top) (h : Helper) → (z.has f).helper (helper_name h) ≡ true → HoldsFunction (a_helper h) → z.home x ≡ z.home (a_helper h) → top_name x ≡ helper_name h → HoldsFunction x
      named_helper_held f x h l held home name = subst (λ g. t.tops g (top_name x) ≡ js.holds false (js.function g (top_name x))) (sym home) (subst (λ y. t.tops (z.home (a_helper h)) y ≡ js.holds false (js.function (z.home (a_helper h)) y)) (sym name) held)

      class_test_held : (c : Name) → ClassTestDeclared z c → HoldsFunction (a_test (Class c))
      class_test_held _ (declared.by_marker c kinds plain instances item uses) = (held_in (z.home (a_test (Class c))) (test_piece c kinds None).item item).1
      class_test_held _ (declared.by_kind k kinds item uses) = (held_in (z.home (a_test (Class (kind_class k)))) (test_piece (kind_class k) kinds (Some k)).item item).1

      test_held : (f : Name) (k : IrType) → TestDeclared z f k → HoldsFunction (a_test k)
      test_held f _ (declared.of_kind k d) = named_helper_held f (a_test k) (helpers.TestOf d.kind) d.helper (helper_held f (helpers.TestOf d.kind) d.helper) d.home (test_named k d.kind d.its_kind)
      test_held f _ (declared.of_class c d) = class_test_held c d
      test_held f _ (declared.of_array r d) = named_helper_held f (a_test (Array r)) helpers.TestOfArray d.helper (helper_held f helpers.TestOfArray d.helper) d.home refl

      cast_held : (f : Name) (k : IrType) → CastDeclared z f k → HoldsFunction (a_cast k)
      cast_held f _ (declared.to_kind k d) = named_helper_held f (a_cast k) (helpers.CastTo d.kind) d.helper (helper_held f (helpers.CastTo d.kind) d.helper) d.home (cast_named k d.kind d.its_kind)
      cast_held f _ (declared.to_class c d) = (held_in (z.home (a_cast (Class c))) (cast_piece c).item d.cast).1
      cast_held f _ (declared.to_array r d) = named_helper_held f (a_cast (Array r)) helpers.CastToArray d.helper (helper_held f helpers.CastToArray d.helper) d.home refl

      top_held : (f : Name) (x : Top) → is_usable (z.has f) x ≡ true → TopHolds place begun.owned x (t.tops (z.home x) (top_name x))
      top_held f (a_function m) l = let d = can.linked f m l in (held_in (z.home (a_function m)) (member_item d) d.function).1
      top_held f (a_method m) l = let d = (can.received f m l).member in (held_in (z.home (a_method m)) (member_item d) d.function).1
      top_held f (a_dispatch m) l = let d = can.dispatched f m l in (held_in (z.home (a_dispatch m)) (dispatch_item m d.cases) d.function).1
      top_held f (a_reflection m) l = let d = can.reflected f m l in (held_in (z.home (a_reflection m)) (reflective_item m (units_of (spelled_method m)) d.cases) d.function).1
      top_held f (a_constructor m) l = let d = (can.built f m l).0 in (held_in (z.home (a_constructor m)) (member_item d) d.function).1
      top_held f (a_class c) l = whole_class_held f c l
      top_held f (some_constants c) l = ⊎_elim (λ live. let k = can.live f c live in first_constants c k.above k.classes) (λ base. constants_held c (can.bases f c base)) (or_cases ((z.has f).live c) ((z.has f).bases c) l)
      top_held f (a_static c g k) l = tt
      top_held f (a_setter c g k) l = let its = can.static_field f c g k (set_static (z.has f) c g k l) in (held_in (z.home (a_setter c g k)) (setter (setter_name c g) (static_name c g)) (subst (λ n. Stands z (a_setter c g k) (setter (setter_name c n) (static_name c n))) its.field.named its.setter)).1
      top_held f (a_cell c) l = tt
      top_held f (a_loader c) l = (held_in (z.home (a_loader c)) (load_piece c).item (can.loaded f c l).loader).1
      top_held f (a_storer c) l = (held_in (z.home (a_storer c)) (store_piece c).item (can.stored f c (store_cell (z.has f) c l)).storer).1
      top_held f (a_test k) l = test_held f k (can.tests f k l)
      top_held f (a_cast k) l = cast_held f k (can.casts f k l)
      top_held f (a_helper h) l = helper_held f h l

      -- the variable of a static field holds the zero of its type
      static_held : (f c g : Name) (k : IrType) → has_static (z.has f) c g k ≡ true → Holding begun k (ir_world.statics_in (ir_world.class_of z.classes c) g) (t.tops (z.home (a_static c g k)) (static_name c g))
      static_held f c g k l =
          let home = z.home (a_static c g k) in
          let its = can.static_field f c g k l in
          let its_zero = static_begins place can.kept c g k its.field in
          let item = let_item (static_name c its.field.field.name) (zero_literal its.field.field.tpe) in
          let held = (held_in home item its.variable).1 in
          let same = some_same held.value (zero_shown k) (sym held.literal ∙ ap (λ u. literal_value (zero_literal u)) its.field.typed ∙ zero_literal_is k) in
          subst (λ o. Holding begun k o (t.tops home (static_name c g))) (sym its_zero.zero) (subst (Holding begun k (Some (ir_world.zero_of k))) (sym (ap (λ n. t.tops home (static_name c n)) (sym its.field.named) ∙ held.held ∙ ap (js.holds false) same)) (holding (ir_world.zero_of k) (zero_shown k) (zero_alike begun k its_zero.values)))

      -- the cell of a class holds null
      cell_held : (f c : Name) → has_cell (z.has f) c ≡ true → Holding begun (class_type c) (Some ir.null) (t.tops (z.home (a_cell c)) (cell_name c))
      cell_held f c l =
          let home = z.home (a_cell c) in
          let held = (held_in home (cell_piece c).item (can.stored f c l).cell).1 in
          subst (Holding begun (class_type c) (Some ir.null)) (sym (held.held ∙ ap (js.holds false) (some_same held.value js.null (sym held.literal)))) (holding ir.null js.null (null_alike (is_same_text c (codes "java.lang.Object"))))
        where
          null_alike : (b : Bool) → SameValue begun (if b then Any else Class c) ir.null js.null
          null_alike true = zero_alike begun Any (λ e. cc)
          null_alike false = zero_alike begun (Class c) (λ e. cc)

      pub same_begins : SameState place begun (ir_world.opening z.classes) t
      same_begins = record { heaps = heaps_begin; tops = top_held; statics = static_held; cells = cell_held }
