-- The helpers of the pieces of a linked world, and what bodies ask for where they are there: each piece uses none but these, and what they use are these again.
use Rattle.dispatch_laws.specs.Targets.{lookup_in}
use Rattle.std.proofs.Common.{◌≡◌, Bool, true, false, List, [], ◌∷◌, ◌++◌, ◌||◌, ◌⊎◌, inl, inr, ⊎_elim, Option, Some, None, refl, sym, subst, codes, map, Contains, if◌then◌else◌}
use Rattle.std.specs.Prelude.{is_none}
use Rattle.std.specs.List.{All, flat_map}
use Rattle.std.proofs.lemmas.List.Elements.{All-nil, All-cons, All-contains, All-weaker, Contains-append_cases, Contains-append_right}
use Rattle.std.proofs.lemmas.List.Sorted.{Contains-permutation, IsPermutation-sym}
use Rattle.body_uses.proofs.Calls.{needed}
use Rattle.body_uses.proofs.Members.{defined}
use Rattle.body_uses.specs.Accepted.{IsAccepted}
use Rattle.body_uses.specs.Bodies.{AreBodies}
use Rattle.body_uses.proofs.Uses.{combine}
use Rattle.body_uses.proofs.EachTyped.{in_all}
use Rattle.body_uses.proofs.Undenied.{first_or_later}
use Rattle.sj_emit_help_spec.specs.Helpers.{helper_name, used_helpers, tests_and_constants, failure_class}
use Rattle.sj_emit_help_spec.specs.Words.{bound, helper, all_kinds, worded_kinds, class_name, public_function}
use Rattle.sj_emit_help_spec.specs.declared.kinds.Failure.{Failure}
use Rattle.sj_emit_help_spec.specs.declared.kinds.Failure.TheVariants as failures
use Rattle.sj_emit_help_spec.specs.declared.kinds.Helper.{Helper}
use Rattle.sj_emit_help_spec.specs.declared.kinds.Helper.TheVariants as helpers
use Rattle.sj_emit_help_spec.specs.declared.kinds.Kind.{Kind}
use Rattle.sj_emit_help_spec.specs.declared.kinds.Kind.TheVariants as kinds
use Rattle.js_tree.specs.Terms.{Name, Piece}
use Rattle.js_tree.specs.declared.items.Binding.{Binding}
use Rattle.body_uses.specs.Dispatch.{Told, told_uses, Reflected, reflected_uses}
use Rattle.body_uses.specs.Dispatched.{AreDispatchPieces}
use Rattle.body_uses.specs.ToldPieces.{AreReflectivePieces, AreToldPieces}
use Rattle.body_uses.specs.Entries.{IsReflective}
use Rattle.sj_infos.specs.declared.forms.BodyForm.{BodyForm}
use Rattle.sj_trees.specs.TypeOf.{type_of_term}
use Rattle.sj_infos.specs.Receivers.{receiver_class}
use Rattle.body_uses.specs.Pieces.{piece_of_member, Block, IsBlock, AreBlocks, pieces_of_block, IsUsed, by_piece, by_helper, AreLinkedPieces}
use Rattle.body_uses.specs.Classes.{HasForm, AreParts, AreClassPieces, absent, present}
use Rattle.body_uses.specs.SjEmitClassSpecPieces.{Parts, pieces, constants_piece, class_piece, class_uses, parent_uses, own_constants, uses_of_entries, entry_uses, box_uses, is_proxy, is_char, all_statics, variable_piece, setter_piece, when, cell_piece, cell_pieces, load_piece, store_piece, init, init_name, test_piece, test_uses, test_binding, cast_piece, kind_of_class, constants_of, class_of as class_pieces_of, module_of, tests_of}
use Rattle.proper_pieces.proofs.Names.{function_rank}
use Rattle.body_uses.proofs.Derivations.{closed}
use Rattle.body_uses.specs.Reachable.{Reachable}
use Rattle.body_uses.specs.Rules.{Reads, message_constructor, public_member, of_throw, asked_body, throw_made, array_made}
use Rattle.sj_infos.specs.Forms.{form_of, of_base, of_test, of_cast, forms_by_body}
use Rattle.sj_infos.specs.Forms as of_form
use Rattle.sj_infos.specs.Infos as infos
use Rattle.sj_infos.specs.Infos.{asks, asked_in, asked_by_body}
use Rattle.sj_infos.specs.Sure.{sure_among}
use Rattle.sj_infos.specs.Trees.{trees}
use Rattle.sj_infos.specs.declared.forms.BodyForm.TheVariants as forms
use Rattle.sj_infos.specs.declared.infos.Info.{Info}
use Rattle.sj_infos.specs.declared.infos.Info.TheVariants.{Class, ArrayForm, Throws, Reflective}
use Rattle.body_uses.proofs.Found.{owner_of, here, there}
use Rattle.body_uses.proofs.Classes.{class-keeps}
use Rattle.sj_mangling.specs.Bindings.{class_binding, field_binding}
use Rattle.sj_mangling.specs.declared.bindings.ClassBinding.TheVariants.{Instance, IsInstance}
use Rattle.sj_mangling.specs.declared.bindings.FieldBinding.TheVariants.{Variable}
use Rattle.sj_names.proofs.Same.{impossible}
use Rattle.sj_names.specs.WellKnown.{object}
use Rattle.sj_names.specs.declared.entry_points.EntryPoint.{EntryPoint}
use Rattle.sj_names.specs.declared.folders.SourceFile.{SourceFile}
use Rattle.sj_names.specs.declared.method_names.MethodName.{MethodName}
use Rattle.sj_names.specs.declared.method_names.Namespace.TheVariants.{Constructor}
use Rattle.sj_names.specs.declared.references.BaseRef.{BaseRef}
use Rattle.sj_emit_expr_spec.specs.Templates.{member_name}
use Rattle.body_uses.specs.EmittedMethods.{EmittedMethod}
use Rattle.sj_split.proofs.Members.{from_map}
use Rattle.sj_trees.specs.Term.{Term, load_module, store_module, apply, new_array, array_value, is_instance_of, as_instance_of}
use Rattle.sj_trees.specs.declared.classes.FieldDef.{FieldDef}
use Rattle.sj_trees.specs.declared.types.IrType.{IrType}
use Rattle.sj_world.specs.Linked.{Linked}
use Rattle.sj_world.specs.declared.facts.Fact.{Fact}
use Rattle.sj_world.specs.declared.facts.Fact.TheVariants.{Made, Body}
use Rattle.sj_world.specs.declared.linked.MethodEntry.{MethodEntry}
use Rattle.worklist.proofs.Inserted.{nothing_in, only_one}
use Rattle.object_helpers.specs.Helpers.{is_division, UsesIt, a_check, a_division, a_char, a_test, a_cast, an_identity, a_new_array, an_array_of_items, an_item, a_primitive_item, another_item, a_test_of_arrays, a_cast_to_arrays}
use Rattle.object_helpers.specs.Laws.{ThrownClassesAreReached, ArraysExtendAMadeClass}
use Rattle.object_helpers.proofs.Bodies.{cast_exception, method_exception, Only, only_function, once_in, all_used}
use Rattle.object_helpers.proofs.Named.{no_helper, named_as}

-- what a list that is made of lists has is in one of them
pub record InOne {X Y : Type 0} (f : X → List Y) (xs : List X) (y : Y) : Type 0 where
  pub item : X
  pub among : Contains xs item
  pub within : Contains (f item) y

in_one : {X Y : Type 0} (f : X → List Y) (xs : List X) (y : Y) → Contains (flat_map f xs) y → InOne f xs y
in_one f [] y h = nothing_in y h
in_one {X} {Y} f (x ∷ xs) y h = go (Contains-append_cases (f x) (flat_map f xs) y h) (in_one f xs y)
  where
    later : InOne f xs y → InOne f (x ∷ xs) y
    later o = record { item = o.item; among = there x xs o.item o.among; within = o.within }

    go : Contains (f x) y ⊎ Contains (flat_map f xs) y → (Contains (flat_map f xs) y → InOne f xs y) → InOne f (x ∷ xs) y
    go (inl i) k = record { item = x; among = here x xs; within = i }
    go (inr i) k = later (k i)

-- a base of an array, a test and a cast are no other form
module _ (f : BodyForm) where
  other_base : {A : Type 0} → ((d : Name) → forms.Base d ≡ f → ⊥) → (b : BaseRef) → Contains (of_base b) f → A
  other_base never_base (BaseRef.Class d) h = absurd (never_base d (only_one (forms.Base d) f h))
  other_base never_base _ h = nothing_in f h

  other_test : {A : Type 0} → ((d : Name) → forms.Base d ≡ f → ⊥) → ((d : Name) → forms.Test d ≡ f → ⊥) → (t : IrType) → Contains (of_test t) f → A
  other_test never_base never (IrType.Class d) h = absurd (never d (only_one (forms.Test d) f h))
  other_test never_base never (IrType.Array r) h = other_base never_base r.base h
  other_test never_base never _ h = nothing_in f h

  other_cast : {A : Type 0} → ((d : Name) → forms.Base d ≡ f → ⊥) → ((d : Name) → forms.Cast d ≡ f → ⊥) → (t : IrType) → Contains (of_cast t) f → A
  other_cast never_base never (IrType.Class d) h = absurd (never d (only_one (forms.Cast d) f h))
  other_cast never_base never (IrType.Array r) h = other_base never_base r.base h
  other_cast never_base never _ h = nothing_in f h

not_base : {A : Type 0} (c : Name) (b : BaseRef) → Contains (of_base b) (forms.Cast c) → A
not_base c = other_base (forms.Cast c) (λ d e. absurd cc)

not_test : {A : Type 0} (c : Name) (t : IrType) → Contains (of_test t) (forms.Cast c) → A
not_test c = other_test (forms.Cast c) (λ d e. absurd cc) (λ d e. absurd cc)

-- a cast to a class asks for the exception that it throws

not_call : {A : Type 0} (c : Name) (m : MethodName) → Contains (of_form.of_call m) (forms.Cast c) → A
not_call {A} c m h = go (is_none m.result) h
  where
    go : (b : Bool) → Contains (if b then forms.Reflective m ∷ [] else []) (forms.Cast c) → A
    go true h = let e : forms.Reflective m ≡ forms.Cast c = only_one (forms.Reflective m) (forms.Cast c) h in absurd cc
    go false h = nothing_in (forms.Cast c) h

cast_asks : (c : Name) (t : IrType) → Contains (of_cast t) (forms.Cast c) → Contains (infos.of_cast t) cast_exception
cast_asks c (IrType.Class d) h = there (Class d) (cast_exception ∷ []) cast_exception (here cast_exception [])
cast_asks c (IrType.Array r) h = not_base c r.base h
cast_asks c _ h = nothing_in (forms.Cast c) h

tree_asks : (names : List Name) (c : Name) (t : Term) → Contains (form_of t) (forms.Cast c) → Contains (asks names t) cast_exception
tree_asks names c (as_instance_of p e t) h = cast_asks c t h
tree_asks names c (load_module p d) h = let e : forms.Load d ≡ forms.Cast c = only_one (forms.Load d) (forms.Cast c) h in absurd cc
tree_asks names c (store_module p d e) h = let e : forms.Store d ≡ forms.Cast c = only_one (forms.Store d) (forms.Cast c) h in absurd cc
tree_asks names c (apply p e m ts t) h = not_call c m h
tree_asks names c (new_array p r e) h = not_base c r.base h
tree_asks names c (array_value p r ts) h = not_base c r.base h
tree_asks names c (is_instance_of p e t) h = not_test c t h
tree_asks names c _ h = nothing_in (forms.Cast c) h

body_asks : (c : Name) (body : Option Term) → Contains (forms_by_body body) (forms.Cast c) → Contains (asked_by_body body) cast_exception
body_asks c None h = nothing_in (forms.Cast c) h
body_asks c (Some e) h = let o = in_one form_of (trees e) (forms.Cast c) h in in_all (asks (sure_among [] (trees e))) (trees e) o.item cast_exception o.among (tree_asks (sure_among [] (trees e)) c o.item o.within)

-- a call by a reflective name asks for the name and for the exception of a missing method
abbrev asked_by_name : List Name → MethodName → Term → List Info
asked_by_name names m e = Reflective m ∷ infos.of_receiver names e ++ infos.no_such_method

module _ (p : MethodName) (o : Info) (asked : (names : List Name) (m : MethodName) (e : Term) → m ≡ p → Contains (asked_by_name names m e) o) (names : List Name) where
  is_base : {A : Type 0} (b : BaseRef) → Contains (of_base b) (forms.Reflective p) → A
  is_base = other_base (forms.Reflective p) (λ d e. absurd cc)

  one_name : (m : MethodName) → forms.Reflective m ≡ forms.Reflective p → m ≡ p
  one_name m e = cc

  named_asks : (m : MethodName) (e : Term) → Contains (of_form.of_call m) (forms.Reflective p) → Contains (infos.of_apply names e m) o
  named_asks m e h = go (is_none m.result) h
    where
      go : (b : Bool) → Contains (if b then forms.Reflective m ∷ [] else []) (forms.Reflective p) → Contains (if b then asked_by_name names m e else infos.of_call m (receiver_class (type_of_term e)) ++ infos.of_receiver names e) o
      go true h = asked names m e (one_name m (only_one (forms.Reflective m) (forms.Reflective p) h))
      go false h = nothing_in (forms.Reflective p) h

  call_asks : (t : Term) → Contains (form_of t) (forms.Reflective p) → Contains (asks names t) o
  call_asks (apply q e m ts t) h = named_asks m e h
  call_asks (as_instance_of q e t) h = other_cast (forms.Reflective p) (λ d e. absurd cc) (λ d e. absurd cc) t h
  call_asks (load_module q d) h = let e : forms.Load d ≡ forms.Reflective p = only_one (forms.Load d) (forms.Reflective p) h in absurd cc
  call_asks (store_module q d e) h = let e : forms.Store d ≡ forms.Reflective p = only_one (forms.Store d) (forms.Reflective p) h in absurd cc
  call_asks (new_array q r e) h = is_base r.base h
  call_asks (array_value q r ts) h = is_base r.base h
  call_asks (is_instance_of q e t) h = other_test (forms.Reflective p) (λ d e. absurd cc) (λ d e. absurd cc) t h
  call_asks _ h = nothing_in (forms.Reflective p) h

calls_ask : (p : MethodName) (o : Info) → ((names : List Name) (m : MethodName) (e : Term) → m ≡ p → Contains (asked_by_name names m e) o) → (body : Option Term) → Contains (forms_by_body body) (forms.Reflective p) → Contains (asked_by_body body) o
calls_ask p o asked None h = nothing_in (forms.Reflective p) h
calls_ask p o asked (Some e) h = let k = in_one form_of (trees e) (forms.Reflective p) h in in_all (asks (sure_among [] (trees e))) (trees e) k.item o k.among (call_asks p o asked (sure_among [] (trees e)) k.item k.within)

exception_asked : (p : MethodName) (body : Option Term) → Contains (forms_by_body body) (forms.Reflective p) → Contains (asked_by_body body) method_exception
exception_asked p = calls_ask p method_exception (λ names m e same. there (Reflective m) (infos.of_receiver names e ++ infos.no_such_method) method_exception (Contains-append_right (infos.of_receiver names e) infos.no_such_method method_exception (here method_exception [])))

pub name_asked : (p : MethodName) (body : Option Term) → Contains (forms_by_body body) (forms.Reflective p) → Contains (asked_by_body body) (Reflective p)
name_asked p = calls_ask p (Reflective p) (λ names m e same. subst (λ (x : MethodName). Contains (asked_by_name names m e) (Reflective x)) same (here (Reflective m) (infos.of_receiver names e ++ infos.no_such_method)))

module _ (entries : List EntryPoint) (files : List SourceFile) (l : Linked) (all : List EmittedMethod) (accepted : IsAccepted entries files l.world) (bodies : AreBodies l.world entries all) (reached : (f : Fact) → Contains l.facts f → Reachable l.world entries f) where
  abbrev pub Asked : Name → Type 0
  Asked c = Reads l.world entries (Reachable l.world entries) (Throws c)

  abbrev pub AskedArrays : Type 0
  AskedArrays = Reads l.world entries (Reachable l.world entries) ArrayForm

  -- the class of arrays is there by a form that asks for arrays, or by the exception of a store
  abbrev pub Arrays : Type 0
  Arrays = AskedArrays ⊎ Asked (failure_class failures.Store)

  -- a helper that throws, or that uses one that does, is there only where a needed body asks for the exception, and one of arrays only where a body asks for arrays or sets an item
  abbrev pub Good : Helper → Type 0
  Good helpers.NotNull = Asked (failure_class failures.NullReceiver)
  Good helpers.IntQuotient = Asked (failure_class failures.Division)
  Good helpers.IntRemainder = Asked (failure_class failures.Division)
  Good helpers.LongQuotient = Asked (failure_class failures.Division)
  Good helpers.LongRemainder = Asked (failure_class failures.Division)
  Good (helpers.CastTo k) = Asked (failure_class failures.Cast)
  Good helpers.ArrayClass = Arrays
  Good helpers.MakeArray = AskedArrays × Asked (failure_class failures.Size)
  Good helpers.CheckIndex = Asked (failure_class failures.Index)
  Good helpers.Get = Asked (failure_class failures.Index)
  Good helpers.Set = Asked (failure_class failures.Index)
  Good helpers.Put = Asked (failure_class failures.Index) × Asked (failure_class failures.Store)
  Good helpers.Fits = Arrays
  Good helpers.TestOfArray = Arrays
  Good helpers.CastToArray = Arrays × Asked (failure_class failures.Cast)
  Good (helpers.Throws f) = Asked (failure_class f)
  Good _ = Unit {0}

  good_division : (h : Helper) → is_division h ≡ true → Asked (failure_class failures.Division) → Good h
  good_division helpers.IntQuotient e r = r
  good_division helpers.IntRemainder e r = r
  good_division helpers.LongQuotient e r = r
  good_division helpers.LongRemainder e r = r
  good_division _ e r = impossible e

  -- the helpers of a helper
  only : (h : Helper) → Good h → All Good (h ∷ [])
  only h r = All-cons Good h [] r (All-nil Good)

  first : (h : Helper) (hs : List Helper) → Good h → All Good hs → All Good (h ∷ hs)
  first h hs r = All-cons Good h hs r

  tests_and_constants_good : (ks : List Kind) → All Good (tests_and_constants ks)
  tests_and_constants_good [] = All-nil Good
  tests_and_constants_good (k ∷ ks) = first (helpers.TestOf k) (helpers.ConstantsOf k ∷ tests_and_constants ks) tt (first (helpers.ConstantsOf k) (tests_and_constants ks) tt (tests_and_constants_good ks))

  each_of_helper : (g : Helper) → Good g → All Good (used_helpers g)
  each_of_helper helpers.NotNull r = only (helpers.Throws failures.NullReceiver) r
  each_of_helper helpers.IntQuotient r = only (helpers.Throws failures.Division) r
  each_of_helper helpers.IntRemainder r = only (helpers.Throws failures.Division) r
  each_of_helper helpers.LongQuotient r = only (helpers.Throws failures.Division) r
  each_of_helper helpers.LongRemainder r = only (helpers.Throws failures.Division) r
  each_of_helper helpers.BoxedChar r = only (helpers.ConstantsOf kinds.Char) tt
  each_of_helper (helpers.ConstantsOf k) r = All-nil Good
  each_of_helper (helpers.TestOf kinds.Char) r = only helpers.BoxedChar tt
  each_of_helper (helpers.TestOf k) r = All-nil Good
  each_of_helper (helpers.CastTo k) r = first (helpers.TestOf k) (helpers.Throws failures.Cast ∷ []) tt (only (helpers.Throws failures.Cast) r)
  each_of_helper helpers.Equal r = only helpers.BoxedChar tt
  each_of_helper helpers.ArrayClass r = All-nil Good
  each_of_helper helpers.MakeArray r = first (helpers.Throws failures.Size) (helpers.ArrayClass ∷ []) r.1 (only helpers.ArrayClass (inl r.0))
  each_of_helper helpers.CheckIndex r = only (helpers.Throws failures.Index) r
  each_of_helper helpers.Get r = only helpers.CheckIndex r
  each_of_helper helpers.Set r = only helpers.CheckIndex r
  each_of_helper helpers.Put r = first helpers.CheckIndex (helpers.Fits ∷ helpers.Throws failures.Store ∷ []) r.0 (first helpers.Fits (helpers.Throws failures.Store ∷ []) (inr r.1) (only (helpers.Throws failures.Store) r.1))
  each_of_helper helpers.Covers r = All-nil Good
  each_of_helper helpers.Fits r =
      first helpers.ArrayClass (helpers.Covers ∷ helpers.TestOf kinds.Byte ∷ helpers.TestOf kinds.Short ∷ helpers.ClassOf ∷ []) r
      (first helpers.Covers (helpers.TestOf kinds.Byte ∷ helpers.TestOf kinds.Short ∷ helpers.ClassOf ∷ []) tt
      (first (helpers.TestOf kinds.Byte) (helpers.TestOf kinds.Short ∷ helpers.ClassOf ∷ []) tt (first (helpers.TestOf kinds.Short) (helpers.ClassOf ∷ []) tt (only helpers.ClassOf tt))))
  each_of_helper helpers.ClassOf r = tests_and_constants_good worded_kinds
  each_of_helper helpers.TestOfArray r = first helpers.ArrayClass (helpers.Covers ∷ []) r (only helpers.Covers tt)
  each_of_helper helpers.CastToArray r = first helpers.TestOfArray (helpers.Throws failures.Cast ∷ []) r.0 (only (helpers.Throws failures.Cast) r.1)
  each_of_helper (helpers.Throws f) r = All-nil Good

  -- bindings of a piece that are of no other helper
  abbrev Q : Binding → Type 0
  Q = Only Good

  none : All Q []
  none = All-nil Q

  one : (b : Binding) → Q b → All Q (b ∷ [])
  one b q = All-cons Q b [] q none

  of_helper : (h : Helper) → Good h → Q (helper (helper_name h))
  of_helper g r h same = subst Good (named_as g h same) r

  box : Q (helper (codes "$C"))
  box = of_helper helpers.BoxedChar tt

  abbrev EachGood : List Piece → Type 0
  EachGood ps = (p : Piece) → Contains ps p → All Q p.uses

  no_pieces : EachGood []
  no_pieces p i = nothing_in p i

  one_piece : (p : Piece) → All Q p.uses → EachGood (p ∷ [])
  one_piece p h q i = subst (λ (x : Piece). All Q x.uses) (only_one p q i) h

  more_pieces : (p : Piece) (ps : List Piece) → All Q p.uses → EachGood ps → EachGood (p ∷ ps)
  more_pieces p ps h k q i = ⊎_elim (λ e. subst (λ (x : Piece). All Q x.uses) e h) (λ j. k q j) (first_or_later p ps q i)

  joined : (ps qs : List Piece) → EachGood ps → EachGood qs → EachGood (ps ++ qs)
  joined ps qs h k p i = ⊎_elim (h p) (k p) (Contains-append_cases ps qs p i)

  pieces_when : (b : Bool) (ps : List Piece) → (b ≡ true → EachGood ps) → EachGood (when b ps)
  pieces_when true ps h = h refl
  pieces_when false ps h = no_pieces

  -- the functions of methods
  reads : (e : EmittedMethod) → Contains all e → (o : Info) → Contains (asked_in e.its_body) o → Reads l.world entries (Reachable l.world entries) o
  reads e i o h = record {
    member = e.member;
    needed = needed l.world entries all bodies e i;
    definition = e.definition;
    defined = defined l.world e.member e.definition (bodies.found e i).found;
    asked = subst (λ (b : Option Term). Contains (asked_by_body b) o) (sym (bodies.found e i).has_body) h;
  }

  of_body : (e : EmittedMethod) → Contains all e → (h : Helper) → UsesIt (asked_in e.its_body) h → Good h
  of_body e i _ (a_check k) = reads e i (Throws (codes "java.lang.NullPointerException")) k
  of_body e i _ (a_division h d k) = good_division h d (reads e i (Throws (codes "java.lang.ArithmeticException")) k)
  of_body e i _ a_char = tt
  of_body e i _ (a_test k) = tt
  of_body e i _ (a_cast k j) = reads e i (Throws (codes "java.lang.ClassCastException")) j
  of_body e i _ an_identity = tt
  of_body e i _ (a_new_array f k) = (reads e i ArrayForm f, reads e i (Throws (codes "java.lang.NegativeArraySizeException")) k)
  of_body e i _ (an_array_of_items f) = inl (reads e i ArrayForm f)
  of_body e i _ (an_item k) = reads e i (Throws (codes "java.lang.ArrayIndexOutOfBoundsException")) k
  of_body e i _ (a_primitive_item k) = reads e i (Throws (codes "java.lang.ArrayIndexOutOfBoundsException")) k
  of_body e i _ (another_item k j) = (reads e i (Throws (codes "java.lang.ArrayIndexOutOfBoundsException")) k, reads e i (Throws (codes "java.lang.ArrayStoreException")) j)
  of_body e i _ (a_test_of_arrays f) = inl (reads e i ArrayForm f)
  of_body e i _ (a_cast_to_arrays f j) = (inl (reads e i ArrayForm f), reads e i (Throws (codes "java.lang.ClassCastException")) j)

  method_good : (e : EmittedMethod) → Contains all e → All Q (piece_of_member l.world e).uses
  method_good e i =
      let o = owner_of l.world e.member e.definition (bodies.found e i).found in
      let among = Contains-permutation l.world accepted.classes o.owner (IsPermutation-sym accepted.classes l.world accepted.world.sorted.same) o.in_world in
      let kept = class-keeps o.owner (accepted.kept o.owner among) e.definition o.listed in
      weaken (piece_of_member l.world e).uses (all_used (lookup_in l.world) o.owner e.definition e.its_body (bodies.found e i).has_body kept)
    where
      weaken : (bs : List Binding) → All (Only (UsesIt (asked_in e.its_body))) bs → All Q bs
      weaken bs h = All-weaker (Only (UsesIt (asked_in e.its_body))) Q (λ b f k same. of_body e i k (f k same)) bs h

  -- so each helper that it uses is
  pub body_good : (e : EmittedMethod) → Contains all e → (h : Helper) → Contains (piece_of_member l.world e).uses (helper (helper_name h)) → Good h
  body_good e i h u = All-contains Q (piece_of_member l.world e).uses (helper (helper_name h)) (method_good e i) u h refl

  methods_good : (es : List EmittedMethod) → ((e : EmittedMethod) → Contains es e → Contains all e) → EachGood (map (piece_of_member l.world) es)
  methods_good es h p i = let m = from_map (piece_of_member l.world) es p i in subst (λ (x : Piece). All Q x.uses) m.is (method_good m.item (h m.item m.among))

  -- the pieces of a class
  parent_good : (s : Option Name) → All Q (parent_uses s)
  parent_good None = none
  parent_good (Some s) = one (bound s (class_name s)) (λ h same. no_helper (bound s (class_name s)) 1 refl refl h same)

  box_good : (b : Bool) → All Q (if b then helper (codes "$C") ∷ [] else [])
  box_good true = one (helper (codes "$C")) box
  box_good false = none

  entry_good : (e : MethodEntry) → All Q (entry_uses e)
  entry_good e = go (is_proxy e)
    where
      go : (b : Bool) → All Q (if b then box_uses e.target.method else bound e.target.class (member_name e.target) ∷ [])
      go true = box_good (is_char e.target.method.result)
      go false = one (bound e.target.class (member_name e.target)) (only_function Good e.target)

  entries_good : (es : List MethodEntry) → All Q (uses_of_entries es)
  entries_good [] = none
  entries_good (e ∷ es) = combine Q (entry_uses e) (uses_of_entries es) (entry_good e) (entries_good es)

  class_good : (c : Name) (s : Option Name) (es : List MethodEntry) (fs : List FieldDef) → All Q (class_piece c s es fs).uses
  class_good c s es fs = once_in Q [] (class_uses c s es) (combine Q (parent_uses s) (own_constants c ∷ uses_of_entries es) (parent_good s) (All-cons Q (own_constants c) (uses_of_entries es) (λ h same. no_helper (own_constants c) 0 refl refl h same) (entries_good es)))

  statics_good : (c : Name) (fs : List FieldDef) → EachGood (all_statics c fs)
  statics_good c [] = no_pieces
  statics_good c (f ∷ fs) = more_pieces (variable_piece c f) (setter_piece c f ∷ all_statics c fs) none (more_pieces (setter_piece c f) (all_statics c fs) (one (bound c (field_binding Variable c f.name)) (λ h same. no_helper (bound c (field_binding Variable c f.name)) 2 refl refl h same)) (statics_good c fs))

  cell : (c : Name) → Q (bound c (class_binding Instance c))
  cell c h same = no_helper (bound c (class_binding Instance c)) 4 refl refl h same

  load_good : (c : Name) → All Q (load_piece c).uses
  load_good c = All-cons Q (bound c (class_binding Instance c)) (bound c (init_name c) ∷ bound c (class_name c) ∷ []) (cell c) (All-cons Q (bound c (init_name c)) (bound c (class_name c) ∷ []) (λ h same. no_helper (bound c (init_name c)) 9 (function_rank Constructor c init) refl h same) (one (bound c (class_name c)) (λ h same. no_helper (bound c (class_name c)) 1 refl refl h same)))

  cells_good : (c : Name) (loaded : Bool) → EachGood (cell_pieces c loaded)
  cells_good c loaded = more_pieces (cell_piece c) (when loaded (load_piece c ∷ []) ++ store_piece c ∷ []) none (joined (when loaded (load_piece c ∷ [])) (store_piece c ∷ []) (pieces_when loaded (load_piece c ∷ []) (λ h. one_piece (load_piece c) (load_good c))) (one_piece (store_piece c) (one (bound c (class_binding Instance c)) (cell c))))

  kind_good : (k : Kind) → Q (test_binding k)
  kind_good k = of_helper (helpers.TestOf k) tt

  kinds_good : (ks : List Kind) → All Q (map test_binding ks)
  kinds_good [] = none
  kinds_good (k ∷ ks) = All-cons Q (test_binding k) (map test_binding ks) (kind_good k) (kinds_good ks)

  test_good : (ks : List Kind) (o : Option Kind) → All Q (test_uses ks o)
  test_good ks (Some k) = one (test_binding k) (kind_good k)
  test_good ks None = kinds_good ks

  cast_good : (c : Name) → Asked (codes "java.lang.ClassCastException") → All Q (cast_piece c).uses
  cast_good c r = All-cons Q (bound c (class_binding IsInstance c)) (helper (codes "$cce") ∷ []) (λ h same. no_helper (bound c (class_binding IsInstance c)) 7 refl refl h same) (one (helper (codes "$cce")) (of_helper (helpers.Throws failures.Cast) r))

  pub cast_read : (c : Name) → HasForm l.world l.facts (forms.Cast c) → Asked (codes "java.lang.ClassCastException")
  cast_read c h = record { member = h.member; needed = reached (Body h.member) h.needed; definition = h.definition; defined = h.defined; asked = body_asks c h.definition.body h.has }

  own_good : (c : Name) (p : Parts) → AreParts l c p → EachGood (pieces p)
  own_good c p are =
      let n = p.class.name in
      let first = constants_of p in
      let second = class_pieces_of p in
      let third = all_statics n p.statics in
      let fourth = module_of p in
      let test = test_piece n p.instances (kind_of_class n all_kinds) in
      let tests = when (p.is_tested || p.is_cast) (test ∷ []) in
      joined (first ++ second ++ third ++ fourth) (tests_of p) (joined (first ++ second ++ third) fourth (joined (first ++ second) third (joined first second (pieces_when (p.is_live || p.is_base) (constants_piece n p.ancestors ∷ []) (λ h. one_piece (constants_piece n p.ancestors) none)) (pieces_when p.is_live (class_piece n p.class.superclass p.entries p.fields ∷ []) (λ h. one_piece (class_piece n p.class.superclass p.entries p.fields) (class_good n p.class.superclass p.entries p.fields)))) (statics_good n p.statics)) (pieces_when (p.is_loaded || p.is_stored) (cell_pieces n p.is_loaded) (λ h. cells_good n p.is_loaded))) (joined tests (when p.is_cast (cast_piece n ∷ [])) (pieces_when (p.is_tested || p.is_cast) (test ∷ []) (λ h. one_piece test (test_good p.instances (kind_of_class n all_kinds)))) (pieces_when p.is_cast (cast_piece n ∷ []) (λ h. one_piece (cast_piece n) (cast_good n (cast_read c (are.cast.0 h))))))

  class_pieces_good : (c : Name) (ps : List Piece) → AreClassPieces l c ps → EachGood ps
  class_pieces_good c ps (absent e is) = subst EachGood (sym is) no_pieces
  class_pieces_good c ps (present p are is) = subst EachGood (sym is) (own_good c p are)

  block_good : (c : Name) (b : Block) → IsBlock l all c b → EachGood (pieces_of_block l.world b)
  block_good c b h = joined b.own (map (piece_of_member l.world) b.methods) (class_pieces_good c b.own h.own) (methods_good b.methods (λ e i. ((h.methods.exact e).0 i).0))

  blocks_good : (cs : List Name) (bs : List Block) → AreBlocks l all cs bs → EachGood (flat_map (pieces_of_block l.world) bs)
  blocks_good [] [] h = no_pieces
  blocks_good [] (b ∷ bs) h = absurd h
  blocks_good (c ∷ cs) [] h = absurd h
  blocks_good (c ∷ cs) (b ∷ bs) h = joined (pieces_of_block l.world b) (flat_map (pieces_of_block l.world) bs) (block_good c b h.0) (blocks_good cs bs h.1)

  -- the functions that tell receivers apart
  cases_good : (m : MethodName) (ts : List Told) → All Q (flat_map (told_uses m) ts)
  cases_good m [] = none
  cases_good m (t ∷ ts) = combine Q (told_uses m t) (flat_map (told_uses m) ts) (All-cons Q (test_binding t.kind) (bound t.owner (public_function t.owner m) ∷ []) (kind_good t.kind) (one (bound t.owner (public_function t.owner m)) (only_function Good (public_member t.owner m)))) (cases_good m ts)

  reflected_good : (ts : List Reflected) → All Q (flat_map reflected_uses ts)
  reflected_good [] = none
  reflected_good (t ∷ ts) = combine Q (reflected_uses t) (flat_map reflected_uses ts) (All-cons Q (test_binding t.kind) (box_uses t.method ++ bound t.owner (public_function t.owner t.method) ∷ []) (kind_good t.kind) (combine Q (box_uses t.method) (bound t.owner (public_function t.owner t.method) ∷ []) (box_good (is_char t.method.result)) (one (bound t.owner (public_function t.owner t.method)) (only_function Good (public_member t.owner t.method))))) (reflected_good ts)

  pub call_read : (p : MethodName) → IsReflective l.world l.facts p → Asked (codes "java.lang.NoSuchMethodException")
  call_read p h = record { member = h.member; needed = reached (Body h.member) h.needed; definition = h.definition; defined = h.defined; asked = exception_asked p h.definition.body h.calls }

  names_good : (ps told : List Piece) → AreReflectivePieces l ps told → EachGood told
  names_good ps told h p i =
      let d = h.made p i in
      let own : List Binding = flat_map reflected_uses d.is_piece.cases in
      subst (λ (q : Piece). All Q q.uses) (sym d.is_piece.piece_is) (once_in Q [] (own ++ helper (codes "$nme") ∷ []) (combine Q own (helper (codes "$nme") ∷ []) (reflected_good d.is_piece.cases) (one (helper (codes "$nme")) (of_helper (helpers.Throws failures.Method) (call_read d.method d.reflected.called)))))

  methods_told : (ps told : List Piece) → AreDispatchPieces l ps told → EachGood told
  methods_told ps told h p i = let d = h.made p i in subst (λ (q : Piece). All Q q.uses) (sym d.is_piece.piece_is) (once_in Q [] (flat_map (told_uses d.method) d.is_piece.cases) (cases_good d.method d.is_piece.cases))

  told_good : (ps told : List Piece) → AreToldPieces l ps told → EachGood told
  told_good ps told h = subst EachGood (sym h.told_are) (joined h.methods h.names (methods_told ps h.methods h.are_methods) (names_good ps h.names h.are_names))

  -- and so is each that one uses which is
  pub more_good : (g h : Helper) → Good g → Contains (used_helpers g) h → Good h
  more_good g h r u = All-contains Good (used_helpers g) h (each_of_helper g r) u

  used_good : (ps : List Piece) → EachGood ps → (h : Helper) → IsUsed ps h → Good h
  used_good ps each _ (by_piece p h i u) = All-contains Q p.uses (helper (helper_name h)) (each p i) u h refl
  used_good ps each _ (by_helper g h k u) = more_good g h (used_good ps each g k) u

  pub linked_good : (ps : List Piece) (p : AreLinkedPieces l all ps) (h : Helper) → Contains p.helpers h → Good h
  linked_good ps p h i =
      let own = flat_map (pieces_of_block l.world) p.blocks in
      used_good (own ++ p.told) (joined own p.told (blocks_good p.classes p.blocks p.are_blocks) (told_good own p.told p.are_told)) h ((p.are_helpers.exact h).0 i)

  of_thrown : (c : Name) → Asked c → Reachable l.world entries (Made c) × Reachable l.world entries (Body (message_constructor c))
  of_thrown c r = (closed l.world entries (Made c) (throw_made c r), closed l.world entries (Body (message_constructor c)) (asked_body (message_constructor c) (of_throw c r)))

  pub thrown : (f : Failure) → Good (helpers.Throws f) → Reachable l.world entries (Made (failure_class f)) × Reachable l.world entries (Body (message_constructor (failure_class f)))
  thrown f r = of_thrown (failure_class f) r

  pub extended : Arrays → Reachable l.world entries (Made object) ⊎ Reachable l.world entries (Made (failure_class failures.Store))
  extended (inl r) = inl (closed l.world entries (Made object) (array_made r))
  extended (inr r) = inr (closed l.world entries (Made (failure_class failures.Store)) (throw_made (failure_class failures.Store) r))

pub reached : ThrownClassesAreReached
reached entries files l all ps accepted bodies known p f i = thrown entries files l all accepted bodies known f (linked_good entries files l all accepted bodies known ps p (helpers.Throws f) i)

pub extending : ArraysExtendAMadeClass
extending entries files l all ps accepted bodies known p i = extended entries files l all accepted bodies known (linked_good entries files l all accepted bodies known ps p helpers.ArrayClass i)
