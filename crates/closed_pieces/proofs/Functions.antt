-- What the function of a needed body uses is declared.
use Rattle.std.specs.Prelude.{is_none}
use Rattle.sj_names.specs.declared.references.TypeRef.{TypeRef}
use Rattle.std.proofs.Common.{Bool, ◌≡◌, ◌∙◌, List, [], ◌∷◌, Option, Some, None, refl, sym, subst, Contains, true, false, ap, codes, if◌then◌else◌}
use Rattle.std.specs.List.{All}
use Rattle.std.proofs.lemmas.List.Elements.{All-nil, All-cons, All-contains, Contains-append_left}
use Rattle.closed_pieces.proofs.Called.{Called, each_called, with_each}
use Rattle.linked_folders.proofs.Calls.{needed}
use Rattle.linked_folders.proofs.Derivations.{closed}
use Rattle.linked_folders.proofs.Direct.{Calls, calls_member, looks_up, calls_array, calls_by_name}
use Rattle.linked_folders.proofs.EachTyped.{in_all}
use Rattle.linked_folders.proofs.Found.{here}
use Rattle.linked_folders.proofs.Given.{all_from}
use Rattle.linked_folders.proofs.Hijacked.{of_hijacked, of_looked_up}
use Rattle.linked_folders.proofs.Members.{defined}
use Rattle.linked_folders.proofs.Standing.{Stands, each_stands}
use Rattle.linked_folders.proofs.Written.{some_same, all_at}
use Rattle.linked_folders.specs.Accepted.{IsAccepted}
use Rattle.linked_folders.specs.Bodies.{AreBodies}
use Rattle.linked_folders.specs.Built.{any_object, body_boxes, is_built, is_object_body, may_make}
use Rattle.linked_folders.specs.Classes.{HasForm}
use Rattle.linked_folders.specs.EmittedMethods.{EmittedMethod}
use Rattle.linked_folders.specs.Pieces.{piece_of_member}
use Rattle.linked_folders.specs.Reachable.{Reachable}
use Rattle.linked_folders.specs.Refusals.{missing_class, missing_method, abstract_target, IsPresent, no_class, no_target, no_target_body, no_method, no_hijacked_body}
use Rattle.linked_folders.specs.SjReachSpecRules.{Reads, of_call, of_new, asked_body, new_made, field_needed, resolved_class, resolved_body, call, call_class, call_hijacked, class_named, load_needed}
use Rattle.linked_folders.specs.Typed.{MeetsThere}
use Rattle.dispatch_laws.proofs.WorkedOut.{targets_are_worked_out}
use Rattle.dispatch_laws.specs.Laws.{found_by}
use Rattle.dispatch_laws.specs.Targets.{at_owner, lookup_in}
use Rattle.linked_folders.specs.Dispatch.{dispatch_name, reflective_name}
use Rattle.linked_folders.specs.Entries.{IsReflective}
use Rattle.sj_emit_help_spec.specs.Helpers.{helper_name}
use Rattle.sj_emit_help_spec.specs.Words.{bound, helper, is_name, as_name}
use Rattle.sj_emit_help_spec.specs.declared.kinds.Helper.{Helper}
use Rattle.sj_emit_help_spec.specs.declared.kinds.Helper.TheVariants as helpers
use Rattle.sj_emit_help_spec.specs.declared.kinds.Kind.{Kind}
use Rattle.sj_emit_help_spec.specs.declared.kinds.Kind.TheVariants as kinds
use Rattle.ir_mean.specs.Dispatch.{resolved}
use Rattle.js_tree.specs.Terms.{Piece}
use Rattle.js_tree.specs.declared.items.Binding.{Binding}
use Rattle.linked_folders.proofs.WrittenTrees.{written, each_written}
use Rattle.sj_emit_module_spec.specs.Laws.{IsDeclared}
use Rattle.linked_folders.proofs.Bodies.{once_in}
use Rattle.linked_folders.proofs.Brought.{Brings, followed_in, tree}
use Rattle.linked_folders.proofs.Resolves.{each_call_resolves}
use Rattle.sj_core.specs.Lookup.{Lookup}
use Rattle.sj_core.specs.Terms as core
use Rattle.sj_core.specs.declared.callees.Callee.{Callee}
use Rattle.sj_desugar_spec.specs.Desugar.{callee_of, member, desugared_member, body_code, completed, is_mutable_in, result_destination}
use Rattle.sj_emit_expr_spec.specs.Templates.{called_member, element_setter}
use Rattle.sj_emit_expr_spec.specs.Tests.{same_name}
use Rattle.sj_emit_expr_spec.specs.Uses.{call_uses, looked_up_uses, object_binding, function_binding, helper_of, test_uses, cast_uses, base_uses, type_uses, store_use, uses_of_all}
use Rattle.sj_infos.specs.Forms.{form_of, of_test, forms_by_body, of_call as form_call}
use Rattle.sj_infos.specs.Forms as of_form
use Rattle.sj_infos.specs.Infos.{asks, asked_by_body, of_static_call, of_receiver, of_base as asked_base, of_array, of_type, is_any, class_cast, negative_size}
use Rattle.sj_infos.specs.Sure.{sure_among}
use Rattle.sj_infos.specs.Trees.{trees}
use Rattle.sj_infos.specs.declared.forms.BodyForm.{BodyForm}
use Rattle.sj_infos.specs.declared.forms.BodyForm.TheVariants as forms
use Rattle.sj_infos.specs.declared.infos.Info.{Info}
use Rattle.sj_infos.specs.declared.infos.Info.TheVariants.{New, Load, Static, Field, Resolved, Class, ArrayForm}
use Rattle.sj_infos.specs.declared.infos.Info.TheVariants as asked_info
use Rattle.sj_mangling.specs.Bindings.{class_binding}
use Rattle.sj_mangling.specs.declared.bindings.ClassBinding.TheVariants.{Constants, IsInstance, AsInstance}
use Rattle.sj_names.specs.declared.entry_points.EntryPoint.{EntryPoint}
use Rattle.sj_names.specs.declared.folders.SourceFile.{SourceFile}
use Rattle.sj_names.specs.declared.method_names.Member.{Member}
use Rattle.sj_names.specs.declared.references.ArrayRef.{ArrayRef}
use Rattle.sj_names.specs.declared.references.BaseRef.{BaseRef}
use Rattle.sj_names.specs.declared.method_names.MethodName.{MethodName}
use Rattle.sj_names.specs.declared.method_names.Namespace.{Namespace}
use Rattle.sj_names.specs.declared.method_names.Namespace.TheVariants.{Public, PublicStatic, Private, PrivateStatic, Constructor}
use Rattle.sj_trees.specs.Term.{Term, Terms, assign, new_object, new_array, array_value, array_length, array_select, load_module, store_module, select, select_static, apply, apply_statically, apply_static, binary_op, is_instance_of, as_instance_of}
use Rattle.sj_trees.specs.TypeOf.{type_of_term}
use Rattle.sj_trees.specs.declared.classes.ClassDef.{ClassDef}
use Rattle.sj_trees.specs.declared.operators.BinaryOp.{BinaryOp}
use Rattle.sj_trees.specs.declared.operators.BinaryOp.TheVariants.{StrictEqual, StrictNotEqual, IntDivide, IntRemainder, LongDivide, LongRemainder}
use Rattle.sj_trees.specs.declared.positions.Position.{Position}
use Rattle.sj_trees.specs.declared.types.IrType.{IrType}
use Rattle.sj_world.specs.Known.{Name, Classes, class_of, is_hijacked}
use Rattle.sj_world.specs.Linked.{Linked}
use Rattle.sj_world.specs.Resolution.{Answer, target, abstract, missing, Resolves}
use Rattle.sj_world.specs.declared.facts.Fact.TheVariants.{Body, Made, Needed, NeededField, Called as CalledOn}
use Rattle.std.proofs.lemmas.Bool.{and_parts}
use Rattle.sure_receivers.specs.Sure.{sure_locals}
use Rattle.closed_pieces.proofs.Declared.{Declares}

module _ (entries : List EntryPoint) (files : List SourceFile) (l : Linked) (all : List EmittedMethod) (having : List Helper) (ps : List Piece) (a : IsAccepted entries files l.world) (bodies : AreBodies l.world entries all) (built : (f : EmittedMethod) → Contains all f → is_object_body f.definition f.its_body ≡ true) (d : Declares entries l having ps) (e : EmittedMethod) (i : Contains all e) (helped : (h : Helper) → Contains (piece_of_member l.world e).uses (helper (helper_name h)) → IsDeclared ps (helper (helper_name h))) (apart : (c : Name) (m : MethodName) → Reachable l.world entries (CalledOn c m) → Contains (piece_of_member l.world e).uses (helper (dispatch_name m)) → IsDeclared ps (helper (dispatch_name m))) (by_name : (m : MethodName) → IsReflective l.world l.facts m → Contains (piece_of_member l.world e).uses (helper (reflective_name m)) → IsDeclared ps (helper (reflective_name m))) (stored : (place : Position) (c : Name) (x : Term) → Contains (trees e.its_body) (store_module place c x) → IsDeclared ps (store_use c)) where
  abbrev w : Classes
  w = l.world

  abbrev runs : Lookup
  runs = lookup_in w

  abbrev used : List Binding
  used = (piece_of_member w e).uses

  -- declared, if it is used
  abbrev Q : Binding → Type 0
  Q b = Contains used b → IsDeclared ps b

  abbrev Asked : Info → Type 0
  Asked o = Reads w entries (Reachable w entries) o

  asked : (t : Term) → Contains (trees e.its_body) t → (o : Info) → Contains (asks (sure_among [] (trees e.its_body)) t) o → Asked o
  asked t among o h = record {
    member = e.member;
    needed = needed w entries all bodies e i;
    definition = e.definition;
    defined = defined w e.member e.definition (bodies.found e i).found;
    asked = subst (λ (b : Option Term). Contains (asked_by_body b) o) (sym (bodies.found e i).has_body) (in_all (asks (sure_among [] (trees e.its_body))) (trees e.its_body) t o among h);
  }

  called : (k : Member) → Asked (Static k) → IsDeclared ps (function_binding k)
  called k r = d.functions k (closed w entries (Body k) (asked_body k (of_call k r)))

  -- a class whose methods are called is there
  present : (c : Name) (m : MethodName) → Asked (Resolved c m) → IsPresent w c
  present c m r = go (class_of w c) refl
    where
      go : (o : Option ClassDef) → class_of w c ≡ o → IsPresent w c
      go None none = absurd (a.resolved (missing_class c) (no_class c (closed w entries (Needed c) (resolved_class c m r)) none))
      go (Some class) found = record { class = class; is_class = found }

  -- the target of a public member is a body, since the folder is accepted
  target_declared : (c : Name) (m : MethodName) → Asked (Resolved c m) → IsDeclared ps (function_binding (runs.target (member c Public m)))
  target_declared c m r = let call = each_call_resolves w a.world.sorted.in_order c m in go call.answer call.resolves (targets_are_worked_out w a.world.sorted.in_order c m call.answer call.resolves)
    where
      go : (o : Answer) → Resolves w c m o → resolved w c m ≡ found_by o → IsDeclared ps (function_binding (runs.target (member c Public m)))
      go (target body owner) s same = subst (λ (k : Member). IsDeclared ps (function_binding k)) (sym (ap (at_owner (member c Public m)) same)) (d.functions (member owner Public m) (closed w entries (Body (member owner Public m)) (resolved_body c m body owner r s)))
      go abstract s same = absurd (a.resolved (abstract_target (member c Public m)) (no_target_body c m r (present c m r) s))
      go missing s same = absurd (a.resolved (missing_method (member c Public m)) (no_target c m r (present c m r) s))

  -- a class on whose values a method is called is there
  called_on : (c : Name) (m : MethodName) → Asked (asked_info.Called c m) → IsPresent w c
  called_on c m r = go (class_of w c) refl
    where
      go : (o : Option ClassDef) → class_of w c ≡ o → IsPresent w c
      go None none = absurd (a.resolved (missing_class c) (no_class c (closed w entries (Needed c) (call_class c m r)) none))
      go (Some class) found = record { class = class; is_class = found }

  -- what a hijacked class decides on is a body, since the folder is accepted
  hijacked_declared : (c : Name) (m : MethodName) → is_hijacked c ≡ true → Asked (asked_info.Called c m) → IsDeclared ps (function_binding (runs.target (member c Public m)))
  hijacked_declared c m h r = let call = each_call_resolves w a.world.sorted.in_order c m in go call.answer call.resolves (targets_are_worked_out w a.world.sorted.in_order c m call.answer call.resolves)
    where
      go : (o : Answer) → Resolves w c m o → resolved w c m ≡ found_by o → IsDeclared ps (function_binding (runs.target (member c Public m)))
      go (target body owner) s same = subst (λ (k : Member). IsDeclared ps (function_binding k)) (sym (ap (at_owner (member c Public m)) same)) (d.functions (member owner Public m) (closed w entries (Body (member owner Public m)) (call_hijacked c m body owner r h s)))
      go abstract s same = absurd (a.resolved (abstract_target (member c Public m)) (no_hijacked_body c m r (called_on c m r) h s))
      go missing s same = absurd (a.resolved (missing_method (member c Public m)) (no_method c m r (called_on c m r) s))

  -- a function that tells the receivers of a method apart is declared, where one is called
  looked : (c : Name) (m : MethodName) → Reachable w entries (CalledOn c m) → (hijacked : Bool) → All Q (looked_up_uses hijacked m)
  looked c m r true = All-cons Q (object_binding (dispatch_name m)) [] (λ u. apart c m r u) (All-nil Q)
  looked c m r false = All-nil Q

  -- the body calls by a reflective name
  form_named : (m : MethodName) → m.result ≡ None → Contains (form_call m) (forms.Reflective m)
  form_named m n = subst (λ (o : Option TypeRef). Contains (if is_none o then forms.Reflective m ∷ [] else []) (forms.Reflective m)) (sym n) (here (forms.Reflective m) [])

  called_by : (t : Term) → Contains (trees e.its_body) t → (m : MethodName) → Contains (form_of t) (forms.Reflective m) → IsReflective w l.facts m
  called_by t among m its = record {
    member = e.member;
    needed = d.listed (Body e.member) (needed w entries all bodies e i);
    definition = e.definition;
    defined = defined w e.member e.definition (bodies.found e i).found;
    calls = subst (λ (b : Option Term). Contains (forms_by_body b) (forms.Reflective m)) (sym (bodies.found e i).has_body) (in_all form_of (trees e.its_body) t (forms.Reflective m) among its);
  }

  -- what is called on a receiver is declared
  applied : (p : Position) (r : Term) (m : MethodName) (ts : Terms) (t : IrType) → Contains (trees e.its_body) (apply p r m ts t) → Calls any_object (type_of_term r) m → All Q (call_uses runs (callee_of (type_of_term r) m))
  applied p r m ts t among (looks_up is) =
      let c = is.lookup.class in
      let of = of_looked_up r m c is.callee in
      subst (λ (k : Callee). All Q (call_uses runs k)) (sym is.callee) (looked c m (closed w entries (CalledOn c m) (call c m (asked (apply p r m ts t) among (asked_info.Called c m) (of.asked (sure_among [] (trees e.its_body)))) of.free)) (runs.has_hijacked c))
  applied p r m ts t among (calls_member is) =
      let c = is.direct.class in
      let of = of_hijacked r m c is.callee in
      subst (λ (k : Callee). All Q (call_uses runs k)) (sym is.callee) (All-cons Q (function_binding (runs.target (member c Public m))) [] (λ u. hijacked_declared c m of.hijacked (asked (apply p r m ts t) among (asked_info.Called c m) (of.asked (sure_among [] (trees e.its_body))))) (All-nil Q))
  applied p r m ts t among (calls_array is) = subst (λ (k : Callee). All Q (call_uses runs k)) (sym is.callee) (All-nil Q)
  applied p r m ts t among (calls_by_name is) = subst (λ (k : Callee). All Q (call_uses runs k)) (sym is.callee) (All-cons Q (object_binding (reflective_name m)) [] (λ u. by_name m (called_by (apply p r m ts t) among m (form_named m is.named)) u) (All-nil Q))

  received : (n : Namespace) (c : Name) (m : MethodName) → ((o : Info) → Contains (of_static_call c n m) o → Asked o) → IsDeclared ps (function_binding (called_member runs n (member c n m)))
  received Public c m f = target_declared c m (f (Resolved c m) (here (Resolved c m) []))
  received PublicStatic c m f = called (member c PublicStatic m) (f (Static (member c PublicStatic m)) (here (Static (member c PublicStatic m)) []))
  received Private c m f = called (member c Private m) (f (Static (member c Private m)) (here (Static (member c Private m)) []))
  received PrivateStatic c m f = called (member c PrivateStatic m) (f (Static (member c PrivateStatic m)) (here (Static (member c PrivateStatic m)) []))
  received Constructor c m f = called (member c Constructor m) (f (Static (member c Constructor m)) (here (Static (member c Constructor m)) []))

  identity : All Q (object_binding same_name ∷ [])
  identity = All-cons Q (object_binding same_name) [] (helped helpers.Equal) (All-nil Q)

  divided : (o : BinaryOp) → All Q (helper_of false o)
  divided IntDivide = All-cons Q (object_binding (codes "$id")) [] (helped helpers.IntQuotient) (All-nil Q)
  divided IntRemainder = All-cons Q (object_binding (codes "$im")) [] (helped helpers.IntRemainder) (All-nil Q)
  divided LongDivide = All-cons Q (object_binding (codes "$ld")) [] (helped helpers.LongQuotient) (All-nil Q)
  divided LongRemainder = All-cons Q (object_binding (codes "$lm")) [] (helped helpers.LongRemainder) (All-nil Q)
  divided StrictEqual = identity
  divided StrictNotEqual = identity
  divided _ = All-nil Q

  always : (o : BinaryOp) → All Q (helper_of true o)
  always StrictEqual = identity
  always StrictNotEqual = identity
  always _ = All-nil Q

  -- a form of the body is one of a needed body
  formed : (t : Term) → Contains (trees e.its_body) t → (f : BodyForm) → Contains (form_of t) f → HasForm w l.facts f
  formed t among f h = record {
    member = e.member;
    needed = d.listed (Body e.member) (needed w entries all bodies e i);
    definition = e.definition;
    defined = defined w e.member e.definition (bodies.found e i).found;
    has = subst (λ (b : Option Term). Contains (forms_by_body b) f) (sym (bodies.found e i).has_body) (in_all form_of (trees e.its_body) t f among h);
  }

  class_needed : (c : Name) → Asked (Class c) → Reachable w entries (Needed c)
  class_needed c r = closed w entries (Needed c) (class_named c r)

  test_kind : (k : Kind) → All Q (helper (is_name k) ∷ [])
  test_kind k = All-cons Q (helper (is_name k)) [] (helped (helpers.TestOf k)) (All-nil Q)

  tested : (t : IrType) → ((o : Info) → Contains (of_type t) o → Asked o) → ((f : BodyForm) → Contains (of_test t) f → HasForm w l.facts f) → All Q (test_uses t)
  tested (IrType.Class c) f g = All-cons Q (bound c (class_binding IsInstance c)) [] (λ u. d.tests c (g (forms.Test c) (here (forms.Test c) [])) (class_needed c (f (Class c) (here (Class c) [])))) (All-nil Q)
  tested (IrType.Array r) f g = All-cons Q (object_binding (codes "$isA")) [] (helped helpers.TestOfArray) (All-nil Q)
  tested IrType.Undefined f g = test_kind kinds.Undefined
  tested IrType.Boolean f g = test_kind kinds.Boolean
  tested IrType.Char f g = test_kind kinds.Char
  tested IrType.Byte f g = test_kind kinds.Byte
  tested IrType.Short f g = test_kind kinds.Short
  tested IrType.Int f g = test_kind kinds.Int
  tested IrType.Long f g = test_kind kinds.Long
  tested _ f g = test_kind kinds.Text

  cast_kind : (k : Kind) → All Q (helper (as_name k) ∷ [])
  cast_kind k = All-cons Q (helper (as_name k)) [] (helped (helpers.CastTo k)) (All-nil Q)

  casted : (t : IrType) → ((o : Info) → Contains (of_type t) o → Asked o) → ((f : BodyForm) → Contains (of_form.of_cast t) f → HasForm w l.facts f) → All Q (cast_uses t)
  casted IrType.Any f g = All-nil Q
  casted (IrType.Class c) f g = All-cons Q (bound c (class_binding AsInstance c)) [] (λ u. d.casts c (g (forms.Cast c) (here (forms.Cast c) [])) (class_needed c (f (Class c) (here (Class c) [])))) (All-nil Q)
  casted (IrType.Array r) f g = All-cons Q (object_binding (codes "$asA")) [] (helped helpers.CastToArray) (All-nil Q)
  casted IrType.Undefined f g = cast_kind kinds.Undefined
  casted IrType.Boolean f g = cast_kind kinds.Boolean
  casted IrType.Char f g = cast_kind kinds.Char
  casted IrType.Byte f g = cast_kind kinds.Byte
  casted IrType.Short f g = cast_kind kinds.Short
  casted IrType.Int f g = cast_kind kinds.Int
  casted IrType.Long f g = cast_kind kinds.Long
  casted _ f g = cast_kind kinds.Text

  -- the constants of a class that is named as the base of an array
  based : (b : BaseRef) → ((o : Info) → Contains (asked_base b) o → Asked o) → ((f : BodyForm) → Contains (of_form.of_base b) f → HasForm w l.facts f) → All Q (base_uses b)
  based (BaseRef.Class c) f g = All-cons Q (bound c (class_binding Constants c)) [] (λ u. d.bases c (g (forms.Base c) (here (forms.Base c) [])) (class_needed c (f (Class c) (here (Class c) [])))) (All-nil Q)
  based _ f g = All-nil Q

  base_asked : (r : ArrayRef) → ((o : Info) → Contains (of_array r) o → Asked o) → (o : Info) → Contains (asked_base r.base) o → Asked o
  base_asked r f o i = f o (Contains-append_left (asked_base r.base) (ArrayForm ∷ []) o i)

  of_tested : (t : IrType) → ((o : Info) → Contains (of_type t) o → Asked o) → ((f : BodyForm) → Contains (of_test t) f → HasForm w l.facts f) → All Q (type_uses t)
  of_tested (IrType.Array r) f g = based r.base (base_asked r f) g
  of_tested _ f g = All-nil Q

  of_casted : (t : IrType) → ((o : Info) → Contains (of_type t) o → Asked o) → ((f : BodyForm) → Contains (of_form.of_cast t) f → HasForm w l.facts f) → All Q (type_uses t)
  of_casted (IrType.Array r) f g = based r.base (base_asked r f) g
  of_casted _ f g = All-nil Q

  -- the helper that sets an item
  set : (t : IrType) → Q (object_binding (element_setter t))
  set IrType.Undefined = helped helpers.Set
  set IrType.Boolean = helped helpers.Set
  set IrType.Char = helped helpers.Set
  set IrType.Byte = helped helpers.Set
  set IrType.Short = helped helpers.Set
  set IrType.Int = helped helpers.Set
  set IrType.Long = helped helpers.Set
  set IrType.String = helped helpers.Set
  set IrType.Null = helped helpers.Set
  set _ = helped helpers.Put

  box : Q (object_binding (codes "$C"))
  box = helped helpers.BoxedChar

  -- a tree that is written brings what is declared
  abbrev IsBrought : Term → Type 0
  IsBrought t = Called any_object t → Brings Q runs box (sure_locals e.its_body) t

  brings : (t : Term) → Contains (trees e.its_body) t → Stands (MeetsThere w e.definition.namespace) t → IsBrought t
  brings (apply p r m ts t) among s called = (applied p r m ts t among called, λ u. helped helpers.NotNull)
  brings (apply_static p c n m ts t) among s calls = λ u. called (member c n m) (asked (apply_static p c n m ts t) among (Static (member c n m)) (here (Static (member c n m)) []))
  brings (apply_statically p r c n m ts t) among s calls = (λ u. received n c m (λ o h. asked (apply_statically p r c n m ts t) among o (Contains-append_left (of_static_call c n m) (of_receiver (sure_among [] (trees e.its_body)) r) o h)), λ u. helped helpers.NotNull)
  brings (new_object p c m ts) among s calls =
      let r = asked (new_object p c m ts) among (New c m) (here (New c m) []) in
      (λ u. d.functions (member c Constructor m) (closed w entries (Body (member c Constructor m)) (asked_body (member c Constructor m) (of_new c m r))), λ u. d.made c (closed w entries (Made c) (new_made c m r)))
  brings (select p r c f t) among s calls = λ u. helped helpers.NotNull
  brings (select_static p c f t) among s calls =
      let its = d.statics c f t s.asked (closed w entries (NeededField c f true) (field_needed c f true (asked (select_static p c f t) among (Field c f true) (here (Field c f true) [])))) in
      (λ u. its.0, λ u. its.1)
  brings (load_module p c) among s calls = λ u. d.loads c (formed (load_module p c) among (forms.Load c) (here (forms.Load c) [])) (closed w entries (Needed c) (load_needed c (asked (load_module p c) among (Load c) (here (Load c) []))))
  brings (store_module p c x) among s calls = λ u. stored p c x among
  brings (assign p (array_select q r x t) v) among s calls = set t
  brings (new_array p r x) among s calls = (helped helpers.MakeArray, based r.base (base_asked r (λ o h. asked (new_array p r x) among o (Contains-append_left (of_array r) negative_size o h))) (formed (new_array p r x) among))
  brings (array_value p r ts) among s calls = (helped helpers.ArrayClass, based r.base (base_asked r (asked (array_value p r ts) among)) (formed (array_value p r ts) among))
  brings (array_length p r) among s calls = λ u. helped helpers.NotNull
  brings (array_select p r x t) among s calls = (helped helpers.Get, λ u. helped helpers.NotNull)
  brings (is_instance_of p r t) among s calls = (tested t (asked (is_instance_of p r t) among) (formed (is_instance_of p r t) among), of_tested t (asked (is_instance_of p r t) among) (formed (is_instance_of p r t) among))
  brings (as_instance_of p r t) among s calls =
      let ask : (o : Info) → Contains (of_type t) o → Asked o = λ o h. asked (as_instance_of p r t) among o (Contains-append_left (of_type t) (if is_any t then [] else class_cast) o h) in
      (casted t ask (formed (as_instance_of p r t) among), of_casted t ask (formed (as_instance_of p r t) among))
  brings (binary_op p o x y) among s calls = (λ n. divided o, always o)
  brings t among s calls = tt

  completed_in : (n : Namespace) (ss : core.Statements) → All Q (uses_of_all runs ss) → All Q (uses_of_all runs (completed n ss))
  completed_in Constructor ss h = followed_in Q runs box ss (core.statement (core.return_of None (core.variable_use core.receiver)) core.no_statements) h (All-nil Q)
  completed_in Public ss h = h
  completed_in PublicStatic ss h = h
  completed_in Private ss h = h
  completed_in PrivateStatic ss h = h

  all_declared : All Q used
  all_declared =
      let body = e.its_body in
      let typed = a.typed e.member e.definition (needed w entries all bodies e i) (defined w e.member e.definition (bodies.found e i).found) in
      let same : typed.body ≡ body = some_same typed.body body (sym typed.has_body ∙ (bodies.found e i).has_body) in
      let stands = subst (λ (b : Term). All (Stands (MeetsThere w e.definition.namespace)) (trees b)) same (each_stands (MeetsThere w e.definition.namespace) typed.body [] 0 typed.met) in
      let brought = each_written IsBrought body (all_from IsBrought (trees body) (λ t among. brings t among (all_at (Stands (MeetsThere w e.definition.namespace)) (trees body) stands t among))) in
      let is_one = (and_parts (may_make any_object (body_boxes e.definition body)) (is_built any_object (λ t. true) body) (built e i)).1 in
      let each = with_each (Called any_object) (Brings Q runs box (sure_locals body)) (written body) brought (each_called any_object (λ t. true) body is_one) in
      once_in Q [] (uses_of_all runs (desugared_member e.definition body).body) (completed_in e.definition.namespace (body_code (is_mutable_in e.definition body) e.definition.result body) (tree Q runs box (sure_locals body) (is_mutable_in e.definition body) body each [] (result_destination e.definition.result) 1))

  pub function_uses : (b : Binding) → Contains used b → IsDeclared ps b
  function_uses b u = All-contains Q used b all_declared u u
