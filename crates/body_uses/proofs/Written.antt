-- The bodies of an accepted folder whose classes are written are built with what is written.
use Rattle.object_folders.specs.Refusals.{IsPresent, missing_class, missing_method, abstract_target, no_class, no_target, no_target_body, no_method, no_hijacked_body}
use Rattle.body_uses.proofs.Hijacked.{of_hijacked, of_looked_up, of_array}
use Rattle.object_folders.proofs.Facts.{made_told, called_told, some_call_told}
use Rattle.resolution_laws.proofs.SameNames.{method-itself}
use Rattle.object_folders.specs.Dispatch.{dispatch_name, reflective_name}
use Rattle.object_folders.specs.Pieces.{piece_of_member}
use Rattle.sj_world.specs.Resolution.{Answer, target, abstract, missing, Resolves}
use Rattle.ir_mean.specs.Dispatch.{resolved}
use Rattle.resolution_laws.proofs.Resolves.{each_call_resolves}
use Rattle.resolution_laws.specs.Laws.{HasAnswer}
use Rattle.resolution_laws.proofs.WorkedOut.{targets_are_worked_out}
use Rattle.resolution_laws.specs.DispatchLawsLaws.{found_by}
use Rattle.object_folders.specs.Targets.{at_owner, target_in, has_hijacked_in}
use Rattle.std.proofs.Common.{◌≡◌, Bool, true, false, List, [], ◌∷◌, inl, inr, Option, Some, refl, sym, subst, ◌∙◌, Contains, ap, map, None, codes, if◌then◌else◌}
use Rattle.std.specs.Prelude.{not, ◌&&◌, ◌||◌, is_none}
use Rattle.worklist.proofs.Inserted.{nothing_in}
use Rattle.std.specs.List.{All, list_any}
use Rattle.std.proofs.lemmas.Bool.{and_from, or_left}
use Rattle.std.proofs.lemmas.List.Elements.{All-head, All-tail, Contains-append_left, Contains-append_right}
use Rattle.std.proofs.lemmas.List.Folds.{list_any_at}
use Rattle.object_folders.specs.Typing.{is_built_with}
use Rattle.object_folders.specs.Built.{can_look_up, Usable, has_base, is_based, is_object_body, is_static, is_testable, has_no_value}
use Rattle.object_folders.proofs.EachTyped.{in_all}
use Rattle.object_folders.proofs.Undenied.{first_or_later}
use Rattle.sj_emit_help_spec.specs.Helpers.{helper_name}
use Rattle.sj_emit_help_spec.specs.declared.kinds.Helper.{Helper}
use Rattle.sj_emit_help_spec.specs.declared.kinds.Helper.TheVariants.{NotNull, IntQuotient, IntRemainder as IntRest, LongQuotient, LongRemainder as LongRest, BoxedChar, Equal, MakeArray, ArrayClass, Get, Set, Put, TestOf, CastTo, TestOfArray, CastToArray}
use Rattle.sj_emit_help_spec.specs.declared.kinds.Kind.{Kind}
use Rattle.sj_emit_help_spec.specs.declared.kinds.Kind.TheVariants as kinds
use Rattle.js_tree.specs.declared.items.Binding.{Binding}
use Rattle.object_folders.proofs.Derivations.{closed}
use Rattle.object_folders.specs.Reachable.{Reachable}
use Rattle.object_folders.specs.Rules.{Reads, of_call, of_new, asked_body, new_made, field_needed, resolved_class, resolved_body, call, call_class, call_hijacked, array_made}
use Rattle.sj_desugar_spec.specs.Desugar.{member}
use Rattle.sj_desugar_spec.specs.Plain.{is_no_type}
use Rattle.sj_emit_expr_spec.specs.Tests.{test_name, cast_name}
use Rattle.sj_emit_expr_spec.specs.Uses.{object_binding, function_binding, class_use, static_use, setter_use, load_use, store_use, test_uses, cast_uses, base_uses, type_uses, looked_up_uses, is_same_binding}
use Rattle.sj_infos.specs.Infos.{asks, asked_by_body, asked_in, of_receiver, of_base, of_array as asked_array, negative_size}
use Rattle.sj_infos.specs.Sure.{sure_among}
use Rattle.sj_infos.specs.Forms.{form_of, forms_in, of_base as form_base, of_call as form_call}
use Rattle.sj_infos.specs.Trees.{trees}
use Rattle.sj_infos.specs.declared.forms.BodyForm.{BodyForm}
use Rattle.sj_infos.specs.declared.forms.BodyForm.TheVariants.{Test, Cast, Base, Reflective, Load, Store}
use Rattle.sj_infos.specs.declared.infos.Info.{Info}
use Rattle.sj_infos.specs.declared.infos.Info.TheVariants.{New, Static, Field, Resolved, Called, ArrayForm}
use Rattle.object_folders.proofs.Found.{here}
use Rattle.sj_names.proofs.Same.{impossible, text-refl}
use Rattle.sj_names.specs.Same.{is_same_text}
use Rattle.sj_names.specs.WellKnown.{object}
use Rattle.sj_names.specs.declared.entry_points.EntryPoint.{EntryPoint}
use Rattle.sj_names.specs.declared.folders.SourceFile.{SourceFile}
use Rattle.sj_names.specs.declared.method_names.Member.{Member}
use Rattle.sj_names.specs.declared.method_names.MethodName.{MethodName}
use Rattle.sj_names.specs.declared.references.ArrayRef.{ArrayRef}
use Rattle.sj_names.specs.declared.references.BaseRef.{BaseRef}
use Rattle.sj_names.specs.declared.references.TypeRef.{TypeRef}
use Rattle.sj_names.specs.declared.references.TypeRef.TheVariants.{Void}
use Rattle.sj_names.specs.declared.method_names.Namespace.{Namespace}
use Rattle.sj_names.specs.declared.method_names.Namespace.TheVariants.{Public, PublicStatic, Private, PrivateStatic, Constructor}
use Rattle.object_folders.specs.EmittedMethods.{EmittedMethod}
use Rattle.object_folders.specs.Linked.{has_function}
use Rattle.sj_trees.proofs.SameTypes.{type-refl}
use Rattle.sj_trees.specs.SameTypes.{is_same_type}
use Rattle.sj_trees.specs.declared.positions.Position.{Position}
use Rattle.sj_trees.specs.Term.{Term, new_object, load_module, store_module, select, select_static, apply_statically, apply_static, binary_op, new_array, array_value, is_instance_of, as_instance_of, apply}
use Rattle.sj_trees.specs.declared.classes.ClassDef.{ClassDef}
use Rattle.sj_trees.specs.declared.operators.BinaryOp.{BinaryOp}
use Rattle.sj_trees.specs.declared.operators.BinaryOp.TheVariants.{IntDivide, IntRemainder, LongDivide, LongRemainder}
use Rattle.sj_trees.specs.declared.types.IrType.{IrType}
use Rattle.sj_trees.specs.declared.types.IrType.TheVariants.{Undefined, Boolean, Char, Byte, Short, Int, Long, String, Array, Class as IrClass}
use Rattle.sj_world.specs.Known.{Name, Classes, class_of, is_hijacked}
use Rattle.sj_world.proofs.Searches.{contains_at}
use Rattle.sj_world.specs.Subtypes.{equal, from_nothing, to_any, null_to_class, null_to_array, class_to_class, primitive_to_class, arrays_alike, arrays_of_arrays}
use Rattle.sj_world.specs.declared.facts.Fact.{Fact}
use Rattle.sj_world.specs.declared.facts.Fact.TheVariants.{Body, Made, Needed, NeededField, Called as CalledOn}
use Rattle.object_folders.specs.SjTypingSpecRules.{Fits, HasFieldType, IsStatic, OperandsFit, call_type}
use Rattle.object_folders.specs.Typed.{MeetsThere}
use Rattle.object_folders.specs.Accepted.{IsAccepted}
use Rattle.object_folders.specs.Bodies.{AreBodies}
use Rattle.object_folders.proofs.Calls.{needed}
use Rattle.object_folders.proofs.Members.{has_function-from, defined}
use Rattle.object_folders.specs.Used.{used_of, makes, calls_on, calls, uses_dispatch, tells_apart, is_among, is_its_field, has_field_in, is_its_static, has_static_in, needs_static, uses_static, uses_helper, is_reflective, is_called_by, uses_reflective, is_test_for, is_cast_to, is_load_of, is_store_of, is_base_of, is_based_on, is_tested, is_cast, is_loaded, is_stored}
use Rattle.body_uses.specs.Given.{Given, HelpersGiven, FitsDivision, HasType}
use Rattle.body_uses.specs.Laws.{used_by}
use Rattle.body_uses.specs.Written.{AreWrittenWith}
use Rattle.body_uses.proofs.Given.{given}
use Rattle.body_uses.proofs.Standing.{Stands, each_stands}

pub any_of : {X : Type 0} (p : X → Bool) (xs : List X) (x : X) → Contains xs x → p x ≡ true → list_any p xs ≡ true
any_of {X} p xs x h t = list_any_at p xs h.0 x h.1 (subst (λ (y : X). p y ≡ true) (sym h.2) t)

pub some_same : (a b : Term) → ◌≡◌ {A = Option Term} (Some a) (Some b) → a ≡ b
some_same a b e = cc

pub all_at : {X : Type 0} (P : X → Type 0) (xs : List X) → All P xs → (x : X) → Contains xs x → P x
all_at P [] h x i = nothing_in x i
all_at {X} P (y ∷ ys) h x i = elim (first_or_later y ys x i) [
  | inl same ↦ subst P same (All-head P y ys h)
  | inr after ↦ all_at P ys (All-tail P y ys h) x after
]

among_names : (names : List Name) (x : Name) → Contains names x → is_among names x ≡ true
among_names names x h = any_of (is_same_text x) names x h (text-refl x)

module _ (w : Classes) where
  int_or_none : (d : Term) → Fits w d Int → HasType Int d
  int_or_none d (equal e) = inl e
  int_or_none d (from_nothing e) = inr e
  int_or_none d (to_any e n) = absurd cc
  int_or_none d (null_to_class c e f) = absurd cc
  int_or_none d (null_to_array b e f) = absurd cc
  int_or_none d (class_to_class a b e f i) = absurd cc
  int_or_none d (primitive_to_class a b e f i) = absurd cc
  int_or_none d (arrays_alike a b e f g i) = absurd cc
  int_or_none d (arrays_of_arrays a b e f g i) = absurd cc

  long_or_none : (d : Term) → Fits w d Long → HasType Long d
  long_or_none d (equal e) = inl e
  long_or_none d (from_nothing e) = inr e
  long_or_none d (to_any e n) = absurd cc
  long_or_none d (null_to_class c e f) = absurd cc
  long_or_none d (null_to_array b e f) = absurd cc
  long_or_none d (class_to_class a b e f i) = absurd cc
  long_or_none d (primitive_to_class a b e f i) = absurd cc
  long_or_none d (arrays_alike a b e f g i) = absurd cc
  long_or_none d (arrays_of_arrays a b e f g i) = absurd cc

  divisor : (o : BinaryOp) (e d : Term) → OperandsFit w o e d → FitsDivision o d
  divisor IntDivide e d h = int_or_none d h.1
  divisor IntRemainder e d h = int_or_none d h.1
  divisor LongDivide e d h = long_or_none d h.1
  divisor LongRemainder e d h = long_or_none d h.1
  divisor _ e d h = tt

  -- a field of this type is a field of the world
  pub field_there : (c f : Name) (t : IrType) → HasFieldType w c f false t → has_field_in (class_of w c) f t ≡ true
  field_there c f t h =
      let own = h.is_field in
      let same_name : is_same_text f h.field.name ≡ true = subst (λ (x : Name). is_same_text f x ≡ true) (sym own.first.has.name_is) (text-refl f) in
      let same_type : is_same_type t h.field.tpe ≡ true = subst (λ (x : IrType). is_same_type t x ≡ true) (sym h.type_is) (type-refl t) in
      let no_mark : not h.field.is_static ≡ true = subst (λ (b : Bool). not b ≡ true) (sym own.first.has.mark_is) refl in
      subst (λ (o : Option ClassDef). has_field_in o f t ≡ true) (sym own.is_class) (any_of (is_its_field f t) own.class.fields h.field (contains_at own.class.fields own.first.place h.field own.first.stands) (and_from (not h.field.is_static) (is_same_text f h.field.name && is_same_type t h.field.tpe) no_mark (and_from (is_same_text f h.field.name) (is_same_type t h.field.tpe) same_name same_type)))

  -- and a static one is a static field of the world
  pub static_field_there : (c f : Name) (t : IrType) → HasFieldType w c f true t → has_static_in (class_of w c) f t ≡ true
  static_field_there c f t h =
      let own = h.is_field in
      let same_name : is_same_text f h.field.name ≡ true = subst (λ (x : Name). is_same_text f x ≡ true) (sym own.first.has.name_is) (text-refl f) in
      let same_type : is_same_type t h.field.tpe ≡ true = subst (λ (x : IrType). is_same_type t x ≡ true) (sym h.type_is) (type-refl t) in
      subst (λ (o : Option ClassDef). has_static_in o f t ≡ true) (sym own.is_class) (any_of (is_its_static f t) own.class.fields h.field (contains_at own.class.fields own.first.place h.field own.first.stands) (and_from h.field.is_static (is_same_text f h.field.name && is_same_type t h.field.tpe) own.first.has.mark_is (and_from (is_same_text f h.field.name) (is_same_type t h.field.tpe) same_name same_type)))

-- what gives a value names it
names_value : (r : Option TypeRef) → is_no_type (call_type r) ≡ false → not (has_no_value r) ≡ true
names_value (Some Void) h = impossible (sym h)
names_value _ h = refl

static_there : (n : Namespace) → IsStatic n → is_static n ≡ true
static_there PublicStatic h = refl
static_there PrivateStatic h = refl
static_there Public h = absurd h
static_there Private h = absurd h
static_there Constructor h = absurd h

module _ (entries : List EntryPoint) (files : List SourceFile) (w : Classes) (all : List EmittedMethod) (accepted : IsAccepted entries files w) (bodies : AreBodies w entries all) (e : EmittedMethod) (i : Contains all e) where
  -- each tree of a body that is needed meets what it has to
  pub tree_stands : (t : Term) → Contains (trees e.its_body) t → Stands (MeetsThere w e.definition.namespace) t
  tree_stands t among =
      let typed = accepted.typed e.member e.definition (needed w entries all bodies e i) (defined w e.member e.definition (bodies.found e i).found) in
      let same : typed.body ≡ e.its_body = some_same typed.body e.its_body (sym typed.has_body ∙ (bodies.found e i).has_body) in
      let stands = subst (λ (b : Term). All (Stands (MeetsThere w e.definition.namespace)) (trees b)) same (each_stands (MeetsThere w e.definition.namespace) typed.body [] 0 typed.met) in
      all_at (Stands (MeetsThere w e.definition.namespace)) (trees e.its_body) stands t among

  -- and each divisor in it is of the type that is divided
  pub divisors_fit : (p : Position) (o : BinaryOp) (a d : Term) → Contains (trees e.its_body) (binary_op p o a d) → FitsDivision o d
  divisors_fit p o a d among = divisor w o a d (tree_stands (binary_op p o a d) among).asked

module _ (entries : List EntryPoint) (files : List SourceFile) (w : Classes) (facts : List Fact) (all : List EmittedMethod) (live : List Name) (helpers : List Helper) (written : List Name) (accepted : IsAccepted entries files w) (bodies : AreBodies w entries all) (uses : AreWrittenWith w entries facts all live helpers written) (e : EmittedMethod) (i : Contains all e) (here_written : Contains written e.member.class) where
  abbrev has : Usable
  has = used_of w facts all live helpers written

  abbrev used : List Binding
  used = used_by has.lookup e.definition e.its_body

  in_written : (b : Binding) → Contains used b → is_among written b.owner ≡ true
  in_written b u = among_names written b.owner (uses.owned e i here_written b u)

  reads : (o : Info) → Contains (asked_in e.its_body) o → Reads w entries (Reachable w entries) o
  reads o h = record {
    member = e.member;
    needed = needed w entries all bodies e i;
    definition = e.definition;
    defined = defined w e.member e.definition (bodies.found e i).found;
    asked = subst (λ (b : Option Term). Contains (asked_by_body b) o) (sym (bodies.found e i).has_body) h;
  }

  asked : (t : Term) → Contains (trees e.its_body) t → (o : Info) → Contains (asks (sure_among [] (trees e.its_body)) t) o → Reads w entries (Reachable w entries) o
  asked t among o h = reads o (in_all (asks (sure_among [] (trees e.its_body))) (trees e.its_body) t o among h)

  body_there : (k : Member) → Reachable w entries (Body k) → has_function all k ≡ true
  body_there k r = has_function-from all k ((bodies.exact k).1 r)

  called : (k : Member) → Reads w entries (Reachable w entries) (Static k) → has_function all k ≡ true
  called k r = body_there k (closed w entries (Body k) (asked_body k (of_call k r)))

  in_used : (k : Member) (named : Bool) → named ≡ true → Reads w entries (Reachable w entries) (Static k) → Contains used (function_binding k) → (named && (is_among written k.class && has_function all k)) ≡ true
  in_used k named n r u = and_from named (is_among written k.class && has_function all k) n (and_from (is_among written k.class) (has_function all k) (in_written (function_binding k) u) (called k r))

  made_there : (c : Name) (m : MethodName) → has_no_value m.result ≡ true → Reads w entries (Reachable w entries) (New c m) → Contains used (function_binding (member c Constructor m)) → Contains used (class_use c) → (has.built (member c Constructor m) ≡ true) × (has.made c ≡ true)
  made_there c m v r f u =
      let k : Member = member c Constructor m in
      let own = body_there k (closed w entries (Body k) (asked_body k (of_new c m r))) in
      let is_made = (uses.are_facts (Made c)).1 (closed w entries (Made c) (new_made c m r)) in
      (and_from (has_no_value m.result) (is_among written c && has_function all k) v (and_from (is_among written c) (has_function all k) (in_written (function_binding k) f) own), and_from (is_among written c) (list_any (makes c) facts) (in_written (class_use c) u) (made_told facts c is_made))

  -- a static field is there where its class is written
  static_given : (c f : Name) (t : IrType) → HasFieldType w c f true t → Reads w entries (Reachable w entries) (Field c f true) → is_among written c ≡ true → uses_static w facts written c f t ≡ true
  static_given c f t h r here =
      let needed_there = (uses.are_facts (NeededField c f true)).1 (closed w entries (NeededField c f true) (field_needed c f true r)) in
      let needs = any_of (needs_static c f) facts (NeededField c f true) needed_there (and_from (is_same_text c c) (is_same_text f f) (text-refl c) (text-refl f)) in
      and_from (is_among written c) (list_any (needs_static c f) facts && has_static_in (class_of w c) f t) here (and_from (list_any (needs_static c f) facts) (has_static_in (class_of w c) f t) needs (static_field_there w c f t h))

  -- a class whose methods are called is there
  present : (c : Name) (m : MethodName) → Reads w entries (Reachable w entries) (Resolved c m) → IsPresent w c
  present c m r = go (class_of w c) refl
    where
      go : (o : Option ClassDef) → class_of w c ≡ o → IsPresent w c
      go None none = absurd (accepted.resolved (missing_class c) (no_class c (closed w entries (Needed c) (resolved_class c m r)) none))
      go (Some class) found = record { class = class; is_class = found }

  -- the target of a public member is there where its function is used: it is a body, since the folder is accepted
  target_there : (c : Name) (m : MethodName) → Reads w entries (Reachable w entries) (Resolved c m) → Contains used (function_binding (target_in w (member c Public m))) → has.received (target_in w (member c Public m)) ≡ true
  target_there c m r u = go call.answer call.resolves (targets_are_worked_out w accepted.world.sorted.in_order c m call.answer call.resolves)
    where
      call : HasAnswer w c m
      call = each_call_resolves w accepted.world.sorted.in_order c m

      go : (a : Answer) → Resolves w c m a → resolved w c m ≡ found_by a → has.received (target_in w (member c Public m)) ≡ true
      go (target d owner) s same =
          let k : Member = member owner Public m in
          let is : target_in w (member c Public m) ≡ k = ap (at_owner (member c Public m)) same in
          subst (λ (o : Member). has.received o ≡ true) (sym is) (and_from (is_among written owner) (has_function all k) (in_written (function_binding k) (subst (λ (o : Member). Contains used (function_binding o)) is u)) (body_there k (closed w entries (Body k) (resolved_body c m d owner r s))))
      go abstract s same = absurd (accepted.resolved (abstract_target (member c Public m)) (no_target_body c m r (present c m r) s))
      go missing s same = absurd (accepted.resolved (missing_method (member c Public m)) (no_target c m r (present c m r) s))

  -- a class on whose values a method is called is there
  called_there : (c : Name) (m : MethodName) → Reads w entries (Reachable w entries) (Called c m) → IsPresent w c
  called_there c m r = go (class_of w c) refl
    where
      go : (o : Option ClassDef) → class_of w c ≡ o → IsPresent w c
      go None none = absurd (accepted.resolved (missing_class c) (no_class c (closed w entries (Needed c) (call_class c m r)) none))
      go (Some class) found = record { class = class; is_class = found }

  -- what a hijacked class decides on is there where its function is used: it is a body, since the folder is accepted
  hijacked_there : (c : Name) (m : MethodName) → is_hijacked c ≡ true → Reads w entries (Reachable w entries) (Called c m) → Contains used (function_binding (target_in w (member c Public m))) → has.received (target_in w (member c Public m)) ≡ true
  hijacked_there c m h r u = go call.answer call.resolves (targets_are_worked_out w accepted.world.sorted.in_order c m call.answer call.resolves)
    where
      call : HasAnswer w c m
      call = each_call_resolves w accepted.world.sorted.in_order c m

      go : (a : Answer) → Resolves w c m a → resolved w c m ≡ found_by a → has.received (target_in w (member c Public m)) ≡ true
      go (target d owner) s same =
          let k : Member = member owner Public m in
          let is : target_in w (member c Public m) ≡ k = ap (at_owner (member c Public m)) same in
          subst (λ (o : Member). has.received o ≡ true) (sym is) (and_from (is_among written owner) (has_function all k) (in_written (function_binding k) (subst (λ (o : Member). Contains used (function_binding o)) is u)) (body_there k (closed w entries (Body k) (call_hijacked c m d owner r h s))))
      go abstract s same = absurd (accepted.resolved (abstract_target (member c Public m)) (no_hijacked_body c m r (called_there c m r) h s))
      go missing s same = absurd (accepted.resolved (missing_method (member c Public m)) (no_method c m r (called_there c m r) s))

  -- a written method uses what this one does
  written_use : (b : Binding) → Contains used b → list_any (λ (m : EmittedMethod). is_among written m.member.class && list_any (is_same_binding b) (piece_of_member w m).uses) all ≡ true
  written_use b u =
      let same : is_same_binding b b ≡ true = and_from (is_same_text b.owner b.owner) (is_same_text b.name b.name) (text-refl b.owner) (text-refl b.name) in
      any_of (λ (m : EmittedMethod). is_among written m.member.class && list_any (is_same_binding b) (piece_of_member w m).uses) all e i (and_from (is_among written e.member.class) (list_any (is_same_binding b) (piece_of_member w e).uses) (among_names written e.member.class here_written) (any_of (is_same_binding b) (piece_of_member w e).uses b u same))

  -- a method that is looked up is there: it is called on its class, and where a hijacked class stands there or below, its receivers are told apart
  looked_there : (c : Name) (m : MethodName) → is_hijacked c ≡ false → Reads w entries (Reachable w entries) (Called c m) → All (Contains used) (looked_up_uses (has_hijacked_in w c) m) → can_look_up has c m ≡ true
  looked_there c m free r u = go (has_hijacked_in w c) refl u
    where
      fact : Contains facts (CalledOn c m)
      fact = (uses.are_facts (CalledOn c m)).1 (closed w entries (CalledOn c m) (call c m r free))

      looks : (b d : Bool) → (not b || d) ≡ true → (d || not b) ≡ true → has_hijacked_in w c ≡ b → tells_apart w facts all written m ≡ d → can_look_up has c m ≡ true
      looks b d one other e f = and_from (has.looked_up c m) (has.dispatched m || not (has.lookup.has_hijacked c))
          (and_from (list_any (calls_on c m) facts) (not (has_hijacked_in w c) || tells_apart w facts all written m) (called_told facts c m fact) (subst (λ (x : Bool). (not x || tells_apart w facts all written m) ≡ true) (sym e) (subst (λ (x : Bool). (not b || x) ≡ true) (sym f) one)))
          (subst (λ (x : Bool). (tells_apart w facts all written m || not x) ≡ true) (sym e) (subst (λ (x : Bool). (x || not b) ≡ true) (sym f) other))

      told : All (Contains used) (looked_up_uses true m) → tells_apart w facts all written m ≡ true
      told v =
          let b = object_binding (dispatch_name m) in
          and_from (list_any (calls m) facts) (list_any (uses_dispatch w written m) all) (some_call_told facts c m fact) (written_use b (All-head (Contains used) b [] v))

      by_property : (d : Bool) → tells_apart w facts all written m ≡ d → has_hijacked_in w c ≡ false → can_look_up has c m ≡ true
      by_property true f e = looks false true refl refl e f
      by_property false f e = looks false false refl refl e f

      go : (b : Bool) → has_hijacked_in w c ≡ b → All (Contains used) (looked_up_uses b m) → can_look_up has c m ≡ true
      go true e v = looks true true refl refl e (told v)
      go false e v = by_property (tells_apart w facts all written m) refl e

  -- a method that is called on arrays is called in the class of all objects
  on_arrays_there : (m : MethodName) → Reads w entries (Reachable w entries) (Called object m) → has.on_arrays m ≡ true
  on_arrays_there m r = called_told facts object m ((uses.are_facts (CalledOn object m)).1 (closed w entries (CalledOn object m) (call object m r refl)))

  -- a helper by its name
  helper_there : (h : Helper) → Contains used (object_binding (helper_name h)) → has.helper (helper_name h) ≡ true
  helper_there h u = and_from (is_among written object) (list_any (λ (g : Helper). is_same_text (helper_name h) (helper_name g)) helpers) (in_written (object_binding (helper_name h)) u) (any_of (λ (g : Helper). is_same_text (helper_name h) (helper_name g)) helpers h (uses.helped e i here_written h u) (text-refl (helper_name h)))

  is_helper : (h : Helper) (x : Name) → helper_name h ≡ x → Contains used (object_binding x) → has.helper x ≡ true
  is_helper h x same u = subst (λ (y : Name). has.helper y ≡ true) same (helper_there h (subst (λ (y : Name). Contains used (object_binding y)) (sym same) u))

  -- a body that is needed has each form of its trees
  has_form : (t : Term) (f : BodyForm) (test : BodyForm → Bool) → Contains (trees e.its_body) t → Contains (form_of t) f → test f ≡ true → list_any (λ (m : EmittedMethod). list_any test (forms_in m.its_body)) all ≡ true
  has_form t f test among its passes = any_of (λ (m : EmittedMethod). list_any test (forms_in m.its_body)) all e i (any_of test (forms_in e.its_body) f (in_all form_of (trees e.its_body) t f among its) passes)

  -- the function of a reflective name is there, where a tree calls by the name and its function is used
  named_there : (t : Term) (m : MethodName) → Contains (trees e.its_body) t → Contains (form_of t) (Reflective m) → All (Contains used) (object_binding (reflective_name m) ∷ []) → has.reflected m ≡ true
  named_there t m among its u =
      let b = object_binding (reflective_name m) in
      and_from (is_called_by all m) (list_any (uses_reflective w written m) all) (has_form t (Reflective m) (is_reflective m) among its (method-itself m)) (written_use b (All-head (Contains used) b [] u))

  form_named : (m : MethodName) → m.result ≡ None → Contains (form_call m) (Reflective m)
  form_named m n = subst (λ (o : Option TypeRef). Contains (if is_none o then Reflective m ∷ [] else []) (Reflective m)) (sym n) (here (Reflective m) [])

  first_used : (b : Binding) (bs : List Binding) → All (Contains used) (b ∷ bs) → Contains used b
  first_used b bs u = All-head (Contains used) b bs u

  kind_tested : (t : IrType) (k : Kind) → test_name t ≡ helper_name (TestOf k) → Contains used (object_binding (test_name t)) → uses_helper helpers written (test_name t) ≡ true
  kind_tested t k same u = subst (λ (x : Name). uses_helper helpers written x ≡ true) (sym same) (helper_there (TestOf k) (subst (λ (x : Name). Contains used (object_binding x)) same u))

  kind_cast : (t : IrType) (k : Kind) → cast_name t ≡ helper_name (CastTo k) → Contains used (object_binding (cast_name t)) → uses_helper helpers written (cast_name t) ≡ true
  kind_cast t k same u = subst (λ (x : Name). uses_helper helpers written x ≡ true) (sym same) (helper_there (CastTo k) (subst (λ (x : Name). Contains used (object_binding x)) same u))

  -- a test, by the helper of its kind or the function of its class
  test_given : (p : Position) (d : Term) (t : IrType) → Contains (trees e.its_body) (is_instance_of p d t) → is_testable t ≡ true → All (Contains used) (test_uses t) → has.tests t ≡ true
  test_given p d (IrClass c) among h u = and_from (is_among written c) (is_tested all c || is_cast all c) (in_written (record { owner = c; name = test_name (IrClass c) }) (first_used (record { owner = c; name = test_name (IrClass c) }) [] u)) (or_left (is_tested all c) (is_cast all c) (has_form (is_instance_of p d (IrClass c)) (Test c) (is_test_for c) among (here (Test c) []) (text-refl c)))
  test_given p d (Array r) among h u = helper_there TestOfArray (first_used (object_binding (test_name (Array r))) [] u)
  test_given p d Undefined among h u = kind_tested Undefined kinds.Undefined refl (first_used (object_binding (test_name Undefined)) [] u)
  test_given p d Boolean among h u = kind_tested Boolean kinds.Boolean refl (first_used (object_binding (test_name Boolean)) [] u)
  test_given p d Char among h u = kind_tested Char kinds.Char refl (first_used (object_binding (test_name Char)) [] u)
  test_given p d Byte among h u = kind_tested Byte kinds.Byte refl (first_used (object_binding (test_name Byte)) [] u)
  test_given p d Short among h u = kind_tested Short kinds.Short refl (first_used (object_binding (test_name Short)) [] u)
  test_given p d Int among h u = kind_tested Int kinds.Int refl (first_used (object_binding (test_name Int)) [] u)
  test_given p d Long among h u = kind_tested Long kinds.Long refl (first_used (object_binding (test_name Long)) [] u)
  test_given p d String among h u = kind_tested String kinds.Text refl (first_used (object_binding (test_name String)) [] u)
  test_given p d _ among h u = impossible h

  -- and a cast
  cast_given : (p : Position) (d : Term) (t : IrType) → Contains (trees e.its_body) (as_instance_of p d t) → is_testable t ≡ true → All (Contains used) (cast_uses t) → has.casts t ≡ true
  cast_given p d (IrClass c) among h u = and_from (is_among written c) (is_cast all c) (in_written (record { owner = c; name = cast_name (IrClass c) }) (first_used (record { owner = c; name = cast_name (IrClass c) }) [] u)) (has_form (as_instance_of p d (IrClass c)) (Cast c) (is_cast_to c) among (here (Cast c) []) (text-refl c))
  cast_given p d (Array r) among h u = helper_there CastToArray (first_used (object_binding (cast_name (Array r))) [] u)
  cast_given p d Undefined among h u = kind_cast Undefined kinds.Undefined refl (first_used (object_binding (cast_name Undefined)) [] u)
  cast_given p d Boolean among h u = kind_cast Boolean kinds.Boolean refl (first_used (object_binding (cast_name Boolean)) [] u)
  cast_given p d Char among h u = kind_cast Char kinds.Char refl (first_used (object_binding (cast_name Char)) [] u)
  cast_given p d Byte among h u = kind_cast Byte kinds.Byte refl (first_used (object_binding (cast_name Byte)) [] u)
  cast_given p d Short among h u = kind_cast Short kinds.Short refl (first_used (object_binding (cast_name Short)) [] u)
  cast_given p d Int among h u = kind_cast Int kinds.Int refl (first_used (object_binding (cast_name Int)) [] u)
  cast_given p d Long among h u = kind_cast Long kinds.Long refl (first_used (object_binding (cast_name Long)) [] u)
  cast_given p d String among h u = kind_cast String kinds.Text refl (first_used (object_binding (cast_name String)) [] u)
  cast_given p d _ among h u = impossible h

  -- a class that a tree names as the base of arrays is written
  base_given : (t : Term) (b : BaseRef) → Contains (trees e.its_body) t → ((f : BodyForm) → Contains (form_base b) f → Contains (form_of t) f) → All (Contains used) (base_uses b) → has_base has b ≡ true
  base_given t (BaseRef.Class c) among its u = and_from (is_among written c) (is_based_on all c) (in_written _ (first_used _ [] u)) (has_form t (Base c) (is_base_of c) among (its (Base c) (here (Base c) [])) (text-refl c))
  base_given t _ among its u = refl

  test_based : (p : Position) (d : Term) (t : IrType) → Contains (trees e.its_body) (is_instance_of p d t) → All (Contains used) (type_uses t) → is_based has t ≡ true
  test_based p d (Array r) among u = base_given (is_instance_of p d (Array r)) r.base among (λ f i. i) u
  test_based p d _ among u = refl

  cast_based : (p : Position) (d : Term) (t : IrType) → Contains (trees e.its_body) (as_instance_of p d t) → All (Contains used) (type_uses t) → is_based has t ≡ true
  cast_based p d (Array r) among u = base_given (as_instance_of p d (Array r)) r.base among (λ f i. i) u
  cast_based p d _ among u = refl

  -- arrays can be made where a body asks for them and a helper of `java.lang.Object` makes them
  arrays_given : (x : Name) → Reads w entries (Reachable w entries) ArrayForm → Contains used (object_binding x) → has.arrays ≡ true
  arrays_given x r u = and_from (is_among written object) (list_any (makes object) facts) (in_written (object_binding x) u) (made_told facts object ((uses.are_facts (Made object)).1 (closed w entries (Made object) (array_made r))))

  form_asked : (r : ArrayRef) → Contains (asked_array r) ArrayForm
  form_asked r = Contains-append_right (of_base r.base) (ArrayForm ∷ []) ArrayForm (here ArrayForm [])

  tree_given : (t : Term) → Contains (trees e.its_body) t → Stands (MeetsThere w e.definition.namespace) t → Given has used t
  tree_given (apply_static p c n m ts t) among s = λ u. in_used (member c n m) (is_static n) (static_there n s.asked.0) (asked (apply_static p c n m ts t) among (Static (member c n m)) (here (Static (member c n m)) [])) u
  tree_given (apply p d m ts t) among s = (λ c same u. let of = of_hijacked d m c same in hijacked_there c m of.hijacked (asked (apply p d m ts t) among (Called c m) (of.asked (sure_among [] (trees e.its_body)))) u, (λ c same h u. let of = of_looked_up d m c same in looked_there c m of.free (asked (apply p d m ts t) among (Called c m) (of.asked (sure_among [] (trees e.its_body)))) u, (λ same. on_arrays_there m (asked (apply p d m ts t) among (Called object m) (of_array d m s.asked.0 same (sure_among [] (trees e.its_body)))), λ n u. named_there (apply p d m ts t) m among (form_named m n) u)))
  tree_given (apply_statically p d c Private m ts t) among s = λ u. in_used (member c Private m) true refl (asked (apply_statically p d c Private m ts t) among (Static (member c Private m)) (here (Static (member c Private m)) (of_receiver (sure_among [] (trees e.its_body)) d))) u
  tree_given (apply_statically p d c Constructor m ts t) among s = let r = asked (apply_statically p d c Constructor m ts t) among (Static (member c Constructor m)) (here (Static (member c Constructor m)) (of_receiver (sure_among [] (trees e.its_body)) d)) in (λ v u. in_used (member c Constructor m) (has_no_value m.result) v r u, λ value u. in_used (member c Constructor m) (not (has_no_value m.result)) (names_value m.result (sym (ap is_no_type s.asked.1) ∙ value)) r u)
  tree_given (apply_statically p d c Public m ts t) among s = λ u. target_there c m (asked (apply_statically p d c Public m ts t) among (Resolved c m) (here (Resolved c m) (of_receiver (sure_among [] (trees e.its_body)) d))) u
  tree_given (apply_statically p d c PublicStatic m ts t) among s = tt
  tree_given (apply_statically p d c PrivateStatic m ts t) among s = tt
  tree_given (new_object p c m ts) among s = λ v f u. made_there c m v (asked (new_object p c m ts) among (New c m) (here (New c m) [])) f u
  tree_given (select p d c f t) among s = field_there w c f t s.asked.1
  tree_given (select_static p c f t) among s =
      let there = static_given c f t s.asked (asked (select_static p c f t) among (Field c f true) (here (Field c f true) [])) in
      (λ u. there (in_written (static_use c f) u), λ u. there (in_written (setter_use c f) u))
  tree_given (load_module p c) among s = λ u. and_from (is_among written c) (is_loaded all c) (in_written (load_use c) u) (has_form (load_module p c) (Load c) (is_load_of c) among (here (Load c) []) (text-refl c))
  tree_given (store_module p c d) among s = λ u. and_from (is_among written c) (is_stored all c) (in_written (store_use c) u) (has_form (store_module p c d) (Store c) (is_store_of c) among (here (Store c) []) (text-refl c))
  tree_given (new_array p r d) among s =
      let reads = asked (new_array p r d) among ArrayForm (Contains-append_left (asked_array r) negative_size ArrayForm (form_asked r)) in
      (arrays_given (codes "$mk") reads, λ h u. base_given (new_array p r d) r.base among (λ f i. i) u)
  tree_given (array_value p r ts) among s =
      let reads = asked (array_value p r ts) among ArrayForm (form_asked r) in
      (arrays_given (codes "$A") reads, λ h u. base_given (array_value p r ts) r.base among (λ f i. i) u)
  tree_given (is_instance_of p d t) among s = (test_given p d t among, λ h u. test_based p d t among u)
  tree_given (as_instance_of p d t) among s = (cast_given p d t among, λ h u. cast_based p d t among u)
  tree_given (binary_op p o a b) among s = divisor w o a b s.asked
  tree_given t among s = tt

  named_in : (hs : List Helper) (x : Name) → Contains (map helper_name hs) x → (h : Helper) × (helper_name h ≡ x)
  named_in [] x among = nothing_in x among
  named_in (h ∷ hs) x among = elim (first_or_later (helper_name h) (map helper_name hs) x among) [
    | inl same ↦ (h, same)
    | inr more ↦ named_in hs x more
  ]

  helpers_given : HelpersGiven has used
  helpers_given x among u = let its = named_in (NotNull ∷ IntQuotient ∷ IntRest ∷ LongQuotient ∷ LongRest ∷ BoxedChar ∷ Equal ∷ MakeArray ∷ ArrayClass ∷ Get ∷ Set ∷ Put ∷ []) x among in is_helper its.0 x its.1 u

  pub body_built : is_object_body e.definition e.its_body ≡ true → is_built_with has e.definition e.its_body ≡ true
  body_built k = given has e.definition e.its_body refl k helpers_given (λ t among. tree_given t among (tree_stands entries files w all accepted bodies e i t among))
