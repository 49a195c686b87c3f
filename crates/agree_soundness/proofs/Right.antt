-- A body that keeps the rules is never wrong by the IR; what it gives or throws is of its type, and each object keeps its class, with fields of their
-- types.
use Rattle.std.proofs.Common.{◌≡◌, ℕ, zero, suc, arith, codes, ◌++◌, ◌&&◌, ◌||◌, Bool, true, false, List, [], ◌∷◌, Some, None, Option, refl, sym, ap, ◌∙◌, subst, ◌⊎◌, inl, inr, ⊎_elim, if◌then◌else◌}
use Rattle.std.specs.Prelude.{nat_eq, slice_get, set, length, replicate, ◌==◌, ◌≤◌, is_some, not, ℤ, pos, negsuc}
use Rattle.std.proofs.lemmas.Bool.{and_parts, or_right}
use Rattle.std.specs.Cmp.Lexicographic.{pointwise}
use Rattle.std.specs.List.{list_any}
use Rattle.std.specs.Ordering.{int_eq}
use Rattle.outcomes.specs.Outcome.{Lines, End, Done, Going, Wrong, Out, wrong, then_do, after}
use Rattle.dispatch_laws.proofs.OwnTargets.{own_target}
use Rattle.dispatch_laws.specs.Dispatch.{chain_of, is_ancestor_of_any}
use Rattle.dispatch_laws.specs.Meaning as ir_meaning
use Rattle.dispatch_laws.specs.Operators.{Answer, answers, unary_value, binary_value}
use Rattle.dispatch_laws.specs.States as ir
use Rattle.dispatch_laws.proofs.NeverNull.{null_or_given}
use Rattle.sure_receivers.specs.Sure.{is_sure_type, is_sure, Definition, definitions, definitions_in, definitions_of_cases, sure_locals}
use Rattle.agree_soundness.proofs.Heaps.{get-end, get-front, not-past, get-set, get-set_other, set-each, replicate-each, get-below}
use Rattle.agree_soundness.proofs.Instances.{IsObject, an_object, IsArrayAt, array_at, tested_type, test_type}
use Rattle.agree_soundness.proofs.Sured.{Sured, sured-parts, sure-named, body-sured}
use Rattle.dispatch_laws.specs.Targets.{IsTargetOf}
use Rattle.agree_soundness.specs.Laws.{IsClassBelow, made_below, kind_below, Answers, AnswersByName, no_method, has_method, null_pointer, arithmetic, class_cast, out_of_bounds, array_store, negative_size, CanRaise, by_cast, by_item, by_call, ObjectLaws}
use Rattle.dispatch_laws.specs.World.{World, class_of, method_among, method_in, member_of, class_of_value, stored_class, is_instance, is_small_number, is_of_type, type_text, units_of, zeros_in, zero_of, new_fields}
use Rattle.agree_early_errors.specs.Desugar.{member, has_no_value}
use Rattle.agree_early_errors.proofs.Direct.{Applied, directly, by_lookup, on_array, by_name, applied}
use Rattle.dispatch_laws.proofs.HijackedCalls.{hijacked_call, takes_any}
use Rattle.dispatch_laws.proofs.LookedUpCalls.{calls_instance, takes_instances}
use Rattle.dispatch_laws.specs.Templates.{check_name, called_member}
use Rattle.agree_early_errors.specs.Plain.{is_no_type}
use Rattle.sj_names.specs.Same.{is_same_text, is_same_namespace, is_same_method}
use Rattle.sj_names.specs.MethodNames.{spelled_method}
use Rattle.sj_names.specs.declared.method_names.MethodName.{MethodName}
use Rattle.sj_names.specs.declared.method_names.Namespace.{Namespace}
use Rattle.sj_names.specs.declared.method_names.Namespace.TheVariants.{Constructor}
use Rattle.sj_names.specs.declared.method_names.Member.{Member}
use Rattle.sj_names.specs.declared.references.ArrayRef.{ArrayRef}
use Rattle.sj_names.specs.declared.references.TypeRef.{TypeRef}
use Rattle.sj_trees.specs.Term.{Term, Terms, no_terms, more_terms, Cases, no_cases, more_cases, var_def, skip, block_of, labeled, assign, return_to, if_then, while_loop, do_while, throw, try_catch, try_finally, match_on, new_object, new_array, array_value, array_length, array_select, load_module, select, select_static, apply, apply_statically, apply_static, unary_op, binary_op, is_instance_of, as_instance_of, undefined_literal, null_literal, boolean_literal, char_literal, byte_literal, short_literal, int_literal, long_literal, string_literal, var_ref, this_ref, log_line, store_module}
use Rattle.sj_trees.specs.TypeOf.{type_of_term, type_of_last, loop_type, unary_result, binary_result}
use Rattle.sj_trees.specs.Types.{class_type, reference_type, element_type}
use Rattle.sj_trees.specs.declared.classes.ClassDef.{ClassDef}
use Rattle.sj_trees.specs.declared.classes.MethodDef.{MethodDef}
use Rattle.sj_trees.specs.declared.classes.ParamDef.{ParamDef}
use Rattle.sj_trees.specs.declared.operators.BinaryOp.{BinaryOp}
use Rattle.sj_trees.specs.declared.positions.Position.{Position}
use Rattle.sj_trees.specs.declared.types.IrType.{IrType}
use Rattle.sj_trees.specs.declared.types.IrType.TheVariants.{Any, Class, Array, Undefined, Null, Boolean, Byte, Short, Int, String, NoType, Nothing, Char, Long}
use Rattle.agree_early_errors.specs.Rules.{AllFit, IsArray, IsStatic, IsReceiver, ArgumentsFit, Yields, nothing_wanted, fitting, unary_operand, left_operand, right_operand, IsText as IsJoined}
use Rattle.agree_early_errors.specs.Operators.{IsDivision, a_quotient, a_remainder, IsLongDivision, a_long_quotient, a_long_remainder, DividesBy, by_int, by_long}
use Rattle.agree_early_errors.proofs.Statics.{read_static, set_static, load_cell}
use Rattle.agree_early_errors.specs.Built.{Usable, has_static, has_cell, has_base, is_based, can_cast, can_put, are_countable}
use Rattle.agree_early_errors.proofs.Arrays.{items-of, element-value}
use Rattle.agree_soundness.proofs.Arrays.{is_open, setter_kind, stored_lowest, elements_below, elements_same}
use Rattle.agree_early_errors.specs.Standing.{is_bare, is_array_type, call_type}
use Rattle.agree_early_errors.specs.Typing.{RunsOnObject, HasDimensions, AreDimensions, AllHaveValues, may_check, IsTrueLiteral, true_literal, Scene, behind, catching, in_label, Typed, TypedBlock, TypedAll, TypedCases}
use Rattle.agree_early_errors.specs.Locals.{Own, OwnAll, OwnCases, IsParameter, local_of, HasValue, HaveValues}
use Rattle.agree_early_errors.proofs.Equal.{is-equal}
use Rattle.sj_names.proofs.Same.{impossible, text-same, namespace-same}
use Rattle.agree_soundness.specs.Rules.{RightMember}
use Rattle.agree_early_errors.specs.Methods.{HaveTypes, scene_of}
use Rattle.agree_early_errors.specs.Subtyping.{is_lowest, IsSubtyping}
use Rattle.agree_early_errors.proofs.RulesGive.{class_has_value, Takes, its_types, texts, of_division, of_identity, operation}
use Rattle.agree_early_errors.proofs.Around.{type_inside}
use Rattle.dispatch_laws.specs.Ancestors.{by_path}
use Rattle.dispatch_laws.specs.Known as known
use Rattle.dispatch_laws.specs.Known.{is_hijacked, object}
use Rattle.dispatch_laws.specs.Paths.{stay}
use Rattle.dispatch_laws.specs.Subtypes.{IsSub, hijacked_class, to_any, null_to_class, null_to_array, primitive_to_class}
use Rattle.agree_early_errors.proofs.Topped.{string_class}
use Rattle.agree_early_errors.specs.Labels.{type_of_label}
use Rattle.agree_early_errors.proofs.Locals.{local-there, values-behind}
use Rattle.agree_early_errors.proofs.Fitting.{value-not, true-or-none, unary-operand-value, left-operand-value, right-operand-value, not_no_type, cast-value}
use Rattle.agree_soundness.proofs.Values.{Classes, Adds, adds-refl, adds-trans, type-lift, HasType, has_type, of_undefined, of_null, of_boolean, of_byte, of_short, of_int, of_text, IsBoolean, a_boolean, IsNumber, a_number, IsText, a_text, wider, as_boolean, as_int, as_text, Gives, some_of, unary_gives, binary_gives, identity_gives, division_gives, divided_gives, of_char, of_long, as_long, join_gives, long_division_gives, of_object, of_array, of_any_array, of_any, no_nothing, IsArrayOf, an_array, as_array, primitive_full, Sort, is_null, is_object, is_array, is_primitive, sort_of}

-- not wrong, and where it is done, with what P says
abbrev pub Comes : {A : Type 0} → (A → Type 0) → End A → Type 0
Comes P (Done a) = P a
Comes P Going = Unit {0}
Comes P Wrong = ⊥

-- what follows from P may stand in its place
comes_weaken : {A : Type 0} (P Q : A → Type 0) (e : End A) → ((a : A) → P a → Q a) → Comes P e → Comes Q e
comes_weaken P Q (Done a) f h = f a h
comes_weaken P Q Going f h = h
comes_weaken P Q Wrong f h = h

comes_after : {A B : Type 0} (P : A → Type 0) (Q : B → Type 0) (l : Lines) (e : End A) (f : A → Out B) → Comes P e → ((a : A) → P a → Comes Q (f a).end) → Comes Q (after l e f).end
comes_after P Q l (Done a) f h k = k a h
comes_after P Q l Going f h k = tt
comes_after P Q l Wrong f h k = absurd h

pub comes_then : {A B : Type 0} (P : A → Type 0) (Q : B → Type 0) (o : Out A) (f : A → Out B) → Comes P o.end → ((a : A) → P a → Comes Q (f a).end) → Comes Q (then_do o f).end
comes_then P Q o f h k = comes_after P Q o.lines o.end f h k

-- it doesn't hold null
abbrev pub NeverNull : Option ir.Value → Type 0
NeverNull o = o ≡ Some ir.null → ⊥

-- a class that isn't hijacked isn't that of texts
not_bare : (c : List ℕ) → is_hijacked c ≡ false → is_bare (Class c) ≡ false
not_bare c free = go (is_bare (Class c)) refl
  where
    go : (b : Bool) → is_bare (Class c) ≡ b → is_bare (Class c) ≡ false
    go false e = e
    go true e = impossible (sym free ∙ subst (λ (n : List ℕ). is_hijacked n ≡ true) (sym (text-same c (codes "java.lang.String") e)) refl)

some_same : (v a : ir.Value) → ◌≡◌ {A = Option ir.Value} (Some v) (Some a) → v ≡ a
some_same v a e = cc

result-same : (t : IrType) (v : ir.Value) → is_no_type t ≡ false → ir_meaning.result_value t v ≡ v
result-same NoType v h = impossible (sym h)
result-same t v h = refl

or_true : (b : Bool) → (b || true) ≡ true
or_true true = refl
or_true false = refl

-- a method that is found has the namespace that it is looked for in
namespace_among : (ds : List MethodDef) (n : Namespace) (m : MethodName) (d : MethodDef) → method_among ds n m ≡ Some d → d.namespace ≡ n
namespace_among [] n m d e = impossible (cc)
namespace_among (x ∷ xs) n m d e = go (is_same_namespace n x.namespace && is_same_method m x.name) refl e (namespace_among xs n m d)
  where
    go : (b : Bool) → (is_same_namespace n x.namespace && is_same_method m x.name) ≡ b → (if b then Some x else method_among xs n m) ≡ Some d → (method_among xs n m ≡ Some d → d.namespace ≡ n) → d.namespace ≡ n
    go true k f later = let same : x ≡ d = cc in subst (λ (z : MethodDef). z.namespace ≡ n) same (sym (namespace-same n x.namespace (and_parts (is_same_namespace n x.namespace) (is_same_method m x.name) k).0))
    go false k f later = later f

namespace_found : (w : World) (c : List ℕ) (n : Namespace) (m : MethodName) (d : MethodDef) → member_of w c n m ≡ Some d → d.namespace ≡ n
namespace_found w c n m d e = go (class_of w c) e
  where
    go : (o : Option ClassDef) → method_in o n m ≡ Some d → d.namespace ≡ n
    go None k = impossible (cc)
    go (Some k) f = namespace_among k.methods n m d f

-- the reference of a type of arrays
the_array : (t : IrType) → IsArray t → (q : ArrayRef) × (t ≡ Array q)
the_array (Array r) h = (r, refl)
the_array _ h = absurd h

-- a static method runs on no object
pub no_object : (n : Namespace) → IsStatic n → RunsOnObject n → ⊥
no_object Namespace.PublicStatic h r = r
no_object Namespace.PrivateStatic h r = r
no_object _ h r = h

numbers-same : (a b : ℕ) → (a == b) ≡ true → a ≡ b
numbers-same a b e = grind arith

numbers-equal : (a : ℕ) → (a == a) ≡ true
numbers-equal a = grind arith

-- what stays as it is while a body runs: its class and namespace, and its sure locals
pub record Frame : Type 0 where
  pub owner : List ℕ
  pub space : Namespace
  pub sure : List ℕ → Bool

abbrev pub frame_of : Scene → Frame
frame_of s = record { owner = s.owner; space = s.space; sure = s.sure }

-- the class by which the IR knows what is of the type
abbrev pub class_at : IrType → List ℕ
class_at (Class c) = c
class_at _ = object

module _ (w typing : World) (law : IsSubtyping (IsSub typing)) (has : Usable) where
  -- what is typed by the classes of addresses
  module _ (at : Classes) where
    -- what a tree of the type gives: any value where it is none
    abbrev pub GivesType : ir.Value → IrType → Type 0
    GivesType v t = (t ≡ NoType) ⊎ HasType (IsSub typing) law at v t

    pub data HoldsType : Option ir.Value → IrType → Type 0 where
      holds_type : (v : ir.Value) (t : IrType) → HasType (IsSub typing) law at v t → HoldsType (Some v) t

    -- a value of the class's type that isn't null
    pub data HoldsObject : Option ir.Value → List ℕ → Type 0 where
      holds_object : (v : ir.Value) (c : List ℕ) → HasType (IsSub typing) law at v (class_type c) → (v ≡ ir.null → ⊥) → HoldsObject (Some v) c

    -- each local in scope holds a value of its type, and a sure one isn't null; a method that runs on an object has one
    pub record EnvTyped (f : Frame) (ds : List ParamDef) (env : ir.Env) : Type 0 where
      pub holds : (x : List ℕ) (d : ParamDef) → local_of ds x ≡ Some d → HoldsType (env.locals x) d.tpe
      pub full : (x : List ℕ) (d : ParamDef) → local_of ds x ≡ Some d → f.sure x ≡ true → NeverNull (env.locals x)
      pub this : RunsOnObject f.space → HoldsObject env.this_value f.owner
      pub sure : env.sure ≡ f.sure

    -- an object of this class, each of whose fields that can be used holds a value of its type
    pub data ObjectTyped (c : List ℕ) : Option ir.Stored → Type 0 where
      typed_object : (fields : ir.Fields) → ((d f : List ℕ) (t : IrType) → list_any (is_same_text d) (chain_of w c) ≡ true → has.field d f t ≡ true → HoldsType (fields d f) t) → ObjectTyped c (Some (ir.object c fields))

    -- an array of this type, each of whose items is of the type of its items
    pub data ArrayTyped (r : ArrayRef) : Option ir.Stored → Type 0 where
      typed_array : (items : List ir.Value) → ((n : ℕ) (v : ir.Value) → slice_get items n ≡ Some v → HasType (IsSub typing) law at v (element_type r)) → ArrayTyped r (Some (ir.array r items))

    abbrev pub StoredTyped : IrType → Option ir.Stored → Type 0
    StoredTyped (Class c) o = ObjectTyped c o
    StoredTyped (Array r) o = ArrayTyped r o
    StoredTyped _ o = ⊥

    -- an object of its class, or an array of its type, stands at each address that has one, and its class is made; and each static field, and each cell of a class, that can be used holds a value of its type
    pub record HeapTyped (st : ir.State) : Type 0 where
      pub stored : (i : ℕ) (t : IrType) → at i ≡ Some t → StoredTyped t (slice_get st.heap i)
      pub made : (i : ℕ) (t : IrType) → at i ≡ Some t → has.made (class_at t) ≡ true
      pub statics : (c f : List ℕ) (t : IrType) → has_static has c f t ≡ true → HoldsType (st.statics c f) t
      pub cells : (c : List ℕ) → has_cell has c ≡ true → HasType (IsSub typing) law at (st.cells c) (class_type c)

    -- the locals in scope and the heap hold what they may
    pub record Ready (f : Frame) (ds : List ParamDef) (env : ir.Env) (st : ir.State) : Type 0 where
      pub locals : EnvTyped f ds env
      pub heap : HeapTyped st

    -- what stands at each address that has a type
    objects_there : (st : ir.State) → HeapTyped st → (i : ℕ) (c : List ℕ) → at i ≡ Some (Class c) → IsObject c (slice_get st.heap i)
    objects_there st heap i c e = go (slice_get st.heap i) (heap.stored i (Class c) e)
      where
        go : (o : Option ir.Stored) → ObjectTyped c o → IsObject c o
        go _ (typed_object fields h) = an_object fields

    arrays_there : (st : ir.State) → HeapTyped st → (i : ℕ) (r : ArrayRef) → at i ≡ Some (Array r) → IsArrayAt r (slice_get st.heap i)
    arrays_there st heap i r e = go (slice_get st.heap i) (heap.stored i (Array r) e)
      where
        go : (o : Option ir.Stored) → ArrayTyped r o → IsArrayAt r o
        go _ (typed_array items h) = array_at items

    env-set : (f : Frame) (ds : List ParamDef) (d : ParamDef) (env : ir.Env) (v : ir.Value) → HasType (IsSub typing) law at v d.tpe → (f.sure d.name ≡ true → v ≡ ir.null → ⊥) → EnvTyped f ds env → EnvTyped f (d ∷ ds) (ir_meaning.set_local d.name v env)
    env-set f ds d env v i n h = record { holds = λ y c e. go y c (pointwise nat_eq y d.name) e; full = λ y c e k. not y c (pointwise nat_eq y d.name) refl e k; this = h.this; sure = h.sure }
      where
        go : (y : List ℕ) (c : ParamDef) (b : Bool) → (if b then Some d else local_of ds y) ≡ Some c → HoldsType (if b then Some v else env.locals y) c.tpe
        go y c true k = let same : d ≡ c = cc in subst (λ (a : ParamDef). HoldsType (Some v) a.tpe) same (holds_type v d.tpe i)
        go y c false k = h.holds y c k

        not : (y : List ℕ) (c : ParamDef) (b : Bool) → pointwise nat_eq y d.name ≡ b → (if b then Some d else local_of ds y) ≡ Some c → f.sure y ≡ true → NeverNull (if b then Some v else env.locals y)
        not y c true q k s = λ e. n (subst (λ (x : List ℕ). f.sure x ≡ true) (is-equal y d.name q) s) (some_same v ir.null e)
        not y c false q k s = h.full y c k s

    env-narrow : (f : Frame) (ds : List ParamDef) (d : ParamDef) (env : ir.Env) → (IsParameter ds d.name → ⊥) → EnvTyped f (d ∷ ds) env → EnvTyped f ds env
    env-narrow f ds d env fresh h = record { holds = λ y c e. h.holds y c (ap (λ b. if b then Some d else local_of ds y) (other y c e (pointwise nat_eq y d.name) refl) ∙ e); full = λ y c e k. h.full y c (ap (λ b. if b then Some d else local_of ds y) (other y c e (pointwise nat_eq y d.name) refl) ∙ e) k; this = h.this; sure = h.sure }
      where
        other : (y : List ℕ) (c : ParamDef) → local_of ds y ≡ Some c → (b : Bool) → pointwise nat_eq y d.name ≡ b → pointwise nat_eq y d.name ≡ false
        other y c e true i = absurd (fresh (subst (IsParameter ds) (is-equal y d.name i) (local-there ds y c e)))
        other y c e false i = i

    env-assign : (f : Frame) (ds : List ParamDef) (x : List ℕ) (d : ParamDef) (env : ir.Env) (v : ir.Value) → local_of ds x ≡ Some d → HasType (IsSub typing) law at v d.tpe → (f.sure x ≡ true → v ≡ ir.null → ⊥) → EnvTyped f ds env → EnvTyped f ds (ir_meaning.set_local x v env)
    env-assign f ds x d env v there i n h = record { holds = λ y c e. go y c e (pointwise nat_eq y x) refl; full = λ y c e k. not y c e k (pointwise nat_eq y x) refl; this = h.this; sure = h.sure }
      where
        same : (a b : ParamDef) → ◌≡◌ {A = Option ParamDef} (Some a) (Some b) → a ≡ b
        same a b e = cc

        go : (y : List ℕ) (c : ParamDef) → local_of ds y ≡ Some c → (b : Bool) → pointwise nat_eq y x ≡ b → HoldsType (if pointwise nat_eq y x then Some v else env.locals y) c.tpe
        go y c e true j = subst (λ o. HoldsType o c.tpe) (sym (ap (λ (b : Bool). if b then Some v else env.locals y) j)) (subst (λ (a : ParamDef). HoldsType (Some v) a.tpe) (same d c (sym there ∙ ap (local_of ds) (sym (is-equal y x j)) ∙ e)) (holds_type v d.tpe i))
        go y c e false j = subst (λ o. HoldsType o c.tpe) (sym (ap (λ (b : Bool). if b then Some v else env.locals y) j)) (h.holds y c e)

        not : (y : List ℕ) (c : ParamDef) → local_of ds y ≡ Some c → f.sure y ≡ true → (b : Bool) → pointwise nat_eq y x ≡ b → NeverNull (if pointwise nat_eq y x then Some v else env.locals y)
        not y c e k true j = subst NeverNull (sym (ap (λ (b : Bool). if b then Some v else env.locals y) j)) (λ q. n (subst (λ (z : List ℕ). f.sure z ≡ true) (is-equal y x j) k) (some_same v ir.null q))
        not y c e k false j = subst NeverNull (sym (ap (λ (b : Bool). if b then Some v else env.locals y) j)) (h.full y c e k)

    set-ready : (f : Frame) (ds : List ParamDef) (d : ParamDef) (env : ir.Env) (st : ir.State) (v : ir.Value) → HasType (IsSub typing) law at v d.tpe → (f.sure d.name ≡ true → v ≡ ir.null → ⊥) → Ready f ds env st → Ready f (d ∷ ds) (ir_meaning.set_local d.name v env) st
    set-ready f ds d env st v i n h = record { locals = env-set f ds d env v i n h.locals; heap = h.heap }

    narrow-ready : (f : Frame) (ds : List ParamDef) (d : ParamDef) (env : ir.Env) (st : ir.State) → (IsParameter ds d.name → ⊥) → Ready f (d ∷ ds) env st → Ready f ds env st
    narrow-ready f ds d env st fresh h = record { locals = env-narrow f ds d env fresh h.locals; heap = h.heap }

    assign-ready : (f : Frame) (ds : List ParamDef) (x : List ℕ) (d : ParamDef) (env : ir.Env) (st : ir.State) (v : ir.Value) → local_of ds x ≡ Some d → HasType (IsSub typing) law at v d.tpe → (f.sure x ≡ true → v ≡ ir.null → ⊥) → Ready f ds env st → Ready f ds (ir_meaning.set_local x v env) st
    assign-ready f ds x d env st v there i n h = record { locals = env-assign f ds x d env v there i n h.locals; heap = h.heap }

    gives-yield : (v : ir.Value) (e : Term) (t : IrType) → GivesType v (type_of_term e) → Yields typing e t → GivesType v t
    gives-yield v e t g (nothing_wanted none) = inl none
    gives-yield v e t (inl none) (fitting f) = inl (law.from_none t (subst (λ s. IsSub typing s t) none f))
    gives-yield v e t (inr h) (fitting f) = inr (wider (IsSub typing) law at v (type_of_term e) t f h)

    operand-type : (v : ir.Value) (s t : IrType) → GivesType v s → IsSub typing s t → (t ≡ NoType → ⊥) → HasType (IsSub typing) law at v t
    operand-type v s t (inl none) f n = absurd (n (law.from_none t (subst (λ a. IsSub typing a t) none f)))
    operand-type v s t (inr h) f n = wider (IsSub typing) law at v s t f h

    -- arguments and parameters
    pub data ValuesFit : List ir.Value → List TypeRef → Type 0 where
      none_left : ValuesFit [] []
      one_fits : (v : ir.Value) (r : TypeRef) (vs : List ir.Value) (rs : List TypeRef) → HasType (IsSub typing) law at v (reference_type r) → ValuesFit vs rs → ValuesFit (v ∷ vs) (r ∷ rs)

    pub record Bound (ds : List ParamDef) (vs : List ir.Value) : Type 0 where
      pub locals : ir.Locals
      pub are : ir_meaning.parameters ds vs ≡ Some locals
      pub hold : (x : List ℕ) (d : ParamDef) → local_of ds x ≡ Some d → HoldsType (locals x) d.tpe

    one_bound : (d : ParamDef) (ds : List ParamDef) (v : ir.Value) (vs : List ir.Value) → HasType (IsSub typing) law at v d.tpe → Bound ds vs → Bound (d ∷ ds) (v ∷ vs)
    one_bound d ds v vs i h = record { locals = λ y. if pointwise nat_eq y d.name then Some v else h.locals y; are = ap (ir_meaning.holding d.name v) h.are; hold = λ y c e. go y c (pointwise nat_eq y d.name) e }
      where
        go : (y : List ℕ) (c : ParamDef) (b : Bool) → (if b then Some d else local_of ds y) ≡ Some c → HoldsType (if b then Some v else h.locals y) c.tpe
        go y c true k = let same : d ≡ c = cc in subst (λ (a : ParamDef). HoldsType (Some v) a.tpe) same (holds_type v d.tpe i)
        go y c false k = h.hold y c k

    pub nothing_there : (x : List ℕ) (d : ParamDef) → ◌≡◌ {A = Option ParamDef} None (Some d) → HoldsType None d.tpe
    nothing_there x d e = impossible (cc)

    bound : (ds : List ParamDef) (rs : List TypeRef) (vs : List ir.Value) → HaveTypes ds rs → ValuesFit vs rs → Bound ds vs
    bound [] _ _ h none_left = record { locals = λ x. None; are = refl; hold = nothing_there }
    bound [] _ _ h (one_fits v r vs rs i rest) = absurd h
    bound (d ∷ ds) _ _ h none_left = absurd h
    bound (d ∷ ds) _ _ h (one_fits v r vs rs i rest) = one_bound d ds v vs (subst (HasType (IsSub typing) law at v) (sym h.0) i) (bound ds rs vs h.1 rest)

    result-type : (t : IrType) (v : ir.Value) → GivesType v t → GivesType (ir_meaning.result_value t v) t
    result-type t v (inl none) = inl none
    result-type t v (inr h) = go (is_no_type t) refl
      where
        is_none : (t : IrType) → is_no_type t ≡ true → t ≡ NoType
        is_none NoType e = refl
        is_none _ e = impossible e

        go : (b : Bool) → is_no_type t ≡ b → GivesType (ir_meaning.result_value t v) t
        go true e = inl (is_none t e)
        go false e = subst (λ x. GivesType x t) (sym (result-same t v e)) (inr h)

  -- what is typed goes on to be
  holds-lift : (h k : Classes) → Adds h k → (o : Option ir.Value) (t : IrType) → HoldsType h o t → HoldsType k o t
  holds-lift h k a _ _ (holds_type v t i) = holds_type v t (type-lift (IsSub typing) law h k a v t i)

  object-lift : (h k : Classes) → Adds h k → (o : Option ir.Value) (c : List ℕ) → HoldsObject h o c → HoldsObject k o c
  object-lift h k a _ _ (holds_object v c i n) = holds_object v c (type-lift (IsSub typing) law h k a v (class_type c) i) n

  env-lift : (h k : Classes) → Adds h k → (f : Frame) (ds : List ParamDef) (env : ir.Env) → EnvTyped h f ds env → EnvTyped k f ds env
  env-lift h k a f ds env e = record { holds = λ x d i. holds-lift h k a (env.locals x) d.tpe (e.holds x d i); full = e.full; this = λ r. object-lift h k a env.this_value f.owner (e.this r); sure = e.sure }

  gives-lift : (h k : Classes) → Adds h k → (v : ir.Value) (t : IrType) → GivesType h v t → GivesType k v t
  gives-lift h k a v t (inl none) = inl none
  gives-lift h k a v t (inr i) = inr (type-lift (IsSub typing) law h k a v t i)

  -- a tree gives a value of its type, leaves with one of the label's, or throws one; by then there may be more objects
  pub data CameRight (at : Classes) (s : Scene) (inner : List ParamDef) (t : IrType) : ir.Ended → Type 0 where
    gave : (k : Classes) (v : ir.Value) (env : ir.Env) (st : ir.State) → Adds at k → GivesType k v t → Ready k (frame_of s) inner env st → CameRight at s inner t (ir.ends (ir.gives v) env st)
    left : (k : Classes) (l : List ℕ) (v : ir.Value) (env : ir.Env) (st : ir.State) (r : IrType) → Adds at k → type_of_label s.labels l ≡ Some r → GivesType k v r → Ready k (frame_of s) s.locals env st → CameRight at s inner t (ir.ends (ir.leaves l v) env st)
    threw : (k : Classes) (v : ir.Value) (env : ir.Env) (st : ir.State) → Adds at k → HasType (IsSub typing) law k v Any → Ready k (frame_of s) s.locals env st → CameRight at s inner t (ir.ends (ir.throws v) env st)

  came-rebase : (h k : Classes) → Adds h k → (s : Scene) (inner : List ParamDef) (t : IrType) (a : ir.Ended) → CameRight k s inner t a → CameRight h s inner t a
  came-rebase h k b s inner t _ (gave y v env st a g i) = gave y v env st (adds-trans h k y b a) g i
  came-rebase h k b s inner t _ (left y l v env st r a i g e) = left y l v env st r (adds-trans h k y b a) i g e
  came-rebase h k b s inner t _ (threw y v env st a i e) = threw y v env st (adds-trans h k y b a) i e

  rebased : (h k : Classes) → Adds h k → (s : Scene) (inner : List ParamDef) (t : IrType) (e : End ir.Ended) → Comes (CameRight k s inner t) e → Comes (CameRight h s inner t) e
  rebased h k b s inner t e = comes_weaken (CameRight k s inner t) (CameRight h s inner t) e (came-rebase h k b s inner t)

  -- what goes on behind a tree, with the classes that there are by then
  go_on_right : (at : Classes) (s : Scene) (inner : List ParamDef) (t : IrType) (outer : List ParamDef) (q : IrType) (o : Out ir.Ended) (f : ir.Value → ir.Run) → Comes (CameRight at s inner t) o.end → ((k : Classes) → Adds at k → (v : ir.Value) (env : ir.Env) (st : ir.State) → GivesType k v t → Ready k (frame_of s) inner env st → Comes (CameRight k s outer q) (f v env st).end) → Comes (CameRight at s outer q) (ir.go_on o f).end
  go_on_right at s inner t outer q o f h on = comes_then (CameRight at s inner t) (CameRight at s outer q) o (ir.onward f) h each
    where
      each : (a : ir.Ended) → CameRight at s inner t a → Comes (CameRight at s outer q) (ir.onward f a).end
      each _ (gave k v env st a g e) = rebased at k a s outer q (f v env st).end (on k a v env st g e)
      each _ (left k l v env st r a i g e) = left k l v env st r a i g e
      each _ (threw k v env st a i e) = threw k v env st a i e

  abbrev Right : Classes → Scene → IrType → Out ir.Ended → Type 0
  Right at s t o = Comes (CameRight at s s.locals t) o.end

  -- one operand, and what is done with its value
  one_right : (at : Classes) (s : Scene) (inner : List ParamDef) (q t : IrType) (r : ir.Run) (act : List ir.Value → ir.Run) (env : ir.Env) (st : ir.State) → Right at s q (r env st) → ((k : Classes) → Adds at k → (v : ir.Value) (env : ir.Env) (st : ir.State) → GivesType k v q → Ready k (frame_of s) s.locals env st → Comes (CameRight k s inner t) (act (v ∷ []) env st).end) → Comes (CameRight at s inner t) (ir_meaning.in_order (r ∷ []) act env st).end
  one_right at s inner q t r act env st h on = go_on_right at s s.locals q inner t (r env st) (λ v. ir_meaning.in_order [] (λ vs. act (v ∷ vs))) h on

  -- a value that is there
  here : (at : Classes) (s : Scene) (inner : List ParamDef) (t : IrType) (v : ir.Value) (env : ir.Env) (st : ir.State) → GivesType at v t → Ready at (frame_of s) inner env st → CameRight at s inner t (ir.ends (ir.gives v) env st)
  here at s inner t v env st g e = gave at v env st (adds-refl at) g e

  value_right : (at : Classes) (low : ir_meaning.Low) (s : Scene) (t : IrType) (o : Answer) (env : ir.Env) (st : ir.State) → Gives (IsSub typing) law at t o → Ready at (frame_of s) s.locals env st → Right at s t (ir_meaning.answered w low o env st)
  value_right at low s t _ env st (some_of v h) e = here at s s.locals t v env st (inr h) e

  local_right : (at : Classes) (s : Scene) (t : IrType) (o : Option ir.Value) (env : ir.Env) (st : ir.State) → HoldsType at o t → Ready at (frame_of s) s.locals env st → Right at s t (ir_meaning.local_value o env st)
  local_right at s t _ env st (holds_type v _ h) e = here at s s.locals t v env st (inr h) e

  branch_right : (at : Classes) (s : Scene) (t : IrType) (first second : ir.Run) (v : ir.Value) (env : ir.Env) (st : ir.State) → IsBoolean v → Right at s t (first env st) → Right at s t (second env st) → Right at s t (ir_meaning.branch first second (v ∷ []) env st)
  branch_right at s t first second _ env st (a_boolean true) h k = h
  branch_right at s t first second _ env st (a_boolean false) h k = k

  yields-right : (at : Classes) (s : Scene) (inner : List ParamDef) (e : Term) (t : IrType) (a : End ir.Ended) → Yields typing e t → Comes (CameRight at s inner (type_of_term e)) a → Comes (CameRight at s inner t) a
  yields-right at s inner e t a y = comes_weaken (CameRight at s inner (type_of_term e)) (CameRight at s inner t) a each
    where
      each : (a : ir.Ended) → CameRight at s inner (type_of_term e) a → CameRight at s inner t a
      each _ (gave k v env st b g i) = gave k v env st b (gives-yield k v e t g y) i
      each _ (left k l v env st r b i g j) = left k l v env st r b i g j
      each _ (threw k v env st b i j) = threw k v env st b i j

  narrow-right : (at : Classes) (s : Scene) (d : ParamDef) (t : IrType) (a : End ir.Ended) → (IsParameter s.locals d.name → ⊥) → Comes (CameRight at s (d ∷ s.locals) t) a → Comes (CameRight at s s.locals t) a
  narrow-right at s d t a fresh = comes_weaken (CameRight at s (d ∷ s.locals) t) (CameRight at s s.locals t) a each
    where
      each : (a : ir.Ended) → CameRight at s (d ∷ s.locals) t a → CameRight at s s.locals t a
      each _ (gave k v env st b g i) = gave k v env st b g (narrow-ready k (frame_of s) s.locals d env st fresh i)
      each _ (left k l v env st r b i g j) = left k l v env st r b i g j
      each _ (threw k v env st b i j) = threw k v env st b i j

  abbrev with_local : ParamDef → Scene → Scene
  with_local d s = record { owner = s.owner; space = s.space; sure = s.sure; locals = d ∷ s.locals; labels = s.labels }

  leave-right : (at : Classes) (s : Scene) (d : ParamDef) (t : IrType) (a : End ir.Ended) → (IsParameter s.locals d.name → ⊥) → Comes (CameRight at (with_local d s) (d ∷ s.locals) t) a → Comes (CameRight at s s.locals t) a
  leave-right at s d t a fresh = comes_weaken (CameRight at (with_local d s) (d ∷ s.locals) t) (CameRight at s s.locals t) a each
    where
      each : (a : ir.Ended) → CameRight at (with_local d s) (d ∷ s.locals) t a → CameRight at s s.locals t a
      each _ (gave k v env st b g i) = gave k v env st b g (narrow-ready k (frame_of s) s.locals d env st fresh i)
      each _ (left k l v env st r b i g j) = left k l v env st r b i g (narrow-ready k (frame_of s) s.locals d env st fresh j)
      each _ (threw k v env st b i j) = threw k v env st b i (narrow-ready k (frame_of s) s.locals d env st fresh j)

  -- a label is reached
  arrives-right : (at : Classes) (s : Scene) (l : List ℕ) (e : Term) (t : IrType) → Yields typing e t → (a : ir.Ended) → CameRight at (in_label l t s) s.locals (type_of_term e) a → Right at s t (ir_meaning.arrive l a)
  arrives-right at s l e t y _ (gave k v env st b g i) = gave k v env st b (gives-yield k v e t g y) i
  arrives-right at s l e t y _ (threw k v env st b i j) = threw k v env st b i j
  arrives-right at s l e t y _ (left k m v env st r b i g j) = go (pointwise nat_eq m l) (sym (type_inside l t s.labels m) ∙ i)
    where
      go : (q : Bool) → (if q then Some t else type_of_label s.labels m) ≡ Some r → Right at s t (if q then ir.given v env st else record { lines = []; end = Done (ir.ends (ir.leaves m v) env st) })
      go true e = let same : t ≡ r = cc in gave k v env st b (subst (GivesType k v) (sym same) g) j
      go false e = left k m v env st r b e g j

  -- a turn of a loop: its body, or that it stops
  data Turned (at : Classes) (s : Scene) (t : IrType) : ir.Ended → Type 0 where
    turned : (k : Classes) (v : ir.Value) (env : ir.Env) (st : ir.State) → Adds at k → Ready k (frame_of s) s.locals env st → Turned at s t (ir.ends (ir.gives v) env st)
    turned_away : (k : Classes) (l : List ℕ) (v : ir.Value) (env : ir.Env) (st : ir.State) (r : IrType) → Adds at k → type_of_label s.labels l ≡ Some r → GivesType k v r → Ready k (frame_of s) s.locals env st → Turned at s t (ir.ends (ir.leaves l v) env st)
    turned_thrown : (k : Classes) (v : ir.Value) (env : ir.Env) (st : ir.State) → Adds at k → HasType (IsSub typing) law k v Any → Ready k (frame_of s) s.locals env st → Turned at s t (ir.ends (ir.throws v) env st)
    ended : (k : Classes) (env : ir.Env) (st : ir.State) → Adds at k → t ≡ NoType → Ready k (frame_of s) s.locals env st → Turned at s t (ir.ends ir.stops env st)

  turned-rebase : (h k : Classes) → Adds h k → (s : Scene) (t : IrType) (a : ir.Ended) → Turned k s t a → Turned h s t a
  turned-rebase h k b s t _ (turned y v env st a e) = turned y v env st (adds-trans h k y b a) e
  turned-rebase h k b s t _ (turned_away y l v env st r a i g e) = turned_away y l v env st r (adds-trans h k y b a) i g e
  turned-rebase h k b s t _ (turned_thrown y v env st a i e) = turned_thrown y v env st (adds-trans h k y b a) i e
  turned-rebase h k b s t _ (ended y env st a i e) = ended y env st (adds-trans h k y b a) i e

  -- what goes on behind a tree inside a turn
  go_on_turn : (at : Classes) (s : Scene) (t q : IrType) (o : Out ir.Ended) (f : ir.Value → ir.Run) → Right at s t o → ((k : Classes) → Adds at k → (v : ir.Value) (env : ir.Env) (st : ir.State) → GivesType k v t → Ready k (frame_of s) s.locals env st → Comes (Turned k s q) (f v env st).end) → Comes (Turned at s q) (ir.go_on o f).end
  go_on_turn at s t q o f h on = comes_then (CameRight at s s.locals t) (Turned at s q) o (ir.onward f) h each
    where
      each : (a : ir.Ended) → CameRight at s s.locals t a → Comes (Turned at s q) (ir.onward f a).end
      each _ (gave k v env st a g e) = comes_weaken (Turned k s q) (Turned at s q) (f v env st).end (turned-rebase at k a s q) (on k a v env st g e)
      each _ (left k l v env st r a i g e) = turned_away k l v env st r a i g e
      each _ (threw k v env st a i e) = turned_thrown k v env st a i e

  turn_right : (at : Classes) (s : Scene) (t : IrType) (next : ir.Run) → ((k : Classes) (env : ir.Env) (st : ir.State) → Ready k (frame_of s) s.locals env st → Right k s t (next env st)) → (a : ir.Ended) → Turned at s t a → Right at s t (ir_meaning.after_turn next a)
  turn_right at s t next h _ (turned k v env st a e) = rebased at k a s s.locals t (next env st).end (h k env st e)
  turn_right at s t next h _ (turned_away k l v env st r a i g e) = left k l v env st r a i g e
  turn_right at s t next h _ (turned_thrown k v env st a i e) = threw k v env st a i e
  turn_right at s t next h _ (ended k env st a i e) = gave k ir.undefined env st a (inl i) e

  as_turn : (at : Classes) (s : Scene) (q t : IrType) (a : End ir.Ended) → Comes (CameRight at s s.locals q) a → Comes (Turned at s t) a
  as_turn at s q t a = comes_weaken (CameRight at s s.locals q) (Turned at s t) a each
    where
      each : (a : ir.Ended) → CameRight at s s.locals q a → Turned at s t a
      each _ (gave k v env st b g e) = turned k v env st b e
      each _ (left k l v env st r b i g e) = turned_away k l v env st r b i g e
      each _ (threw k v env st b i e) = turned_thrown k v env st b i e

  test_right : (at : Classes) (s : Scene) (t : IrType) (first : ir.Run) (v : ir.Value) (env : ir.Env) (st : ir.State) → t ≡ NoType → IsBoolean v → Ready at (frame_of s) s.locals env st → Comes (Turned at s t) (first env st).end → Comes (Turned at s t) (ir_meaning.branch first (λ env s. record { lines = []; end = Done (ir.ends ir.stops env s) }) (v ∷ []) env st).end
  test_right at s t first _ env st none (a_boolean true) e h = h
  test_right at s t first _ env st none (a_boolean false) e h = ended at env st (adds-refl at) none e

  abbrev pub Fresh : Scene → (List ℕ → Type 0) → Type 0
  Fresh s own = (x : List ℕ) → own x → IsParameter s.locals x → ⊥

  -- the locals in scope have types with values, and none that is sure is mutable
  pub record InScope (f : Frame) (ds : List ParamDef) : Type 0 where
    pub values : HaveValues ds
    pub fixed : (x : List ℕ) (d : ParamDef) → local_of ds x ≡ Some d → f.sure x ≡ true → d.«mutable» ≡ false

  scope-behind : (f : Frame) (ds : List ParamDef) (d : ParamDef) → InScope f ds → HasValue d.tpe → (f.sure d.name ≡ true → d.«mutable» ≡ false) → InScope f (d ∷ ds)
  scope-behind f ds d v h n = record { values = values-behind ds d v.values h; fixed = λ y c e k. go y c (pointwise nat_eq y d.name) refl e k }
    where
      go : (y : List ℕ) (c : ParamDef) (b : Bool) → pointwise nat_eq y d.name ≡ b → (if b then Some d else local_of ds y) ≡ Some c → f.sure y ≡ true → c.«mutable» ≡ false
      go y c true q e k = let same : d ≡ c = cc in subst (λ (a : ParamDef). a.«mutable» ≡ false) same (n (subst (λ (z : List ℕ). f.sure z ≡ true) (is-equal y d.name q) k))
      go y c false q e k = v.fixed y c e k

  -- what makes a sure local is never null
  abbrev pub Sures : Scene → List Definition → Type 0
  Sures s ds = Sured s.sure ds

  sures-parts : (s : Scene) (xs ys : List Definition) → Sures s (xs ++ ys) → Sures s xs × Sures s ys
  sures-parts s xs ys h = sured-parts s.sure xs ys h

  -- the level below is right
  abbrev pub LowRight : ir_meaning.Low → Type 0
  LowRight low = (t : Term) (s : Scene) → InScope (frame_of s) s.locals → Typed typing has s t → Fresh s (Own t) → Sures s (definitions t) → (at : Classes) (env : ir.Env) (st : ir.State) → Ready at (frame_of s) s.locals env st → Right at s (type_of_term t) (low t env st)

  pub no_label : {A : Type 0} (l : List ℕ) (r : IrType) → ◌≡◌ {A = Option IrType} None (Some r) → A
  no_label l r e = impossible (cc)

  pub call_right : ObjectLaws w typing has → (low : ir_meaning.Low) → LowRight low → (m : Member) → RightMember w typing has m → (s : Scene) (t : IrType) → t ≡ call_type m.method.result → (at : Classes) (vs : List ir.Value) → ValuesFit at vs m.method.params → (this : Option ir.Value) → (RunsOnObject m.namespace → HoldsObject at this m.class) → (env : ir.Env) (st : ir.State) → Ready at (frame_of s) s.locals env st → Right at s t (ir_meaning.call low (member_of w m.class m.namespace m.method) this vs env st)
  call_right laws low right m l s t is at vs fit this object env st e = subst (λ o. Right at s t o) (sym called) (comes_then (CameRight at scene l.definition.params l.definition.result) (CameRight at s s.locals t) (low l.its_body inner st) (ir_meaning.returned l.definition.result env) (yields-right at scene l.definition.params l.its_body l.definition.result (low l.its_body inner st).end l.rules.yields (right l.its_body scene scope l.rules.typed l.rules.once.fresh (body-sured l.its_body l.names.once) at inner st (record { locals = record { holds = b.hold; full = λ x d i k. absurd (unsure x d i k); this = λ r. object (subst RunsOnObject (namespace_found w m.class m.namespace m.method l.definition l.found) r); sure = refl }; heap = e.heap }))) back)
    where
      scene : Scene
      scene = scene_of m.class l.definition l.its_body

      -- no parameter is sure
      unsure : (x : List ℕ) (d : ParamDef) → local_of l.definition.params x ≡ Some d → sure_locals l.its_body x ≡ true → ⊥
      unsure x d i k = l.names.fresh x (sure-named l.its_body x k) (local-there l.definition.params x d i)

      scope : InScope (frame_of scene) l.definition.params
      scope = record { values = l.rules.values; fixed = λ x d i k. absurd (unsure x d i k) }

      b : Bound at l.definition.params vs
      b = bound at l.definition.params m.method.params vs l.parameters fit

      inner : ir.Env
      inner = record { this_value = this; locals = b.locals; sure = sure_locals l.its_body }

      called : ir_meaning.call low (member_of w m.class m.namespace m.method) this vs env st ≡ then_do (low l.its_body inner st) (ir_meaning.returned l.definition.result env)
      called = ap (λ o. ir_meaning.call low o this vs env st) l.found ∙ ap (λ o. ir_meaning.body_call low l.definition.result o this (ir_meaning.parameters l.definition.params vs) env st) l.has_body ∙ ap (λ o. ir_meaning.body_call low l.definition.result (Some l.its_body) this o env st) b.are

      -- the locals of the caller are there again
      again : (k : Classes) (st : ir.State) → Adds at k → HeapTyped k st → Ready k (frame_of s) s.locals env st
      again k st a heap = record { locals = env-lift at k a (frame_of s) s.locals env e.locals; heap = heap }

      back : (a : ir.Ended) → CameRight at scene l.definition.params l.definition.result a → Right at s t (ir_meaning.returned l.definition.result env a)
      back _ (gave k v en st a g i) = gave k (ir_meaning.result_value l.definition.result v) env st a (subst (GivesType k (ir_meaning.result_value l.definition.result v)) (l.result_is ∙ sym is) (result-type k l.definition.result v g)) (again k st a i.heap)
      back _ (left k q v en st r a i g j) = no_label q r i
      back _ (threw k v en st a i j) = threw k v env st a i (again k st a j.heap)

  -- zeros are of the types of their fields
  pub zero_type : (at : Classes) (t : IrType) → HasValue t → HasType (IsSub typing) law at (zero_of t) t
  zero_type at Any h = has_type Null of_null (to_any refl (λ e. cc))
  zero_type at Undefined h = has_type Undefined of_undefined (law.same Undefined)
  zero_type at Boolean h = has_type Boolean (of_boolean false) (law.same Boolean)
  zero_type at Char h = has_type Char (of_char 0) (law.same Char)
  zero_type at Byte h = has_type Byte (of_byte (pos 0)) (law.same Byte)
  zero_type at Short h = has_type Short (of_short (pos 0)) (law.same Short)
  zero_type at Int h = has_type Int (of_int (pos 0)) (law.same Int)
  zero_type at Long h = has_type Long (of_long (pos 0)) (law.same Long)
  zero_type at String h = has_type String (of_text []) (law.same String)
  zero_type at (Class c) h = has_type Null of_null (null_to_class c refl refl)
  zero_type at Null h = has_type Null of_null (law.same Null)
  zero_type at (Array r) h = has_type Null of_null (null_to_array r refl refl)
  zero_type at Nothing h = impossible (sym h)
  zero_type at NoType h = impossible (sym h)

  class_any : (c : List ℕ) → IsSub typing (class_type c) Any
  class_any c = to_any refl (λ e. impossible (sym (class_has_value c) ∙ ap has_no_value e))

  -- arguments go on to fit
  fit-lift : (h k : Classes) → Adds h k → (vs : List ir.Value) (rs : List TypeRef) → ValuesFit h vs rs → ValuesFit k vs rs
  fit-lift h k a _ _ none_left = none_left
  fit-lift h k a _ _ (one_fits v r vs rs i rest) = one_fits v r vs rs (type-lift (IsSub typing) law h k a v (reference_type r) i) (fit-lift h k a vs rs rest)

  -- what is asked of the forms on receivers
  new_parts : (c : List ℕ) (m : MethodName) → (has.made c && has.built (member c Constructor m)) ≡ true → (has.made c ≡ true) × (has.built (member c Constructor m) ≡ true)
  new_parts c m h = and_parts (has.made c) (has.built (member c Constructor m)) h

  received_parts : (e : Term) (c : List ℕ) (n : Namespace) (m : MethodName) (s : Scene) → (has.received (called_member has.lookup n (member c n m)) && may_check has s.sure e) ≡ true → (has.received (called_member has.lookup n (member c n m)) ≡ true) × (may_check has s.sure e ≡ true)
  received_parts e c n m s h = and_parts (has.received (called_member has.lookup n (member c n m))) (may_check has s.sure e) h

  check_there : (e : Term) (s : Scene) → may_check has s.sure e ≡ true → is_sure s.sure e ≡ false → has.helper check_name ≡ true
  check_there e s h k = go (is_sure s.sure e) h k
    where
      go : (b : Bool) → (b || has.helper check_name) ≡ true → b ≡ false → has.helper check_name ≡ true
      go true q k = impossible (sym k)
      go false q k = q

  -- what stands at an address goes on to be typed
  stored-lift : (h k : Classes) → Adds h k → (t : IrType) (o : Option ir.Stored) → StoredTyped h t o → StoredTyped k t o
  stored-lift h k a (Class c) _ (typed_object fields g) = typed_object fields (λ b f t i is. holds-lift h k a (fields b f) t (g b f t i is))
  stored-lift h k a (Array r) _ (typed_array items g) = typed_array items (λ n v e. type-lift (IsSub typing) law h k a v (element_type r) (g n v e))
  stored-lift h k a _ o g = absurd g

  stored-some : (at : Classes) (t : IrType) (o : Option ir.Stored) → StoredTyped at t o → (x : ir.Stored) × (o ≡ Some x)
  stored-some at (Class c) _ (typed_object fields g) = (ir.object c fields, refl)
  stored-some at (Array r) _ (typed_array items g) = (ir.array r items, refl)
  stored-some at _ o g = absurd g

  -- values that are all of the type
  abbrev pub ItemsTyped : Classes → IrType → List ir.Value → Type 0
  ItemsTyped at t vs = (n : ℕ) (v : ir.Value) → slice_get vs n ≡ Some v → HasType (IsSub typing) law at v t

  no_items : (at : Classes) (t : IrType) → ItemsTyped at t []
  no_items at t n v e = absurd (cc)

  one_item : (at : Classes) (t : IrType) (v : ir.Value) (vs : List ir.Value) → HasType (IsSub typing) law at v t → ItemsTyped at t vs → ItemsTyped at t (v ∷ vs)
  one_item at t v vs h g zero x e = subst (λ (y : ir.Value). HasType (IsSub typing) law at y t) (some_same v x e) h
  one_item at t v vs h g (suc n) x e = g n x e

  -- the type of one more address
  abbrev with_type : ℕ → IrType → Classes → Classes
  with_type a t at i = if i == a then Some t else at i

  module _ (at : Classes) (t : IrType) (o : ir.Stored) (is_made : has.made (class_at t) ≡ true) (st : ir.State) (heap : HeapTyped at st) (typed : (k : Classes) → Adds at k → StoredTyped k t (Some o)) where
    abbrev there : ℕ
    there = ir.next_address st

    abbrev wider_classes : Classes
    wider_classes = with_type there t at

    abbrev born : ir.State
    born = ir.with_stored o st

    unused : (u : IrType) → at there ≡ Some u → ⊥
    unused u e = let its = stored-some at u (slice_get st.heap there) (heap.stored there u e) in not-past st.heap its.0 its.1

    adds_one : Adds at wider_classes
    adds_one = record { keeps = λ i u e. go i u e (i == there) refl }
      where
        go : (i : ℕ) (u : IrType) → at i ≡ Some u → (b : Bool) → (i == there) ≡ b → (if i == there then Some t else at i) ≡ Some u
        go i u e true k = absurd (unused u (subst (λ (j : ℕ). at j ≡ Some u) (numbers-same i there k) e))
        go i u e false k = ap (λ (b : Bool). if b then Some t else at i) k ∙ e

    type_there : wider_classes there ≡ Some t
    type_there = ap (λ (b : Bool). if b then Some t else at there) (numbers-equal there)

    still : (i : ℕ) (u : IrType) → StoredTyped at u (slice_get st.heap i) → StoredTyped wider_classes u (slice_get born.heap i)
    still i u g = let its = stored-some at u (slice_get st.heap i) g in subst (StoredTyped wider_classes u) (its.1 ∙ sym (get-front st.heap (o ∷ []) i its.0 its.1)) (stored-lift at wider_classes adds_one u (slice_get st.heap i) g)

    born_typed : HeapTyped wider_classes born
    born_typed = record { stored = λ i u e. go i u (i == there) refl e; made = λ i u e. made i u (i == there) e; statics = λ d f u l. holds-lift at wider_classes adds_one (st.statics d f) u (heap.statics d f u l); cells = λ d l. type-lift (IsSub typing) law at wider_classes adds_one (st.cells d) (class_type d) (heap.cells d l) }
      where
        go : (i : ℕ) (u : IrType) (b : Bool) → (i == there) ≡ b → (if b then Some t else at i) ≡ Some u → StoredTyped wider_classes u (slice_get born.heap i)
        go i u true k e = let same : t ≡ u = cc in subst (λ (j : ℕ). StoredTyped wider_classes u (slice_get born.heap j)) (sym (numbers-same i there k)) (subst (StoredTyped wider_classes u) (sym (get-end st.heap o)) (subst (λ (n : IrType). StoredTyped wider_classes n (Some o)) same (typed wider_classes adds_one)))
        go i u false k e = still i u (heap.stored i u e)

        made : (i : ℕ) (u : IrType) (b : Bool) → (if b then Some t else at i) ≡ Some u → has.made (class_at u) ≡ true
        made i u true e = let same : t ≡ u = cc in subst (λ (n : IrType). has.made (class_at n) ≡ true) same is_made
        made i u false e = heap.made i u e

  -- the fields of a new object hold zeros of their types
  new_typed : ObjectLaws w typing has → (c : List ℕ) (k : Classes) → ObjectTyped k c (Some (ir.object c (new_fields w c)))
  new_typed laws c k = typed_object (new_fields w c) (λ d f t h is. let known = laws.fields d f t is in subst (λ (o : Option ir.Value). HoldsType k o t) (sym (ap (λ (b : Bool). if b then zeros_in (class_of w d) f else None) h ∙ known.1)) (holds_type (zero_of t) t (zero_type k t known.0)))

  -- what stands at an address is replaced
  module _ (at : Classes) (st : ir.State) (heap : HeapTyped at st) (a : ℕ) (t : IrType) (known : at a ≡ Some t) (old new : ir.Stored) (stands : slice_get st.heap a ≡ Some old) (typed : StoredTyped at t (Some new)) where
    pub replaced : HeapTyped at (ir.at_address a new st)
    replaced = record { stored = λ j u k. go j u (j == a) refl k; made = heap.made; statics = heap.statics; cells = heap.cells }
      where
        other : (j : ℕ) → (j == a) ≡ false → j ≡ a → ⊥
        other j k e = impossible (sym k ∙ subst (λ (n : ℕ). (n == a) ≡ true) (sym e) (numbers-equal a))

        some_type : (t u : IrType) → ◌≡◌ {A = Option IrType} (Some t) (Some u) → t ≡ u
        some_type t u e = cc

        go : (j : ℕ) (u : IrType) (b : Bool) → (j == a) ≡ b → at j ≡ Some u → StoredTyped at u (slice_get (set st.heap a new) j)
        go j u true k is = let same : j ≡ a = numbers-same j a k in subst (λ (n : ℕ). StoredTyped at u (slice_get (set st.heap a new) n)) (sym same) (subst (StoredTyped at u) (sym (get-set st.heap a old new stands)) (subst (λ (n : IrType). StoredTyped at n (Some new)) (some_type t u (sym known ∙ ap at (sym same) ∙ is)) typed))
        go j u false k is = subst (StoredTyped at u) (sym (get-set_other st.heap j a new (other j k))) (heap.stored j u is)

  -- an object at its address whose field holds another value
  module _ (laws : ObjectLaws w typing has) (at : Classes) (st : ir.State) (heap : HeapTyped at st) (a : ℕ) (d : List ℕ) (known : at a ≡ Some (Class d)) (fields : ir.Fields) (stands : slice_get st.heap a ≡ Some (ir.object d fields)) (typed : (b g : List ℕ) (u : IrType) → list_any (is_same_text b) (chain_of w d) ≡ true → has.field b g u ≡ true → HoldsType at (fields b g) u) (c f : List ℕ) (t : IrType) (field : has.field c f t ≡ true) (v : ir.Value) (its : HasType (IsSub typing) law at v t) where
    fields_typed : (b g : List ℕ) (u : IrType) → list_any (is_same_text b) (chain_of w d) ≡ true → has.field b g u ≡ true → HoldsType at (ir.with_field c f v fields b g) u
    fields_typed b g u k is = go (is_same_text b c && is_same_text g f) refl
      where
        go : (q : Bool) → (is_same_text b c && is_same_text g f) ≡ q → HoldsType at (if q then Some v else fields b g) u
        go true e =
            let parts = and_parts (is_same_text b c) (is_same_text g f) e in
            let one : has.field c g u ≡ true = subst (λ (n : List ℕ). has.field n g u ≡ true) (text-same b c parts.0) is in
            let two : has.field c f u ≡ true = subst (λ (n : List ℕ). has.field c n u ≡ true) (text-same g f parts.1) one in
            holds_type v u (subst (HasType (IsSub typing) law at v) (laws.one_type c f t u field two) its)
        go false e = typed b g u k is

    pub written : HeapTyped at (ir.at_address a (ir.object d (ir.with_field c f v fields)) st)
    written = replaced at st heap a (Class d) known (ir.object d fields) (ir.object d (ir.with_field c f v fields)) stands (typed_object (ir.with_field c f v fields) fields_typed)

  -- a cell that holds another value
  cell_typed : (at : Classes) (st : ir.State) (c : List ℕ) (v : ir.Value) → HasType (IsSub typing) law at v (class_type c) → HeapTyped at st → HeapTyped at (ir.with_cell c v st)
  cell_typed at st c v i heap = record { stored = heap.stored; made = heap.made; statics = heap.statics; cells = λ d l. go d l (is_same_text d c) refl }
    where
      go : (d : List ℕ) → has_cell has d ≡ true → (q : Bool) → is_same_text d c ≡ q → HasType (IsSub typing) law at (if q then v else st.cells d) (class_type d)
      go d l true k = subst (λ (n : List ℕ). HasType (IsSub typing) law at v (class_type n)) (sym (text-same d c k)) i
      go d l false k = heap.cells d l

  -- null may stand in each
  pub null_type : (at : Classes) (c : List ℕ) → HasType (IsSub typing) law at ir.null (class_type c)
  null_type at c = go (is_same_text c (codes "java.lang.Object"))
    where
      go : (b : Bool) → HasType (IsSub typing) law at ir.null (if b then Any else Class c)
      go true = has_type Null of_null (to_any refl (λ e. cc))
      go false = has_type Null of_null (null_to_class c refl refl)

  class_not_array : (c : List ℕ) → is_array_type (class_type c) ≡ true → ⊥
  class_not_array c = go (is_same_text c (codes "java.lang.Object"))
    where
      go : (b : Bool) → is_array_type (if b then Any else Class c) ≡ true → ⊥
      go true h = impossible h
      go false h = impossible h

  -- what is above an array and not of arrays is above all objects
  above_array : (r : ArrayRef) (t : IrType) → IsSub typing (Array r) t → (is_array_type t ≡ true → ⊥) → IsSub typing (Class object) t
  above_array r t f n = ⊎_elim (λ e. subst (IsSub typing (Class object)) (sym e) (to_any refl (λ e. cc))) (λ e. absurd (n e)) (law.above_arrays r t f)

  class_below : (c : List ℕ) → IsSub typing (Class c) (class_type c)
  class_below c = go (is_same_text c (codes "java.lang.Object"))
    where
      go : (b : Bool) → IsSub typing (Class c) (if b then Any else Class c)
      go true = to_any refl (λ e. cc)
      go false = law.same (Class c)

  -- what a value is, where a tree gives one
  abbrev pub Only : (ir.Value → Type 0) → ir.Ended → Type 0
  Only Q (ir.ends (ir.gives v) env st) = Q v
  Only Q _ = Unit {0}

  abbrev pub Perhaps : (ir.Value → Type 0) → End ir.Ended → Type 0
  Perhaps Q (Done a) = Only Q a
  Perhaps Q _ = Unit {0}

  abbrev Full : ir.Value → Type 0
  Full v = v ≡ ir.null → ⊥

  both_come : (Q : ir.Value → Type 0) (P : ir.Ended → Type 0) (e : End ir.Ended) → Comes P e → Perhaps Q e → Comes (λ a. P a × Only Q a) e
  both_come Q P (Done a) h k = (h, k)
  both_come Q P Going h k = tt
  both_come Q P Wrong h k = h

  if_only : (P : Type 0) (e : End ir.Ended) → (P → Perhaps Full e) → Perhaps (λ v. P → Full v) e
  if_only P (Done (ir.ends (ir.gives v) env st)) h = h
  if_only P (Done (ir.ends (ir.throws v) env st)) h = tt
  if_only P (Done (ir.ends (ir.leaves l v) env st)) h = tt
  if_only P (Done (ir.ends ir.stops env st)) h = tt
  if_only P Going h = tt
  if_only P Wrong h = tt

  after_only : (Q : ir.Value → Type 0) (l : Lines) (e : End ir.Ended) (f : ir.Value → ir.Run) → ((v : ir.Value) (env : ir.Env) (st : ir.State) → Perhaps Q (f v env st).end) → Perhaps Q (after l e (ir.onward f)).end
  after_only Q l (Done (ir.ends (ir.gives v) env st)) f h = h v env st
  after_only Q l (Done (ir.ends (ir.throws v) env st)) f h = tt
  after_only Q l (Done (ir.ends (ir.leaves m v) env st)) f h = tt
  after_only Q l (Done (ir.ends ir.stops env st)) f h = tt
  after_only Q l Going f h = tt
  after_only Q l Wrong f h = tt

  go_on_only : (Q : ir.Value → Type 0) (o : Out ir.Ended) (f : ir.Value → ir.Run) → ((v : ir.Value) (env : ir.Env) (st : ir.State) → Perhaps Q (f v env st).end) → Perhaps Q (ir.go_on o f).end
  go_on_only Q o f h = after_only Q o.lines o.end f h

  order_only : (Q : ir.Value → Type 0) (rs : List ir.Run) (act : List ir.Value → ir.Run) (env : ir.Env) (st : ir.State) → ((vs : List ir.Value) (env : ir.Env) (st : ir.State) → Perhaps Q (act vs env st).end) → Perhaps Q (ir_meaning.in_order rs act env st).end
  order_only Q [] act env st h = h [] env st
  order_only Q (r ∷ rs) act env st h = go_on_only Q (r env st) (λ v. ir_meaning.in_order rs (λ vs. act (v ∷ vs))) (λ v env st. order_only Q rs (λ vs. act (v ∷ vs)) env st (λ vs. h (v ∷ vs)))

  -- what goes on behind a tree of which more is known than its type
  go_on_both : (at : Classes) (s : Scene) (inner : List ParamDef) (t : IrType) (outer : List ParamDef) (q : IrType) (Q : ir.Value → Type 0) (o : Out ir.Ended) (f : ir.Value → ir.Run) → Comes (λ a. CameRight at s inner t a × Only Q a) o.end → ((k : Classes) → Adds at k → (v : ir.Value) (env : ir.Env) (st : ir.State) → GivesType k v t → Q v → Ready k (frame_of s) inner env st → Comes (CameRight k s outer q) (f v env st).end) → Comes (CameRight at s outer q) (ir.go_on o f).end
  go_on_both at s inner t outer q Q o f h on = comes_then (λ a. CameRight at s inner t a × Only Q a) (CameRight at s outer q) o (ir.onward f) h (λ a p. each a p.0 p.1)
    where
      each : (a : ir.Ended) → CameRight at s inner t a → Only Q a → Comes (CameRight at s outer q) (ir.onward f a).end
      each _ (gave k v env st a g e) n = rebased at k a s outer q (f v env st).end (on k a v env st g n e)
      each _ (left k l v env st r a i g e) n = left k l v env st r a i g e
      each _ (threw k v env st a i e) n = threw k v env st a i e

  -- with a value that isn't null
  abbrev FullRight : Classes → Scene → IrType → Out ir.Ended → Type 0
  FullRight at s t o = Comes (λ a. CameRight at s s.locals t a × Only Full a) o.end

  full-rebase : (h k : Classes) → Adds h k → (s : Scene) (t : IrType) (e : End ir.Ended) → Comes (λ a. CameRight k s s.locals t a × Only Full a) e → Comes (λ a. CameRight h s s.locals t a × Only Full a) e
  full-rebase h k b s t e = comes_weaken (λ a. CameRight k s s.locals t a × Only Full a) (λ a. CameRight h s s.locals t a × Only Full a) e (λ a p. (came-rebase h k b s s.locals t a p.0, p.1))

  -- a value of an object
  this_right : (at : Classes) (s : Scene) (t : IrType) (c : List ℕ) (o : Option ir.Value) (env : ir.Env) (st : ir.State) → t ≡ class_type c → HoldsObject at o c → Ready at (frame_of s) s.locals env st → FullRight at s t (ir_meaning.local_value o env st)
  this_right at s t _ _ env st is (holds_object v c h n) e = (here at s s.locals t v env st (inr (subst (HasType (IsSub typing) law at v) (sym is) h)) e, n)

  only_right : (P : ir.Ended → Type 0) (Q : ir.Value → Type 0) (e : End ir.Ended) → Comes (λ a. P a × Only Q a) e → Comes P e
  only_right P Q e = comes_weaken (λ a. P a × Only Q a) P e (λ a p. p.0)

  module _ (laws : ObjectLaws w typing has) (members : (m : Member) → has.linked m ≡ true → RightMember w typing has m) (low : ir_meaning.Low) (right : LowRight low) where
    -- the constructor that is called is right, whether it has a value or not
    constructor_right : (c : List ℕ) (m : MethodName) (t : IrType) (checked : Bool) → (if is_no_type t then has.built (member c Constructor m) else (has.received (member c Constructor m) && checked)) ≡ true → RightMember w typing has (member c Constructor m)
    constructor_right c m t checked h = by (is_no_type t) h
      where
        by : (o : Bool) → (if o then has.built (member c Constructor m) else (has.received (member c Constructor m) && checked)) ≡ true → RightMember w typing has (member c Constructor m)
        by true q = laws.built (member c Constructor m) q
        by false q = laws.received (member c Constructor m) (and_parts (has.received (member c Constructor m)) checked q).0

    abbrev step : Term → ir.Run
    step = ir_meaning.step w low

    abbrev TreeRight : Term → Type 0
    TreeRight t = (s : Scene) → InScope (frame_of s) s.locals → Typed typing has s t → Fresh s (Own t) → Sures s (definitions t) → (at : Classes) (env : ir.Env) (st : ir.State) → Ready at (frame_of s) s.locals env st → Right at s (type_of_term t) (step t env st)

    construct_right : (c : List ℕ) (m : MethodName) → has.made c ≡ true → has.built (member c Constructor m) ≡ true → (s : Scene) (at : Classes) (vs : List ir.Value) → ValuesFit at vs m.params → (env : ir.Env) (st : ir.State) → Ready at (frame_of s) s.locals env st → Right at s (class_type c) (ir_meaning.construct w low c m vs env st)
    construct_right c m made built s at vs fit env st i = rebased at after_it more s s.locals (class_type c) (ir_meaning.construct w low c m vs env st).end (go_on_right after_it s s.locals (call_type m.result) s.locals (class_type c) (ir_meaning.call low (member_of w c Constructor m) (Some object) vs env heap) (λ v. ir.given object) (call_right laws low right (member c Constructor m) (laws.built (member c Constructor m) built) s (call_type m.result) refl after_it vs (fit-lift at after_it more vs m.params fit) (Some object) (λ r. holds_object object c (its_type after_it (adds-refl after_it)) (λ e. cc)) env heap (record { locals = env-lift at after_it more (frame_of s) s.locals env i.locals; heap = born_typed at (Class c) new made st i.heap (λ k a. new_typed laws c k) })) (λ k b v env st g j. here k s s.locals (class_type c) object env st (inr (its_type k b)) j))
      where
        object : ir.Value
        object = ir.reference (ir.next_address st)

        new : ir.Stored
        new = ir.object c (new_fields w c)

        heap : ir.State
        heap = ir.with_stored new st

        after_it : Classes
        after_it = with_type (ir.next_address st) (Class c) at

        more : Adds at after_it
        more = adds_one at (Class c) new made st i.heap (λ k a. new_typed laws c k)

        its_type : (k : Classes) → Adds after_it k → HasType (IsSub typing) law k object (class_type c)
        its_type k b = has_type (Class c) (of_object (ir.next_address st) c (b.keeps (ir.next_address st) (Class c) (type_there at (Class c) new made st i.heap (λ k a. new_typed laws c k))) (not_bare c (laws.made c made))) (class_below c)

    -- an exception that is made and thrown
    raise_right : (c message : List ℕ) → has.made c ≡ true → has.built (member c Constructor ir_meaning.with_message) ≡ true → (s : Scene) (t : IrType) (at : Classes) (env : ir.Env) (st : ir.State) → Ready at (frame_of s) s.locals env st → FullRight at s t (ir_meaning.raise w low c message env st)
    raise_right c message made built s t at env st i = comes_then (CameRight at s s.locals (class_type c)) (λ a. CameRight at s s.locals t a × Only Full a) (ir_meaning.construct w low c ir_meaning.with_message (ir.text message ∷ []) env st) (ir.onward (λ v. ir_meaning.throw_value (v ∷ []))) (construct_right c ir_meaning.with_message made built s at (ir.text message ∷ []) (one_fits (ir.text message) (TypeRef.Class string_class) [] [] (text_class at message) none_left) env st i) each
      where
        text_class : (at : Classes) (us : List ℕ) → HasType (IsSub typing) law at (ir.text us) (Class string_class)
        text_class at us = has_type String (of_text us) (primitive_to_class string_class string_class refl refl (record { known = or_true (is_some (known.class_of typing string_class)); way = by_path stay }))

        each : (a : ir.Ended) → CameRight at s s.locals (class_type c) a → Comes (λ a. CameRight at s s.locals t a × Only Full a) (ir.onward (λ v. ir_meaning.throw_value (v ∷ [])) a).end
        each _ (gave k v env st a g e) = (threw k v env st a (operand-type k v (class_type c) Any g (class_any c) (value-not Any refl)) e, tt)
        each _ (left k l v env st r a j g e) = (left k l v env st r a j g e, tt)
        each _ (threw k v env st a j e) = (threw k v env st a j e, tt)

    -- the one object of a class is loaded: what its cell holds, or one that is made
    load_right : (c : List ℕ) → has.modules c ≡ true → (s : Scene) (at : Classes) (v : ir.Value) (env : ir.Env) (st : ir.State) → HasType (IsSub typing) law at v (class_type c) → Ready at (frame_of s) s.locals env st → FullRight at s (class_type c) (ir_meaning.load w low c v env st)
    load_right c is s at ir.null env st i e = comes_then (λ a. CameRight at s s.locals (class_type c) a × Only Full a) (λ a. CameRight at s s.locals (class_type c) a × Only Full a) (ir_meaning.construct w low c ir_meaning.without_parameters [] env st) (ir.onward (ir_meaning.loaded w c)) (both_come Full (CameRight at s s.locals (class_type c)) (ir_meaning.construct w low c ir_meaning.without_parameters [] env st).end (construct_right c ir_meaning.without_parameters its.0 its.1 s at [] none_left env st e) made) (λ a p. each a p.0 p.1)
      where
        its : (has.made c ≡ true) × (has.built (member c Constructor ir_meaning.without_parameters) ≡ true)
        its = laws.modules c is

        made : Perhaps Full (ir_meaning.construct w low c ir_meaning.without_parameters [] env st).end
        made = go_on_only Full (ir_meaning.call low (member_of w c Constructor ir_meaning.without_parameters) (Some (ir.reference (ir.next_address st))) [] env (ir.with_stored (ir.object c (new_fields w c)) st)) (λ v. ir.given (ir.reference (ir.next_address st))) (λ v e z q. cc)

        each : (a : ir.Ended) → CameRight at s s.locals (class_type c) a → Only Full a → Comes (λ a. CameRight at s s.locals (class_type c) a × Only Full a) (ir.onward (ir_meaning.loaded w c) a).end
        each _ (gave k v env st a g e) n = (gave k v env (ir.with_cell c v st) a g (record { locals = e.locals; heap = cell_typed k st c v (operand-type k v (class_type c) (class_type c) g (law.same (class_type c)) (value-not (class_type c) (class_has_value c))) e.heap }), n)
        each _ (left k l v env st r a j g e) n = (left k l v env st r a j g e, tt)
        each _ (threw k v env st a j e) n = (threw k v env st a j e, tt)
    load_right c is s at ir.undefined env st i e = (here at s s.locals (class_type c) ir.undefined env st (inr i) e, λ k. cc)
    load_right c is s at (ir.boolean b) env st i e = (here at s s.locals (class_type c) (ir.boolean b) env st (inr i) e, λ k. cc)
    load_right c is s at (ir.char u) env st i e = (here at s s.locals (class_type c) (ir.char u) env st (inr i) e, λ k. cc)
    load_right c is s at (ir.number z) env st i e = (here at s s.locals (class_type c) (ir.number z) env st (inr i) e, λ k. cc)
    load_right c is s at (ir.long z) env st i e = (here at s s.locals (class_type c) (ir.long z) env st (inr i) e, λ k. cc)
    load_right c is s at (ir.text us) env st i e = (here at s s.locals (class_type c) (ir.text us) env st (inr i) e, λ k. cc)
    load_right c is s at (ir.reference a) env st i e = (here at s s.locals (class_type c) (ir.reference a) env st (inr i) e, λ k. cc)

    -- and stored
    store_right : (at : Classes) (s : Scene) (c : List ℕ) (x : ir.Value) (env : ir.Env) (st : ir.State) → HasType (IsSub typing) law at x (class_type c) → Ready at (frame_of s) s.locals env st → Right at s NoType (ir_meaning.store c (x ∷ []) env st)
    store_right at s c x env st i e = here at s s.locals NoType ir.undefined env (ir.with_cell c x st) (inl refl) (record { locals = e.locals; heap = cell_typed at st c x i e.heap })

    -- the null check
    answered_right : (s : Scene) (t : IrType) → has.helper check_name ≡ true → (at : Classes) (v : ir.Value) (env : ir.Env) (st : ir.State) → GivesType at v t → Ready at (frame_of s) s.locals env st → FullRight at s t (ir_meaning.answered w low (ir_meaning.not_null w v) env st)
    answered_right s t h at ir.null env st g e = let there = laws.exceptions h in raise_right null_pointer (codes "null") there.0 there.1 s t at env st e
    answered_right s t h at ir.undefined env st g e = (here at s s.locals t ir.undefined env st g e, λ k. cc)
    answered_right s t h at (ir.boolean b) env st g e = (here at s s.locals t (ir.boolean b) env st g e, λ k. cc)
    answered_right s t h at (ir.char u) env st g e = (here at s s.locals t (ir.char u) env st g e, λ k. cc)
    answered_right s t h at (ir.number z) env st g e = (here at s s.locals t (ir.number z) env st g e, λ k. cc)
    answered_right s t h at (ir.long z) env st g e = (here at s s.locals t (ir.long z) env st g e, λ k. cc)
    answered_right s t h at (ir.text us) env st g e = (here at s s.locals t (ir.text us) env st g e, λ k. cc)
    answered_right s t h at (ir.reference a) env st g e = (here at s s.locals t (ir.reference a) env st g e, λ k. cc)

    checked_right : (s : Scene) (t : IrType) → has.helper check_name ≡ true → (at : Classes) (r : ir.Run) (env : ir.Env) (st : ir.State) → Right at s t (r env st) → FullRight at s t (ir_meaning.checked w low r env st)
    checked_right s t h at r env st does = comes_then (CameRight at s s.locals t) (λ a. CameRight at s s.locals t a × Only Full a) (r env st) (ir.onward (λ v. ir_meaning.answered w low (ir_meaning.not_null w v))) does each
      where
        each : (a : ir.Ended) → CameRight at s s.locals t a → Comes (λ a. CameRight at s s.locals t a × Only Full a) (ir.onward (λ v. ir_meaning.answered w low (ir_meaning.not_null w v)) a).end
        each _ (gave k v env st a g e) = full-rebase at k a s t (ir_meaning.answered w low (ir_meaning.not_null w v) env st).end (answered_right s t h k v env st g e)
        each _ (left k l v env st r a j g e) = (left k l v env st r a j g e, tt)
        each _ (threw k v env st a j e) = (threw k v env st a j e, tt)

    -- a value that isn't null where null has no meaning
    never_null_right : (s : Scene) (t : IrType) (at : Classes) (r : ir.Run) (env : ir.Env) (st : ir.State) → FullRight at s t (r env st) → FullRight at s t (ir.go_on (r env st) ir_meaning.never_null)
    never_null_right s t at r env st does = comes_then (λ a. CameRight at s s.locals t a × Only Full a) (λ a. CameRight at s s.locals t a × Only Full a) (r env st) (ir.onward ir_meaning.never_null) does (λ a p. each a p.0 p.1)
      where
        given_right : (k : Classes) (v : ir.Value) (env : ir.Env) (st : ir.State) → Full v → (v ≡ ir.null) ⊎ ((env : ir.Env) (st : ir.State) → ir_meaning.never_null v env st ≡ ir.given v env st) → CameRight at s s.locals t (ir.ends (ir.gives v) env st) → Comes (λ a. CameRight at s s.locals t a × Only Full a) (ir_meaning.never_null v env st).end
        given_right k v env st n (inl e) came = absurd (n e)
        given_right k v env st n (inr is) came = subst (λ (o : Out ir.Ended). Comes (λ a. CameRight at s s.locals t a × Only Full a) o.end) (sym (is env st)) (came, n)

        each : (a : ir.Ended) → CameRight at s s.locals t a → Only Full a → Comes (λ a. CameRight at s s.locals t a × Only Full a) (ir.onward ir_meaning.never_null a).end
        each _ (gave k v env st a g e) n = given_right k v env st n (null_or_given v) (gave k v env st a g e)
        each _ (left k l v env st r a j g e) n = (left k l v env st r a j g e, tt)
        each _ (threw k v env st a j e) n = (threw k v env st a j e, tt)

    -- a sure tree gives no null
    primitive_only : (at : Classes) (s : Scene) (inner : List ParamDef) (t : IrType) (e : End ir.Ended) → is_sure_type t ≡ true → Comes (CameRight at s inner t) e → Perhaps Full e
    primitive_only at s inner t Going h k = tt
    primitive_only at s inner t Wrong h k = tt
    primitive_only at s inner t (Done a) h k = go a k
      where
        go : (a : ir.Ended) → CameRight at s inner t a → Only Full a
        go _ (gave k v env st b (inl none) e) = impossible (sym (ap is_sure_type none) ∙ h)
        go _ (gave k v env st b (inr i) e) = primitive_full (IsSub typing) law k v t h i
        go _ (left k l v env st r b i g e) = tt
        go _ (threw k v env st b i e) = tt

    held_only : (o : Option ir.Value) (env : ir.Env) (st : ir.State) → NeverNull o → Perhaps Full (ir_meaning.local_value o env st).end
    held_only None env st h = tt
    held_only (Some v) env st h = λ e. h (ap Some e)

    full_only : (P : ir.Ended → Type 0) (e : End ir.Ended) → Comes (λ a. P a × Only Full a) e → Perhaps Full e
    full_only P Going h = tt
    full_only P Wrong h = tt
    full_only P (Done (ir.ends (ir.gives v) env st)) h = h.1
    full_only P (Done (ir.ends (ir.throws v) env st)) h = tt
    full_only P (Done (ir.ends (ir.leaves l v) env st)) h = tt
    full_only P (Done (ir.ends ir.stops env st)) h = tt

    module_right : (p : Position) (c : List ℕ) (s : Scene) → Typed typing has s (load_module p c) → (at : Classes) (env : ir.Env) (st : ir.State) → Ready at (frame_of s) s.locals env st → FullRight at s (class_type c) (step (load_module p c) env st)
    module_right p c s h at env st i = load_right c h.built s at (st.cells c) env st (i.heap.cells c (load_cell has c h.built)) i

    new_only : (r : ArrayRef) (vs : List ir.Value) (env : ir.Env) (st : ir.State) → Perhaps Full (ir_meaning.new_items w low r vs env st).end
    new_only r (ir.number (pos n) ∷ []) env st = λ q. cc
    new_only r (ir.number (negsuc n) ∷ []) env st = go_on_only Full (ir_meaning.construct w low negative_size ir_meaning.with_message (ir.text _ ∷ []) env st) (λ v. ir_meaning.throw_value (v ∷ [])) (λ v env st. tt)
    new_only r _ env st = tt

    sure_only : (t : Term) (s : Scene) → Typed typing has s t → is_sure s.sure t ≡ true → (at : Classes) (env : ir.Env) (st : ir.State) → Ready at (frame_of s) s.locals env st → Right at s (type_of_term t) (step t env st) → Perhaps Full (step t env st).end
    sure_only (this_ref p t) s h k at env st i does = object_only env.this_value (i.locals.this h.finds.0)
      where
        object_only : (o : Option ir.Value) → HoldsObject at o s.owner → Perhaps Full (ir_meaning.local_value o env st).end
        object_only _ (holds_object v _ j n) = n
    sure_only (new_object p c m ts) s h k at env st i does = order_only Full (ir_meaning.operands w low ts) (ir_meaning.construct w low c m) env st (λ vs env st. go_on_only Full (ir_meaning.call low (member_of w c Constructor m) (Some (ir.reference (ir.next_address st))) vs env (ir.with_stored (ir.object c (new_fields w c)) st)) (λ v. ir.given (ir.reference (ir.next_address st))) (λ v e z q. cc))
    sure_only (new_array p q e) s h k at env st i does = order_only Full (step e ∷ []) (ir_meaning.new_items w low q) env st (λ vs env st. new_only q vs env st)
    sure_only (array_value p q ts) s h k at env st i does = order_only Full (ir_meaning.operands w low ts) (ir_meaning.made_array q) env st (λ vs env st x. cc)
    sure_only (load_module p c) s h k at env st i does = full_only (CameRight at s s.locals (class_type c)) (step (load_module p c) env st).end (module_right p c s h at env st i)
    sure_only (var_ref p x t) s h k at env st i does = go (s.sure x) refl k
      where
        go : (b : Bool) → s.sure x ≡ b → (b || is_sure_type t) ≡ true → Perhaps Full (step (var_ref p x t) env st).end
        go true e q = held_only (env.locals x) env st (i.locals.full x h.finds.local h.finds.is e)
        go false e q = primitive_only at s s.locals t (step (var_ref p x t) env st).end q does
    sure_only t s h k at env st i does = primitive_only at s s.locals (type_of_term t) (step t env st).end k does

    -- a receiver, with its null check where it isn't sure
    receiver_right : (e : Term) (s : Scene) → Typed typing has s e → (is_sure s.sure e ≡ false → has.helper check_name ≡ true) → (at : Classes) (env : ir.Env) (st : ir.State) → Ready at (frame_of s) s.locals env st → Right at s (type_of_term e) (step e env st) → FullRight at s (type_of_term e) (ir_meaning.receiving w (is_sure env.sure e) low (step e) env st)
    receiver_right e s h check at env st i does = subst (λ (q : List ℕ → Bool). FullRight at s (type_of_term e) (ir_meaning.receiving w (is_sure q e) low (step e) env st)) (sym i.locals.sure) (go (is_sure s.sure e) refl)
      where
        go : (b : Bool) → is_sure s.sure e ≡ b → FullRight at s (type_of_term e) (ir_meaning.receiving w b low (step e) env st)
        go true k = never_null_right s (type_of_term e) at (step e) env st (both_come Full (CameRight at s s.locals (type_of_term e)) (step e env st).end does (sure_only e s h k at env st i does))
        go false k = checked_right s (type_of_term e) (check k) at (step e) env st does

    -- the receiver of a constructor's call is This
    own_right : (e : Term) (s : Scene) → IsReceiver Constructor e → Typed typing has s e → (at : Classes) (env : ir.Env) (st : ir.State) → Ready at (frame_of s) s.locals env st → FullRight at s (type_of_term e) (ir_meaning.receiving w (is_sure env.sure e) low (step e) env st)
    own_right (this_ref p t) s own h at env st i = never_null_right s t at (step (this_ref p t)) env st (this_right at s t s.owner env.this_value env st h.finds.1 (i.locals.this h.finds.0) i)
    own_right _ s own h at env st i = absurd own

    -- the field of a receiver
    there_right : (at : Classes) (s : Scene) (t : IrType) (o : Option ir.Value) (env : ir.Env) (st : ir.State) → HoldsType at o t → Ready at (frame_of s) s.locals env st → Right at s t (ir_meaning.value_or_wrong o env st)
    there_right at s t _ env st (holds_type v _ h) e = here at s s.locals t v env st (inr h) e

    -- a receiver of a class with a field is an object that has the field
    holder_right : {A : Type 0} (at : Classes) (c f : List ℕ) (t : IrType) (v : ir.Value) (st : ir.State) → has.field c f t ≡ true → HasType (IsSub typing) law at v (class_type c) → Full v → HeapTyped at st → ((a : ℕ) (d : List ℕ) → v ≡ ir.reference a → at a ≡ Some (Class d) → list_any (is_same_text c) (chain_of w d) ≡ true → A) → A
    holder_right {A} at c f t v st is (has_type o i sub) n e on = go (sort_of (IsSub typing) law at v o i)
      where
        go : Sort (IsSub typing) law at v o → A
        go (is_null k) = absurd (n k)
        go (is_primitive h k) = absurd (laws.strangers c f t is o h k sub)
        go (is_object a d same its known) = on a d same known (laws.holders c f t is d (e.made a (Class d) known) (subst (λ (q : IrType). IsSub typing q (class_type c)) its sub))
        go (is_array a r same known (inl its)) = absurd (laws.tops c f t is (above_array r (class_type c) (subst (λ (q : IrType). IsSub typing q (class_type c)) its sub) (λ q. class_not_array c q)))
        go (is_array a r same known (inr its)) = absurd (laws.tops c f t is (subst (λ (q : IrType). IsSub typing q (class_type c)) its sub))

    field_right : (at : Classes) (s : Scene) (c f : List ℕ) (t : IrType) (v : ir.Value) (env : ir.Env) (st : ir.State) → has.field c f t ≡ true → HasType (IsSub typing) law at v (class_type c) → Full v → Ready at (frame_of s) s.locals env st → Right at s t (ir_meaning.select_field c f (v ∷ []) env st)
    field_right at s c f t v env st is h n e = holder_right at c f t v st is h n e.heap (λ a d same known k. subst (λ (x : ir.Value). Right at s t (ir_meaning.select_field c f (x ∷ []) env st)) (sym same) (stored d (slice_get st.heap a) k (e.heap.stored a (Class d) known)))
      where
        stored : (d : List ℕ) (q : Option ir.Stored) → list_any (is_same_text c) (chain_of w d) ≡ true → ObjectTyped at d q → Right at s t (ir_meaning.value_or_wrong (ir_meaning.field_of c f q) env st)
        stored d _ k (typed_object fields h) = there_right at s t (fields c f) env st (h c f t k is) e

    -- an assignment to a field
    set_right : (at : Classes) (s : Scene) (c f : List ℕ) (t : IrType) (v x : ir.Value) (env : ir.Env) (st : ir.State) → has.field c f t ≡ true → HasType (IsSub typing) law at v (class_type c) → Full v → HasType (IsSub typing) law at x t → Ready at (frame_of s) s.locals env st → Right at s NoType (ir_meaning.assign_field c f (v ∷ x ∷ []) env st)
    set_right at s c f t v x env st is h n i e = holder_right at c f t v st is h n e.heap (λ a d same known k. subst (λ (y : ir.Value). Right at s NoType (ir_meaning.assign_field c f (y ∷ x ∷ []) env st)) (sym same) (stored a d known k (slice_get st.heap a) refl (e.heap.stored a (Class d) known)))
      where
        there : (o : Option ir.Value) (next : ir.State) → HoldsType at o t → HeapTyped at next → Right at s NoType (ir_meaning.assigned (ir_meaning.if_there o next) env st)
        there _ next (holds_type y _ j) heap = here at s s.locals NoType ir.undefined env next (inl refl) (record { locals = e.locals; heap = heap })

        stored : (a : ℕ) (d : List ℕ) → at a ≡ Some (Class d) → list_any (is_same_text c) (chain_of w d) ≡ true → (q : Option ir.Stored) → slice_get st.heap a ≡ q → ObjectTyped at d q → Right at s NoType (ir_meaning.assigned (ir_meaning.set_field c f x a q st) env st)
        stored a d known k _ stands (typed_object fields g) = there (fields c f) (ir.at_address a (ir.object d (ir.with_field c f x fields)) st) (g c f t k is) (written laws at st e.heap a d known fields stands g c f t is x i)

    -- an assignment to a static field
    static_set_right : (at : Classes) (s : Scene) (c f : List ℕ) (t : IrType) (x : ir.Value) (env : ir.Env) (st : ir.State) → has_static has c f t ≡ true → HasType (IsSub typing) law at x t → Ready at (frame_of s) s.locals env st → Right at s NoType (ir_meaning.assign_static c f (x ∷ []) env st)
    static_set_right at s c f t x env st is i e = there (st.statics c f) (e.heap.statics c f t is)
      where
        next : ir.State
        next = ir.with_static c f x st

        typed : (b g : List ℕ) (u : IrType) → has_static has b g u ≡ true → HoldsType at (next.statics b g) u
        typed b g u l = go (is_same_text b c && is_same_text g f) refl
          where
            go : (q : Bool) → (is_same_text b c && is_same_text g f) ≡ q → HoldsType at (if q then Some x else st.statics b g) u
            go true k =
                let parts = and_parts (is_same_text b c) (is_same_text g f) k in
                let one : has_static has c g u ≡ true = subst (λ (n : List ℕ). has_static has n g u ≡ true) (text-same b c parts.0) l in
                let two : has_static has c f u ≡ true = subst (λ (n : List ℕ). has_static has c n u ≡ true) (text-same g f parts.1) one in
                holds_type x u (subst (HasType (IsSub typing) law at x) (laws.one_static c f t u is two) i)
            go false k = e.heap.statics b g u l

        there : (o : Option ir.Value) → HoldsType at o t → Right at s NoType (ir_meaning.assigned (ir_meaning.if_there o next) env st)
        there _ (holds_type y _ j) = here at s s.locals NoType ir.undefined env next (inl refl) (record { locals = e.locals; heap = record { stored = e.heap.stored; made = e.heap.made; statics = typed; cells = e.heap.cells } })

    -- an assignment to the field of a receiver
    pub field_set_right : (p q : Position) (d : Term) (c f : List ℕ) (t : IrType) (e : Term) → TreeRight d → TreeRight e → (s : Scene) → InScope (frame_of s) s.locals → has.field c f t ≡ true → may_check has s.sure d ≡ true → IsSub typing (type_of_term d) (class_type c) → IsSub typing (type_of_term e) t → Typed typing has s d → Typed typing has s e → Fresh s (Own (assign p (select q d c f t) e)) → Sures s (definitions (assign p (select q d c f t) e)) → (at : Classes) (env : ir.Env) (st : ir.State) → Ready at (frame_of s) s.locals env st → Right at s NoType (step (assign p (select q d c f t) e) env st)
    field_set_right p q d c f t e first second s v is check own fits h k fresh u at env st i = go_on_both at s s.locals (type_of_term d) s.locals NoType Full (ir_meaning.receiving w (is_sure env.sure d) low (step d) env st) (λ a. ir_meaning.assign_on c f (step e) (a ∷ [])) (receiver_right d s h (check_there d s check) at env st i (first s v h (λ x o. fresh x (inl o)) parts.0 at env st i)) (λ y b a env st g n i. let on = operand-type y a (type_of_term d) (class_type c) g own (value-not (class_type c) (class_has_value c)) in holder_right y c f t a st is on n i.heap (λ o b same known l. subst (λ (x : ir.Value). Right y s NoType (ir_meaning.assign_on c f (step e) (x ∷ []) env st)) (sym same) (behind y o env st (subst (λ (x : ir.Value). HasType (IsSub typing) law y x (class_type c)) same on) (subst Full same n) i)))
      where
        parts : Sures s (definitions d) × Sures s (definitions e)
        parts = sures-parts s (definitions d) (definitions e) u

        behind : (y : Classes) (o : ℕ) (env : ir.Env) (st : ir.State) → HasType (IsSub typing) law y (ir.reference o) (class_type c) → Full (ir.reference o) → Ready y (frame_of s) s.locals env st → Right y s NoType (ir_meaning.assign_on c f (step e) (ir.reference o ∷ []) env st)
        behind y o env st on n i = go_on_right y s s.locals (type_of_term e) s.locals NoType (step e env st) (λ x. ir_meaning.assign_field c f (ir.reference o ∷ x ∷ [])) (second s v k (λ x o. fresh x (inr o)) parts.1 y env st i) (λ z m x env st j i. set_right z s c f t (ir.reference o) x env st is (type-lift (IsSub typing) law y z m (ir.reference o) (class_type c) on) n (operand-type z x (type_of_term e) t j fits (value-not t (laws.fields c f t is).0)) i)

    called_on : (d : Option MethodDef) (v : ir.Value) (vs : List ir.Value) (env : ir.Env) (st : ir.State) → Full v → ir_meaning.call_on w low d (v ∷ vs) env st ≡ ir_meaning.call low d (Some v) vs env st
    called_on d ir.null vs env st n = absurd (n refl)
    called_on d v vs env st n = refl

    -- what stands below the class of a call stands below that of its target, also as bodies are typed
    target_above : (m o : Member) → has.received o ≡ true → IsTargetOf w m o → IsSub typing (class_type m.class) (class_type o.class)
    target_above m o r its = subst (λ (x : World). IsSub x (class_type m.class) (class_type o.class)) (sym (laws.typed (by_call o r))) its.above

    -- a call on a receiver
    received_right : (c : List ℕ) (n : Namespace) (m : MethodName) (o : Member) → RightMember w typing has o → IsTargetOf w (member c n m) o → IsSub typing (class_type c) (class_type o.class) → (s : Scene) (t own : IrType) → t ≡ call_type m.result → IsSub typing own (class_type c) → (k : Classes) (v : ir.Value) → GivesType k v own → Full v → (y : Classes) → Adds k y → (vs : List ir.Value) (env : ir.Env) (st : ir.State) → ValuesFit y vs m.params → Ready y (frame_of s) s.locals env st → Right y s t (ir_meaning.call_on w low (ir_meaning.static_target w c n m) (v ∷ vs) env st)
    received_right c n m o l its above s t own is sub k v g full y b vs env st q i = subst (λ (e : Out ir.Ended). Right y s t e) (sym (ap (λ (d : Option MethodDef). ir_meaning.call_on w low d (v ∷ vs) env st) (its.runs l.definition l.its_body l.has_body l.found) ∙ called_on (Some l.definition) v vs env st full ∙ ap (λ (d : Option MethodDef). ir_meaning.call low d (Some v) vs env st) (sym l.found))) (call_right laws low right o l s t (is ∙ ap (λ (f : MethodName). call_type f.result) (sym its.method)) y vs (subst (λ (f : MethodName). ValuesFit y vs f.params) (sym its.method) q) (Some v) (λ r. holds_object v o.class (type-lift (IsSub typing) law k y b v (class_type o.class) (operand-type k v own (class_type o.class) g (law.further own (class_type c) (class_type o.class) sub above) (value-not (class_type o.class) (class_has_value o.class)))) full) env st i)

    -- the class by which a call on a value is looked up, and the value as one of its type
    pub record LooksAt (at : Classes) (st : ir.State) (c : List ℕ) (v : ir.Value) : Type 0 where
      pub class : List ℕ
      pub told : class_of_value st v ≡ Some class
      pub below : IsClassBelow typing has c class
      pub typed : HasType (IsSub typing) law at v (class_type class)

    of_itself : (o : IrType) (d : List ℕ) → known.is_hijacked d ≡ true → hijacked_class o ≡ Some d → IsSub typing o (Class d)
    of_itself o d h is = primitive_to_class d d is refl (record { known = or_right (is_some (known.class_of typing d)) (known.is_hijacked d) h; way = by_path stay })

    array_looks : (at : Classes) (st : ir.State) → HeapTyped at st → (c : List ℕ) (j : ℕ) (r : ArrayRef) → at j ≡ Some (Array r) → IsSub typing (Class object) (class_type c) → LooksAt at st c (ir.reference j)
    array_looks at st heap c j r e f = record { class = object; told = go (slice_get st.heap j) (arrays_there at st heap j r e); below = made_below object (heap.made j (Array r) e) f; typed = has_type (Array r) (of_array j r e) (to_any refl (λ e. cc)) }
      where
        go : (o : Option ir.Stored) → IsArrayAt r o → stored_class o ≡ Some object
        go _ (array_at items) = refl

    looks_at : (at : Classes) (st : ir.State) → HeapTyped at st → (c : List ℕ) (v : ir.Value) → HasType (IsSub typing) law at v (class_type c) → Full v → LooksAt at st c v
    looks_at at st heap c _ (has_type _ of_null f) n = absurd (n refl)
    looks_at at st heap c _ (has_type _ of_undefined f) n = record { class = codes "java.lang.Void"; told = refl; below = kind_below Undefined _ refl f; typed = has_type Undefined of_undefined (of_itself Undefined _ refl refl) }
    looks_at at st heap c _ (has_type _ (of_boolean b) f) n = record { class = codes "java.lang.Boolean"; told = refl; below = kind_below Boolean _ refl f; typed = has_type Boolean (of_boolean b) (of_itself Boolean _ refl refl) }
    looks_at at st heap c _ (has_type _ (of_char u) f) n = record { class = codes "java.lang.Character"; told = refl; below = kind_below Char _ refl f; typed = has_type Char (of_char u) (of_itself Char _ refl refl) }
    looks_at at st heap c _ (has_type _ (of_long z) f) n = record { class = codes "java.lang.Long"; told = refl; below = kind_below Long _ refl f; typed = has_type Long (of_long z) (of_itself Long _ refl refl) }
    looks_at at st heap c _ (has_type _ (of_byte z) f) n = record { class = codes "java.lang.Integer"; told = refl; below = kind_below Byte _ refl f; typed = has_type Int (of_int z) (of_itself Int _ refl refl) }
    looks_at at st heap c _ (has_type _ (of_short z) f) n = record { class = codes "java.lang.Integer"; told = refl; below = kind_below Short _ refl f; typed = has_type Int (of_int z) (of_itself Int _ refl refl) }
    looks_at at st heap c _ (has_type _ (of_int z) f) n = record { class = codes "java.lang.Integer"; told = refl; below = kind_below Int _ refl f; typed = has_type Int (of_int z) (of_itself Int _ refl refl) }
    looks_at at st heap c _ (has_type _ (of_text us) f) n = record { class = codes "java.lang.String"; told = refl; below = kind_below String _ refl f; typed = has_type String (of_text us) (of_itself String _ refl refl) }
    looks_at at st heap c _ (has_type _ (of_object j d e bare) f) n = record { class = d; told = go (slice_get st.heap j) (objects_there at st heap j d e); below = made_below d (heap.made j (Class d) e) f; typed = has_type (Class d) (of_object j d e bare) (class_below d) }
      where
        go : (o : Option ir.Stored) → IsObject d o → stored_class o ≡ Some d
        go _ (an_object fields) = refl
    looks_at at st heap c _ (has_type _ (of_array j r e) f) n = array_looks at st heap c j r e (above_array r (class_type c) f (λ q. class_not_array c q))
    looks_at at st heap c _ (has_type _ (of_any_array j r e) f) n = array_looks at st heap c j r e f

    -- a receiver of a type of arrays
    array_of : (at : Classes) (v : ir.Value) (own : IrType) (q : ArrayRef) → own ≡ Array q → GivesType at v own → HasType (IsSub typing) law at v (Array q)
    array_of at v own q e g = operand-type at v own (Array q) g (subst (IsSub typing own) e (law.same own)) (λ k. cc)

    -- a call of a method that is looked up: each receiver of the type tells the class that answers
    abbrev AnswersOn : List ℕ → MethodName → IrType → Type 0
    AnswersOn c m own = (at : Classes) (st : ir.State) → HeapTyped at st → (v : ir.Value) → GivesType at v own → Full v → (l : LooksAt at st c v) × Answers w has c l.class m

    -- one that can be looked up on the objects of a class, on each receiver of the class's type
    looked_answers : (c : List ℕ) (m : MethodName) → has.looked_up c m ≡ true → (own : IrType) → IsSub typing own (class_type c) → AnswersOn c m own
    looked_answers c m is own sub at st heap v g n = let l = looks_at at st heap c v (operand-type at v own (class_type c) g sub (value-not (class_type c) (class_has_value c))) n in (l, laws.looked c m is l.class l.below)

    -- one that can be called on arrays, on each array
    array_answers : (m : MethodName) → has.on_arrays m ≡ true → (own : IrType) (q : ArrayRef) → own ≡ Array q → AnswersOn object m own
    unfolding array_looks
    array_answers m is own q e at st heap v g n = of v (as_array (IsSub typing) law at q v (array_of at v own q e g) n)
      where
        of : (x : ir.Value) → IsArrayOf (IsSub typing) law at q x → (l : LooksAt at st object x) × Answers w has object l.class m
        of _ (an_array a r known sub) = (array_looks at st heap object a r known (to_any refl (λ e. cc)), laws.on_arrays m is (heap.made a (Array r) known))

    instance_if : (c : List ℕ) (m : MethodName) (at : Classes) (v : ir.Value) (env : ir.Env) (st : ir.State) (goes : Out ir.Ended) (l : LooksAt at st c v) → Answers w has c l.class m → (if is_instance w st v c then goes else wrong) ≡ goes
    instance_if c m at v env st goes l a = ap (λ (o : Option (List ℕ)). if (is_ancestor_of_any w o c || is_small_number v c) then goes else wrong) l.told ∙ ap (λ (b : Bool). if (b || is_small_number v c) then goes else wrong) a.below

    taken_right : (c : List ℕ) (m : MethodName) (s : Scene) (own : IrType) → AnswersOn c m own → (at : Classes) (o : Out ir.Ended) → FullRight at s own o → FullRight at s own (ir.go_on o (ir_meaning.only_instance w c))
    taken_right c m s own on at o h = comes_then (λ a. CameRight at s s.locals own a × Only Full a) (λ a. CameRight at s s.locals own a × Only Full a) o (ir.onward (ir_meaning.only_instance w c)) h (λ a p. each a p.0 p.1)
      where
        each : (a : ir.Ended) → CameRight at s s.locals own a → Only Full a → Comes (λ a. CameRight at s s.locals own a × Only Full a) (ir.onward (ir_meaning.only_instance w c) a).end
        each _ (gave k v env st a g e) n = let its = on k st e.heap v g n in subst (λ (x : Out ir.Ended). Comes (λ a. CameRight at s s.locals own a × Only Full a) x.end) (sym (instance_if c m k v env st (ir.given v env st) its.0 its.1)) (gave k v env st a g e, n)
        each _ (left k l v env st r a i g e) n = (left k l v env st r a i g e, tt)
        each _ (threw k v env st a i e) n = (threw k v env st a i e, tt)

    looked_right : (c : List ℕ) (m : MethodName) (s : Scene) (t own : IrType) → AnswersOn c m own → t ≡ call_type m.result → (k : Classes) (v : ir.Value) → GivesType k v own → Full v → (y : Classes) → Adds k y → (vs : List ir.Value) (env : ir.Env) (st : ir.State) → ValuesFit y vs m.params → Ready y (frame_of s) s.locals env st → Right y s t (ir_meaning.call_instance w low c m (v ∷ vs) env st)
    looked_right c m s t own on result k v g full y b vs env st q i = by (on y st i.heap v (gives-lift k y b v own g) full)
      where
        by : (l : LooksAt y st c v) × Answers w has c l.class m → Right y s t (ir_meaning.call_instance w low c m (v ∷ vs) env st)
        by p = let l = p.0 in let a = p.1 in subst (λ (x : Out ir.Ended). Right y s t x) (sym (instance_if c m y v env st (ir_meaning.call_on w low (ir_meaning.target_in w (class_of_value st v) m) (v ∷ vs) env st) l a)) (subst (λ (o : Option (List ℕ)). Right y s t (ir_meaning.call_on w low (ir_meaning.target_in w o m) (v ∷ vs) env st)) (sym l.told) (received_right l.class Namespace.Public m (member a.owner Namespace.Public m) (laws.received (member a.owner Namespace.Public m) a.received) a.target (target_above (member l.class Namespace.Public m) (member a.owner Namespace.Public m) a.received a.target) s t (class_type l.class) result (law.same (class_type l.class)) y v (inr l.typed) full y (adds-refl y) vs env st q i))

    -- a method without a result gives undefined
    abbrev IsUndefined : ir.Value → Type 0
    IsUndefined v = v ≡ ir.undefined

    behind_only : (l : Lines) (e : End ir.Ended) (f : ir.Ended → Out ir.Ended) → ((a : ir.Ended) → Perhaps IsUndefined (f a).end) → Perhaps IsUndefined (after l e f).end
    behind_only l (Done a) f h = h a
    behind_only l Going f h = tt
    behind_only l Wrong f h = tt

    returned_only : (env : ir.Env) (a : ir.Ended) → Perhaps IsUndefined (ir_meaning.returned NoType env a).end
    returned_only env (ir.ends (ir.gives v) inner st) = refl
    returned_only env (ir.ends (ir.throws v) inner st) = tt
    returned_only env (ir.ends (ir.leaves l v) inner st) = tt
    returned_only env (ir.ends ir.stops inner st) = tt

    body_only : (o : Option Term) (this : Option ir.Value) (l : Option ir.Locals) (env : ir.Env) (st : ir.State) → Perhaps IsUndefined (ir_meaning.body_call low NoType o this l env st).end
    body_only (Some e) this (Some l) env st = let o = low e (record { this_value = this; locals = l; sure = sure_locals e }) st in behind_only o.lines o.end (ir_meaning.returned NoType env) (returned_only env)
    body_only (Some e) this None env st = tt
    body_only None this (Some l) env st = tt
    body_only None this None env st = tt

    -- what a call gives is of type any
    widened : (y : Classes) (s : Scene) (t : IrType) (e : End ir.Ended) → (t ≡ NoType → Perhaps IsUndefined e) → Comes (CameRight y s s.locals t) e → Comes (CameRight y s s.locals Any) e
    widened y s t Going h k = tt
    widened y s t Wrong h k = k
    widened y s t (Done a) h k = by a h k
      where
        by : (a : ir.Ended) → (t ≡ NoType → Perhaps IsUndefined (Done a)) → CameRight y s s.locals t a → CameRight y s s.locals Any a
        by _ h (gave k v env st a (inl none) e) = gave k v env st a (inr (subst (λ (x : ir.Value). HasType (IsSub typing) law k x Any) (sym (h none)) (has_type Undefined of_undefined (to_any refl (λ e. cc))))) e
        by _ h (gave k v env st a (inr i) e) = gave k v env st a (inr (of_any (IsSub typing) law k (λ o n. to_any refl n) v t i)) e
        by _ h (left k l v env st r a i g e) = left k l v env st r a i g e
        by _ h (threw k v env st a i e) = threw k v env st a i e

    -- a call by a reflective name
    named_right : (p : MethodName) → has.reflected p ≡ true → (s : Scene) (own : IrType) → (own ≡ NoType → ⊥) → (k : Classes) (v : ir.Value) → GivesType k v own → Full v → (y : Classes) → Adds k y → (vs : List ir.Value) (env : ir.Env) (st : ir.State) → ValuesFit y vs p.params → Ready y (frame_of s) s.locals env st → Right y s Any (ir_meaning.call_reflective w low p (v ∷ vs) env st)
    named_right p is s own value k v g full y b vs env st q i = subst (λ (o : Option (List ℕ)). Right y s Any (ir_meaning.call_proxy w low p o (v ∷ vs) env st)) (sym l.told) (by (laws.reflected p is l.class l.below))
      where
        l : LooksAt y st object v
        l = looks_at y st i.heap object v (type-lift (IsSub typing) law k y b v Any (operand-type k v own Any g (to_any refl value) (value-not Any refl))) full

        by : AnswersByName w has l.class p → Right y s Any (ir_meaning.call_proxy w low p (Some l.class) (v ∷ vs) env st)
        by (no_method e made built) = subst (λ (o : Option MethodDef). Right y s Any (ir_meaning.call_named w low p l.class o (v ∷ vs) env st)) (sym e) (only_right (CameRight y s s.locals Any) Full (ir_meaning.raise w low ir_meaning.no_such_method (units_of (spelled_method p)) env st).end (raise_right ir_meaning.no_such_method (units_of (spelled_method p)) made built s Any y env st i))
        by (has_method d owner e params received its) = subst (λ (o : Option MethodDef). Right y s Any (ir_meaning.call_named w low p l.class o (v ∷ vs) env st)) (sym e) (widened y s (call_type d.name.result) (ir_meaning.call_on w low (ir_meaning.target_in w (Some l.class) d.name) (v ∷ vs) env st).end none (received_right l.class Namespace.Public d.name o there its (target_above (member l.class Namespace.Public d.name) o received its) s (call_type d.name.result) (class_type l.class) refl (law.same (class_type l.class)) y v (inr l.typed) full y (adds-refl y) vs env st (subst (λ (rs : List TypeRef). ValuesFit y vs rs) (sym params) q) i))
          where
            o : Member
            o = member owner Namespace.Public d.name

            there : RightMember w typing has o
            there = laws.received o received

            called : ir_meaning.call_on w low (ir_meaning.target_in w (Some l.class) d.name) (v ∷ vs) env st ≡ ir_meaning.body_call low there.definition.result there.definition.body (Some v) (ir_meaning.parameters there.definition.params vs) env st
            called = ap (λ (c : Option MethodDef). ir_meaning.call_on w low c (v ∷ vs) env st) (its.runs there.definition there.its_body there.has_body there.found) ∙ called_on (Some there.definition) v vs env st full

            none : call_type d.name.result ≡ NoType → Perhaps IsUndefined (ir_meaning.call_on w low (ir_meaning.target_in w (Some l.class) d.name) (v ∷ vs) env st).end
            none n = subst (λ (c : Out ir.Ended). Perhaps IsUndefined c.end) (sym called) (subst (λ (r : IrType). Perhaps IsUndefined (ir_meaning.body_call low r there.definition.body (Some v) (ir_meaning.parameters there.definition.params vs) env st).end) (sym (there.result_is ∙ n)) (body_only there.definition.body (Some v) (ir_meaning.parameters there.definition.params vs) env st))

    -- Apply: of the member that a hijacked class decides on, of a method of an array, by a reflective name, or of one that is looked up
    applied_right : (p : Position) (e : Term) (m : MethodName) (ts : Terms) (t : IrType) (s : Scene) → Typed typing has s (apply p e m ts t) → (at : Classes) (env : ir.Env) (st : ir.State) → Ready at (frame_of s) s.locals env st → Right at s (type_of_term e) (step e env st) → ((y : Classes) (act : List ir.Value → ir.Run) (env : ir.Env) (st : ir.State) → Ready y (frame_of s) s.locals env st → ((k : Classes) → Adds y k → (vs : List ir.Value) (env : ir.Env) (st : ir.State) → ValuesFit k vs m.params → Ready k (frame_of s) s.locals env st → Right k s t (act vs env st)) → Right y s t (ir_meaning.in_order (ir_meaning.operands w low ts) act env st)) → Right at s t (step (apply p e m ts t) env st)
    applied_right p e m ts t s h at env st i does others = by (applied typing has s p e m ts t h.0)
      where
        received : ir.Run
        received = ir_meaning.receiving w (is_sure env.sure e) low (step e)

        by : Applied typing has s p e m ts t → Right at s t (step (apply p e m ts t) env st)
        by (directly q) = let c = q.is.direct.class in subst (λ (r : ir.Run). Right at s t (ir_meaning.in_order (r ∷ ir_meaning.operands w low ts) (ir_meaning.call_method w low (type_of_term e) m m.result) env st)) (sym (takes_any w low (type_of_term e) m c q.is.direct.receiver q.is.direct.hijacked received)) (subst (λ (act : List ir.Value → ir.Run). Right at s t (ir_meaning.in_order (received ∷ ir_meaning.operands w low ts) act env st)) (sym (hijacked_call w low (type_of_term e) m c q.is.direct.receiver q.is.direct.hijacked q.is.result q.is.named)) (go_on_both at s s.locals (type_of_term e) s.locals t Full (received env st) (λ a. ir_meaning.in_order (ir_meaning.operands w low ts) (λ vs. ir_meaning.call_on w low (ir_meaning.static_target w c Namespace.Public m) (a ∷ vs))) (receiver_right e s h.1 (check_there e s q.checked) at env st i does) (λ y b a env st g n i. others y (λ vs. ir_meaning.call_on w low (ir_meaning.static_target w c Namespace.Public m) (a ∷ vs)) env st i (λ z d vs env st k i. received_right c Namespace.Public m (has.lookup.target (member c Namespace.Public m)) (laws.received (has.lookup.target (member c Namespace.Public m)) q.there) (laws.targets (member c Namespace.Public m) q.there) (target_above (member c Namespace.Public m) (has.lookup.target (member c Namespace.Public m)) q.there (laws.targets (member c Namespace.Public m) q.there)) s t (type_of_term e) h.0.meets.1 (q.is.direct.below typing) y a g n z d vs env st k i))))
        by (by_lookup q) = let l = q.is.lookup in let c = l.class in let up = (and_parts (has.looked_up c m) (has.dispatched m || not (has.lookup.has_hijacked c)) l.there).0 in subst (λ (r : ir.Run). Right at s t (ir_meaning.in_order (r ∷ ir_meaning.operands w low ts) (ir_meaning.call_method w low (type_of_term e) m m.result) env st)) (sym (takes_instances w (type_of_term e) m c l.receiver l.free q.is.result q.is.named received)) (subst (λ (act : List ir.Value → ir.Run). Right at s t (ir_meaning.in_order ((λ env s. ir.go_on (received env s) (ir_meaning.only_instance w c)) ∷ ir_meaning.operands w low ts) act env st)) (sym (calls_instance w (type_of_term e) m c l.receiver l.free q.is.result q.is.named low)) (go_on_both at s s.locals (type_of_term e) s.locals t Full (ir.go_on (received env st) (ir_meaning.only_instance w c)) (λ a. ir_meaning.in_order (ir_meaning.operands w low ts) (λ vs. ir_meaning.call_instance w low c m (a ∷ vs))) (taken_right c m s (type_of_term e) (looked_answers c m up (type_of_term e) (l.below typing)) at (received env st) (receiver_right e s h.1 (check_there e s q.checked) at env st i does)) (λ y b a env st g n i. others y (λ vs. ir_meaning.call_instance w low c m (a ∷ vs)) env st i (λ z d vs env st k i. looked_right c m s t (type_of_term e) (looked_answers c m up (type_of_term e) (l.below typing)) h.0.meets.1 y a g n z d vs env st k i))))
        by (by_name q) = subst (λ (r : Option TypeRef). Right at s t (ir_meaning.in_order (ir_meaning.taking w (ir_meaning.class_looked_up (type_of_term e) r) received ∷ ir_meaning.operands w low ts) (ir_meaning.call_method w low (type_of_term e) m r) env st)) (sym q.is.named) (go_on_both at s s.locals (type_of_term e) s.locals t Full (received env st) (λ a. ir_meaning.in_order (ir_meaning.operands w low ts) (λ vs. ir_meaning.call_reflective w low m (a ∷ vs))) (receiver_right e s h.1 (check_there e s q.checked) at env st i does) (λ y b a env st g n i. others y (λ vs. ir_meaning.call_reflective w low m (a ∷ vs)) env st i (λ z d vs env st k i. subst (λ (r : IrType). Right z s r (ir_meaning.call_reflective w low m (a ∷ vs) env st)) (sym (h.0.meets.1 ∙ ap call_type q.is.named)) (named_right m q.is.there s (type_of_term e) q.value y a g n z d vs env st k i))))
        by (on_array q) = let on = array_answers m q.is.on.there (type_of_term e) q.array.reference q.array.is in subst (λ (r : ir.Run). Right at s t (ir_meaning.in_order (r ∷ ir_meaning.operands w low ts) (ir_meaning.call_method w low (type_of_term e) m m.result) env st)) (sym (takes_instances w (type_of_term e) m object q.array.receiver refl q.is.result q.is.named received)) (subst (λ (act : List ir.Value → ir.Run). Right at s t (ir_meaning.in_order ((λ env s. ir.go_on (received env s) (ir_meaning.only_instance w object)) ∷ ir_meaning.operands w low ts) act env st)) (sym (calls_instance w (type_of_term e) m object q.array.receiver refl q.is.result q.is.named low)) (go_on_both at s s.locals (type_of_term e) s.locals t Full (ir.go_on (received env st) (ir_meaning.only_instance w object)) (λ a. ir_meaning.in_order (ir_meaning.operands w low ts) (λ vs. ir_meaning.call_instance w low object m (a ∷ vs))) (taken_right object m s (type_of_term e) on at (received env st) (receiver_right e s h.1 (check_there e s q.checked) at env st i does)) (λ y b a env st g n i. others y (λ vs. ir_meaning.call_instance w low object m (a ∷ vs)) env st i (λ z d vs env st k i. looked_right object m s t (type_of_term e) on h.0.meets.1 y a g n z d vs env st k i))))

    -- a definition: the local is in scope behind it
    definition_right : (p : Position) (x : List ℕ) (t : IrType) (b : Bool) (e : Term) → TreeRight e → (s : Scene) → InScope (frame_of s) s.locals → Typed typing has s (var_def p x t b e) → Fresh s (Own (var_def p x t b e)) → Sures s (definitions (var_def p x t b e)) → (at : Classes) (env : ir.Env) (st : ir.State) → Ready at (frame_of s) s.locals env st → Comes (CameRight at s (record { name = x; «mutable» = b; tpe = t } ∷ s.locals) NoType) (step (var_def p x t b e) env st).end
    definition_right p x t b e does s v h fresh u at env st i = go_on_both at s s.locals (type_of_term e) (record { name = x; «mutable» = b; tpe = t } ∷ s.locals) NoType (λ q. s.sure x ≡ true → Full q) (step e env st) (λ q. ir_meaning.in_order [] (λ vs. ir_meaning.define x (q ∷ vs))) (both_come (λ q. s.sure x ≡ true → Full q) (CameRight at s s.locals (type_of_term e)) (step e env st).end came (if_only (s.sure x ≡ true) (step e env st).end (λ r. sure_only e s h.1 (parts.1.0 r).1 at env st i came))) (λ k a q env st g n i. here k s (record { name = x; «mutable» = b; tpe = t } ∷ s.locals) NoType ir.undefined (ir_meaning.set_local x q env) st (inl refl) (set-ready k (frame_of s) s.locals (record { name = x; «mutable» = b; tpe = t }) env st q (operand-type k q (type_of_term e) t g h.0.meets (value-not t h.0.finds.0)) n i))
      where
        parts : Sures s (definitions e) × Sures s (record { name = x; is_mutable = b; value = e } ∷ [])
        parts = sures-parts s (definitions e) (record { name = x; is_mutable = b; value = e } ∷ []) u

        came : Right at s (type_of_term e) (step e env st)
        came = does s v h.1 (λ y o. fresh y (inr o)) parts.0 at env st i

    operand_right : (e : Term) (at : Classes) (s : Scene) (t r : IrType) (act : List ir.Value → ir.Run) (env : ir.Env) (st : ir.State) → Right at s (type_of_term e) (step e env st) → IsSub typing (type_of_term e) r → (r ≡ NoType → ⊥) → ((k : Classes) → Adds at k → (v : ir.Value) (env : ir.Env) (st : ir.State) → HasType (IsSub typing) law k v r → Ready k (frame_of s) s.locals env st → Right k s t (act (v ∷ []) env st)) → Right at s t (ir_meaning.in_order (step e ∷ []) act env st)
    operand_right e at s t r act env st h f n on = one_right at s s.locals (type_of_term e) t (step e) act env st h (λ k a v env st g i. on k a v env st (operand-type k v (type_of_term e) r g f n) i)

    boolean_not : Boolean ≡ NoType → ⊥
    boolean_not = value-not Boolean refl

    int_not : Int ≡ NoType → ⊥
    int_not = value-not Int refl

    string_not : String ≡ NoType → ⊥
    string_not = value-not String refl

    -- what a block throws is handled
    caught_right : (at : Classes) (s : Scene) (x : List ℕ) (t : IrType) (handler : ir.Run) → ((k : Classes) → Adds at k → (v : ir.Value) (env : ir.Env) (st : ir.State) → HasType (IsSub typing) law k v Any → Ready k (frame_of s) s.locals env st → Right k s t (handler (ir_meaning.set_local x v env) st)) → (a : ir.Ended) → CameRight at s s.locals t a → Right at s t (ir_meaning.caught x handler a)
    caught_right at s x t handler h _ (gave k v env st b g i) = gave k v env st b g i
    caught_right at s x t handler h _ (left k l v env st r b i g j) = left k l v env st r b i g j
    caught_right at s x t handler h _ (threw k v env st b i j) = rebased at k b s s.locals t (handler (ir_meaning.set_local x v env) st).end (h k b v env st i j)

    -- behind a finalizer that gives a value, a block ends as it had; any other end of it is the end of both
    resumed_right : (at k : Classes) (s : Scene) (t r : IrType) (how : ir.Kind) → Adds at k → ((y : Classes) → Adds k y → (env : ir.Env) (st : ir.State) → Ready y (frame_of s) s.locals env st → CameRight at s s.locals t (ir.ends how env st)) → (a : ir.Ended) → CameRight k s s.locals r a → Right at s t (ir_meaning.resumed how a)
    resumed_right at k s t r how b h _ (gave y v env st a g i) = h y a env st i
    resumed_right at k s t r how b h _ (left y l v env st q a i g j) = left y l v env st q (adds-trans at k y b a) i g j
    resumed_right at k s t r how b h _ (threw y v env st a i j) = threw y v env st (adds-trans at k y b a) i j

    -- a finalizer runs, however its block ended
    finally_right : (at : Classes) (s : Scene) (t r : IrType) (finalizer : ir.Run) → ((k : Classes) → Adds at k → (env : ir.Env) (st : ir.State) → Ready k (frame_of s) s.locals env st → Right k s r (finalizer env st)) → (a : ir.Ended) → CameRight at s s.locals t a → Right at s t (ir_meaning.finally finalizer a)
    finally_right at s t r finalizer h _ (gave k v env st b g i) = comes_then (CameRight k s s.locals r) (CameRight at s s.locals t) (finalizer env st) (ir_meaning.resumed (ir.gives v)) (h k b env st i) (resumed_right at k s t r (ir.gives v) b (λ y a env st i. gave y v env st (adds-trans at k y b a) (gives-lift k y a v t g) i))
    finally_right at s t r finalizer h _ (left k l v env st q b i g j) = comes_then (CameRight k s s.locals r) (CameRight at s s.locals t) (finalizer env st) (ir_meaning.resumed (ir.leaves l v)) (h k b env st j) (resumed_right at k s t r (ir.leaves l v) b (λ y a env st j. left y l v env st q (adds-trans at k y b a) i (gives-lift k y a v q g) j))
    finally_right at s t r finalizer h _ (threw k v env st b i j) = comes_then (CameRight k s s.locals r) (CameRight at s s.locals t) (finalizer env st) (ir_meaning.resumed (ir.throws v)) (h k b env st j) (resumed_right at k s t r (ir.throws v) b (λ y a env st j. threw y v env st (adds-trans at k y b a) (type-lift (IsSub typing) law k y a v Any i) j))

    -- a condition, and what is done where it holds
    tested_right : (c : Term) (first : ir.Run) (s : Scene) (t : IrType) → t ≡ NoType → (at : Classes) (env : ir.Env) (st : ir.State) → Right at s (type_of_term c) (step c env st) → IsSub typing (type_of_term c) Boolean → ((k : Classes) (env : ir.Env) (st : ir.State) → Ready k (frame_of s) s.locals env st → Comes (Turned k s t) (first env st).end) → Comes (Turned at s t) (ir_meaning.in_order (step c ∷ []) (ir_meaning.branch first (λ env s. record { lines = []; end = Done (ir.ends ir.stops env s) })) env st).end
    tested_right c first s t none at env st h f body = go_on_turn at s (type_of_term c) t (step c env st) (λ v. ir_meaning.in_order [] (λ vs. ir_meaning.branch first (λ env s. record { lines = []; end = Done (ir.ends ir.stops env s) }) (v ∷ vs))) h (λ k a v env st g i. test_right k s t first v env st none (as_boolean (IsSub typing) law k v (operand-type k v (type_of_term c) Boolean g f boolean_not)) i (body k env st i))

    while_turn : (p : Position) (c b : Term) → TreeRight c → TreeRight b → (s : Scene) → InScope (frame_of s) s.locals → Typed typing has s (while_loop p c b) → Fresh s (Own (while_loop p c b)) → Sures s (definitions (while_loop p c b)) → (loop_type c ≡ NoType) ⊎ IsTrueLiteral c → (at : Classes) (env : ir.Env) (st : ir.State) → Ready at (frame_of s) s.locals env st → Comes (Turned at s (loop_type c)) (ir_meaning.in_order (step c ∷ []) (ir_meaning.branch (step b) (λ env s. record { lines = []; end = Done (ir.ends ir.stops env s) })) env st).end
    while_turn p c b dc db s v h fresh u (inl none) at env st i = tested_right c (step b) s (loop_type c) none at env st (dc s v h.1 (λ x o. fresh x (inl o)) (sures-parts s (definitions c) (definitions b) u).0 at env st i) h.0.meets (λ k env st i. as_turn k s (type_of_term b) (loop_type c) (step b env st).end (db s v h.2 (λ x o. fresh x (inr o)) (sures-parts s (definitions c) (definitions b) u).1 k env st i))
    while_turn p _ b dc db s v h fresh u (inr (true_literal q)) at env st i = as_turn at s (type_of_term b) Nothing (step b env st).end (db s v h.2 (λ x o. fresh x (inr o)) u at env st i)

    do_test : (p : Position) (b c : Term) → TreeRight c → (s : Scene) → InScope (frame_of s) s.locals → Typed typing has s (do_while p b c) → Fresh s (Own (do_while p b c)) → Sures s (definitions (do_while p b c)) → (loop_type c ≡ NoType) ⊎ IsTrueLiteral c → (at : Classes) (env : ir.Env) (st : ir.State) → Ready at (frame_of s) s.locals env st → Comes (Turned at s (loop_type c)) (ir_meaning.in_order (step c ∷ []) (ir_meaning.branch (ir.given ir.undefined) (λ env s. record { lines = []; end = Done (ir.ends ir.stops env s) })) env st).end
    do_test p b c dc s v h fresh u (inl none) at env st i = tested_right c (ir.given ir.undefined) s (loop_type c) none at env st (dc s v h.2 (λ x o. fresh x (inr o)) (sures-parts s (definitions b) (definitions c) u).1 at env st i) h.0.meets (λ k env st i. turned k ir.undefined env st (adds-refl k) i)
    do_test p b _ dc s v h fresh u (inr (true_literal q)) at env st i = turned at ir.undefined env st (adds-refl at) i

    do_turn : (p : Position) (b c : Term) → TreeRight b → TreeRight c → (s : Scene) → InScope (frame_of s) s.locals → Typed typing has s (do_while p b c) → Fresh s (Own (do_while p b c)) → Sures s (definitions (do_while p b c)) → (at : Classes) (env : ir.Env) (st : ir.State) → Ready at (frame_of s) s.locals env st → Comes (Turned at s (loop_type c)) (ir.go_on (step b env st) (λ v. ir_meaning.in_order (step c ∷ []) (ir_meaning.branch (ir.given ir.undefined) (λ env s. record { lines = []; end = Done (ir.ends ir.stops env s) })))).end
    do_turn p b c db dc s v h fresh u at env st i = go_on_turn at s (type_of_term b) (loop_type c) (step b env st) (λ v. ir_meaning.in_order (step c ∷ []) (ir_meaning.branch (ir.given ir.undefined) (λ env s. record { lines = []; end = Done (ir.ends ir.stops env s) }))) (db s v h.1 (λ x o. fresh x (inl o)) (sures-parts s (definitions b) (definitions c) u).0 at env st i) (λ k a q env st g i. do_test p b c dc s v h fresh u (true-or-none c) k env st i)

    log_right : (at : Classes) (s : Scene) (v : ir.Value) (env : ir.Env) (st : ir.State) → IsText v → Ready at (frame_of s) s.locals env st → Right at s NoType (ir_meaning.log (v ∷ []) env st)
    log_right at s _ env st (a_text us) i = here at s s.locals NoType ir.undefined env st (inl refl) i

    chosen_right : (at : Classes) (s : Scene) (t : IrType) (bs : List ir_meaning.Branch) (d : ir.Run) (v : ir.Value) (env : ir.Env) (st : ir.State) → IsNumber v → ((n : ℤ) → Right at s t (ir_meaning.branch_of bs d n env st)) → Right at s t (ir_meaning.choose bs d (v ∷ []) env st)
    chosen_right at s t bs d _ env st (a_number n) h = h n

    one_or_later : (at : Classes) (s : Scene) (t : IrType) (b : Bool) (q others : ir.Run) (env : ir.Env) (st : ir.State) → Right at s t (q env st) → Right at s t (others env st) → Right at s t ((if b then q else others) env st)
    one_or_later at s t true q others env st h k = h
    one_or_later at s t false q others env st h k = k

    division_right : (o : BinaryOp) (e d : Term) (at : Classes) (s : Scene) → DividesBy o d → IsSub typing (type_of_term e) (left_operand o) → (env : ir.Env) (st : ir.State) → Right at s (type_of_term e) (step e env st) → Right at s (binary_result o) (ir_meaning.in_order (step e ∷ step d ∷ []) (ir_meaning.binary w low o) env st)
    division_right _ e _ at s (by_int o i p n k ne) f env st h = go_on_right at s s.locals (type_of_term e) s.locals (binary_result o) (step e env st) (λ v. ir_meaning.in_order (step (int_literal p n) ∷ []) (λ vs. ir_meaning.binary w low o (v ∷ vs))) h (λ y a v env st g j. value_right y low s (binary_result o) (binary_value o v (ir.number n)) env st (division_gives (IsSub typing) law y o i v (as_int (IsSub typing) law y v (operand-type y v (type_of_term e) Int g (int_operand o i e f) int_not)) n ne) j)
      where
        int_operand : (o : BinaryOp) → IsDivision o → (e : Term) → IsSub typing (type_of_term e) (left_operand o) → IsSub typing (type_of_term e) Int
        int_operand _ a_quotient e f = f
        int_operand _ a_remainder e f = f
    division_right _ e _ at s (by_long o i p n k ne) f env st h = go_on_right at s s.locals (type_of_term e) s.locals (binary_result o) (step e env st) (λ v. ir_meaning.in_order (step (long_literal p n) ∷ []) (λ vs. ir_meaning.binary w low o (v ∷ vs))) h (λ y a v env st g j. value_right y low s (binary_result o) (binary_value o v (ir.long n)) env st (long_division_gives (IsSub typing) law y o i v (as_long (IsSub typing) law y v (operand-type y v (type_of_term e) Long g (long_operand o i e f) (value-not Long refl))) n ne) j)
      where
        long_operand : (o : BinaryOp) → IsLongDivision o → (e : Term) → IsSub typing (type_of_term e) (left_operand o) → IsSub typing (type_of_term e) Long
        long_operand _ a_long_quotient e f = f
        long_operand _ a_long_remainder e f = f

    -- whether a value is of a type
    tested_value : (at : Classes) (s : Scene) (t : IrType) (v : ir.Value) (env : ir.Env) (st : ir.State) → Ready at (frame_of s) s.locals env st → Right at s Boolean (ir_meaning.test w t (v ∷ []) env st)
    tested_value at s t v env st e = here at s s.locals Boolean (ir_meaning.is_instance_value w t st v) env st (inr (test_type w typing law at st v t)) e

    -- a cast to a type of which the value isn't is one that can fail
    cast_fails : (at : Classes) (s : Scene) (t : IrType) (v : ir.Value) (env : ir.Env) (st : ir.State) → can_cast has t ≡ true → is_of_type w st v t ≡ false → Ready at (frame_of s) s.locals env st → Right at s t (ir_meaning.answered w low (ir_meaning.cast_failure t) env st)
    cast_fails at s Any v env st can isnt e = impossible (sym isnt)
    cast_fails at s t v env st can isnt e = let there = laws.casts t can in only_right (CameRight at s s.locals t) Full (ir_meaning.raise w low class_cast (type_text t) env st).end (raise_right class_cast (type_text t) there.0 there.1 s t at env st e)

    -- a value that passes the test of a cast is of the type
    cast_type : (at : Classes) (st : ir.State) → HeapTyped at st → (t : IrType) (v : ir.Value) → can_cast has t ≡ true → HasType (IsSub typing) law at v Any → is_of_type w st v t ≡ true → HasType (IsSub typing) law at v t
    cast_type at st heap Any v can i is = i
    cast_type at st heap t v can i is = tested_type typing law at st (objects_there at st heap) (arrays_there at st heap) v t i (subst (λ (x : World). is_of_type x st v t ≡ true) (sym (laws.typed (by_cast t can))) is)

    -- a value that is cast
    cast_value : (at : Classes) (s : Scene) (t : IrType) → can_cast has t ≡ true → HasValue t → (v : ir.Value) → HasType (IsSub typing) law at v Any → (env : ir.Env) (st : ir.State) → Ready at (frame_of s) s.locals env st → Right at s t (ir_meaning.cast w low t (v ∷ []) env st)
    cast_value at s t can value ir.null i env st e = here at s s.locals t (zero_of t) env st (inr (zero_type at t value)) e
    cast_value at s t can value v i env st e = go (is_of_type w st v t) refl
      where
        go : (b : Bool) → is_of_type w st v t ≡ b → Right at s t (ir_meaning.answered w low (if b then answers v else ir_meaning.cast_failure t) env st)
        go true is = here at s s.locals t v env st (inr (cast_type at st e.heap t v can i is)) e
        go false isnt = cast_fails at s t v env st can isnt e

    -- an operand of a type that joins to a text has a value of its type
    text-type : (at : Classes) (v : ir.Value) (t : IrType) → IsJoined t → GivesType at v t → HasType (IsSub typing) law at v t
    text-type at v t h (inl none) = absurd (not_no_type t h none)
    text-type at v t h (inr i) = i

    two_right : (o : BinaryOp) (e d : Term) (at : Classes) (s : Scene) → Takes typing has o e d → (v a : ir.Value) → GivesType at v (type_of_term e) → GivesType at a (type_of_term d) → (env : ir.Env) (st : ir.State) → Ready at (frame_of s) s.locals env st → Right at s (binary_result o) (ir_meaning.answered w low (binary_value o v a) env st)
    two_right o e d at s (its_types h f g) v a i j env st r = value_right at low s (binary_result o) (binary_value o v a) env st (binary_gives (IsSub typing) law at o h v a (operand-type at v (type_of_term e) (left_operand o) i f (value-not (left_operand o) (left-operand-value o))) (operand-type at a (type_of_term d) (right_operand o) j g (value-not (right_operand o) (right-operand-value o)))) r
    two_right o e d at s (texts is f g) v a i j env st r = value_right at low s (binary_result o) (binary_value o v a) env st (subst (λ p. Gives (IsSub typing) law at (binary_result p) (binary_value p v a)) (sym is) (join_gives (IsSub typing) law at v a (type_of_term e) (type_of_term d) f g (text-type at v (type_of_term e) f i) (text-type at a (type_of_term d) g j))) r
    two_right o e d at s (of_identity h k f g) v a i j env st r = value_right at low s (binary_result o) (binary_value o v a) env st (identity_gives (IsSub typing) law at o h v a) r
    two_right o e d at s (of_division h f g) v a i j env st r = ⊎_elim (λ gives. value_right at low s (binary_result o) (binary_value o v a) env st gives r) (λ zero. subst (λ (q : Answer). Right at s (binary_result o) (ir_meaning.answered w low q env st)) (sym zero) thrown) (divided_gives (IsSub typing) law at has o h v a (operand-type at v (type_of_term e) (left_operand o) i f (value-not (left_operand o) (left-operand-value o))) (operand-type at a (type_of_term d) (right_operand o) j g (value-not (right_operand o) (right-operand-value o))))
      where
        thrown : Right at s (binary_result o) (ir_meaning.raise w low arithmetic (codes "/ by zero") env st)
        thrown = let there = laws.divisions o h in only_right (CameRight at s s.locals (binary_result o)) Full (ir_meaning.raise w low arithmetic (codes "/ by zero") env st).end (raise_right arithmetic (codes "/ by zero") there.0 there.1 s (binary_result o) at env st r)

    binary_right : (o : BinaryOp) (e d : Term) (at : Classes) (s : Scene) → Takes typing has o e d → (env : ir.Env) (st : ir.State) → Right at s (type_of_term e) (step e env st) → ((k : Classes) (env : ir.Env) (st : ir.State) → Ready k (frame_of s) s.locals env st → Right k s (type_of_term d) (step d env st)) → Right at s (binary_result o) (ir_meaning.in_order (step e ∷ step d ∷ []) (ir_meaning.binary w low o) env st)
    binary_right o e d at s takes env st first second = go_on_right at s s.locals (type_of_term e) s.locals (binary_result o) (step e env st) (λ a. ir_meaning.in_order (step d ∷ []) (λ vs. ir_meaning.binary w low o (a ∷ vs))) first (λ y f a env st g i. one_right y s s.locals (type_of_term d) (binary_result o) (step d) (λ vs. ir_meaning.binary w low o (a ∷ vs)) env st (second y env st i) (λ z n b env st k i. two_right o e d z s takes a b (gives-lift y z n a (type_of_term e) g) k env st i))

    -- an exception of a helper of arrays
    raised : (c message : List ℕ) → CanRaise has c → (s : Scene) (t : IrType) (at : Classes) (env : ir.Env) (st : ir.State) → Ready at (frame_of s) s.locals env st → Right at s t (ir_meaning.raise w low c message env st)
    raised c message there s t at env st i = only_right (CameRight at s s.locals t) Full (ir_meaning.raise w low c message env st).end (raise_right c message there.0 there.1 s t at env st i)

    -- behind which nothing goes on
    raised_first : (c message : List ℕ) → CanRaise has c → (s : Scene) (t : IrType) (at : Classes) (env : ir.Env) (st : ir.State) (f : ir.Value → ir.Run) → Ready at (frame_of s) s.locals env st → Right at s t (ir.go_on (ir_meaning.raise w low c message env st) f)
    raised_first c message there s t at env st f i = go_on_right at s s.locals Nothing s.locals t (ir_meaning.raise w low c message env st) f (raised c message there s Nothing at env st i) (λ k a v env st g i. absurd (nothing k v g))
      where
        nothing : (k : Classes) (v : ir.Value) → GivesType k v Nothing → ⊥
        nothing k v (inl e) = cc
        nothing k v (inr (has_type o i f)) = ⊎_elim (λ e. no_nothing (IsSub typing) law k v o i e) (λ e. no_nothing (IsSub typing) law k v o i e) (law.lowest o Nothing refl f)

    -- a new array with these items
    made_right : (r : ArrayRef) (items : List ir.Value) → has.made object ≡ true → (at : Classes) (s : Scene) (env : ir.Env) (st : ir.State) → ItemsTyped at (element_type r) items → Ready at (frame_of s) s.locals env st → Right at s (Array r) (ir_meaning.made_array r items env st)
    made_right r items made at s env st h i = gave after_it (ir.reference (ir.next_address st)) env (ir.with_stored (ir.array r items) st) more (inr (has_type (Array r) (of_array (ir.next_address st) r (type_there at (Array r) (ir.array r items) made st i.heap typed)) (law.same (Array r)))) (record { locals = env-lift at after_it more (frame_of s) s.locals env i.locals; heap = born_typed at (Array r) (ir.array r items) made st i.heap typed })
      where
        typed : (k : Classes) → Adds at k → ArrayTyped k r (Some (ir.array r items))
        typed k a = typed_array items (λ n v e. type-lift (IsSub typing) law at k a v (element_type r) (h n v e))

        after_it : Classes
        after_it = with_type (ir.next_address st) (Array r) at

        more : Adds at after_it
        more = adds_one at (Array r) (ir.array r items) made st i.heap typed

    new_array_right : (r : ArrayRef) → has.arrays ≡ true → has.helper (codes "$mk") ≡ true → (at : Classes) (s : Scene) (v : ir.Value) (env : ir.Env) (st : ir.State) → IsNumber v → Ready at (frame_of s) s.locals env st → Right at s (Array r) (ir_meaning.new_items w low r (v ∷ []) env st)
    new_array_right r some mk at s _ env st (a_number (pos n)) i = made_right r (replicate n (zero_of (element_type r))) (laws.arrays some) at s env st (replicate-each (λ (v : ir.Value). HasType (IsSub typing) law at v (element_type r)) n (zero_of (element_type r)) (zero_type at (element_type r) (element-value r))) i
    new_array_right r some mk at s _ env st (a_number (negsuc n)) i = raised negative_size _ (laws.sizes mk) s (Array r) at env st i

    -- the length of an array
    length_right : (at : Classes) (s : Scene) (q : ArrayRef) (v : ir.Value) (env : ir.Env) (st : ir.State) → IsArrayOf (IsSub typing) law at q v → Ready at (frame_of s) s.locals env st → Right at s Int (ir_meaning.array_length_of (v ∷ []) env st)
    length_right at s q _ env st (an_array a r known sub) i = stored (slice_get st.heap a) (i.heap.stored a (Array r) known)
      where
        stored : (o : Option ir.Stored) → ArrayTyped at r o → Right at s Int (ir_meaning.value_or_wrong (ir_meaning.length_of (ir_meaning.items_of o)) env st)
        stored _ (typed_array items h) = here at s s.locals Int (ir.number (pos (length items))) env st (inr (has_type Int (of_int (pos (length items))) (law.same Int))) i

    -- an item of an array
    item_right : has.helper (codes "$get") ≡ true → (at : Classes) (s : Scene) (q : ArrayRef) (t : IrType) (v x : ir.Value) (env : ir.Env) (st : ir.State) → IsArrayOf (IsSub typing) law at q v → element_type q ≡ t → IsNumber x → Ready at (frame_of s) s.locals env st → Right at s t (ir_meaning.select_item w low (v ∷ x ∷ []) env st)
    item_right get at s q t _ _ env st (an_array a r known sub) is (a_number z) i = stored (slice_get st.heap a) (i.heap.stored a (Array r) known)
      where
        beyond : (n : ℤ) → Right at s t (ir_meaning.answered w low (ir_meaning.no_such_index n) env st)
        beyond n = raised out_of_bounds _ (laws.reads get) s t at env st i

        found : (items : List ir.Value) → ItemsTyped at (element_type r) items → (n : ℕ) (o : Option ir.Value) → slice_get items n ≡ o → Right at s t (ir_meaning.answered w low (ir_meaning.item_or_raise (pos n) o) env st)
        found items h n None e = beyond (pos n)
        found items h n (Some y) e = here at s s.locals t y env st (inr (subst (HasType (IsSub typing) law at y) is (wider (IsSub typing) law at y (element_type r) (element_type q) (elements_below typing law r q sub) (h n y e)))) i

        by_index : (items : List ir.Value) → ItemsTyped at (element_type r) items → (n : ℤ) → Right at s t (ir_meaning.answered w low (ir_meaning.item_at items n) env st)
        by_index items h (pos n) = found items h n (slice_get items n) refl
        by_index items h (negsuc n) = beyond (negsuc n)

        stored : (o : Option ir.Stored) → ArrayTyped at r o → Right at s t (ir_meaning.answered w low (ir_meaning.item_of (ir_meaning.items_of o) z) env st)
        stored _ (typed_array items h) = by_index items h z

    -- what may be stored in an array is of the type of its items
    stored_type : typing ≡ w → (at : Classes) (st : ir.State) → HeapTyped at st → (t : IrType) (v : ir.Value) → is_open t ≡ true → HasType (IsSub typing) law at v Any → ir_meaning.may_be_stored w st t v ≡ true → HasType (IsSub typing) law at v t
    stored_type same at st heap Any v o h k = h
    stored_type same at st heap (Class c) ir.null o h k = has_type Null of_null (null_to_class c refl refl)
    stored_type same at st heap (Array r) ir.null o h k = has_type Null of_null (null_to_array r refl refl)
    stored_type same at st heap (Class c) v o h k = tested_type typing law at st (objects_there at st heap) (arrays_there at st heap) v (Class c) h (subst (λ (x : World). is_of_type x st v (Class c) ≡ true) (sym same) k)
    stored_type same at st heap (Array r) v o h k = tested_type typing law at st (objects_there at st heap) (arrays_there at st heap) v (Array r) h (subst (λ (x : World). is_of_type x st v (Array r) ≡ true) (sym same) k)
    stored_type same at st heap t v o h k = impossible o

    -- an assignment to an item of an array
    put_right : (at : Classes) (s : Scene) (q : ArrayRef) (t : IrType) (v x y : ir.Value) (env : ir.Env) (st : ir.State) → can_put has t ≡ true → 1 ≤ q.dimensions → IsArrayOf (IsSub typing) law at q v → element_type q ≡ t → IsNumber x → HasType (IsSub typing) law at y t → Ready at (frame_of s) s.locals env st → Right at s NoType (ir_meaning.assign_item w low (v ∷ x ∷ y ∷ []) env st)
    put_right at s q t _ _ y env st put deep (an_array a r known sub) is (a_number z) h i = stored (slice_get st.heap a) refl (i.heap.stored a (Array r) known)
      where
        may : Bool
        may = ir_meaning.may_be_stored w st (element_type r) y

        its_type : may ≡ true → HasType (IsSub typing) law at y (element_type r)
        its_type k = ⊎_elim (λ e. subst (HasType (IsSub typing) law at y) (sym (e ∙ is)) h) (λ o. stored_type (laws.typed (by_item t put)) at st i.heap (element_type r) y o (of_any (IsSub typing) law at (λ o n. to_any refl n) y t h) k) (elements_same typing law r q deep sub)

        lowest_stored : is_lowest t ≡ true → may ≡ true
        lowest_stored l = ⊎_elim (λ e. stored_lowest w st (element_type r) y (subst (λ (u : IrType). is_lowest u ≡ true) (sym e) l)) (λ e. stored_lowest w st (element_type r) y (subst (λ (u : IrType). is_lowest u ≡ true) (sym e) refl)) (law.lowest (element_type r) t l (subst (IsSub typing (element_type r)) is (elements_below typing law r q sub)))

        not_stored : may ≡ false → (f : ir.Value → ir.Run) → Right at s NoType (ir.go_on (ir_meaning.raise w low array_store (codes "bad element") env st) f)
        not_stored k f = ⊎_elim (λ e. raised_first array_store (codes "bad element") (laws.stores (subst (λ (n : List ℕ). has.helper n ≡ true) e put)) s NoType at env st f i) (λ l. impossible (sym k ∙ lowest_stored l)) (setter_kind t)

        beyond : (n : ℤ) (f : ir.Value → ir.Run) → Right at s NoType (ir.go_on (ir_meaning.answered w low (ir_meaning.no_such_index n) env st) f)
        beyond n f = raised_first out_of_bounds _ (laws.writes t put) s NoType at env st f i

        put_in : (items : List ir.Value) → slice_get st.heap a ≡ Some (ir.array r items) → ItemsTyped at (element_type r) items → (n : ℕ) (old : ir.Value) → slice_get items n ≡ Some old → (b : Bool) → may ≡ b → Right at s NoType (ir.go_on (ir_meaning.answered w low (ir_meaning.element_answer b) env st) (λ u. ir_meaning.assigned_item a (pos n) y))
        put_in items stands g n old e false k = not_stored k (λ u. ir_meaning.assigned_item a (pos n) y)
        put_in items stands g n old e true k = subst (λ (o : Option ir.Stored). Right at s NoType (ir_meaning.assigned (ir_meaning.set_item a o (pos n) y st) env st)) (sym stands) (subst (λ (b : Bool). Right at s NoType (ir_meaning.assigned (if b then Some (ir.at_address a (ir.array r (set items n y)) st) else None) env st)) (sym (get-below items n old e)) (here at s s.locals NoType ir.undefined env (ir.at_address a (ir.array r (set items n y)) st) (inl refl) (record { locals = i.locals; heap = replaced at st i.heap a (Array r) known (ir.array r items) (ir.array r (set items n y)) stands (typed_array (set items n y) (set-each (λ (v : ir.Value). HasType (IsSub typing) law at v (element_type r)) items n y (its_type k) g)) })))

        found : (items : List ir.Value) → slice_get st.heap a ≡ Some (ir.array r items) → ItemsTyped at (element_type r) items → (n : ℕ) (o : Option ir.Value) → slice_get items n ≡ o → Right at s NoType (ir.go_on (ir_meaning.answered w low (ir_meaning.then_answer (ir_meaning.item_or_raise (pos n) o) (ir_meaning.element_answer may)) env st) (λ u. ir_meaning.assigned_item a (pos n) y))
        found items stands g n None e = beyond (pos n) (λ u. ir_meaning.assigned_item a (pos n) y)
        found items stands g n (Some old) e = put_in items stands g n old e may refl

        by_index : (items : List ir.Value) → slice_get st.heap a ≡ Some (ir.array r items) → ItemsTyped at (element_type r) items → (n : ℤ) → Right at s NoType (ir.go_on (ir_meaning.answered w low (ir_meaning.then_answer (ir_meaning.item_at items n) (ir_meaning.element_answer may)) env st) (λ u. ir_meaning.assigned_item a n y))
        by_index items stands g (pos n) = found items stands g n (slice_get items n) refl
        by_index items stands g (negsuc n) = beyond (negsuc n) (λ u. ir_meaning.assigned_item a (negsuc n) y)

        stored : (o : Option ir.Stored) → slice_get st.heap a ≡ o → ArrayTyped at r o → Right at s NoType (ir.go_on (ir_meaning.answered w low (ir_meaning.store_answer w st o z y) env st) (λ u. ir_meaning.assigned_item a z y))
        stored _ stands (typed_array items g) = by_index items stands g z

    mutual
      pub tree_right : (t : Term) → TreeRight t
      tree_right (var_def p x t b e) = λ s v h fresh u at env st i. narrow-right at s (record { name = x; «mutable» = b; tpe = t }) NoType (step (var_def p x t b e) env st).end (fresh x (inl refl)) (definition_right p x t b e (tree_right e) s v h fresh u at env st i)
      tree_right (skip p) = λ s v h fresh u at env st i. here at s s.locals NoType ir.undefined env st (inl refl) i
      tree_right (block_of p ts) = λ s v h fresh u at env st i. block_right ts s v h fresh u at env st i NoType
      tree_right (labeled p l t e) = λ s v h fresh u at env st i. comes_then (CameRight at (in_label l t s) s.locals (type_of_term e)) (CameRight at s s.locals t) (step e env st) (ir_meaning.arrive l) (tree_right e (in_label l t s) v h.1 fresh u at env st i) (arrives-right at s l e t h.0.meets)
      tree_right (assign p (var_ref q x t) e) = λ s v h fresh u at env st i. operand_right e at s NoType t (ir_meaning.define x) env st (tree_right e s v h.1 fresh u at env st i) h.0.meets.1 (value-not t (subst HasValue h.0.finds.type_is (v.values x h.0.finds.local h.0.finds.is))) (λ y b a env st k i. here y s s.locals NoType ir.undefined (ir_meaning.set_local x a env) st (inl refl) (assign-ready y (frame_of s) s.locals x h.0.finds.local env st a h.0.finds.is (subst (HasType (IsSub typing) law y a) (sym h.0.finds.type_is) k) (λ q. impossible (sym (v.fixed x h.0.finds.local h.0.finds.is q) ∙ h.0.finds.mutable)) i))
      tree_right (assign p (select q d c f t) e) = λ s v h fresh u at env st i. let its = and_parts (has.field c f t) (may_check has s.sure d) h.0.built in field_set_right p q d c f t e (tree_right d) (tree_right e) s v its.0 its.1 h.1.0.meets.0 h.0.meets.1 h.1.1 h.2 fresh u at env st i
      tree_right (assign p (select_static q c f t) e) = λ s v h fresh u at env st i. operand_right e at s NoType t (ir_meaning.assign_static c f) env st (tree_right e s v h.2 fresh u at env st i) h.0.meets.1 (value-not t (laws.statics c f t (set_static has c f t h.0.built)).0) (λ y b x env st k i. static_set_right y s c f t x env st (set_static has c f t h.0.built) k i)
      tree_right (assign p (array_select q d x t) e) = λ s v h fresh u at env st i.
          (let its = and_parts (can_put has t) (may_check has s.sure d) h.0.built in
          let parts = sures-parts s (definitions d ++ definitions x) (definitions e) u in
          let front = sures-parts s (definitions d) (definitions x) parts.0 in
          let own = items-of (type_of_term d) t h.0.finds h.1.0 in
          let deep : HasDimensions own.reference = subst AreDimensions own.is (h.0.finds) in
          go_on_both at s s.locals (type_of_term d) s.locals NoType Full (ir_meaning.receiving w (is_sure env.sure d) low (step d) env st) (λ a. ir_meaning.in_order (step x ∷ step e ∷ []) (λ vs. ir_meaning.assign_item w low (a ∷ vs)))
          (receiver_right d s h.2 (check_there d s its.1) at env st i (tree_right d s v h.2 (λ y o. fresh y (inl o)) front.0 at env st i))
          (λ k b a env st g n i. go_on_right k s s.locals (type_of_term x) s.locals NoType (step x env st) (λ c. ir_meaning.in_order (step e ∷ []) (λ vs. ir_meaning.assign_item w low (a ∷ c ∷ vs)))
          (tree_right x s v h.3 (λ y o. fresh y (inr (inl o))) front.1 k env st i)
          (λ l b2 c env st g2 i. go_on_right l s s.locals (type_of_term e) s.locals NoType (step e env st) (λ y. ir_meaning.in_order [] (λ vs. ir_meaning.assign_item w low (a ∷ c ∷ y ∷ vs)))
          (tree_right e s v h.4 (λ y o. fresh y (inr (inr o))) parts.1 l env st i)
          (λ m b3 y env st g3 i. put_right m s own.reference t a c y env st its.0 deep.0 (as_array (IsSub typing) law m own.reference a (type-lift (IsSub typing) law k m (adds-trans k l m b2 b3) a (Array own.reference) (array_of k a (type_of_term d) own.reference own.is g)) n) own.element (as_int (IsSub typing) law m c (type-lift (IsSub typing) law l m b3 c Int (operand-type l c (type_of_term x) Int g2 h.1.1 int_not))) (operand-type m y (type_of_term e) t g3 h.0.meets.1 (value-not t (subst HasValue own.element (element-value own.reference)))) i))))
      tree_right (new_array p r e) = λ s v h fresh u at env st i. operand_right e at s (Array r) Int (ir_meaning.new_items w low r) env st (tree_right e s v h.1 fresh u at env st i) h.0.meets int_not (λ y b q env st k i. (let q = and_parts has.arrays (has.helper (codes "$mk") && has_base has r.base) h.0.built in new_array_right r q.0 (and_parts (has.helper (codes "$mk")) (has_base has r.base) q.1).0) y s q env st (as_int (IsSub typing) law y q k) i)
      tree_right (array_value p r ts) = λ s v h fresh u at env st i. items_right ts (element_type r) s (Array r) v h.0.meets (value-not (element_type r) (element-value r)) h.1 fresh u at (ir_meaning.made_array r) env st i (λ y b vs env st k i. made_right r vs (laws.arrays (and_parts has.arrays (has.helper (codes "$A") && (has_base has r.base && are_countable ts)) h.0.built).0) y s env st k i)
      tree_right (array_length p e) = λ s v h fresh u at env st i. let q = the_array (type_of_term e) h.0.meets in go_on_both at s s.locals (type_of_term e) s.locals Int Full (ir_meaning.receiving w (is_sure env.sure e) low (step e) env st) (λ a. ir_meaning.in_order [] (λ vs. ir_meaning.array_length_of (a ∷ vs))) (receiver_right e s h.1 (check_there e s h.0.built) at env st i (tree_right e s v h.1 fresh u at env st i)) (λ y b a env st g n i. length_right y s q.0 a env st (as_array (IsSub typing) law y q.0 a (array_of y a (type_of_term e) q.0 q.1 g) n) i)
      tree_right (array_select p e d t) = λ s v h fresh u at env st i.
          (let its = and_parts (has.helper (codes "$get")) (may_check has s.sure e) h.0.built in
          let parts = sures-parts s (definitions e) (definitions d) u in
          let own = items-of (type_of_term e) t h.0.finds h.0.meets.0 in
          go_on_both at s s.locals (type_of_term e) s.locals t Full (ir_meaning.receiving w (is_sure env.sure e) low (step e) env st) (λ a. ir_meaning.in_order (step d ∷ []) (λ vs. ir_meaning.select_item w low (a ∷ vs)))
          (receiver_right e s h.1 (check_there e s its.1) at env st i (tree_right e s v h.1 (λ y o. fresh y (inl o)) parts.0 at env st i))
          (λ k b a env st g n i. one_right k s s.locals (type_of_term d) t (step d) (λ vs. ir_meaning.select_item w low (a ∷ vs)) env st
          (tree_right d s v h.2 (λ y o. fresh y (inr o)) parts.1 k env st i)
          (λ l b2 c env st g2 i. item_right its.0 l s own.reference t a c env st (as_array (IsSub typing) law l own.reference a (type-lift (IsSub typing) law k l b2 a (Array own.reference) (array_of k a (type_of_term e) own.reference own.is g)) n) own.element (as_int (IsSub typing) law l c (operand-type l c (type_of_term d) Int g2 h.0.meets.1 int_not)) i)))
      tree_right (return_to p e l) = λ s v h fresh u at env st i. one_right at s s.locals (type_of_term e) Nothing (step e) (ir_meaning.leave l) env st (tree_right e s v h.1 fresh u at env st i) (λ y b a env st g i. left y l a env st h.0.meets.tpe (adds-refl y) h.0.meets.is_type (gives-yield y a e h.0.meets.tpe g h.0.meets.yields) i)
      tree_right (if_then p c a b t) = λ s v h fresh u at env st i. operand_right c at s t Boolean (ir_meaning.branch (step a) (step b)) env st (tree_right c s v h.1 (λ x o. fresh x (inl o)) (sures-parts s (definitions c) (definitions a) (sures-parts s (definitions c ++ definitions a) (definitions b) u).0).0 at env st i) h.0.meets.0 boolean_not (λ y n q env st k i. branch_right y s t (step a) (step b) q env st (as_boolean (IsSub typing) law y q k) (yields-right y s s.locals a t (step a env st).end h.0.meets.1 (tree_right a s v h.2 (λ x o. fresh x (inr (inl o))) (sures-parts s (definitions c) (definitions a) (sures-parts s (definitions c ++ definitions a) (definitions b) u).0).1 y env st i)) (yields-right y s s.locals b t (step b env st).end h.0.meets.2 (tree_right b s v h.3 (λ x o. fresh x (inr (inr o))) (sures-parts s (definitions c ++ definitions a) (definitions b) u).1 y env st i)))
      tree_right (while_loop p c b) = λ s v h fresh u at env st i. comes_then (Turned at s (loop_type c)) (CameRight at s s.locals (loop_type c)) (ir_meaning.in_order (step c ∷ []) (ir_meaning.branch (step b) (λ env s. record { lines = []; end = Done (ir.ends ir.stops env s) })) env st) (ir_meaning.after_turn (low (while_loop p c b))) (while_turn p c b (tree_right c) (tree_right b) s v h fresh u (true-or-none c) at env st i) (turn_right at s (loop_type c) (low (while_loop p c b)) (right (while_loop p c b) s v h fresh u))
      tree_right (do_while p b c) = λ s v h fresh u at env st i. comes_then (Turned at s (loop_type c)) (CameRight at s s.locals (loop_type c)) (ir.go_on (step b env st) (λ v. ir_meaning.in_order (step c ∷ []) (ir_meaning.branch (ir.given ir.undefined) (λ env s. record { lines = []; end = Done (ir.ends ir.stops env s) })))) (ir_meaning.after_turn (low (do_while p b c))) (do_turn p b c (tree_right b) (tree_right c) s v h fresh u at env st i) (turn_right at s (loop_type c) (low (do_while p b c)) (right (do_while p b c) s v h fresh u))
      tree_right (try_catch p e x d t) = λ s v h fresh u at env st i.
          (let caught : ParamDef = record { name = x; «mutable» = false; tpe = Any } in
          let parts = sures-parts s (definitions e) (record { name = x; is_mutable = false; value = null_literal p } ∷ definitions d) u in
          comes_then (CameRight at s s.locals t) (CameRight at s s.locals t) (step e env st) (ir_meaning.caught x (step d))
          (yields-right at s s.locals e t (step e env st).end h.0.meets.0 (tree_right e s v h.1 (λ y o. fresh y (inr (inl o))) parts.0 at env st i))
          (caught_right at s x t (step d) (λ k b a env' st' is ready. leave-right k s caught t (step d (ir_meaning.set_local x a env') st').end (fresh x (inl refl))
          (yields-right k (catching x s) (caught ∷ s.locals) d t (step d (ir_meaning.set_local x a env') st').end h.0.meets.1
          (tree_right d (catching x s) (scope-behind (frame_of s) s.locals caught v refl (λ q. refl)) h.2 (λ y o j. ⊎_elim (λ same. h.0.finds (subst (Own d) same o)) (λ there. fresh y (inr (inr o)) there) j) parts.1.1 k (ir_meaning.set_local x a env') st' (set-ready k (frame_of s) s.locals caught env' st' a is (λ q. impossible (parts.1.0 q).1) ready))))))
      tree_right (try_finally p e d) = λ s v h fresh u at env st i.
          (let parts = sures-parts s (definitions e) (definitions d) u in
          comes_then (CameRight at s s.locals (type_of_term e)) (CameRight at s s.locals (type_of_term e)) (step e env st) (ir_meaning.finally (step d))
          (tree_right e s v h.1 (λ y o. fresh y (inl o)) parts.0 at env st i)
          (finally_right at s (type_of_term e) (type_of_term d) (step d) (λ k b env' st' ready. tree_right d s v h.2 (λ y o. fresh y (inr o)) parts.1 k env' st' ready)))
      tree_right (match_on p e cs d t) = λ s v h fresh u at env st i. operand_right e at s t Int (ir_meaning.choose (ir_meaning.branches w low cs) (step d)) env st (tree_right e s v h.1 (λ x o. fresh x (inl o)) (sures-parts s (definitions e) (definitions_of_cases cs) (sures-parts s (definitions e ++ definitions_of_cases cs) (definitions d) u).0).0 at env st i) h.0.meets.0 int_not (λ y b q env st k i. chosen_right y s t (ir_meaning.branches w low cs) (step d) q env st (as_int (IsSub typing) law y q k) (λ n. cases_right cs s t v h.2 (λ x o. fresh x (inr (inl o))) (sures-parts s (definitions e) (definitions_of_cases cs) (sures-parts s (definitions e ++ definitions_of_cases cs) (definitions d) u).0).1 (step d) n y env st i (yields-right y s s.locals d t (step d env st).end h.0.meets.2 (tree_right d s v h.3 (λ x o. fresh x (inr (inr o))) (sures-parts s (definitions e ++ definitions_of_cases cs) (definitions d) u).1 y env st i))))
      tree_right (apply_static p c n m ts t) = λ s v h fresh u at env st i. arguments_right ts m.params s t v h.0.meets.2 h.0.finds h.1 fresh u at (ir_meaning.call low (member_of w c n m) None) env st i (λ y b vs env st k i. call_right laws low right (member c n m) (members (member c n m) h.0.built) s t h.0.meets.1 y vs k None (λ r. absurd (no_object n h.0.meets.0 r)) env st i)
      tree_right (throw p e) = λ s v h fresh u at env st i. operand_right e at s Nothing Any ir_meaning.throw_value env st (tree_right e s v h.1 fresh u at env st i) h.0.meets (value-not Any refl) (λ y b a env st k i. threw y a env st (adds-refl y) k i)
      tree_right (new_object p c m ts) = λ s v h fresh u at env st i. let its = new_parts c m h.0.built in arguments_right ts m.params s (class_type c) v h.0.meets.1 h.0.finds h.1 fresh u at (ir_meaning.construct w low c m) env st i (λ y b vs env st k i. construct_right c m its.0 its.1 s y vs k env st i)
      tree_right (select p e c f t) = λ s v h fresh u at env st i. let its = and_parts (has.field c f t) (may_check has s.sure e) h.0.built in go_on_both at s s.locals (type_of_term e) s.locals t Full (ir_meaning.receiving w (is_sure env.sure e) low (step e) env st) (λ a. ir_meaning.in_order [] (λ vs. ir_meaning.select_field c f (a ∷ vs))) (receiver_right e s h.1 (check_there e s its.1) at env st i (tree_right e s v h.1 fresh u at env st i)) (λ y b a env st g n i. field_right y s c f t a env st its.0 (operand-type y a (type_of_term e) (class_type c) g h.0.meets.0 (value-not (class_type c) (class_has_value c))) n i)
      tree_right (apply_statically p e c Namespace.Private m ts t) = λ s v h fresh u at env st i. let its = received_parts e c Namespace.Private m s h.0.built in let parts = sures-parts s (definitions e) (definitions_in ts) u in go_on_both at s s.locals (type_of_term e) s.locals t Full (ir_meaning.receiving w (is_sure env.sure e) low (step e) env st) (λ a. ir_meaning.in_order (ir_meaning.operands w low ts) (λ vs. ir_meaning.call_on w low (ir_meaning.static_target w c Namespace.Private m) (a ∷ vs))) (receiver_right e s h.1 (check_there e s its.1) at env st i (tree_right e s v h.1 (λ x o. fresh x (inl o)) parts.0 at env st i)) (λ y b a env st g n i. arguments_right ts m.params s t v h.0.meets.3 h.0.finds h.2 (λ x o. fresh x (inr o)) parts.1 y (λ vs. ir_meaning.call_on w low (ir_meaning.static_target w c Namespace.Private m) (a ∷ vs)) env st i (λ z d vs env st k i. received_right c Namespace.Private m (member c Namespace.Private m) (laws.received (member c Namespace.Private m) its.0) (own_target w (member c Namespace.Private m)) (law.same (class_type c)) s t (type_of_term e) h.0.meets.1 h.0.meets.2 y a g n z d vs env st k i))
      tree_right (apply p e m ts t) = λ s v h fresh u at env st i. let parts = sures-parts s (definitions e) (definitions_in ts) u in applied_right p e m ts t s h at env st i (tree_right e s v h.1 (λ x o. fresh x (inl o)) parts.0 at env st i) (λ y act env st i on. arguments_right ts m.params s t v h.0.meets.2 h.0.finds h.2 (λ x o. fresh x (inr o)) parts.1 y act env st i on)
      tree_right (apply_statically p e c Namespace.Public m ts t) = λ s v h fresh u at env st i. let its = received_parts e c Namespace.Public m s h.0.built in let parts = sures-parts s (definitions e) (definitions_in ts) u in go_on_both at s s.locals (type_of_term e) s.locals t Full (ir_meaning.receiving w (is_sure env.sure e) low (step e) env st) (λ a. ir_meaning.in_order (ir_meaning.operands w low ts) (λ vs. ir_meaning.call_on w low (ir_meaning.static_target w c Namespace.Public m) (a ∷ vs))) (receiver_right e s h.1 (check_there e s its.1) at env st i (tree_right e s v h.1 (λ x o. fresh x (inl o)) parts.0 at env st i)) (λ y b a env st g n i. arguments_right ts m.params s t v h.0.meets.3 h.0.finds h.2 (λ x o. fresh x (inr o)) parts.1 y (λ vs. ir_meaning.call_on w low (ir_meaning.static_target w c Namespace.Public m) (a ∷ vs)) env st i (λ z d vs env st k i. received_right c Namespace.Public m (has.lookup.target (member c Namespace.Public m)) (laws.received (has.lookup.target (member c Namespace.Public m)) its.0) (laws.targets (member c Namespace.Public m) its.0) (target_above (member c Namespace.Public m) (has.lookup.target (member c Namespace.Public m)) its.0 (laws.targets (member c Namespace.Public m) its.0)) s t (type_of_term e) h.0.meets.1 h.0.meets.2 y a g n z d vs env st k i))
      tree_right (apply_statically p e c Constructor m ts t) = λ s v h fresh u at env st i. let parts = sures-parts s (definitions e) (definitions_in ts) u in go_on_both at s s.locals (type_of_term e) s.locals t Full (ir_meaning.receiving w (is_sure env.sure e) low (step e) env st) (λ a. ir_meaning.in_order (ir_meaning.operands w low ts) (λ vs. ir_meaning.call_on w low (member_of w c Constructor m) (a ∷ vs))) (own_right e s h.0.meets.0 h.1 at env st i) (λ y b a env st g n i. arguments_right ts m.params s t v h.0.meets.3 h.0.finds h.2 (λ x o. fresh x (inr o)) parts.1 y (λ vs. ir_meaning.call_on w low (member_of w c Constructor m) (a ∷ vs)) env st i (λ z d vs env st k i. received_right c Constructor m (member c Constructor m) (constructor_right c m t (may_check has s.sure e) h.0.built) (own_target w (member c Constructor m)) (law.same (class_type c)) s t (type_of_term e) h.0.meets.1 h.0.meets.2 y a g n z d vs env st k i))
      tree_right (apply_statically p e c n m ts t) = λ s v h fresh u at env st i. impossible h.0.built
      tree_right (select_static p c f t) = λ s v h fresh u at env st i. there_right at s t (st.statics c f) env st (i.heap.statics c f t (read_static has c f t h.built)) i
      tree_right (load_module p c) = λ s v h fresh u at env st i. only_right (CameRight at s s.locals (class_type c)) Full (step (load_module p c) env st).end (module_right p c s h at env st i)
      tree_right (store_module p c e) = λ s v h fresh u at env st i. operand_right e at s NoType (class_type c) (ir_meaning.store c) env st (tree_right e s v h.1 fresh u at env st i) h.0.meets (value-not (class_type c) (class_has_value c)) (λ y b x env st k i. store_right y s c x env st k i)
      tree_right (this_ref p t) = λ s v h fresh u at env st i. only_right (CameRight at s s.locals t) Full (ir_meaning.local_value env.this_value env st).end (this_right at s t s.owner env.this_value env st h.finds.1 (i.locals.this h.finds.0) i)
      tree_right (unary_op p o e) = λ s v h fresh u at env st i. operand_right e at s (unary_result o) (unary_operand o) (ir_meaning.unary w low o) env st (tree_right e s v h.1 fresh u at env st i) h.0.meets (value-not (unary_operand o) (unary-operand-value o)) (λ y b q env st k i. value_right y low s (unary_result o) (unary_value o q) env st (unary_gives (IsSub typing) law y o q k) i)
      tree_right (binary_op p o e d) = λ s v h fresh u at env st i. ⊎_elim (λ takes. binary_right o e d at s takes env st (tree_right e s v h.1 (λ x o. fresh x (inl o)) (sures-parts s (definitions e) (definitions d) u).0 at env st i) (λ k env st i. tree_right d s v h.2 (λ x o. fresh x (inr o)) (sures-parts s (definitions e) (definitions d) u).1 k env st i)) (λ divides. division_right o e d at s divides.0 divides.1 env st (tree_right e s v h.1 (λ x o. fresh x (inl o)) (sures-parts s (definitions e) (definitions d) u).0 at env st i)) (operation typing has s o e d h.0.built h.2 h.0.meets)
      tree_right (is_instance_of p e t) = λ s v h fresh u at env st i. operand_right e at s Boolean Any (ir_meaning.test w t) env st (tree_right e s v h.1 fresh u at env st i) h.0.meets.1 (value-not Any refl) (λ y b q env st k i. tested_value y s t q env st i)
      tree_right (as_instance_of p e t) = λ s v h fresh u at env st i. operand_right e at s t Any (ir_meaning.cast w low t) env st (tree_right e s v h.1 fresh u at env st i) h.0.meets.1 (value-not Any refl) (λ y b q env st k i. cast_value y s t (and_parts (can_cast has t) (is_based has t) h.0.built).0 (cast-value t h.0.meets.0) q k env st i)
      tree_right (undefined_literal p) = λ s v h fresh u at env st i. here at s s.locals Undefined ir.undefined env st (inr (has_type Undefined of_undefined (law.same Undefined))) i
      tree_right (null_literal p) = λ s v h fresh u at env st i. here at s s.locals Null ir.null env st (inr (has_type Null of_null (law.same Null))) i
      tree_right (boolean_literal p b) = λ s v h fresh u at env st i. here at s s.locals Boolean (ir.boolean b) env st (inr (has_type Boolean (of_boolean b) (law.same Boolean))) i
      tree_right (char_literal p n) = λ s v h fresh u at env st i. here at s s.locals Char (ir.char n) env st (inr (has_type Char (of_char n) (law.same Char))) i
      tree_right (long_literal p n) = λ s v h fresh u at env st i. here at s s.locals Long (ir.long n) env st (inr (has_type Long (of_long n) (law.same Long))) i
      tree_right (byte_literal p n) = λ s v h fresh u at env st i. here at s s.locals Byte (ir.number n) env st (inr (has_type Byte (of_byte n) (law.same Byte))) i
      tree_right (short_literal p n) = λ s v h fresh u at env st i. here at s s.locals Short (ir.number n) env st (inr (has_type Short (of_short n) (law.same Short))) i
      tree_right (int_literal p n) = λ s v h fresh u at env st i. here at s s.locals Int (ir.number n) env st (inr (has_type Int (of_int n) (law.same Int))) i
      tree_right (string_literal p us) = λ s v h fresh u at env st i. here at s s.locals String (ir.text us) env st (inr (has_type String (of_text us) (law.same String))) i
      tree_right (var_ref p x t) = λ s v h fresh u at env st i. local_right at s t (env.locals x) env st (subst (HoldsType at (env.locals x)) h.finds.type_is (i.locals.holds x h.finds.local h.finds.is)) i
      tree_right (log_line p e) = λ s v h fresh u at env st i. operand_right e at s NoType String ir_meaning.log env st (tree_right e s v h.1 fresh u at env st i) h.0.meets string_not (λ y b q env st k i. log_right y s q env st (as_text (IsSub typing) law y q k) i)
      tree_right _ = λ s v h fresh u at env st i. impossible h.built

      block_right : (ts : Terms) (s : Scene) → InScope (frame_of s) s.locals → TypedBlock typing has s ts → Fresh s (OwnAll ts) → Sures s (definitions_in ts) → (at : Classes) (env : ir.Env) (st : ir.State) → Ready at (frame_of s) s.locals env st → (q : IrType) → Right at s (type_of_last q ts) (ir_meaning.block w low ts env st)
      block_right no_terms s v h fresh u at env st i q = absurd h
      block_right (more_terms t no_terms) s v h fresh u at env st i q = go_on_right at s s.locals (type_of_term t) s.locals (type_of_term t) (step t env st) (ir_meaning.rest w low no_terms) (tree_right t s v h (λ x o. fresh x (inl o)) (sures-parts s (definitions t) [] u).0 at env st i) (λ y b a env st g i. here y s s.locals (type_of_term t) a env st g i)
      block_right (more_terms (var_def p x t b e) (more_terms n1 us)) s v h fresh u at env st i q = go_on_right at s (record { name = x; «mutable» = b; tpe = t } ∷ s.locals) NoType s.locals (type_of_last (type_of_term n1) us) (step (var_def p x t b e) env st) (ir_meaning.rest w low (more_terms n1 us)) (definition_right p x t b e (tree_right e) s v h.0 (λ y o. fresh y (inl o)) (sures-parts s (definitions (var_def p x t b e)) (definitions_in (more_terms n1 us)) u).0 at env st i) (λ z n a env st g i. leave-right z s (record { name = x; «mutable» = b; tpe = t }) (type_of_last (type_of_term n1) us) (ir_meaning.block w low (more_terms n1 us) env st).end (fresh x (inl (inl refl))) (block_right (more_terms n1 us) (behind (var_def p x t b e) s) (scope-behind (frame_of s) s.locals (record { name = x; «mutable» = b; tpe = t }) v h.0.0.finds.0 (λ k. ((sures-parts s (definitions e) (record { name = x; is_mutable = b; value = e } ∷ []) (sures-parts s (definitions (var_def p x t b e)) (definitions_in (more_terms n1 us)) u).0).1.0 k).0)) h.2 (λ y o j. ⊎_elim (λ same. h.1 x refl (subst (OwnAll (more_terms n1 us)) same o)) (λ there. fresh y (inr o) there) j) (sures-parts s (definitions (var_def p x t b e)) (definitions_in (more_terms n1 us)) u).1 z env st i NoType))
      block_right (more_terms t (more_terms n1 us)) s v h fresh u at env st i q = go_on_right at s s.locals (type_of_term t) s.locals (type_of_last (type_of_term n1) us) (step t env st) (ir_meaning.rest w low (more_terms n1 us)) (tree_right t s v h.0 (λ x o. fresh x (inl o)) (sures-parts s (definitions t) (definitions_in (more_terms n1 us)) u).0 at env st i) (λ z n a env st g i. block_right (more_terms n1 us) s v h.2 (λ x o. fresh x (inr o)) (sures-parts s (definitions t) (definitions_in (more_terms n1 us)) u).1 z env st i NoType)

      arguments_right : (ts : Terms) (rs : List TypeRef) (s : Scene) (t : IrType) → InScope (frame_of s) s.locals → ArgumentsFit typing ts rs → AllHaveValues rs → TypedAll typing has s ts → Fresh s (OwnAll ts) → Sures s (definitions_in ts) → (at : Classes) (act : List ir.Value → ir.Run) (env : ir.Env) (st : ir.State) → Ready at (frame_of s) s.locals env st → ((k : Classes) → Adds at k → (vs : List ir.Value) (env : ir.Env) (st : ir.State) → ValuesFit k vs rs → Ready k (frame_of s) s.locals env st → Right k s t (act vs env st)) → Right at s t (ir_meaning.in_order (ir_meaning.operands w low ts) act env st)
      arguments_right no_terms [] s t v f values h fresh u at act env st i on = on at (adds-refl at) [] env st none_left i
      arguments_right no_terms (r ∷ rs) s t v f values h fresh u at act env st i on = absurd f
      arguments_right (more_terms e es) [] s t v f values h fresh u at act env st i on = absurd f
      arguments_right (more_terms e es) (r ∷ rs) s t v f values h fresh u at act env st i on = go_on_right at s s.locals (type_of_term e) s.locals t (step e env st) (λ a. ir_meaning.in_order (ir_meaning.operands w low es) (λ vs. act (a ∷ vs))) (tree_right e s v h.0 (λ x o. fresh x (inl o)) (sures-parts s (definitions e) (definitions_in es) u).0 at env st i) (λ y b a env st g i. arguments_right es rs s t v f.1 values.1 h.1 (λ x o. fresh x (inr o)) (sures-parts s (definitions e) (definitions_in es) u).1 y (λ vs. act (a ∷ vs)) env st i (λ z n vs env st k i. on z (adds-trans at y z b n) (a ∷ vs) env st (one_fits a r vs rs (type-lift (IsSub typing) law y z n a (reference_type r) (operand-type y a (type_of_term e) (reference_type r) g f.0 (value-not (reference_type r) values.0))) k) i))

      items_right : (ts : Terms) (r : IrType) (s : Scene) (t : IrType) → InScope (frame_of s) s.locals → AllFit typing ts r → (r ≡ NoType → ⊥) → TypedAll typing has s ts → Fresh s (OwnAll ts) → Sures s (definitions_in ts) → (at : Classes) (act : List ir.Value → ir.Run) (env : ir.Env) (st : ir.State) → Ready at (frame_of s) s.locals env st → ((k : Classes) → Adds at k → (vs : List ir.Value) (env : ir.Env) (st : ir.State) → ItemsTyped k r vs → Ready k (frame_of s) s.locals env st → Right k s t (act vs env st)) → Right at s t (ir_meaning.in_order (ir_meaning.operands w low ts) act env st)
      items_right no_terms r s t v f n h fresh u at act env st i on = on at (adds-refl at) [] env st (no_items at r) i
      items_right (more_terms e es) r s t v f n h fresh u at act env st i on = go_on_right at s s.locals (type_of_term e) s.locals t (step e env st) (λ a. ir_meaning.in_order (ir_meaning.operands w low es) (λ vs. act (a ∷ vs))) (tree_right e s v h.0 (λ x o. fresh x (inl o)) (sures-parts s (definitions e) (definitions_in es) u).0 at env st i) (λ y b a env st g i. items_right es r s t v f.1 n h.1 (λ x o. fresh x (inr o)) (sures-parts s (definitions e) (definitions_in es) u).1 y (λ vs. act (a ∷ vs)) env st i (λ z m vs env st k i. on z (adds-trans at y z b m) (a ∷ vs) env st (one_item z r a vs (type-lift (IsSub typing) law y z m a r (operand-type y a (type_of_term e) r g f.0 n)) k) i))

      cases_right : (cs : Cases) (s : Scene) (t : IrType) → InScope (frame_of s) s.locals → TypedCases typing has s t cs → Fresh s (OwnCases cs) → Sures s (definitions_of_cases cs) → (d : ir.Run) (n : ℤ) (at : Classes) (env : ir.Env) (st : ir.State) → Ready at (frame_of s) s.locals env st → Right at s t (d env st) → Right at s t (ir_meaning.branch_of (ir_meaning.branches w low cs) d n env st)
      cases_right no_cases s t v h fresh u d n at env st i k = k
      cases_right (more_cases [] e cs) s t v h fresh u d n at env st i k = cases_right cs s t v h (λ x o. fresh x (inr o)) (sures-parts s (definitions e) (definitions_of_cases cs) u).1 d n at env st i k
      cases_right (more_cases (m ∷ ns) e cs) s t v h fresh u d n at env st i k = one_or_later at s t (list_any (int_eq n) (m ∷ ns)) (step e) (ir_meaning.branch_of (ir_meaning.branches w low cs) d n) env st (yields-right at s s.locals e t (step e env st).end h.0 (tree_right e s v h.1 (λ x o. fresh x (inl o)) (sures-parts s (definitions e) (definitions_of_cases cs) u).0 at env st i)) (cases_right cs s t v h.2 (λ x o. fresh x (inr o)) (sures-parts s (definitions e) (definitions_of_cases cs) u).1 d n at env st i k)

  pub bodies_right : ObjectLaws w typing has → ((m : Member) → has.linked m ≡ true → RightMember w typing has m) → (n : ℕ) → LowRight (ir_meaning.below w n)
  bodies_right laws members zero t s v h fresh u at env st i = tt
  bodies_right laws members (suc n) t s v h fresh u at env st i = tree_right laws members (ir_meaning.below w n) (bodies_right laws members n) t s v h fresh u at env st i
