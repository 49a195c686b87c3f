-- The helpers that the code of a body uses are told by what the body asks for.
use Rattle.std.proofs.Common.{◌≡◌, ℕ, Bool, true, false, ◌&&◌, List, [], ◌∷◌, Some, None, refl, sym, ap, ◌∙◌, subst, codes, Contains, if◌then◌else◌}
use Rattle.object_helpers.proofs.WrittenTrees.{written, each_written}
use Rattle.object_helpers.proofs.NestedTrees.{Throughout, each_throughout}
use Rattle.sj_core.specs.Lookup.{Lookup}
use Rattle.sj_core.specs.declared.callees.Callee.{Callee}
use Rattle.sj_core.specs.declared.callees.Callee.TheVariants as callees
use Rattle.sj_infos.specs.Receivers.{receiver_class}
use Rattle.sj_infos.specs.declared.infos.Info.TheVariants as asked_info
use Rattle.std.specs.Prelude.{not, is_none, ◌++◌}
use Rattle.std.specs.List.{All, list_any}
use Rattle.std.proofs.lemmas.List.Elements.{All-nil, All-cons, All-head, All-tail, All-contains, Contains-append_right, Contains-append_left}
use Rattle.body_uses.proofs.Given.{all_from}
use Rattle.body_uses.proofs.EachTyped.{in_all}
use Rattle.sj_emit_help_spec.specs.Helpers.{helper_name}
use Rattle.sj_emit_help_spec.specs.Words.{bound, helper, is_name, as_name}
use Rattle.sj_emit_help_spec.specs.declared.kinds.Helper.{Helper}
use Rattle.sj_emit_help_spec.specs.declared.kinds.Helper.TheVariants as helpers
use Rattle.sj_emit_help_spec.specs.declared.kinds.Kind.{Kind}
use Rattle.sj_emit_help_spec.specs.declared.kinds.Kind.TheVariants as kinds
use Rattle.js_tree.specs.declared.items.Binding.{Binding}
use Rattle.proper_pieces.proofs.Names.{function_rank}
use Rattle.sj_core.specs.Terms as core
use Rattle.sj_desugar_spec.specs.Desugar.{member, desugared_member, body_code, completed, is_mutable_in, result_destination, callee_of}
use Rattle.sj_emit_expr_spec.specs.Templates.{check_name, element_setter, called_member}
use Rattle.sj_emit_expr_spec.specs.Tests.{same_name}
use Rattle.sj_emit_expr_spec.specs.Uses.{object_binding, function_binding, class_use, static_use, setter_use, load_use, store_use, helper_of, test_uses, cast_uses, base_uses, type_uses, uses_of_all, is_same_binding, once_each, uses, looked_up_uses, call_uses}
use Rattle.sj_infos.specs.Infos.{asks, asked_in, of_receiver, of_static_call, of_division, of_type, of_cast, of_base, of_array, of_element, is_any, is_other_than_zero, null_pointer, arithmetic, class_cast, index_out_of_bounds, negative_size, of_apply, of_call, no_such_method}
use Rattle.sj_infos.specs.Infos as infos
use Rattle.sj_infos.specs.Sure.{sure_among}
use Rattle.sj_infos.specs.Sure as infos_sure
use Rattle.sj_infos.specs.Trees.{trees, below}
use Rattle.sj_infos.specs.declared.infos.Info.{Info}
use Rattle.sj_infos.specs.declared.infos.Info.TheVariants.{Field, Throws, ArrayForm}
use Rattle.body_uses.proofs.Found.{here, there}
use Rattle.body_uses.specs.Kept.{KeepsTreeRules}
use Rattle.sj_names.specs.declared.references.ArrayRef.{ArrayRef}
use Rattle.sj_names.specs.declared.references.BaseRef.{BaseRef}
use Rattle.sj_mangling.specs.Bindings.{class_binding, method_binding}
use Rattle.sj_mangling.specs.declared.bindings.ClassBinding.TheVariants.{Constants, IsInstance, AsInstance}
use Rattle.sj_mangling.specs.declared.bindings.MethodBinding.TheVariants.{Dispatch, Reflective}
use Rattle.sj_names.proofs.Same.{impossible}
use Rattle.sj_names.specs.declared.method_names.Member.{Member}
use Rattle.sj_names.specs.declared.method_names.MethodName.{MethodName}
use Rattle.sj_names.specs.declared.method_names.Namespace.{Namespace}
use Rattle.sj_names.specs.declared.method_names.Namespace.TheVariants.{Public, PublicStatic, Private, PrivateStatic, Constructor}
use Rattle.sj_trees.specs.Term.{Term, assign, new_object, new_array, array_value, array_length, array_select, load_module, store_module, select, select_static, apply_statically, apply_static, binary_op, is_instance_of, as_instance_of, apply}
use Rattle.sj_trees.specs.TypeOf.{type_of_term}
use Rattle.sj_trees.specs.declared.classes.ClassDef.{ClassDef}
use Rattle.sj_trees.specs.declared.classes.MethodDef.{MethodDef}
use Rattle.sj_trees.specs.declared.operators.BinaryOp.{BinaryOp}
use Rattle.sj_trees.specs.declared.operators.BinaryOp.TheVariants.{StrictEqual, StrictNotEqual, IntDivide, IntRemainder, LongDivide, LongRemainder}
use Rattle.sj_trees.specs.declared.positions.Position.{Position}
use Rattle.sj_trees.specs.declared.types.IrType.{IrType}
use Rattle.sure_receivers.specs.Sure.{is_sure, sure_locals}
use Rattle.object_helpers.specs.Helpers.{UsesIt, is_division, a_check, a_division, a_char, a_test, a_cast, an_identity, a_new_array, an_array_of_items, an_item, a_primitive_item, another_item, a_test_of_arrays, a_cast_to_arrays}
use Rattle.object_helpers.specs.Laws.{BodiesUseObjectHelpers}
use Rattle.object_helpers.proofs.Brought.{Brings, followed_in, tree}
use Rattle.object_helpers.proofs.Named.{no_helper, named_as}
use Rattle.object_helpers.proofs.Sures.{sure_tree, sure_kept}

-- what a cast that fails throws
abbrev pub cast_exception : Info
cast_exception = Throws (codes "java.lang.ClassCastException")

abbrev pub method_exception : Info
method_exception = Throws (codes "java.lang.NoSuchMethodException")

-- and what arrays throw
abbrev index_exception : Info
index_exception = Throws (codes "java.lang.ArrayIndexOutOfBoundsException")

abbrev store_exception : Info
store_exception = Throws (codes "java.lang.ArrayStoreException")

abbrev size_exception : Info
size_exception = Throws (codes "java.lang.NegativeArraySizeException")

-- each once
pub once_in : (Q : Binding → Type 0) (seen bs : List Binding) → All Q bs → All Q (once_each seen bs)
once_in Q seen [] h = All-nil Q
once_in Q seen (b ∷ bs) h = go (list_any (is_same_binding b) seen) (once_in Q seen bs (All-tail Q b bs h)) (once_in Q (b ∷ seen) bs (All-tail Q b bs h))
  where
    go : (t : Bool) → All Q (once_each seen bs) → All Q (once_each (b ∷ seen) bs) → All Q (if t then once_each seen bs else (b ∷ once_each (b ∷ seen) bs))
    go true f g = f
    go false f g = All-cons Q b (once_each (b ∷ seen) bs) (All-head Q b bs h) g

-- where a binding is of no other helper than these
abbrev pub Only : (Helper → Type 0) → Binding → Type 0
Only P b = (h : Helper) → b ≡ helper (helper_name h) → P h

pub only_function : (P : Helper → Type 0) (m : Member) → Only P (function_binding m)
only_function P m h e = no_helper (function_binding m) 9 (function_rank m.namespace m.class m.method) refl h e

module _ (runs : Lookup) (c : ClassDef) (d : MethodDef) (e : Term) (body : d.body ≡ Some e) (kept : KeepsTreeRules c d) where
  abbrev asked : List Info
  asked = asked_in e

  abbrev names : List (List ℕ)
  names = sure_among [] (trees e)

  abbrev sure : List ℕ → Bool
  sure = sure_locals e

  abbrev Q : Binding → Type 0
  Q = Only (UsesIt asked)

  none : All Q []
  none = All-nil Q

  one : (b : Binding) → Q b → All Q (b ∷ [])
  one b q = All-cons Q b [] q none

  good : (h : Helper) → UsesIt asked h → Q (helper (helper_name h))
  good g u h same = subst (UsesIt asked) (named_as g h same) u

  box : Q (object_binding (codes "$C"))
  box = good helpers.BoxedChar a_char

  check : Contains asked (Throws (codes "java.lang.NullPointerException")) → Q (object_binding check_name)
  check i = good helpers.NotNull (a_check i)

  -- a receiver that isn't sure in emitted code isn't where infos are asked for
  unsure : (r : Term) → is_sure sure r ≡ false → infos_sure.is_sure names r ≡ false
  unsure r n = go (infos_sure.is_sure names r) refl
    where
      go : (b : Bool) → infos_sure.is_sure names r ≡ b → infos_sure.is_sure names r ≡ false
      go false s = s
      go true s = impossible (sym n ∙ sure_tree names sure r (λ p x u same i. sure_kept c d e body kept x i) s)

  receiver_asks : (r : Term) → is_sure sure r ≡ false → Contains (of_receiver names r) (Throws (codes "java.lang.NullPointerException"))
  receiver_asks r n = subst (λ (b : Bool). Contains (if b then [] else null_pointer) (Throws (codes "java.lang.NullPointerException"))) (sym (unsure r n)) (here (Throws (codes "java.lang.NullPointerException")) [])

  told : (t : Term) → Contains (trees e) t → (o : Info) → Contains (asks names t) o → Contains asked o
  told t among o h = in_all (asks names) (trees e) t o among h

  division : (h : Helper) → is_division h ≡ true → Contains asked (Throws (codes "java.lang.ArithmeticException")) → All Q (helper (helper_name h) ∷ [])
  division h is i = one (helper (helper_name h)) (good h (a_division h is i))

  same : All Q (object_binding same_name ∷ [])
  same = one (object_binding same_name) (good helpers.Equal an_identity)

  divided : (o : BinaryOp) (b : Term) → ((infos.divides o && not (is_other_than_zero b)) ≡ true → Contains asked (Throws (codes "java.lang.ArithmeticException"))) → is_other_than_zero b ≡ false → All Q (helper_of false o)
  divided IntDivide b f n = division helpers.IntQuotient refl (f (ap not n))
  divided IntRemainder b f n = division helpers.IntRemainder refl (f (ap not n))
  divided LongDivide b f n = division helpers.LongQuotient refl (f (ap not n))
  divided LongRemainder b f n = division helpers.LongRemainder refl (f (ap not n))
  divided StrictEqual b f n = same
  divided StrictNotEqual b f n = same
  divided _ b f n = none

  division_asks : (o : BinaryOp) (b : Term) → (infos.divides o && not (is_other_than_zero b)) ≡ true → Contains (of_division o b) (Throws (codes "java.lang.ArithmeticException"))
  division_asks o b h = subst (λ (v : Bool). Contains (if v then arithmetic else []) (Throws (codes "java.lang.ArithmeticException"))) (sym h) (here (Throws (codes "java.lang.ArithmeticException")) [])

  -- what makes arrays, tests for them and casts to them asks for arrays
  form_asked : (r : ArrayRef) → Contains (of_array r) ArrayForm
  form_asked r = Contains-append_right (of_base r.base) (ArrayForm ∷ []) ArrayForm (here ArrayForm [])

  -- the functions of tests and casts
  test_kind : (k : Kind) → All Q (helper (is_name k) ∷ [])
  test_kind k = one (helper (is_name k)) (good (helpers.TestOf k) (a_test k))

  tested : (t : IrType) → ((o : Info) → Contains (of_type t) o → Contains asked o) → All Q (test_uses t)
  tested (IrType.Class k) f = one (bound k (class_binding IsInstance k)) (λ h same. no_helper (bound k (class_binding IsInstance k)) 7 refl refl h same)
  tested (IrType.Array r) f = one (object_binding (codes "$isA")) (good helpers.TestOfArray (a_test_of_arrays (f ArrayForm (form_asked r))))
  tested IrType.Undefined f = test_kind kinds.Undefined
  tested IrType.Boolean f = test_kind kinds.Boolean
  tested IrType.Char f = test_kind kinds.Char
  tested IrType.Byte f = test_kind kinds.Byte
  tested IrType.Short f = test_kind kinds.Short
  tested IrType.Int f = test_kind kinds.Int
  tested IrType.Long f = test_kind kinds.Long
  tested _ f = test_kind kinds.Text

  cast_asks : (t : IrType) → is_any t ≡ false → Contains (of_cast t) cast_exception
  cast_asks t n = Contains-append_right (of_type t) (if is_any t then [] else class_cast) cast_exception (subst (λ (b : Bool). Contains (if b then [] else class_cast) cast_exception) (sym n) (here cast_exception []))

  cast_kind : (k : Kind) → Contains asked cast_exception → All Q (helper (as_name k) ∷ [])
  cast_kind k i = one (helper (as_name k)) (good (helpers.CastTo k) (a_cast k i))

  casted : (t : IrType) → ((o : Info) → Contains (of_cast t) o → Contains asked o) → All Q (cast_uses t)
  casted IrType.Any f = none
  casted (IrType.Class k) f = one (bound k (class_binding AsInstance k)) (λ h same. no_helper (bound k (class_binding AsInstance k)) 8 refl refl h same)
  casted (IrType.Array r) f = one (object_binding (codes "$asA")) (good helpers.CastToArray (a_cast_to_arrays (f ArrayForm (Contains-append_left (of_array r) class_cast ArrayForm (form_asked r))) (f cast_exception (cast_asks (IrType.Array r) refl))))
  casted IrType.Undefined f = cast_kind kinds.Undefined (f cast_exception (cast_asks IrType.Undefined refl))
  casted IrType.Boolean f = cast_kind kinds.Boolean (f cast_exception (cast_asks IrType.Boolean refl))
  casted IrType.Char f = cast_kind kinds.Char (f cast_exception (cast_asks IrType.Char refl))
  casted IrType.Byte f = cast_kind kinds.Byte (f cast_exception (cast_asks IrType.Byte refl))
  casted IrType.Short f = cast_kind kinds.Short (f cast_exception (cast_asks IrType.Short refl))
  casted IrType.Int f = cast_kind kinds.Int (f cast_exception (cast_asks IrType.Int refl))
  casted IrType.Long f = cast_kind kinds.Long (f cast_exception (cast_asks IrType.Long refl))
  casted IrType.String f = cast_kind kinds.Text (f cast_exception (cast_asks IrType.String refl))
  casted IrType.Null f = cast_kind kinds.Text (f cast_exception (cast_asks IrType.Null refl))
  casted IrType.Nothing f = cast_kind kinds.Text (f cast_exception (cast_asks IrType.Nothing refl))
  casted IrType.NoType f = cast_kind kinds.Text (f cast_exception (cast_asks IrType.NoType refl))

  -- what names the base of an array is no helper
  based : (b : BaseRef) → All Q (base_uses b)
  based (BaseRef.Class k) = one (bound k (class_binding Constants k)) (λ h same. no_helper (bound k (class_binding Constants k)) 0 refl refl h same)
  based _ = none

  typed : (t : IrType) → All Q (type_uses t)
  typed (IrType.Array r) = based r.base
  typed _ = none

  -- the helper that sets an item
  set : (t : IrType) → Contains asked index_exception → ((o : Info) → Contains (of_element t) o → Contains asked o) → Q (object_binding (element_setter t))
  set IrType.Undefined i f = good helpers.Set (a_primitive_item i)
  set IrType.Boolean i f = good helpers.Set (a_primitive_item i)
  set IrType.Char i f = good helpers.Set (a_primitive_item i)
  set IrType.Byte i f = good helpers.Set (a_primitive_item i)
  set IrType.Short i f = good helpers.Set (a_primitive_item i)
  set IrType.Int i f = good helpers.Set (a_primitive_item i)
  set IrType.Long i f = good helpers.Set (a_primitive_item i)
  set IrType.String i f = good helpers.Set (a_primitive_item i)
  set IrType.Null i f = good helpers.Set (a_primitive_item i)
  set _ i f = good helpers.Put (another_item i (f store_exception (here store_exception [])))

  -- an item asks for the exception of its index, wherever it stands in the body
  item_asks : (p : Position) (r i : Term) (t : IrType) → Contains (trees e) (array_select p r i t) → Contains asked index_exception
  item_asks p r i t among = told (array_select p r i t) among index_exception (Contains-append_right (of_receiver names r) index_out_of_bounds index_exception (here index_exception []))

  inner : (t s : Term) → Contains (trees e) t → Contains (trees t) s → Contains (trees e) s
  inner t s among within = All-contains (Contains (trees e)) (trees t) s (All-contains (Throughout (Contains (trees e))) (trees e) t (each_throughout (Contains (trees e)) e (all_from (Contains (trees e)) (trees e) (λ u i. i))) among) within

  target_within : (p : Position) (a v : Term) → Contains (trees (assign p a v)) a
  target_within p a v = there (assign p a v) (trees a ++ trees v) a (Contains-append_left (trees a) (trees v) a (here a (below a)))

  -- identity, whatever its operands are
  always : (o : BinaryOp) → All Q (helper_of true o)
  always StrictEqual = same
  always StrictNotEqual = same
  always _ = All-nil Q

  -- what a call names is no helper
  callee_good : (k : Callee) → All Q (call_uses runs k)
  callee_good (callees.Member m) = All-cons Q (function_binding (called_member runs m.namespace m)) [] (only_function (UsesIt asked) (called_member runs m.namespace m)) (All-nil Q)
  callee_good (callees.LookedUp k m) = go (runs.has_hijacked k)
    where
      go : (b : Bool) → All Q (looked_up_uses b m)
      go true = All-cons Q (object_binding (method_binding Dispatch m)) [] (λ h same. no_helper (object_binding (method_binding Dispatch m)) 11 refl refl h same) (All-nil Q)
      go false = All-nil Q
  callee_good (callees.OfArray m) = All-nil Q
  callee_good (callees.Reflective m) = All-cons Q (object_binding (method_binding Reflective m)) [] (λ h same. no_helper (object_binding (method_binding Reflective m)) 12 refl refl h same) (All-nil Q)

  apply_asks : (r : Term) (m : MethodName) → Contains (of_receiver names r) (Throws (codes "java.lang.NullPointerException")) → Contains (of_apply names r m) (Throws (codes "java.lang.NullPointerException"))
  apply_asks r m i = go (is_none m.result)
    where
      go : (b : Bool) → Contains (if b then asked_info.Reflective m ∷ of_receiver names r ++ no_such_method else of_call m (receiver_class (type_of_term r)) ++ of_receiver names r) (Throws (codes "java.lang.NullPointerException"))
      go true = there (asked_info.Reflective m) (of_receiver names r ++ no_such_method) (Throws (codes "java.lang.NullPointerException")) (Contains-append_left (of_receiver names r) no_such_method (Throws (codes "java.lang.NullPointerException")) i)
      go false = Contains-append_right (of_call m (receiver_class (type_of_term r))) (of_receiver names r) (Throws (codes "java.lang.NullPointerException")) i

  brings : (t : Term) → Contains (trees e) t → Brings Q runs box sure t
  brings (apply_static p k n m ts t) among = only_function (UsesIt asked) (member k n m)
  brings (apply p r m ts t) among = (callee_good (callee_of (type_of_term r) m), λ u. check (told (apply p r m ts t) among (Throws (codes "java.lang.NullPointerException")) (apply_asks r m (receiver_asks r u))))
  brings (apply_statically p r k n m ts t) among = (only_function (UsesIt asked) (called_member runs n (member k n m)), λ u. check (told (apply_statically p r k n m ts t) among (Throws (codes "java.lang.NullPointerException")) (Contains-append_right (of_static_call k n m) (of_receiver names r) (Throws (codes "java.lang.NullPointerException")) (receiver_asks r u))))
  brings (new_object p k m ts) among = (only_function (UsesIt asked) (member k Constructor m), λ h same. no_helper (class_use k) 1 refl refl h same)
  brings (select p r k f t) among = λ u. check (told (select p r k f t) among (Throws (codes "java.lang.NullPointerException")) (there (Field k f false) (of_receiver names r) (Throws (codes "java.lang.NullPointerException")) (receiver_asks r u)))
  brings (select_static p k f t) among = (λ h same. no_helper (static_use k f) 2 refl refl h same, λ h same. no_helper (setter_use k f) 3 refl refl h same)
  brings (load_module p k) among = λ h same. no_helper (load_use k) 5 refl refl h same
  brings (store_module p k v) among = λ h same. no_helper (store_use k) 6 refl refl h same
  brings (assign p (array_select q r i t) v) among = set t (item_asks q r i t (inner (assign p (array_select q r i t) v) (array_select q r i t) among (target_within p (array_select q r i t) v))) (told (assign p (array_select q r i t) v) among)
  brings (new_array p r v) among = (good helpers.MakeArray (a_new_array (told (new_array p r v) among ArrayForm (Contains-append_left (of_array r) negative_size ArrayForm (form_asked r))) (told (new_array p r v) among size_exception (Contains-append_right (of_array r) negative_size size_exception (here size_exception [])))), based r.base)
  brings (array_value p r ts) among = (good helpers.ArrayClass (an_array_of_items (told (array_value p r ts) among ArrayForm (form_asked r))), based r.base)
  brings (array_length p r) among = λ u. check (told (array_length p r) among (Throws (codes "java.lang.NullPointerException")) (receiver_asks r u))
  brings (array_select p r i t) among = (good helpers.Get (an_item (item_asks p r i t among)), λ u. check (told (array_select p r i t) among (Throws (codes "java.lang.NullPointerException")) (Contains-append_left (of_receiver names r) index_out_of_bounds (Throws (codes "java.lang.NullPointerException")) (receiver_asks r u))))
  brings (is_instance_of p v t) among = (tested t (told (is_instance_of p v t) among), typed t)
  brings (as_instance_of p v t) among = (casted t (told (as_instance_of p v t) among), typed t)
  brings (binary_op p o v b) among = (λ n. divided o b (λ h. told (binary_op p o v b) among (Throws (codes "java.lang.ArithmeticException")) (division_asks o b h)) n, always o)
  brings _ among = tt

  -- what each written tree brings
  written_brings : All (Brings Q runs box sure) (written e)
  written_brings = each_written (Brings Q runs box sure) e (all_from (Brings Q runs box sure) (trees e) brings)

  completed_in : (n : Namespace) (ss : core.Statements) → All Q (uses_of_all runs ss) → All Q (uses_of_all runs (completed n ss))
  completed_in Constructor ss h = followed_in Q runs box ss (core.statement (core.return_of None (core.variable_use core.receiver)) core.no_statements) h (All-nil Q)
  completed_in Public ss h = h
  completed_in PublicStatic ss h = h
  completed_in Private ss h = h
  completed_in PrivateStatic ss h = h

  pub all_used : All Q (uses runs (desugared_member d e).body)
  all_used = once_in Q [] (uses_of_all runs (desugared_member d e).body) (completed_in d.namespace (body_code (is_mutable_in d e) d.result e) (tree Q runs box sure (is_mutable_in d e) e written_brings [] (result_destination d.result) 1))

pub used : BodiesUseObjectHelpers
used runs c d e h body kept i = All-contains (Only (UsesIt (asked_in e))) (uses runs (desugared_member d e).body) (helper (helper_name h)) (all_used runs c d e body kept) i h refl
