-- What the code of a tree uses is what its trees bring, one by one.
use Rattle.object_helpers.proofs.WrittenTrees.{written, written_below, all_written, cases_written}
use Rattle.sj_core.specs.Lookup.{Lookup}
use Rattle.sj_core.specs.declared.callees.Callee.TheVariants as callees
use Rattle.std.proofs.Common.{◌≡◌, ℕ, zero, suc, Bool, true, false, List, [], ◌∷◌, ◌++◌, ◌&&◌, Some, None, refl, sym, ap, ◌∙◌, codes, if◌then◌else◌}
use Rattle.std.specs.Prelude.{not, pos, negsuc}
use Rattle.std.specs.List.{All}
use Rattle.std.proofs.lemmas.List.Elements.{All-nil, All-cons, All-head, All-tail}
use Rattle.body_uses.proofs.Uses.{ahead, after, combine}
use Rattle.js_tree.specs.declared.items.Binding.{Binding}
use Rattle.sj_core.specs.Terms as core
use Rattle.sj_core.specs.Terms.{Expression, followed}
use Rattle.sj_core.specs.Views.{expressions_of}
use Rattle.sj_desugar_spec.specs.Coercions.{is_char, coerced, coerced_arguments, coerced_items, coerced_receiver}
use Rattle.sj_desugar_spec.specs.Desugar.{operand, receiver, received, received_text, into, block, operands, cases, finish, has_no_value, target_of, Targets, expression_of, all_expressions, labeled_code, leaving_code, wrapped, branches, break_unless, switch_code, first_of, second_of, third_of, rest_of, member, types_of, callee_of}
use Rattle.sj_desugar_spec.specs.Finalizers.{kept, keep_all, give_all_back, finalizer_code}
use Rattle.sj_desugar_spec.specs.Plain.{is_plain}
use Rattle.sj_desugar_spec.specs.Spill.{Destination, discard, to_variable, to_result, Code, one, put_first, Operand, all_plain, texts, Spilled, spill, spill_case, then_use}
use Rattle.sj_desugar_spec.specs.Texts.{text_of, operand_of}
use Rattle.sj_emit_expr_spec.specs.Templates.{check_name, element_setter, is_nonzero_literal, called_member}
use Rattle.sj_emit_expr_spec.specs.Uses.{object_binding, function_binding, class_use, static_use, setter_use, load_use, store_use, helper_of, test_uses, cast_uses, base_uses, type_uses, uses_in, uses_in_all, uses_of, uses_of_all, uses_of_cases, call_uses}
use Rattle.sj_infos.specs.Infos.{is_other_than_zero}
use Rattle.sj_names.proofs.Same.{impossible}
use Rattle.sj_names.specs.declared.method_names.Namespace.TheVariants.{Constructor}
use Rattle.sj_names.specs.declared.references.ArrayRef.{ArrayRef}
use Rattle.sj_names.specs.declared.references.TypeRef.{TypeRef}
use Rattle.sj_trees.specs.Term.{Term, Terms, no_terms, more_terms, Cases, no_cases, more_cases, var_def, block_of, labeled, assign, return_to, if_then, while_loop, do_while, try_catch, try_finally, match_on, throw, new_object, new_array, array_value, array_length, array_select, load_module, store_module, select, select_static, apply_statically, apply_static, unary_op, binary_op, is_instance_of, as_instance_of, undefined_literal, null_literal, boolean_literal, char_literal, byte_literal, short_literal, int_literal, long_literal, string_literal, var_ref, this_ref, log_line, apply}
use Rattle.sj_trees.specs.TypeOf.{type_of_term, unary_result, binary_result}
use Rattle.sj_trees.specs.Types.{class_type, reference_type, element_type}
use Rattle.sj_trees.specs.declared.operators.BinaryOp.{BinaryOp}
use Rattle.sj_trees.specs.declared.operators.BinaryOp.TheVariants.{StringConcatenate, StrictEqual, StrictNotEqual, IntDivide, IntRemainder, LongDivide, LongRemainder}
use Rattle.sj_trees.specs.declared.positions.Position.{Position}
use Rattle.sj_trees.specs.declared.types.IrType.{IrType}
use Rattle.sj_trees.specs.declared.types.IrType.TheVariants.{Any, Undefined, Null, Boolean, Char, Byte, Short, Int, Long, String, Array}
use Rattle.sure_receivers.specs.Sure.{is_sure}

-- a literal other than zero is plain, and its text is one
literal_plain : (d : Term) → is_other_than_zero d ≡ true → is_plain d ≡ true
literal_plain (undefined_literal p) h = refl
literal_plain (null_literal p) h = refl
literal_plain (boolean_literal p b) h = refl
literal_plain (char_literal p v) h = refl
literal_plain (byte_literal p z) h = refl
literal_plain (short_literal p z) h = refl
literal_plain (int_literal p z) h = refl
literal_plain (long_literal p z) h = refl
literal_plain (string_literal p us) h = refl
literal_plain _ h = impossible h

literal_text : (sure : List ℕ → Bool) (d : Term) → is_other_than_zero d ≡ true → is_nonzero_literal (expression_of sure d) ≡ true
literal_text sure (undefined_literal p) h = refl
literal_text sure (null_literal p) h = refl
literal_text sure (boolean_literal p b) h = refl
literal_text sure (char_literal p zero) h = impossible h
literal_text sure (char_literal p (suc v)) h = refl
literal_text sure (byte_literal p (pos zero)) h = impossible h
literal_text sure (byte_literal p (pos (suc n))) h = refl
literal_text sure (byte_literal p (negsuc n)) h = refl
literal_text sure (short_literal p (pos zero)) h = impossible h
literal_text sure (short_literal p (pos (suc n))) h = refl
literal_text sure (short_literal p (negsuc n)) h = refl
literal_text sure (int_literal p (pos zero)) h = impossible h
literal_text sure (int_literal p (pos (suc n))) h = refl
literal_text sure (int_literal p (negsuc n)) h = refl
literal_text sure (long_literal p (pos zero)) h = impossible h
literal_text sure (long_literal p (pos (suc n))) h = refl
literal_text sure (long_literal p (negsuc n)) h = refl
literal_text sure (string_literal p us) h = refl
literal_text sure _ h = impossible h

-- the last of one or two operands is its own text, where it is plain
last_case : (all fixed plain : Bool) (o : Operand) (j : ℕ) → (o.plain && true) ≡ all → o.plain ≡ true → first_of (spill_case all fixed plain o [] (spill []) j).expressions ≡ o.text
last_case true fixed plain o j a p = refl
last_case false fixed plain o j a p = impossible (sym a ∙ ap (λ (b : Bool). b && true) p)

last_text : (o : Operand) (j : ℕ) → o.plain ≡ true → first_of (spill (o ∷ []) j).expressions ≡ o.text
last_text o j p = last_case (o.plain && true) o.fixed o.plain o j refl p

second_case : (all fixed plain : Bool) (a o : Operand) (j : ℕ) → o.plain ≡ true → second_of (spill_case all fixed plain a (o ∷ []) (spill (o ∷ [])) j).expressions ≡ o.text
second_case true fixed plain a o j p = refl
second_case false true plain a o j p = last_text o j p
second_case false false true a o j p = last_text o (suc j) p
second_case false false false a o j p = last_text o (a.code (to_variable (core.numbered j) a.tpe) (suc j)).next p

second_text : (a o : Operand) (j : ℕ) → o.plain ≡ true → second_of (spill (a ∷ o ∷ []) j).expressions ≡ o.text
second_text a o j p = second_case (a.plain && (o.plain && true)) a.fixed a.plain a o j p

module _ (Q : Binding → Type 0) (runs : Lookup) (box : Q (object_binding (codes "$C"))) where
  abbrev In : Expression → Type 0
  In e = All Q (uses_in runs e)

  abbrev Within : core.Statements → Type 0
  Within ss = All Q (uses_of_all runs ss)

  none : All Q []
  none = All-nil Q

  join : (xs ys : List Binding) → All Q xs → All Q ys → All Q (xs ++ ys)
  join = combine Q

  alone : (s : core.Statement) → All Q (uses_of runs s) → Within (core.statement s core.no_statements)
  alone s h = join (uses_of runs s) [] h none

  pub followed_in : (a b : core.Statements) → Within a → Within b → Within (followed a b)
  followed_in core.no_statements b h k = k
  followed_in (core.statement s ss) b h k = join (uses_of runs s) (uses_of_all runs (followed ss b)) (ahead Q (uses_of runs s) (uses_of_all runs ss) h) (followed_in ss b (after Q (uses_of runs s) (uses_of_all runs ss) h) k)

  boxed_in : (boxed : Bool) (e : Expression) → In e → In (if boxed then core.boxed_char e else e)
  boxed_in true e h = All-cons Q (object_binding (codes "$C")) (uses_in runs e) box h
  boxed_in false e h = h

  coerced_in : (t u : IrType) (e : Expression) → In e → In (coerced t u e)
  coerced_in t u e h = boxed_in (is_char u && not (is_char t)) e h

  text_in : (t : IrType) (e : Expression) → In e → In (text_of t e)
  text_in String e h = h
  text_in Char e h = h
  text_in _ e h = h

  operand_in : (o : BinaryOp) (t : IrType) (e : Expression) → In e → In (operand_of o t e)
  operand_in StringConcatenate t e h = text_in t e h
  operand_in StrictEqual t e h = coerced_in Any t e h
  operand_in StrictNotEqual t e h = coerced_in Any t e h
  operand_in _ t e h = h

  abbrev EachIn : List Expression → Type 0
  EachIn [] = Unit {0}
  EachIn (e ∷ es) = In e × EachIn es

  each_in : (es : List Expression) → EachIn es → All Q (uses_in_all runs (expressions_of es))
  each_in [] h = none
  each_in (e ∷ es) h = join (uses_in runs e) (uses_in_all runs (expressions_of es)) h.0 (each_in es h.1)

  arguments_in : (rs : List TypeRef) (ts : List IrType) (es : List Expression) → EachIn es → All Q (uses_in_all runs (expressions_of (coerced_arguments rs ts es)))
  arguments_in [] ts es h = each_in es h
  arguments_in (r ∷ rs) [] es h = each_in es h
  arguments_in (r ∷ rs) (t ∷ ts) [] h = none
  arguments_in (r ∷ rs) (t ∷ ts) (e ∷ es) h = join (uses_in runs (coerced (reference_type r) t e)) (uses_in_all runs (expressions_of (coerced_arguments rs ts es))) (coerced_in (reference_type r) t e h.0) (arguments_in rs ts es h.1)

  items_in : (t : IrType) (ts : List IrType) (es : List Expression) → EachIn es → All Q (uses_in_all runs (expressions_of (coerced_items t ts es)))
  items_in t [] es h = each_in es h
  items_in t (u ∷ us) [] h = none
  items_in t (u ∷ us) (e ∷ es) h = join (uses_in runs (coerced t u e)) (uses_in_all runs (expressions_of (coerced_items t us es))) (coerced_in t u e h.0) (items_in t us es h.1)

  first_in : (es : List Expression) → EachIn es → In (first_of es)
  first_in [] h = none
  first_in (e ∷ es) h = h.0

  second_in : (es : List Expression) → EachIn es → In (second_of es)
  second_in [] h = none
  second_in (e ∷ es) h = first_in es h.1

  third_in : (es : List Expression) → EachIn es → In (third_of es)
  third_in [] h = none
  third_in (e ∷ es) h = second_in es h.1

  rest_in : (es : List Expression) → EachIn es → EachIn (rest_of es)
  rest_in [] h = tt
  rest_in (e ∷ es) h = h.1

  -- the helper of a division is used where its right operand is no literal other than zero, that of identity always
  helper_part : (b : Bool) (o : BinaryOp) → (b ≡ false → All Q (helper_of false o)) → All Q (helper_of true o) → All Q (helper_of b o)
  helper_part true o f always = always
  helper_part false o f always = f refl

  module _ (sure : List ℕ → Bool) where
    -- what one tree brings
    abbrev pub Brings : Term → Type 0
    Brings (apply_static p c n m ts t) = Q (function_binding (member c n m))
    Brings (apply p e m ts t) = All Q (call_uses runs (callee_of (type_of_term e) m)) × (is_sure sure e ≡ false → Q (object_binding check_name))
    Brings (apply_statically p e c n m ts t) = Q (function_binding (called_member runs n (member c n m))) × (is_sure sure e ≡ false → Q (object_binding check_name))
    Brings (new_object p c m ts) = Q (function_binding (member c Constructor m)) × Q (class_use c)
    Brings (select p e c f t) = is_sure sure e ≡ false → Q (object_binding check_name)
    Brings (select_static p c f t) = Q (static_use c f) × Q (setter_use c f)
    Brings (load_module p c) = Q (load_use c)
    Brings (store_module p c e) = Q (store_use c)
    Brings (assign p (array_select q d i t) e) = Q (object_binding (element_setter t))
    Brings (new_array p r e) = Q (object_binding (codes "$mk")) × All Q (base_uses r.base)
    Brings (array_value p r ts) = Q (object_binding (codes "$A")) × All Q (base_uses r.base)
    Brings (array_length p e) = is_sure sure e ≡ false → Q (object_binding check_name)
    Brings (array_select p e i t) = Q (object_binding (codes "$get")) × (is_sure sure e ≡ false → Q (object_binding check_name))
    Brings (is_instance_of p e t) = All Q (test_uses t) × All Q (type_uses t)
    Brings (as_instance_of p e t) = All Q (cast_uses t) × All Q (type_uses t)
    Brings (binary_op p o e d) = (is_other_than_zero d ≡ false → All Q (helper_of false o)) × All Q (helper_of true o)
    Brings _ = Unit {0}

    abbrev Each : List Term → Type 0
    Each ts = All Brings ts

    inner : (t : Term) → Each (written t) → Each (written_below t)
    inner t g = All-tail Brings t (written_below t) g

    own : (t : Term) → Each (written t) → Brings t
    own t g = All-head Brings t (written_below t) g

    two : (a b : Term) → Each (written a ++ written b) → Each (written a) × Each (written b)
    two a b g = (ahead Brings (written a) (written b) g, after Brings (written a) (written b) g)

    three : (a b c : Term) → Each (written a ++ written b ++ written c) → Each (written a) × (Each (written b) × Each (written c))
    three a b c g = let first = two a b (ahead Brings (written a ++ written b) (written c) g) in (first.0, (first.1, after Brings (written a ++ written b) (written c) g))

    call : (e : Term) (ts : Terms) → Each (written e ++ all_written ts) → Each (written e) × Each (all_written ts)
    call e ts g = (ahead Brings (written e) (all_written ts) g, after Brings (written e) (all_written ts) g)

    received_in : (known : Bool) (e : Expression) → (known ≡ false → Q (object_binding check_name)) → In e → In (received_text known e)
    received_in true e q h = h
    received_in false e q h = All-cons Q (object_binding check_name) (uses_in runs e) (q refl) h

    -- the expression of a right operand is its own, where that is a literal other than zero
    helper_in : (o : BinaryOp) (d : Term) (e : Expression) → (is_other_than_zero d ≡ true → e ≡ expression_of sure d) → (is_other_than_zero d ≡ false → All Q (helper_of false o)) → All Q (helper_of true o) → All Q (helper_of (is_nonzero_literal (operand_of o (type_of_term d) e)) o)
    helper_in o d e text brought always = helper_part (is_nonzero_literal (operand_of o (type_of_term d) e)) o (λ f. go (is_other_than_zero d) refl o f brought always) always
      where
        clash : {A : Type 0} → is_other_than_zero d ≡ true → is_nonzero_literal e ≡ false → A
        clash is f = impossible (sym f ∙ ap is_nonzero_literal (text is) ∙ literal_text sure d is)

        go : (b : Bool) → is_other_than_zero d ≡ b → (o : BinaryOp) → is_nonzero_literal (operand_of o (type_of_term d) e) ≡ false → (is_other_than_zero d ≡ false → All Q (helper_of false o)) → All Q (helper_of true o) → All Q (helper_of false o)
        go false is o f brought always = brought is
        go true is IntDivide f brought always = clash is f
        go true is IntRemainder f brought always = clash is f
        go true is LongDivide f brought always = clash is f
        go true is LongRemainder f brought always = clash is f
        go true is StrictEqual f brought always = always
        go true is StrictNotEqual f brought always = always
        go true is _ f brought always = none

    binary_in : (o : BinaryOp) (e d : Term) (x y : Expression) → (is_other_than_zero d ≡ false → All Q (helper_of false o)) × All Q (helper_of true o) → (is_other_than_zero d ≡ true → y ≡ expression_of sure d) → In x → In y → In (core.binary_of o (operand_of o (type_of_term e) x) (operand_of o (type_of_term d) y))
    binary_in o e d x y brought text h k =
        let left = operand_of o (type_of_term e) x in
        let right = operand_of o (type_of_term d) y in
        let helper = helper_of (is_nonzero_literal right) o in
        join (helper ++ uses_in runs left) (uses_in runs right) (join helper (uses_in runs left) (helper_in o d y text brought.0 brought.1) (operand_in o (type_of_term e) x h)) (operand_in o (type_of_term d) y k)

    -- what makes an array, in front of what is in it
    array_in : (x : List ℕ) (r : ArrayRef) (inside : List Binding) → Q (object_binding x) × All Q (base_uses r.base) → All Q inside → All Q (object_binding x ∷ base_uses r.base ++ inside)
    array_in x r inside h k = All-cons Q (object_binding x) (base_uses r.base ++ inside) h.0 (join (base_uses r.base) inside h.1 k)

    -- what a test or a cast calls, and what names the base of its type
    typed_in : (t : IrType) (names inside : List Binding) → All Q names × All Q (type_uses t) → All Q inside → All Q (names ++ inside ++ type_uses t)
    typed_in t names inside h k = join (names ++ inside) (type_uses t) (join names inside h.0 k) h.1

    mutual
      expression_in : (t : Term) → Each (written t) → In (expression_of sure t)
      expression_in (if_then p c a b t) g =
          let g0 = three c a b (inner (if_then p c a b t) g) in
          let left = coerced t (type_of_term a) (expression_of sure a) in
          let right = coerced t (type_of_term b) (expression_of sure b) in
          join (uses_in runs (expression_of sure c) ++ uses_in runs left) (uses_in runs right) (join (uses_in runs (expression_of sure c)) (uses_in runs left) (expression_in c g0.0) (coerced_in t (type_of_term a) (expression_of sure a) (expression_in a g0.1.0))) (coerced_in t (type_of_term b) (expression_of sure b) (expression_in b g0.1.1))
      expression_in (apply_static p c n m ts t) g = All-cons Q (function_binding (member c n m)) (uses_in_all runs (expressions_of (coerced_arguments m.params (types_of ts) (all_expressions sure ts)))) (own (apply_static p c n m ts t) g) (arguments_in m.params (types_of ts) (all_expressions sure ts) (expressions_in ts (inner (apply_static p c n m ts t) g)))
      expression_in (apply p e m ts t) g =
          let tree = apply p e m ts t in
          let g0 = call e ts (inner tree g) in
          let text = received_text (is_sure sure e) (expression_of sure e) in
          let target = coerced_receiver (type_of_term e) text in
          let arguments = uses_in_all runs (expressions_of (coerced_arguments m.params (types_of ts) (all_expressions sure ts))) in
          let names = call_uses runs (callee_of (type_of_term e) m) in
          join (names ++ uses_in runs target) arguments (join names (uses_in runs target) (own tree g).0 (coerced_in (IrType.Class (codes "java.lang.Character")) (type_of_term e) text (received_in (is_sure sure e) (expression_of sure e) (own tree g).1 (expression_in e g0.0)))) (arguments_in m.params (types_of ts) (all_expressions sure ts) (expressions_in ts g0.1))
      expression_in (apply_statically p e c n m ts t) g =
          let tree = apply_statically p e c n m ts t in
          let g0 = call e ts (inner tree g) in
          let text = received_text (is_sure sure e) (expression_of sure e) in
          let target = coerced_receiver (type_of_term e) text in
          let arguments = uses_in_all runs (expressions_of (coerced_arguments m.params (types_of ts) (all_expressions sure ts))) in
          All-cons Q (function_binding (called_member runs n (member c n m))) (uses_in runs target ++ arguments) (own tree g).0 (join (uses_in runs target) arguments (coerced_in (IrType.Class (codes "java.lang.Character")) (type_of_term e) text (received_in (is_sure sure e) (expression_of sure e) (own tree g).1 (expression_in e g0.0))) (arguments_in m.params (types_of ts) (all_expressions sure ts) (expressions_in ts g0.1)))
      expression_in (new_object p c m ts) g =
          let tree = new_object p c m ts in
          let arguments = uses_in_all runs (expressions_of (coerced_arguments m.params (types_of ts) (all_expressions sure ts))) in
          All-cons Q (function_binding (member c Constructor m)) (class_use c ∷ arguments) (own tree g).0 (All-cons Q (class_use c) arguments (own tree g).1 (arguments_in m.params (types_of ts) (all_expressions sure ts) (expressions_in ts (inner tree g))))
      expression_in (select p e c f t) g = received_in (is_sure sure e) (expression_of sure e) (own (select p e c f t) g) (expression_in e (inner (select p e c f t) g))
      expression_in (select_static p c f t) g = All-cons Q (static_use c f) [] (own (select_static p c f t) g).0 none
      expression_in (load_module p c) g = All-cons Q (load_use c) [] (own (load_module p c) g) none
      expression_in (unary_op p o e) g = expression_in e (inner (unary_op p o e) g)
      expression_in (new_array p r e) g = array_in (codes "$mk") r (uses_in runs (expression_of sure e)) (own (new_array p r e) g) (expression_in e (inner (new_array p r e) g))
      expression_in (array_value p r ts) g = array_in (codes "$A") r (uses_in_all runs (expressions_of (coerced_items (element_type r) (types_of ts) (all_expressions sure ts)))) (own (array_value p r ts) g) (items_in (element_type r) (types_of ts) (all_expressions sure ts) (expressions_in ts (inner (array_value p r ts) g)))
      expression_in (array_length p e) g = received_in (is_sure sure e) (expression_of sure e) (own (array_length p e) g) (expression_in e (inner (array_length p e) g))
      expression_in (array_select p e i t) g =
          let tree = array_select p e i t in
          let g0 = two e i (inner tree g) in
          let array = uses_in runs (received_text (is_sure sure e) (expression_of sure e)) in
          let index = uses_in runs (expression_of sure i) in
          All-cons Q (object_binding (codes "$get")) (array ++ index) (own tree g).0 (join array index (received_in (is_sure sure e) (expression_of sure e) (own tree g).1 (expression_in e g0.0)) (expression_in i g0.1))
      expression_in (is_instance_of p e t) g = typed_in t (test_uses t) (uses_in runs (coerced Any (type_of_term e) (expression_of sure e))) (own (is_instance_of p e t) g) (coerced_in Any (type_of_term e) (expression_of sure e) (expression_in e (inner (is_instance_of p e t) g)))
      expression_in (as_instance_of p e t) g = typed_in t (cast_uses t) (uses_in runs (coerced Any (type_of_term e) (expression_of sure e))) (own (as_instance_of p e t) g) (coerced_in Any (type_of_term e) (expression_of sure e) (expression_in e (inner (as_instance_of p e t) g)))
      expression_in (binary_op p o e d) g = let g0 = two e d (inner (binary_op p o e d) g) in binary_in o e d (expression_of sure e) (expression_of sure d) (own (binary_op p o e d) g) (λ h. refl) (expression_in e g0.0) (expression_in d g0.1)
      expression_in _ g = none

      expressions_in : (ts : Terms) → Each (all_written ts) → EachIn (all_expressions sure ts)
      expressions_in no_terms g = tt
      expressions_in (more_terms t ts) g = (expression_in t (ahead Brings (written t) (all_written ts) g), expressions_in ts (after Brings (written t) (all_written ts) g))

    -- operands
    abbrev OperandIn : Operand → Type 0
    OperandIn o = In o.text × ((x : core.Variable) (t : IrType) (j : ℕ) → Within (o.code (to_variable x t) j).statements)

    abbrev OperandsIn : List Operand → Type 0
    OperandsIn [] = Unit {0}
    OperandsIn (o ∷ os) = OperandIn o × OperandsIn os

    texts_in : (os : List Operand) → OperandsIn os → EachIn (texts os)
    texts_in [] h = tt
    texts_in (o ∷ os) h = (h.0.0, texts_in os h.1)

    abbrev SpilledIn : Spilled → Type 0
    SpilledIn r = Within r.statements × EachIn r.expressions

    case_in : (all fixed plain : Bool) (o : Operand) (os : List Operand) (j : ℕ) → OperandsIn (o ∷ os) → ((j : ℕ) → SpilledIn (spill os j)) → SpilledIn (spill_case all fixed plain o os (spill os) j)
    case_in true fixed plain o os j h rest = (none, (h.0.0, texts_in os h.1))
    case_in false true plain o os j h rest = let r = rest j in (r.0, (h.0.0, r.1))
    case_in false false true o os j h rest = let r = rest (suc j) in (join (uses_in runs o.text) (uses_of_all runs (spill os (suc j)).statements) h.0.0 r.0, (none, r.1))
    case_in false false false o os j h rest =
        let c : Code = o.code (to_variable (core.numbered j) o.tpe) (suc j) in
        let r = rest c.next in
        (followed_in c.statements (spill os c.next).statements (h.0.1 (core.numbered j) o.tpe (suc j)) r.0, (none, r.1))

    spill_in : (os : List Operand) → OperandsIn os → (j : ℕ) → SpilledIn (spill os j)
    spill_in [] h j = (none, tt)
    spill_in (o ∷ os) h j = case_in (o.plain && all_plain os) o.fixed o.plain o os j h (spill_in os h.1)

    use_in : (os : List Operand) → OperandsIn os → (j : ℕ) (made : List Expression → ℕ → Code) → ((i : ℕ) → EachIn (spill os j).expressions → Within (made (spill os j).expressions i).statements) → Within (then_use (spill os j) made).statements
    use_in os h j made k =
        let r : Spilled = spill os j in
        let s = spill_in os h j in
        followed_in r.statements (made r.expressions r.next).statements s.0 (k r.next s.1)

    value_in : (quiet : Bool) (p : Position) (e : Expression) (s : core.Statement) (j : ℕ) → In e → All Q (uses_of runs s) → Within (elim quiet as (λ b. Code) [ true ↦ one (core.evaluate_of (Some p) e) j | false ↦ one s j ]).statements
    value_in true p e s j h k = alone (core.evaluate_of (Some p) e) h
    value_in false p e s j h k = alone s k

    finish_in : (k : Destination) (p : Position) (t : IrType) (quiet : Bool) (e : Expression) (j : ℕ) → In e → Within (finish k p t quiet e j).statements
    finish_in discard p t true e j h = none
    finish_in discard p t false e j h = alone (core.evaluate_of (Some p) e) h
    finish_in (to_variable x expected) p t quiet e j h = value_in (has_no_value t) p e (core.assign_to (Some p) x (coerced expected t e)) j h (coerced_in expected t e h)
    finish_in (to_result expected) p t quiet e j h = value_in (has_no_value t) p e (core.return_of (Some p) (coerced expected t e)) j h (coerced_in expected t e h)

    receiver_in : (known : Bool) (o : Operand) → (known ≡ false → Q (object_binding check_name)) → OperandIn o → OperandIn (received known o)
    receiver_in true o q h = h
    receiver_in false o q h = (All-cons Q (object_binding check_name) (uses_in runs o.text) (q refl) h.0, λ x t j. use_in (o ∷ []) (h, tt) j (λ es. finish (to_variable x t) o.at o.tpe false (core.checked_value (first_of es))) (λ i f. finish_in (to_variable x t) o.at o.tpe false (core.checked_value (first_of (spill (o ∷ []) j).expressions)) i (All-cons Q (object_binding check_name) (uses_in runs (first_of (spill (o ∷ []) j).expressions)) (q refl) (first_in (spill (o ∷ []) j).expressions f))))

    labeled_in : (k : Destination) (p : Position) (l : List ℕ) (c : Code) → Within c.statements → Within (labeled_code k p l c).statements
    labeled_in (to_result t) p l c h = h
    labeled_in discard p l c h = alone (core.labeled_of (Some p) l c.statements) h
    labeled_in (to_variable x t) p l c h = alone (core.labeled_of (Some p) l c.statements) h

    leaving_in : (k : Destination) (p : Position) (l : List ℕ) (c : Code) → Within c.statements → Within (leaving_code k p l c).statements
    leaving_in (to_result t) p l c h = h
    leaving_in discard p l c h = followed_in c.statements (core.statement (core.leave_label (Some p) l) core.no_statements) h none
    leaving_in (to_variable x t) p l c h = followed_in c.statements (core.statement (core.leave_label (Some p) l) core.no_statements) h none

    either_in : (plain : Bool) (c d : Code) → Within c.statements → Within d.statements → Within (elim plain as (λ b. Code) [ true ↦ c | false ↦ d ]).statements
    either_in true c d h k = h
    either_in false c d h k = k

    break_in : (e : Expression) → In e → All Q (uses_of runs (break_unless e))
    break_in e h = join (uses_in runs e ++ []) [] (join (uses_in runs e) [] h none) none

    -- a branch on what is first
    try_in : (p : Position) (x : List ℕ) (first second : core.Statements) → Within first → Within second → Within (core.statement (core.try_of (Some p) first (core.named x) second) core.no_statements)
    try_in p x first second h k = alone (core.try_of (Some p) first (core.named x) second) (join (uses_of_all runs first) (uses_of_all runs second) h k)

    finally_in : (p : Position) (first second : core.Statements) → Within first → Within second → Within (core.statement (core.finally_of (Some p) first second) core.no_statements)
    finally_in p first second h k = alone (core.finally_of (Some p) first second) (join (uses_of_all runs first) (uses_of_all runs second) h k)

    keep_in : (xs : List core.Variable) (j : ℕ) → Within (keep_all xs j).statements
    keep_in [] j = none
    keep_in (x ∷ xs) j = keep_in xs (suc j)

    give_in : (xs : List core.Variable) (j next : ℕ) → Within (give_all_back xs j next).statements
    give_in [] j next = none
    give_in (x ∷ xs) j next = give_in xs (suc j) next

    -- what keeps variables and gives them back uses nothing
    finalizer_in : (goes_to : List ℕ → Destination) (d : Term) (j : ℕ) (body : ℕ → Code) → ((i : ℕ) → Within (body i).statements) → Within (finalizer_code goes_to d j body).statements
    finalizer_in goes_to d j body h =
        let front : Code = keep_all (kept goes_to d) j in
        let code : Code = body front.next in
        followed_in (followed front.statements code.statements) (give_all_back (kept goes_to d) j code.next).statements (followed_in front.statements code.statements (keep_in (kept goes_to d) j) (h front.next)) (give_in (kept goes_to d) j code.next)

    branch_in : (p : Position) (e : Expression) (first second : core.Statements) → In e → Within first → Within second → Within (core.statement (core.if_of (Some p) e first second) core.no_statements)
    branch_in p e first second h k l = alone (core.if_of (Some p) e first second) (join (uses_in runs e ++ uses_of_all runs first) (uses_of_all runs second) (join (uses_in runs e) (uses_of_all runs first) h k) l)

    switch_in : (p : Position) (e : Expression) (cs : core.Cases) (ss : core.Statements) → In e → All Q (uses_of_cases runs cs) → Within ss → Within (core.statement (core.switch_of (Some p) e cs ss) core.no_statements)
    switch_in p e cs ss h k l = alone (core.switch_of (Some p) e cs ss) (join (uses_in runs e ++ uses_of_cases runs cs) (uses_of_all runs ss) (join (uses_in runs e) (uses_of_cases runs cs) h k) l)

    module _ (is_mutable : List ℕ → Bool) where
      abbrev TreeIn : Term → Type 0
      TreeIn t = (ts : Targets) (k : Destination) (j : ℕ) → Within (into is_mutable sure ts k j t).statements

      abbrev operand_for : Targets → Term → Operand
      operand_for ts e = operand is_mutable sure e (λ k j. into is_mutable sure ts k j e)

      abbrev receiver_for : Targets → Term → Operand
      receiver_for ts e = receiver is_mutable sure e (λ k j. into is_mutable sure ts k j e)

      part_in : (e : Term) → Each (written e) → TreeIn e → (ts : Targets) → OperandIn (operand_for ts e)
      part_in e g tree ts = (expression_in e g, λ x t j. tree ts (to_variable x t) j)

      target_in : (e : Term) → (is_sure sure e ≡ false → Q (object_binding check_name)) → Each (written e) → TreeIn e → (ts : Targets) → OperandIn (receiver_for ts e)
      target_in e q g tree ts = receiver_in (is_sure sure e) (operand_for ts e) q (part_in e g tree ts)

      -- one operand
      act_in : (e : Term) → Each (written e) → TreeIn e → (ts : Targets) (j : ℕ) (made : List Expression → ℕ → Code) → ((x : List Expression) (i : ℕ) → In (first_of x) → Within (made x i).statements) → Within (then_use (spill (operand_for ts e ∷ []) j) made).statements
      act_in e g tree ts j made k = use_in (operand_for ts e ∷ []) (part_in e g tree ts, tt) j made (λ i f. k (spill (operand_for ts e ∷ []) j).expressions i (first_in (spill (operand_for ts e ∷ []) j).expressions f))

      second_own : (e d : Term) (ts : Targets) (j : ℕ) → is_other_than_zero d ≡ true → second_of (spill (operand_for ts e ∷ operand_for ts d ∷ []) j).expressions ≡ expression_of sure d
      second_own e d ts j h = second_text (operand_for ts e) (operand_for ts d) j (literal_plain d h)

      mutual
        pub tree : (t : Term) → Each (written t) → TreeIn t
        tree (var_def p x t b e) g ts k j = let i = inner (var_def p x t b e) g in either_in (is_plain e) (one (core.define_of (Some p) (core.named x) (coerced t (type_of_term e) (expression_of sure e))) j) (put_first (core.declare_of (Some p) (core.named x)) (into is_mutable sure ts (to_variable (core.named x) t) j e)) (alone (core.define_of (Some p) (core.named x) (coerced t (type_of_term e) (expression_of sure e))) (coerced_in t (type_of_term e) (expression_of sure e) (expression_in e i))) (tree e i ts (to_variable (core.named x) t) j)
        tree (block_of p es) g ts k j = block_in es (inner (block_of p es) g) ts k j
        tree (labeled p l t e) g ts k j = labeled_in k p l (into is_mutable sure (record { label = l; goes_to = k } ∷ ts) k j e) (tree e (inner (labeled p l t e) g) (record { label = l; goes_to = k } ∷ ts) k j)
        tree (assign p (var_ref q x t) e) g ts k j = let g0 = two (var_ref q x t) e (inner (assign p (var_ref q x t) e) g) in act_in e g0.1 (tree e g0.1) ts j (λ es. one (core.assign_to (Some p) (core.named x) (coerced t (type_of_term e) (first_of es)))) (λ x1 i f. alone (core.assign_to (Some p) (core.named x) (coerced t (type_of_term e) (first_of x1))) (coerced_in t (type_of_term e) (first_of x1) f))
        tree (assign p (select q d c f t) e) g ts k j =
            let target = select q d c f t in
            let g0 = two target e (inner (assign p target e) g) in
            let gd = inner target g0.0 in
            let os : List Operand = receiver_for ts d ∷ operand_for ts e ∷ [] in
            let xs = (spill os j).expressions in
            use_in os (target_in d (own target g0.0) gd (tree d gd) ts, (part_in e g0.1 (tree e g0.1) ts, tt)) j (λ es. one (core.assign_field (Some p) (first_of es) c f (coerced t (type_of_term e) (second_of es)))) (λ i r. alone (core.assign_field (Some p) (first_of xs) c f (coerced t (type_of_term e) (second_of xs))) (join (uses_in runs (first_of xs)) (uses_in runs (coerced t (type_of_term e) (second_of xs))) (first_in xs r) (coerced_in t (type_of_term e) (second_of xs) (second_in xs r))))
        tree (assign p (array_select q d x t) e) g ts k j =
            let target = array_select q d x t in
            let whole = assign p target e in
            let g0 = two target e (inner whole g) in
            let gd = two d x (inner target g0.0) in
            let os : List Operand = receiver_for ts d ∷ operand_for ts x ∷ operand_for ts e ∷ [] in
            let xs = (spill os j).expressions in
            let array = uses_in runs (first_of xs) in
            let index = uses_in runs (second_of xs) in
            let value = uses_in runs (coerced t (type_of_term e) (third_of xs)) in
            use_in os (target_in d (own target g0.0).1 gd.0 (tree d gd.0) ts, (part_in x gd.1 (tree x gd.1) ts, (part_in e g0.1 (tree e g0.1) ts, tt))) j (λ es. one (core.assign_element (Some p) t (first_of es) (second_of es) (coerced t (type_of_term e) (third_of es)))) (λ i r. alone (core.assign_element (Some p) t (first_of xs) (second_of xs) (coerced t (type_of_term e) (third_of xs))) (All-cons Q (object_binding (element_setter t)) (array ++ index ++ value) (own whole g) (join (array ++ index) value (join array index (first_in xs r) (second_in xs r)) (coerced_in t (type_of_term e) (third_of xs) (third_in xs r)))))
        tree (assign p (select_static q c f t) e) g ts k j = let g0 = two (select_static q c f t) e (inner (assign p (select_static q c f t) e) g) in act_in e g0.1 (tree e g0.1) ts j (λ es. one (core.assign_static (Some p) c f (coerced t (type_of_term e) (first_of es)))) (λ x i r. alone (core.assign_static (Some p) c f (coerced t (type_of_term e) (first_of x))) (All-cons Q (setter_use c f) (uses_in runs (coerced t (type_of_term e) (first_of x))) (own (select_static q c f t) g0.0).1 (coerced_in t (type_of_term e) (first_of x) r)))
        tree (return_to p e l) g ts k j = leaving_in (target_of ts l) p l (into is_mutable sure ts (target_of ts l) j e) (tree e (inner (return_to p e l) g) ts (target_of ts l) j)
        tree (if_then p c a b t) g ts k j = let g0 = three c a b (inner (if_then p c a b t) g) in act_in c g0.0 (tree c g0.0) ts j (λ es j. branches p (first_of es) (into is_mutable sure ts k j a) (λ j. into is_mutable sure ts k j b)) (λ x i f. branch_in p (first_of x) (into is_mutable sure ts k i a).statements (into is_mutable sure ts k (into is_mutable sure ts k i a).next b).statements f (tree a g0.1.0 ts k i) (tree b g0.1.1 ts k (into is_mutable sure ts k i a).next))
        tree (while_loop p c b) g ts k j =
            let g0 = two c b (inner (while_loop p c b) g) in
            let made : List Expression → ℕ → Code = (λ es j. put_first (break_unless (first_of es)) (into is_mutable sure ts discard j b)) in
            either_in (is_plain c) (wrapped (core.while_of (Some p) (expression_of sure c)) (into is_mutable sure ts discard j b)) (wrapped (core.while_of (Some p) (core.boolean_value true)) (then_use (spill (operand_for ts c ∷ []) j) made)) (alone (core.while_of (Some p) (expression_of sure c) (into is_mutable sure ts discard j b).statements) (join (uses_in runs (expression_of sure c)) (uses_of_all runs (into is_mutable sure ts discard j b).statements) (expression_in c g0.0) (tree b g0.1 ts discard j))) (alone (core.while_of (Some p) (core.boolean_value true) (then_use (spill (operand_for ts c ∷ []) j) made).statements) (act_in c g0.0 (tree c g0.0) ts j made (λ x i f. join (uses_of runs (break_unless (first_of x))) (uses_of_all runs (into is_mutable sure ts discard i b).statements) (break_in (first_of x) f) (tree b g0.1 ts discard i))))
        tree (do_while p b c) g ts k j =
            let g0 = two b c (inner (do_while p b c) g) in
            let body : Code = into is_mutable sure ts discard j b in
            let made : List Expression → ℕ → Code = (λ es. one (break_unless (first_of es))) in
            alone (core.loop_of (Some p) (followed body.statements (then_use (spill (operand_for ts c ∷ []) body.next) made).statements)) (followed_in body.statements (then_use (spill (operand_for ts c ∷ []) body.next) made).statements (tree b g0.0 ts discard j) (act_in c g0.1 (tree c g0.1) ts body.next made (λ x i f. alone (break_unless (first_of x)) (break_in (first_of x) f))))
        tree (try_catch p e x d t) g ts k j = let g0 = two e d (inner (try_catch p e x d t) g) in try_in p x (into is_mutable sure ts k j e).statements (into is_mutable sure ts k (into is_mutable sure ts k j e).next d).statements (tree e g0.0 ts k j) (tree d g0.1 ts k (into is_mutable sure ts k j e).next)
        tree (try_finally p e d) g ts k j = let g0 = two e d (inner (try_finally p e d) g) in finally_in p (into is_mutable sure ts k j e).statements (finalizer_code (target_of ts) d (into is_mutable sure ts k j e).next (λ i. into is_mutable sure ts discard i d)).statements (tree e g0.0 ts k j) (finalizer_in (target_of ts) d (into is_mutable sure ts k j e).next (λ i. into is_mutable sure ts discard i d) (λ i. tree d g0.1 ts discard i))
        tree (match_on p e cs d t) g ts k j =
            let i0 : Each (written e ++ cases_written cs ++ written d) = inner (match_on p e cs d t) g in
            let i1 : Each (written e ++ cases_written cs) = ahead Brings (written e ++ cases_written cs) (written d) i0 in
            let ge = ahead Brings (written e) (cases_written cs) i1 in
            act_in e ge (tree e ge) ts j (λ es j. switch_code p (first_of es) (cases is_mutable sure ts k j cs) (λ j. into is_mutable sure ts k j d)) (λ x i f. switch_in p (first_of x) (cases is_mutable sure ts k i cs).cases (into is_mutable sure ts k (cases is_mutable sure ts k i cs).next d).statements f (cases_in cs (after Brings (written e) (cases_written cs) i1) ts k i) (tree d (after Brings (written e ++ cases_written cs) (written d) i0) ts k (cases is_mutable sure ts k i cs).next))
        tree (apply_static p c n m es t) g ts k j =
            let own_tree = apply_static p c n m es t in
            let os : List Operand = operands is_mutable sure ts es in
            let xs = (spill os j).expressions in
            let arguments = expressions_of (coerced_arguments m.params (types_of es) xs) in
            use_in os (operands_in es (inner own_tree g) ts) j (λ xs. finish k p t false (core.static_call (member c n m) (expressions_of (coerced_arguments m.params (types_of es) xs)))) (λ i r. finish_in k p t false (core.static_call (member c n m) arguments) i (All-cons Q (function_binding (member c n m)) (uses_in_all runs arguments) (own own_tree g) (arguments_in m.params (types_of es) xs r)))
        tree (apply p e m es t) g ts k j =
            let own_tree = apply p e m es t in
            let g0 = call e es (inner own_tree g) in
            let os : List Operand = receiver_for ts e ∷ operands is_mutable sure ts es in
            let xs = (spill os j).expressions in
            let target = coerced_receiver (type_of_term e) (first_of xs) in
            let arguments = expressions_of (coerced_arguments m.params (types_of es) (rest_of xs)) in
            let names = call_uses runs (callee_of (type_of_term e) m) in
            use_in os (target_in e (own own_tree g).1 g0.0 (tree e g0.0) ts, operands_in es g0.1 ts) j (λ xs. finish k p t false (core.receiver_call (callee_of (type_of_term e) m) (coerced_receiver (type_of_term e) (first_of xs)) (expressions_of (coerced_arguments m.params (types_of es) (rest_of xs))))) (λ i r. finish_in k p t false (core.receiver_call (callee_of (type_of_term e) m) target arguments) i (join (names ++ uses_in runs target) (uses_in_all runs arguments) (join names (uses_in runs target) (own own_tree g).0 (coerced_in (IrType.Class (codes "java.lang.Character")) (type_of_term e) (first_of xs) (first_in xs r))) (arguments_in m.params (types_of es) (rest_of xs) (rest_in xs r))))
        tree (apply_statically p e c n m es t) g ts k j =
            let own_tree = apply_statically p e c n m es t in
            let g0 = call e es (inner own_tree g) in
            let os : List Operand = receiver_for ts e ∷ operands is_mutable sure ts es in
            let xs = (spill os j).expressions in
            let target = coerced_receiver (type_of_term e) (first_of xs) in
            let arguments = expressions_of (coerced_arguments m.params (types_of es) (rest_of xs)) in
            use_in os (target_in e (own own_tree g).1 g0.0 (tree e g0.0) ts, operands_in es g0.1 ts) j (λ xs. finish k p t false (core.receiver_call (callees.Member (member c n m)) (coerced_receiver (type_of_term e) (first_of xs)) (expressions_of (coerced_arguments m.params (types_of es) (rest_of xs))))) (λ i r. finish_in k p t false (core.receiver_call (callees.Member (member c n m)) target arguments) i (All-cons Q (function_binding (called_member runs n (member c n m))) (uses_in runs target ++ uses_in_all runs arguments) (own own_tree g).0 (join (uses_in runs target) (uses_in_all runs arguments) (coerced_in (IrType.Class (codes "java.lang.Character")) (type_of_term e) (first_of xs) (first_in xs r)) (arguments_in m.params (types_of es) (rest_of xs) (rest_in xs r)))))
        tree (new_object p c m es) g ts k j =
            let own_tree = new_object p c m es in
            let os : List Operand = operands is_mutable sure ts es in
            let xs = (spill os j).expressions in
            let arguments = expressions_of (coerced_arguments m.params (types_of es) xs) in
            use_in os (operands_in es (inner own_tree g) ts) j (λ xs. finish k p (class_type c) false (core.made_of (member c Constructor m) (expressions_of (coerced_arguments m.params (types_of es) xs)))) (λ i r. finish_in k p (class_type c) false (core.made_of (member c Constructor m) arguments) i (All-cons Q (function_binding (member c Constructor m)) (class_use c ∷ uses_in_all runs arguments) (own own_tree g).0 (All-cons Q (class_use c) (uses_in_all runs arguments) (own own_tree g).1 (arguments_in m.params (types_of es) xs r))))
        tree (select p e c f t) g ts k j =
            let i0 = inner (select p e c f t) g in
            let os : List Operand = receiver_for ts e ∷ [] in
            let xs = (spill os j).expressions in
            use_in os (target_in e (own (select p e c f t) g) i0 (tree e i0) ts, tt) j (λ xs. finish k p t false (core.field_of (first_of xs) c f)) (λ i r. finish_in k p t false (core.field_of (first_of xs) c f) i (first_in xs r))
        tree (select_static p c f t) g ts k j = finish_in k p t false (core.static_of c f) j (All-cons Q (static_use c f) [] (own (select_static p c f t) g).0 none)
        tree (load_module p c) g ts k j = finish_in k p (class_type c) false (core.module_of c) j (All-cons Q (load_use c) [] (own (load_module p c) g) none)
        tree (store_module p c e) g ts k j = let i0 = inner (store_module p c e) g in act_in e i0 (tree e i0) ts j (λ es. one (core.store_module_of (Some p) c (coerced (class_type c) (type_of_term e) (first_of es)))) (λ x i f. alone (core.store_module_of (Some p) c (coerced (class_type c) (type_of_term e) (first_of x))) (All-cons Q (store_use c) (uses_in runs (coerced (class_type c) (type_of_term e) (first_of x))) (own (store_module p c e) g) (coerced_in (class_type c) (type_of_term e) (first_of x) f)))
        tree (this_ref p t) g ts k j = finish_in k p t true (core.variable_use core.receiver) j none
        tree (throw p e) g ts k j = let i0 = inner (throw p e) g in act_in e i0 (tree e i0) ts j (λ es. one (core.throw_of (Some p) (coerced Any (type_of_term e) (first_of es)))) (λ x i f. alone (core.throw_of (Some p) (coerced Any (type_of_term e) (first_of x))) (coerced_in Any (type_of_term e) (first_of x) f))
        tree (unary_op p o e) g ts k j = let i0 = inner (unary_op p o e) g in act_in e i0 (tree e i0) ts j (λ es. finish k p (unary_result o) false (core.unary_of o (first_of es))) (λ x i f. finish_in k p (unary_result o) false (core.unary_of o (first_of x)) i f)
        tree (new_array p r e) g ts k j = let i0 = inner (new_array p r e) g in act_in e i0 (tree e i0) ts j (λ es. finish k p (Array r) false (core.new_array_of r (first_of es))) (λ x i f. finish_in k p (Array r) false (core.new_array_of r (first_of x)) i (array_in (codes "$mk") r (uses_in runs (first_of x)) (own (new_array p r e) g) f))
        tree (array_value p r es) g ts k j =
            let own_tree = array_value p r es in
            let os : List Operand = operands is_mutable sure ts es in
            let xs = (spill os j).expressions in
            let items = expressions_of (coerced_items (element_type r) (types_of es) xs) in
            use_in os (operands_in es (inner own_tree g) ts) j (λ xs. finish k p (Array r) false (core.array_of r (expressions_of (coerced_items (element_type r) (types_of es) xs)))) (λ i h. finish_in k p (Array r) false (core.array_of r items) i (array_in (codes "$A") r (uses_in_all runs items) (own own_tree g) (items_in (element_type r) (types_of es) xs h)))
        tree (array_length p e) g ts k j =
            let i0 = inner (array_length p e) g in
            let os : List Operand = receiver_for ts e ∷ [] in
            let xs = (spill os j).expressions in
            use_in os (target_in e (own (array_length p e) g) i0 (tree e i0) ts, tt) j (λ xs. finish k p Int false (core.length_of (first_of xs))) (λ i r. finish_in k p Int false (core.length_of (first_of xs)) i (first_in xs r))
        tree (array_select p e x t) g ts k j =
            let own_tree = array_select p e x t in
            let g0 = two e x (inner own_tree g) in
            let os : List Operand = receiver_for ts e ∷ operand_for ts x ∷ [] in
            let xs = (spill os j).expressions in
            let array = uses_in runs (first_of xs) in
            let index = uses_in runs (second_of xs) in
            use_in os (target_in e (own own_tree g).1 g0.0 (tree e g0.0) ts, (part_in x g0.1 (tree x g0.1) ts, tt)) j (λ xs. finish k p t false (core.element_of (first_of xs) (second_of xs))) (λ i r. finish_in k p t false (core.element_of (first_of xs) (second_of xs)) i (All-cons Q (object_binding (codes "$get")) (array ++ index) (own own_tree g).0 (join array index (first_in xs r) (second_in xs r))))
        tree (is_instance_of p e t) g ts k j =
            let i0 = inner (is_instance_of p e t) g in
            act_in e i0 (tree e i0) ts j (λ es. finish k p Boolean false (core.test_of t (coerced Any (type_of_term e) (first_of es)))) (λ x i f. finish_in k p Boolean false (core.test_of t (coerced Any (type_of_term e) (first_of x))) i (typed_in t (test_uses t) (uses_in runs (coerced Any (type_of_term e) (first_of x))) (own (is_instance_of p e t) g) (coerced_in Any (type_of_term e) (first_of x) f)))
        tree (as_instance_of p e t) g ts k j =
            let i0 = inner (as_instance_of p e t) g in
            act_in e i0 (tree e i0) ts j (λ es. finish k p t false (core.cast_of t (coerced Any (type_of_term e) (first_of es)))) (λ x i f. finish_in k p t false (core.cast_of t (coerced Any (type_of_term e) (first_of x))) i (typed_in t (cast_uses t) (uses_in runs (coerced Any (type_of_term e) (first_of x))) (own (as_instance_of p e t) g) (coerced_in Any (type_of_term e) (first_of x) f)))
        tree (binary_op p o e d) g ts k j =
            let g0 = two e d (inner (binary_op p o e d) g) in
            let os : List Operand = operand_for ts e ∷ operand_for ts d ∷ [] in
            let xs = (spill os j).expressions in
            use_in os (part_in e g0.0 (tree e g0.0) ts, (part_in d g0.1 (tree d g0.1) ts, tt)) j (λ es. finish k p (binary_result o) false (core.binary_of o (operand_of o (type_of_term e) (first_of es)) (operand_of o (type_of_term d) (second_of es)))) (λ i r. finish_in k p (binary_result o) false (core.binary_of o (operand_of o (type_of_term e) (first_of xs)) (operand_of o (type_of_term d) (second_of xs))) i (binary_in o e d (first_of xs) (second_of xs) (own (binary_op p o e d) g) (second_own e d ts j) (first_in xs r) (second_in xs r)))
        tree (undefined_literal p) g ts k j = finish_in k p Undefined true core.undefined_value j none
        tree (null_literal p) g ts k j = finish_in k p Null true core.null_value j none
        tree (boolean_literal p v) g ts k j = finish_in k p Boolean true (core.boolean_value v) j none
        tree (char_literal p u) g ts k j = finish_in k p Char true (core.number_value (pos u)) j none
        tree (byte_literal p n) g ts k j = finish_in k p Byte true (core.number_value n) j none
        tree (short_literal p n) g ts k j = finish_in k p Short true (core.number_value n) j none
        tree (int_literal p n) g ts k j = finish_in k p Int true (core.number_value n) j none
        tree (long_literal p n) g ts k j = finish_in k p Long true (core.long_value n) j none
        tree (string_literal p us) g ts k j = finish_in k p String true (core.text_value us) j none
        tree (var_ref p x t) g ts k j = finish_in k p t true (core.variable_use (core.named x)) j none
        tree (log_line p e) g ts k j = let i0 = inner (log_line p e) g in act_in e i0 (tree e i0) ts j (λ es. one (core.log_of (Some p) (first_of es))) (λ x i f. alone (core.log_of (Some p) (first_of x)) f)
        tree t g ts k j = none

        block_in : (es : Terms) → Each (all_written es) → (ts : Targets) (k : Destination) (j : ℕ) → Within (block is_mutable sure ts k j es).statements
        block_in no_terms g ts k j = none
        block_in (more_terms t no_terms) g ts k j = tree t (ahead Brings (written t) [] g) ts k j
        block_in (more_terms t (more_terms u us)) g ts k j = followed_in (into is_mutable sure ts discard j t).statements (block is_mutable sure ts k (into is_mutable sure ts discard j t).next (more_terms u us)).statements (tree t (ahead Brings (written t) (all_written (more_terms u us)) g) ts discard j) (block_in (more_terms u us) (after Brings (written t) (all_written (more_terms u us)) g) ts k (into is_mutable sure ts discard j t).next)

        operands_in : (es : Terms) → Each (all_written es) → (ts : Targets) → OperandsIn (operands is_mutable sure ts es)
        operands_in no_terms g ts = tt
        operands_in (more_terms t es) g ts = let g0 = ahead Brings (written t) (all_written es) g in (part_in t g0 (tree t g0) ts, operands_in es (after Brings (written t) (all_written es) g) ts)

        cases_in : (cs : Cases) → Each (cases_written cs) → (ts : Targets) (k : Destination) (j : ℕ) → All Q (uses_of_cases runs (cases is_mutable sure ts k j cs).cases)
        cases_in no_cases g ts k j = none
        cases_in (more_cases [] t cs) g ts k j = cases_in cs g ts k j
        cases_in (more_cases (n ∷ ns) t cs) g ts k j =
            let body : Code = into is_mutable sure ts k j t in
            let end = core.statement (core.break_nearest None) core.no_statements in
            join (uses_of_all runs (followed body.statements end)) (uses_of_cases runs (cases is_mutable sure ts k body.next cs).cases) (followed_in body.statements end (tree t (ahead Brings (written t) (cases_written cs) g) ts k j) none) (cases_in cs (after Brings (written t) (cases_written cs) g) ts k body.next)
