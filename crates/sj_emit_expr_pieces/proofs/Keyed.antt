-- What desugaring gives has a key in each case of a switch.
use Rattle.std.proofs.Common.{ℕ, pos, suc, Bool, true, false, ◌&&◌, List, [], ◌∷◌, Some, None, refl}
use Rattle.sj_core.specs.Terms as core
use Rattle.sj_core.specs.Terms.{followed}
use Rattle.sj_core.specs.Views.{expressions_of}
use Rattle.sj_core.specs.declared.callees.Callee.TheVariants as callees
use Rattle.sj_desugar_spec.specs.Coercions.{coerced, coerced_arguments, coerced_items, coerced_receiver}
use Rattle.sj_desugar_spec.specs.Desugar.{operand, into, block, operands, cases, finish, has_no_value, target_of, Targets, expression_of, labeled_code, leaving_code, wrapped, branches, break_unless, switch_code, first_of, second_of, third_of, rest_of, member, callee_of, types_of, received, receiver, desugared, desugared_member, completed, body_code, is_mutable_in, result_destination}
use Rattle.sj_desugar_spec.specs.Finalizers.{kept, keep_all, give_all_back, finalizer_code}
use Rattle.sj_desugar_spec.specs.Plain.{is_plain}
use Rattle.sj_desugar_spec.specs.Spill.{Destination, discard, to_variable, to_result, Code, one, put_first, Operand, all_plain, Spilled, spill, spill_case, then_use}
use Rattle.sj_desugar_spec.specs.Texts.{operand_of}
use Rattle.sj_trees.specs.Term.{Term, Terms, no_terms, more_terms, Cases, no_cases, more_cases, var_def, block_of, labeled, assign, return_to, if_then, while_loop, do_while, try_catch, try_finally, match_on, throw, new_object, load_module, store_module, select, select_static, apply, apply_statically, apply_static, unary_op, binary_op, new_array, array_value, array_length, array_select, is_instance_of, as_instance_of, undefined_literal, null_literal, boolean_literal, char_literal, byte_literal, short_literal, int_literal, long_literal, string_literal, var_ref, this_ref, log_line}
use Rattle.sj_trees.specs.TypeOf.{type_of_term, unary_result, binary_result}
use Rattle.sj_trees.specs.declared.classes.MethodDef.{MethodDef}
use Rattle.sj_trees.specs.Types.{class_type, element_type}
use Rattle.sj_trees.specs.declared.positions.Position.{Position}
use Rattle.sj_trees.specs.declared.types.IrType.{IrType}
use Rattle.sj_trees.specs.declared.types.IrType.TheVariants.{Any, Array, Undefined, Null, Boolean, Char, Byte, Short, Int, Long, String}
use Rattle.sj_names.specs.declared.method_names.Namespace.{Namespace}
use Rattle.sj_names.specs.declared.method_names.Namespace.TheVariants.{Public, PublicStatic, Private, PrivateStatic, Constructor}
use Rattle.sure_receivers.specs.Sure.{is_sure, sure_locals}
use Rattle.sj_emit_expr_pieces.specs.Keys.{IsKeyed, AreKeyed, HaveKeys, HasKeys}

abbrev Keyed : Code → Type 0
Keyed c = AreKeyed c.statements

followed-keyed : (a b : core.Statements) → AreKeyed a → AreKeyed b → AreKeyed (followed a b)
followed-keyed core.no_statements b h k = k
followed-keyed (core.statement s ss) b h k = (h.0, followed-keyed ss b h.1 k)

-- operands
abbrev EachKeyed : List Operand → Type 0
EachKeyed [] = Unit {0}
EachKeyed (o ∷ os) = ((x : core.Variable) (t : IrType) (j : ℕ) → Keyed (o.code (to_variable x t) j)) × EachKeyed os

case-keyed : (all fixed plain : Bool) (o : Operand) (os : List Operand) (j : ℕ) → EachKeyed (o ∷ os) → ((j : ℕ) → AreKeyed (spill os j).statements) → AreKeyed (spill_case all fixed plain o os (spill os) j).statements
case-keyed true fixed plain o os j h rest = tt
case-keyed false true plain o os j h rest = rest j
case-keyed false false true o os j h rest = (tt, rest (suc j))
case-keyed false false false o os j h rest =
    let c : Code = o.code (to_variable (core.numbered j) o.tpe) (suc j) in
    (tt, followed-keyed c.statements (spill os c.next).statements (h.0 (core.numbered j) o.tpe (suc j)) (rest c.next))

spill-keyed : (os : List Operand) → EachKeyed os → (j : ℕ) → AreKeyed (spill os j).statements
spill-keyed [] h j = tt
spill-keyed (o ∷ os) h j = case-keyed (o.plain && all_plain os) o.fixed o.plain o os j h (spill-keyed os h.1)

use-keyed : (os : List Operand) → EachKeyed os → (j : ℕ) (made : List core.Expression → ℕ → Code) → ((es : List core.Expression) (i : ℕ) → Keyed (made es i)) → Keyed (then_use (spill os j) made)
use-keyed os h j made k = let r : Spilled = spill os j in followed-keyed r.statements (made r.expressions r.next).statements (spill-keyed os h j) (k r.expressions r.next)

value-keyed : (quiet : Bool) (p : Position) (e : core.Expression) (s : core.Statement) (j : ℕ) → IsKeyed s → Keyed (elim quiet as (λ b. Code) [ true ↦ one (core.evaluate_of (Some p) e) j | false ↦ one s j ])
value-keyed true p e s j h = (tt, tt)
value-keyed false p e s j h = (h, tt)

finish-keyed : (k : Destination) (p : Position) (t : IrType) (quiet : Bool) (e : core.Expression) (j : ℕ) → Keyed (finish k p t quiet e j)
finish-keyed discard p t true e j = tt
finish-keyed discard p t false e j = (tt, tt)
finish-keyed (to_variable x expected) p t quiet e j = value-keyed (has_no_value t) p e (core.assign_to (Some p) x (coerced expected t e)) j tt
finish-keyed (to_result expected) p t quiet e j = value-keyed (has_no_value t) p e (core.return_of (Some p) (coerced expected t e)) j tt

received-keyed : (known : Bool) (o : Operand) → ((x : core.Variable) (t : IrType) (j : ℕ) → Keyed (o.code (to_variable x t) j)) → (x : core.Variable) (t : IrType) (j : ℕ) → Keyed ((received known o).code (to_variable x t) j)
received-keyed true o h = h
received-keyed false o h = λ x t j. use-keyed (o ∷ []) (h, tt) j (λ es. finish (to_variable x t) o.at o.tpe false (core.checked_value (first_of es))) (λ es i. finish-keyed (to_variable x t) o.at o.tpe false (core.checked_value (first_of es)) i)

labeled-keyed : (k : Destination) (p : Position) (l : List ℕ) (c : Code) → Keyed c → Keyed (labeled_code k p l c)
labeled-keyed (to_result t) p l c h = h
labeled-keyed discard p l c h = (h, tt)
labeled-keyed (to_variable x t) p l c h = (h, tt)

leaving-keyed : (k : Destination) (p : Position) (l : List ℕ) (c : Code) → Keyed c → Keyed (leaving_code k p l c)
leaving-keyed (to_result t) p l c h = h
leaving-keyed discard p l c h = followed-keyed c.statements (core.statement (core.leave_label (Some p) l) core.no_statements) h (tt, tt)
leaving-keyed (to_variable x t) p l c h = followed-keyed c.statements (core.statement (core.leave_label (Some p) l) core.no_statements) h (tt, tt)

keep-keyed : (xs : List core.Variable) (j : ℕ) → Keyed (keep_all xs j)
keep-keyed [] j = tt
keep-keyed (x ∷ xs) j = (tt, keep-keyed xs (suc j))

give-keyed : (xs : List core.Variable) (j next : ℕ) → Keyed (give_all_back xs j next)
give-keyed [] j next = tt
give-keyed (x ∷ xs) j next = (tt, give-keyed xs (suc j) next)

finalizer-keyed : (goes_to : List ℕ → Destination) (d : Term) (j : ℕ) (body : ℕ → Code) → ((i : ℕ) → Keyed (body i)) → Keyed (finalizer_code goes_to d j body)
finalizer-keyed goes_to d j body h =
    let front : Code = keep_all (kept goes_to d) j in
    let code : Code = body front.next in
    followed-keyed (followed front.statements code.statements) (give_all_back (kept goes_to d) j code.next).statements (followed-keyed front.statements code.statements (keep-keyed (kept goes_to d) j) (h front.next)) (give-keyed (kept goes_to d) j code.next)

either-keyed : (plain : Bool) (c d : Code) → Keyed c → Keyed d → Keyed (elim plain as (λ b. Code) [ true ↦ c | false ↦ d ])
either-keyed true c d h k = h
either-keyed false c d h k = k

module _ (is_mutable sure : List ℕ → Bool) where
  abbrev TreeKeyed : Term → Type 0
  TreeKeyed t = (ts : Targets) (k : Destination) (j : ℕ) → Keyed (into is_mutable sure ts k j t)

  abbrev one_of : Targets → Term → List Operand
  one_of ts e = operand is_mutable sure e (λ k j. into is_mutable sure ts k j e) ∷ []

  -- one operand
  act_keyed : (e : Term) → TreeKeyed e → (ts : Targets) (j : ℕ) (made : List core.Expression → ℕ → Code) → ((es : List core.Expression) (i : ℕ) → Keyed (made es i)) → Keyed (then_use (spill (one_of ts e) j) made)
  act_keyed e keyed ts j made k = use-keyed (one_of ts e) ((λ x t i. keyed ts (to_variable x t) i), tt) j made k

  abbrev owner_of : Targets → Term → Operand
  owner_of ts e = receiver is_mutable sure e (λ k j. into is_mutable sure ts k j e)

  owner_keyed : (e : Term) → TreeKeyed e → (ts : Targets) (x : core.Variable) (t : IrType) (j : ℕ) → Keyed ((owner_of ts e).code (to_variable x t) j)
  owner_keyed e keyed ts = received-keyed (is_sure sure e) (operand is_mutable sure e (λ k j. into is_mutable sure ts k j e)) (λ x t j. keyed ts (to_variable x t) j)

  mutual
    keyed : (t : Term) → TreeKeyed t
    keyed (var_def p x t c e) = λ ts k j. either-keyed (is_plain e) (one (core.define_of (Some p) (core.named x) (coerced t (type_of_term e) (expression_of sure e))) j) (put_first (core.declare_of (Some p) (core.named x)) (into is_mutable sure ts (to_variable (core.named x) t) j e)) (tt, tt) (tt, keyed e ts (to_variable (core.named x) t) j)
    keyed (block_of p es) = λ ts k j. keyed_block es ts k j
    keyed (labeled p l t e) = λ ts k j. labeled-keyed k p l (into is_mutable sure (record { label = l; goes_to = k } ∷ ts) k j e) (keyed e (record { label = l; goes_to = k } ∷ ts) k j)
    keyed (assign p (var_ref q x t) e) = λ ts k j. act_keyed e (keyed e) ts j (λ es. one (core.assign_to (Some p) (core.named x) (coerced t (type_of_term e) (first_of es)))) (λ es i. (tt, tt))
    keyed (assign p (select q d c f t) e) = λ ts k j. use-keyed (owner_of ts d ∷ one_of ts e) (owner_keyed d (keyed d) ts, ((λ x t i. keyed e ts (to_variable x t) i), tt)) j (λ es. one (core.assign_field (Some p) (first_of es) c f (coerced t (type_of_term e) (second_of es)))) (λ es i. (tt, tt))
    keyed (assign p (select_static q c f t) e) = λ ts k j. act_keyed e (keyed e) ts j (λ es. one (core.assign_static (Some p) c f (coerced t (type_of_term e) (first_of es)))) (λ es i. (tt, tt))
    keyed (assign p (array_select q d x t) e) = λ ts k j. use-keyed (owner_of ts d ∷ operand is_mutable sure x (λ k j. into is_mutable sure ts k j x) ∷ one_of ts e) (owner_keyed d (keyed d) ts, ((λ y t i. keyed x ts (to_variable y t) i), ((λ y t i. keyed e ts (to_variable y t) i), tt))) j (λ es. one (core.assign_element (Some p) t (first_of es) (second_of es) (coerced t (type_of_term e) (third_of es)))) (λ es i. (tt, tt))
    keyed (return_to p e l) = λ ts k j. leaving-keyed (target_of ts l) p l (into is_mutable sure ts (target_of ts l) j e) (keyed e ts (target_of ts l) j)
    keyed (if_then p c a b t) = λ ts k j. act_keyed c (keyed c) ts j (λ es j. branches p (first_of es) (into is_mutable sure ts k j a) (λ j. into is_mutable sure ts k j b)) (λ es i. ((keyed a ts k i, keyed b ts k (into is_mutable sure ts k i a).next), tt))
    keyed (while_loop p c b) = λ ts k j. either-keyed (is_plain c) (wrapped (core.while_of (Some p) (expression_of sure c)) (into is_mutable sure ts discard j b)) (wrapped (core.while_of (Some p) (core.boolean_value true)) (then_use (spill (one_of ts c) j) (λ es j. put_first (break_unless (first_of es)) (into is_mutable sure ts discard j b)))) (keyed b ts discard j, tt) (act_keyed c (keyed c) ts j (λ es j. put_first (break_unless (first_of es)) (into is_mutable sure ts discard j b)) (λ es i. (((tt, tt), tt), keyed b ts discard i)), tt)
    keyed (do_while p b c) = λ ts k j. (followed-keyed (into is_mutable sure ts discard j b).statements (then_use (spill (one_of ts c) (into is_mutable sure ts discard j b).next) (λ es. one (break_unless (first_of es)))).statements (keyed b ts discard j) (act_keyed c (keyed c) ts (into is_mutable sure ts discard j b).next (λ es. one (break_unless (first_of es))) (λ es i. (((tt, tt), tt), tt))), tt)
    keyed (try_catch p e x b t) = λ ts k j. ((keyed e ts k j, keyed b ts k (into is_mutable sure ts k j e).next), tt)
    keyed (try_finally p e d) = λ ts k j. ((keyed e ts k j, finalizer-keyed (target_of ts) d (into is_mutable sure ts k j e).next (λ i. into is_mutable sure ts discard i d) (λ i. keyed d ts discard i)), tt)
    keyed (match_on p e cs b t) = λ ts k j. act_keyed e (keyed e) ts j (λ es j. switch_code p (first_of es) (cases is_mutable sure ts k j cs) (λ j. into is_mutable sure ts k j b)) (λ es i. ((keyed_cases cs ts k i, keyed b ts k (cases is_mutable sure ts k i cs).next), tt))
    keyed (apply_static p c n m es t) = λ ts k j. use-keyed (operands is_mutable sure ts es) (keyed_operands es ts) j (λ xs. finish k p t false (core.static_call (member c n m) (expressions_of (coerced_arguments m.params (types_of es) xs)))) (λ xs i. finish-keyed k p t false (core.static_call (member c n m) (expressions_of (coerced_arguments m.params (types_of es) xs))) i)
    keyed (apply p e m es t) = λ ts k j. use-keyed (owner_of ts e ∷ operands is_mutable sure ts es) (owner_keyed e (keyed e) ts, keyed_operands es ts) j (λ xs. finish k p t false (core.receiver_call (callee_of (type_of_term e) m) (coerced_receiver (type_of_term e) (first_of xs)) (expressions_of (coerced_arguments m.params (types_of es) (rest_of xs))))) (λ xs i. finish-keyed k p t false (core.receiver_call (callee_of (type_of_term e) m) (coerced_receiver (type_of_term e) (first_of xs)) (expressions_of (coerced_arguments m.params (types_of es) (rest_of xs)))) i)
    keyed (apply_statically p e c n m es t) = λ ts k j. use-keyed (owner_of ts e ∷ operands is_mutable sure ts es) (owner_keyed e (keyed e) ts, keyed_operands es ts) j (λ xs. finish k p t false (core.receiver_call (callees.Member (member c n m)) (coerced_receiver (type_of_term e) (first_of xs)) (expressions_of (coerced_arguments m.params (types_of es) (rest_of xs))))) (λ xs i. finish-keyed k p t false (core.receiver_call (callees.Member (member c n m)) (coerced_receiver (type_of_term e) (first_of xs)) (expressions_of (coerced_arguments m.params (types_of es) (rest_of xs)))) i)
    keyed (this_ref p t) = λ ts k j. finish-keyed k p t true (core.variable_use core.receiver) j
    keyed (throw p e) = λ ts k j. act_keyed e (keyed e) ts j (λ es. one (core.throw_of (Some p) (coerced Any (type_of_term e) (first_of es)))) (λ es i. (tt, tt))
    keyed (new_object p c m es) = λ ts k j. use-keyed (operands is_mutable sure ts es) (keyed_operands es ts) j (λ xs. finish k p (class_type c) false (core.made_of (member c Constructor m) (expressions_of (coerced_arguments m.params (types_of es) xs)))) (λ xs i. finish-keyed k p (class_type c) false (core.made_of (member c Constructor m) (expressions_of (coerced_arguments m.params (types_of es) xs))) i)
    keyed (select p e c f t) = λ ts k j. use-keyed (owner_of ts e ∷ []) (owner_keyed e (keyed e) ts, tt) j (λ es. finish k p t false (core.field_of (first_of es) c f)) (λ es i. finish-keyed k p t false (core.field_of (first_of es) c f) i)
    keyed (select_static p c f t) = λ ts k j. finish-keyed k p t false (core.static_of c f) j
    keyed (load_module p c) = λ ts k j. finish-keyed k p (class_type c) false (core.module_of c) j
    keyed (store_module p c e) = λ ts k j. act_keyed e (keyed e) ts j (λ es. one (core.store_module_of (Some p) c (coerced (class_type c) (type_of_term e) (first_of es)))) (λ es i. (tt, tt))
    keyed (unary_op p o e) = λ ts k j. act_keyed e (keyed e) ts j (λ es. finish k p (unary_result o) false (core.unary_of o (first_of es))) (λ es i. finish-keyed k p (unary_result o) false (core.unary_of o (first_of es)) i)
    keyed (is_instance_of p e t) = λ ts k j. act_keyed e (keyed e) ts j (λ es. finish k p Boolean false (core.test_of t (coerced Any (type_of_term e) (first_of es)))) (λ es i. finish-keyed k p Boolean false (core.test_of t (coerced Any (type_of_term e) (first_of es))) i)
    keyed (as_instance_of p e t) = λ ts k j. act_keyed e (keyed e) ts j (λ es. finish k p t false (core.cast_of t (coerced Any (type_of_term e) (first_of es)))) (λ es i. finish-keyed k p t false (core.cast_of t (coerced Any (type_of_term e) (first_of es))) i)
    keyed (new_array p r e) = λ ts k j. act_keyed e (keyed e) ts j (λ es. finish k p (Array r) false (core.new_array_of r (first_of es))) (λ es i. finish-keyed k p (Array r) false (core.new_array_of r (first_of es)) i)
    keyed (array_value p r es) = λ ts k j. use-keyed (operands is_mutable sure ts es) (keyed_operands es ts) j (λ xs. finish k p (Array r) false (core.array_of r (expressions_of (coerced_items (element_type r) (types_of es) xs)))) (λ xs i. finish-keyed k p (Array r) false (core.array_of r (expressions_of (coerced_items (element_type r) (types_of es) xs))) i)
    keyed (array_length p e) = λ ts k j. use-keyed (owner_of ts e ∷ []) (owner_keyed e (keyed e) ts, tt) j (λ es. finish k p Int false (core.length_of (first_of es))) (λ es i. finish-keyed k p Int false (core.length_of (first_of es)) i)
    keyed (array_select p e x t) = λ ts k j. use-keyed (owner_of ts e ∷ one_of ts x) (owner_keyed e (keyed e) ts, ((λ y t i. keyed x ts (to_variable y t) i), tt)) j (λ es. finish k p t false (core.element_of (first_of es) (second_of es))) (λ es i. finish-keyed k p t false (core.element_of (first_of es) (second_of es)) i)
    keyed (binary_op p o e b) = λ ts k j. use-keyed (operand is_mutable sure e (λ k j. into is_mutable sure ts k j e) ∷ one_of ts b) ((λ x t i. keyed e ts (to_variable x t) i), ((λ x t i. keyed b ts (to_variable x t) i), tt)) j (λ es. finish k p (binary_result o) false (core.binary_of o (operand_of o (type_of_term e) (first_of es)) (operand_of o (type_of_term b) (second_of es)))) (λ es i. finish-keyed k p (binary_result o) false (core.binary_of o (operand_of o (type_of_term e) (first_of es)) (operand_of o (type_of_term b) (second_of es))) i)
    keyed (undefined_literal p) = λ ts k j. finish-keyed k p Undefined true core.undefined_value j
    keyed (null_literal p) = λ ts k j. finish-keyed k p Null true core.null_value j
    keyed (boolean_literal p v) = λ ts k j. finish-keyed k p Boolean true (core.boolean_value v) j
    keyed (char_literal p u) = λ ts k j. finish-keyed k p Char true (core.number_value (pos u)) j
    keyed (byte_literal p n) = λ ts k j. finish-keyed k p Byte true (core.number_value n) j
    keyed (short_literal p n) = λ ts k j. finish-keyed k p Short true (core.number_value n) j
    keyed (int_literal p n) = λ ts k j. finish-keyed k p Int true (core.number_value n) j
    keyed (long_literal p n) = λ ts k j. finish-keyed k p Long true (core.long_value n) j
    keyed (string_literal p us) = λ ts k j. finish-keyed k p String true (core.text_value us) j
    keyed (var_ref p x t) = λ ts k j. finish-keyed k p t true (core.variable_use (core.named x)) j
    keyed (log_line p e) = λ ts k j. act_keyed e (keyed e) ts j (λ es. one (core.log_of (Some p) (first_of es))) (λ es i. (tt, tt))
    keyed t = λ ts k j. tt

    keyed_block : (es : Terms) (ts : Targets) (k : Destination) (j : ℕ) → Keyed (block is_mutable sure ts k j es)
    keyed_block no_terms ts k j = tt
    keyed_block (more_terms t no_terms) ts k j = keyed t ts k j
    keyed_block (more_terms t (more_terms u us)) ts k j = followed-keyed (into is_mutable sure ts discard j t).statements (block is_mutable sure ts k (into is_mutable sure ts discard j t).next (more_terms u us)).statements (keyed t ts discard j) (keyed_block (more_terms u us) ts k (into is_mutable sure ts discard j t).next)

    keyed_operands : (es : Terms) (ts : Targets) → EachKeyed (operands is_mutable sure ts es)
    keyed_operands no_terms ts = tt
    keyed_operands (more_terms t es) ts = ((λ x i j. keyed t ts (to_variable x i) j), keyed_operands es ts)

    keyed_cases : (cs : Cases) (ts : Targets) (k : Destination) (j : ℕ) → HaveKeys (cases is_mutable sure ts k j cs).cases
    keyed_cases no_cases ts k j = tt
    keyed_cases (more_cases [] t cs) ts k j = keyed_cases cs ts k j
    keyed_cases (more_cases (n ∷ ns) t cs) ts k j = (refl, followed-keyed (into is_mutable sure ts k j t).statements (core.statement (core.break_nearest None) core.no_statements) (keyed t ts k j) (tt, tt), keyed_cases cs ts k (into is_mutable sure ts k j t).next)

pub desugared-keyed : (d : MethodDef) (e : Term) → HasKeys (desugared d e)
desugared-keyed d e = keyed (is_mutable_in d e) (sure_locals e) e [] (result_destination d.result) 1

completed-keyed : (n : Namespace) (ss : core.Statements) → AreKeyed ss → AreKeyed (completed n ss)
completed-keyed Constructor ss h = followed-keyed ss (core.statement (core.return_of None (core.variable_use core.receiver)) core.no_statements) h (tt, tt)
completed-keyed Public ss h = h
completed-keyed PublicStatic ss h = h
completed-keyed Private ss h = h
completed-keyed PrivateStatic ss h = h

pub member-keyed : (d : MethodDef) (e : Term) → HasKeys (desugared_member d e)
member-keyed d e = completed-keyed d.namespace (body_code (is_mutable_in d e) d.result e) (desugared-keyed d e)
