-- What desugaring gives has fields of what may stand before `.` alone, where no field in the tree is one of a primitive value.
use Rattle.std.proofs.Common.{◌≡◌, ℕ, pos, suc, Bool, true, false, ◌&&◌, List, [], ◌∷◌, Option, Some, None, refl, sym, ◌∙◌, if◌then◌else◌}
use Rattle.std.specs.Prelude.{IsTrue}
use Rattle.js_tree.specs.Rules.{is_receiver}
use Rattle.js_tree.specs.Terms as js
use Rattle.sj_core.specs.Lookup.{Lookup}
use Rattle.sj_core.specs.Terms as core
use Rattle.sj_core.specs.Terms.{followed}
use Rattle.sj_core.specs.Views.{expressions_of}
use Rattle.sj_core.specs.declared.callees.Callee.{Callee}
use Rattle.sj_core.specs.declared.callees.Callee.TheVariants as callees
use Rattle.sj_desugar_spec.specs.Coercions.{coerced, coerced_arguments, coerced_items, coerced_receiver}
use Rattle.sj_desugar_spec.specs.Desugar.{operand, into, block, operands, cases, finish, has_no_value, target_of, Targets, expression_of, all_expressions, labeled_code, leaving_code, wrapped, branches, break_unless, switch_code, first_of, second_of, third_of, rest_of, member, named_by, callee_of, types_of, received_text, received, receiver, desugared, desugared_member, completed, body_code, is_mutable_in, result_destination}
use Rattle.sj_desugar_spec.specs.Finalizers.{kept, keep_all, give_all_back, finalizer_code}
use Rattle.sj_desugar_spec.specs.Plain.{is_plain}
use Rattle.sj_desugar_spec.specs.Spill.{Destination, discard, to_variable, to_result, Code, one, put_first, Operand, all_plain, texts, Spilled, spill, spill_case, then_use}
use Rattle.sj_desugar_spec.specs.Texts.{text_of, operand_of}
use Rattle.sj_emit_expr_spec.specs.Names.{variable_name, label_name}
use Rattle.sj_emit_expr_spec.specs.Templates.{looked_up_template, call_template, expression_template, expression_templates, is_nonzero_literal, binary_template}
use Rattle.sj_names.proofs.Same.{impossible}
use Rattle.sj_names.specs.declared.method_names.MethodName.{MethodName}
use Rattle.sj_names.specs.declared.method_names.Namespace.{Namespace}
use Rattle.sj_names.specs.declared.method_names.Namespace.TheVariants.{Public, PublicStatic, Private, PrivateStatic, Constructor}
use Rattle.sj_names.specs.declared.references.TypeRef.{TypeRef}
use Rattle.sj_trees.specs.Term.{Term, Terms, no_terms, more_terms, Cases, no_cases, more_cases, var_def, block_of, labeled, assign, return_to, if_then, while_loop, do_while, try_catch, try_finally, match_on, throw, new_object, load_module, store_module, select, select_static, apply, apply_statically, apply_static, unary_op, binary_op, new_array, array_value, array_length, array_select, is_instance_of, as_instance_of, undefined_literal, null_literal, boolean_literal, char_literal, byte_literal, short_literal, int_literal, long_literal, string_literal, var_ref, this_ref, log_line}
use Rattle.sj_trees.specs.TypeOf.{type_of_term, unary_result, binary_result}
use Rattle.sj_trees.specs.Types.{class_type, element_type, reference_type}
use Rattle.sj_trees.specs.declared.classes.MethodDef.{MethodDef}
use Rattle.sj_trees.specs.declared.operators.BinaryOp.{BinaryOp}
use Rattle.sj_trees.specs.declared.operators.BinaryOp.TheVariants.{StringConcatenate, StrictEqual, StrictNotEqual, IntDivide, IntRemainder, LongDivide, LongRemainder}
use Rattle.sj_trees.specs.declared.operators.UnaryOp.{UnaryOp}
use Rattle.sj_trees.specs.declared.operators.UnaryOp.TheVariants.{BooleanNot, CharToInt, ByteToInt, ShortToInt, IntToLong, IntToChar, IntToByte, IntToShort, LongToInt}
use Rattle.sj_trees.specs.declared.positions.Position.{Position}
use Rattle.sj_trees.specs.declared.types.IrType.{IrType}
use Rattle.sj_trees.specs.declared.types.IrType.TheVariants.{Any, Nothing, NoType, Class, Array, Undefined, Null, Boolean, Char, Byte, Short, Int, Long, String}
use Rattle.sj_names.specs.WellKnown.{is_hijacked}
use Rattle.sure_receivers.specs.Sure.{is_sure_type, is_sure, sure_locals}
use Rattle.sj_emit_expr_pieces.specs.Owners.{MayOwn, MayCall, HasOwners, HaveOwners, IsOwned, AreOwned, CasesOwned, FieldsHaveOwners, OnObjects, AllOnObjects, CasesOnObjects}

abbrev Owned : Code → Type 0
Owned c = AreOwned c.statements

followed-owned : (a b : core.Statements) → AreOwned a → AreOwned b → AreOwned (followed a b)
followed-owned core.no_statements b h k = k
followed-owned (core.statement s ss) b h k = (h.0, followed-owned ss b h.1 k)

-- expressions
abbrev EachOwned : List core.Expression → Type 0
EachOwned [] = Unit {0}
EachOwned (e ∷ es) = HasOwners e × EachOwned es

boxed-owned : (boxed : Bool) (e : core.Expression) → HasOwners e → HasOwners (if boxed then core.boxed_char e else e)
boxed-owned true e h = h
boxed-owned false e h = h

coerced-owned : (t u : IrType) (e : core.Expression) → HasOwners e → HasOwners (coerced t u e)
coerced-owned t u e h = boxed-owned _ e h

text-owned : (t : IrType) (e : core.Expression) → HasOwners e → HasOwners (text_of t e)
text-owned String e h = h
text-owned Char e h = h
text-owned _ e h = h

operand-owned : (o : BinaryOp) (t : IrType) (e : core.Expression) → HasOwners e → HasOwners (operand_of o t e)
operand-owned StringConcatenate t e h = text-owned t e h
operand-owned StrictEqual t e h = coerced-owned Any t e h
operand-owned StrictNotEqual t e h = coerced-owned Any t e h
operand-owned _ t e h = h

each-owned : (es : List core.Expression) → EachOwned es → HaveOwners (expressions_of es)
each-owned [] h = tt
each-owned (e ∷ es) h = (h.0, each-owned es h.1)

arguments-owned : (rs : List TypeRef) (ts : List IrType) (es : List core.Expression) → EachOwned es → HaveOwners (expressions_of (coerced_arguments rs ts es))
arguments-owned [] ts es h = each-owned es h
arguments-owned (r ∷ rs) [] es h = each-owned es h
arguments-owned (r ∷ rs) (t ∷ ts) [] h = tt
arguments-owned (r ∷ rs) (t ∷ ts) (e ∷ es) h = (coerced-owned (reference_type r) t e h.0, arguments-owned rs ts es h.1)

items-owned : (u : IrType) (ts : List IrType) (es : List core.Expression) → EachOwned es → HaveOwners (expressions_of (coerced_items u ts es))
items-owned u [] es h = each-owned es h
items-owned u (t ∷ ts) [] h = tt
items-owned u (t ∷ ts) (e ∷ es) h = (coerced-owned u t e h.0, items-owned u ts es h.1)

first-owned : (es : List core.Expression) → EachOwned es → HasOwners (first_of es)
first-owned [] h = tt
first-owned (e ∷ es) h = h.0

second-owned : (es : List core.Expression) → EachOwned es → HasOwners (second_of es)
second-owned [] h = tt
second-owned (e ∷ es) h = first-owned es h.1

third-owned : (es : List core.Expression) → EachOwned es → HasOwners (third_of es)
third-owned [] h = tt
third-owned (e ∷ es) h = second-owned es h.1

rest-owned : (es : List core.Expression) → EachOwned es → EachOwned (rest_of es)
rest-owned [] h = tt
rest-owned (e ∷ es) h = h.1

unary-owns : (o : UnaryOp) → is_sure_type (unary_result o) ≡ false → ⊥
unary-owns BooleanNot h = impossible (sym h)
unary-owns CharToInt h = impossible (sym h)
unary-owns ByteToInt h = impossible (sym h)
unary-owns ShortToInt h = impossible (sym h)
unary-owns IntToLong h = impossible (sym h)
unary-owns IntToChar h = impossible (sym h)
unary-owns IntToByte h = impossible (sym h)
unary-owns IntToShort h = impossible (sym h)
unary-owns LongToInt h = impossible (sym h)

binary-owns : (nonzero : Bool) (o : BinaryOp) (e g : js.Expression) → IsTrue (is_receiver (binary_template nonzero o e g))
binary-owns true IntDivide e g = refl
binary-owns false IntDivide e g = refl
binary-owns true IntRemainder e g = refl
binary-owns false IntRemainder e g = refl
binary-owns true LongDivide e g = refl
binary-owns false LongDivide e g = refl
binary-owns true LongRemainder e g = refl
binary-owns false LongRemainder e g = refl
binary-owns nonzero _ e g = refl

-- calls
looked-up-owns : (mixed : Bool) (m : MethodName) (x : js.Expression) (xs : js.Expressions) → IsTrue (is_receiver (looked_up_template mixed m x xs))
looked-up-owns true m x xs = refl
looked-up-owns false m x xs = refl

call-owns : (known : Lookup) (k : Callee) (x : js.Expression) (xs : js.Expressions) → IsTrue (is_receiver (call_template known k x xs))
call-owns known (callees.Member m) x xs = refl
call-owns known (callees.LookedUp c m) x xs = looked-up-owns (known.has_hijacked c) m x xs
call-owns known (callees.OfArray m) x xs = refl
call-owns known (callees.Reflective m) x xs = refl

boxed-owns : (boxed : Bool) (e : core.Expression) → MayOwn e → MayOwn (if boxed then core.boxed_char e else e)
boxed-owns true e h = λ known. refl
boxed-owns false e h = h

-- on a receiver that may stand before `.` each method may be called, and on a primitive value those of its class
hijacked-may : (hijacked : Bool) (c : List ℕ) (m : MethodName) (e : core.Expression) → MayOwn e → MayCall (if hijacked then callees.Member (member c Public m) else callees.LookedUp c m) e
hijacked-may true c m e h = tt
hijacked-may false c m e h = h

named-may : (r : Option TypeRef) (t : IrType) (m : MethodName) (e : core.Expression) → (is_sure_type t ≡ false → MayOwn e) → MayCall (named_by r t m) e
named-may None t m e h = tt
named-may (Some r) Any m e h = h refl
named-may (Some r) (Array a) m e h = h refl
named-may (Some r) (Class c) m e h = hijacked-may (is_hijacked c) c m e (h refl)
named-may (Some r) Nothing m e h = h refl
named-may (Some r) Null m e h = h refl
named-may (Some r) NoType m e h = h refl
named-may (Some r) Undefined m e h = tt
named-may (Some r) Boolean m e h = tt
named-may (Some r) Char m e h = tt
named-may (Some r) Byte m e h = tt
named-may (Some r) Short m e h = tt
named-may (Some r) Int m e h = tt
named-may (Some r) Long m e h = tt
named-may (Some r) String m e h = tt

module _ (sure : List ℕ → Bool) where
  may-own : (t : Term) → is_sure sure t ≡ true → is_sure_type (type_of_term t) ≡ false → MayOwn (expression_of sure t)
  may-own (if_then p c a b t) k h = λ known. refl
  may-own (apply_static p c n m ts t) k h = λ known. refl
  may-own (apply p e m ts t) k h = λ known. call-owns known (callee_of (type_of_term e) m) (expression_template variable_name label_name known (coerced_receiver (type_of_term e) (received_text (is_sure sure e) (expression_of sure e)))) (expression_templates variable_name label_name known (expressions_of (coerced_arguments m.params (types_of ts) (all_expressions sure ts))))
  may-own (apply_statically p e c n m ts t) k h = λ known. refl
  may-own (this_ref p t) k h = λ known. refl
  may-own (new_object p c m ts) k h = λ known. refl
  may-own (select p e c f t) k h = λ known. refl
  may-own (select_static p c f t) k h = λ known. refl
  may-own (unary_op p o e) k h = absurd (unary-owns o h)
  may-own (is_instance_of p e t) k h = impossible (sym h)
  may-own (as_instance_of p e t) k h = impossible (sym h ∙ k)
  may-own (binary_op p o e d) k h = λ known. binary-owns (is_nonzero_literal (operand_of o (type_of_term d) (expression_of sure d))) o (expression_template variable_name label_name known (operand_of o (type_of_term e) (expression_of sure e))) (expression_template variable_name label_name known (operand_of o (type_of_term d) (expression_of sure d)))
  may-own (undefined_literal p) k h = λ known. refl
  may-own (null_literal p) k h = λ known. refl
  may-own (boolean_literal p b) k h = λ known. refl
  may-own (char_literal p u) k h = impossible (sym h)
  may-own (byte_literal p z) k h = impossible (sym h)
  may-own (short_literal p z) k h = impossible (sym h)
  may-own (int_literal p z) k h = impossible (sym h)
  may-own (long_literal p z) k h = impossible (sym h)
  may-own (string_literal p us) k h = λ known. refl
  may-own (var_ref p x t) k h = λ known. refl
  may-own _ k h = λ known. refl

  received-owns : (known : Bool) (e : core.Expression) → (known ≡ true → MayOwn e) → MayOwn (received_text known e)
  received-owns true e h = h refl
  received-owns false e h = λ known. refl

  received-owned : (known : Bool) (e : core.Expression) → HasOwners e → HasOwners (received_text known e)
  received-owned true e h = h
  received-owned false e h = h

  mutual
    expression-owned : (t : Term) → OnObjects t → HasOwners (expression_of sure t)
    expression-owned (if_then p c a b t) h = (expression-owned c h.0, coerced-owned t (type_of_term a) (expression_of sure a) (expression-owned a h.1), coerced-owned t (type_of_term b) (expression_of sure b) (expression-owned b h.2))
    expression-owned (apply_static p c n m ts t) h = arguments-owned m.params (types_of ts) (all_expressions sure ts) (expressions-owned ts h)
    expression-owned (apply p e m ts t) h = (named-may m.result (type_of_term e) m (coerced_receiver (type_of_term e) (received_text (is_sure sure e) (expression_of sure e))) (λ no. boxed-owns _ (received_text (is_sure sure e) (expression_of sure e)) (received-owns (is_sure sure e) (expression_of sure e) (λ k. may-own e k no))), boxed-owned _ (received_text (is_sure sure e) (expression_of sure e)) (received-owned (is_sure sure e) (expression_of sure e) (expression-owned e h.0)), arguments-owned m.params (types_of ts) (all_expressions sure ts) (expressions-owned ts h.1))
    expression-owned (apply_statically p e c n m ts t) h = (tt, boxed-owned _ (received_text (is_sure sure e) (expression_of sure e)) (received-owned (is_sure sure e) (expression_of sure e) (expression-owned e h.0)), arguments-owned m.params (types_of ts) (all_expressions sure ts) (expressions-owned ts h.1))
    expression-owned (new_object p c m ts) h = arguments-owned m.params (types_of ts) (all_expressions sure ts) (expressions-owned ts h)
    expression-owned (select p e c f t) h = (received-owns (is_sure sure e) (expression_of sure e) (λ k. may-own e k h.0), received-owned (is_sure sure e) (expression_of sure e) (expression-owned e h.1))
    expression-owned (new_array p r e) h = expression-owned e h
    expression-owned (array_value p r ts) h = items-owned (element_type r) (types_of ts) (all_expressions sure ts) (expressions-owned ts h)
    expression-owned (array_length p e) h = (received-owns (is_sure sure e) (expression_of sure e) (λ k. may-own e k h.0), received-owned (is_sure sure e) (expression_of sure e) (expression-owned e h.1))
    expression-owned (array_select p e i t) h = (received-owned (is_sure sure e) (expression_of sure e) (expression-owned e h.1), expression-owned i h.2)
    expression-owned (unary_op p o e) h = expression-owned e h
    expression-owned (is_instance_of p e t) h = coerced-owned Any (type_of_term e) (expression_of sure e) (expression-owned e h)
    expression-owned (as_instance_of p e t) h = coerced-owned Any (type_of_term e) (expression_of sure e) (expression-owned e h)
    expression-owned (binary_op p o e d) h = (operand-owned o (type_of_term e) (expression_of sure e) (expression-owned e h.0), operand-owned o (type_of_term d) (expression_of sure d) (expression-owned d h.1))
    expression-owned _ h = tt

    expressions-owned : (ts : Terms) → AllOnObjects ts → EachOwned (all_expressions sure ts)
    expressions-owned no_terms h = tt
    expressions-owned (more_terms t ts) h = (expression-owned t h.0, expressions-owned ts h.1)

-- operands
abbrev OperandOwned : Operand → Type 0
OperandOwned o = HasOwners o.text × ((x : core.Variable) (t : IrType) (j : ℕ) → Owned (o.code (to_variable x t) j))

abbrev OperandsOwned : List Operand → Type 0
OperandsOwned [] = Unit {0}
OperandsOwned (o ∷ os) = OperandOwned o × OperandsOwned os

texts-owned : (os : List Operand) → OperandsOwned os → EachOwned (texts os)
texts-owned [] h = tt
texts-owned (o ∷ os) h = (h.0.0, texts-owned os h.1)

abbrev SpilledOwned : Spilled → Type 0
SpilledOwned r = AreOwned r.statements × EachOwned r.expressions

case-owned : (all fixed plain : Bool) (o : Operand) (os : List Operand) (j : ℕ) → OperandsOwned (o ∷ os) → ((j : ℕ) → SpilledOwned (spill os j)) → SpilledOwned (spill_case all fixed plain o os (spill os) j)
case-owned true fixed plain o os j h rest = (tt, (h.0.0, texts-owned os h.1))
case-owned false true plain o os j h rest = let r = rest j in (r.0, (h.0.0, r.1))
case-owned false false true o os j h rest = let r = rest (suc j) in ((h.0.0, r.0), (tt, r.1))
case-owned false false false o os j h rest =
    let c : Code = o.code (to_variable (core.numbered j) o.tpe) (suc j) in
    let r = rest c.next in
    ((tt, followed-owned c.statements (spill os c.next).statements (h.0.1 (core.numbered j) o.tpe (suc j)) r.0), (tt, r.1))

spill-owned : (os : List Operand) → OperandsOwned os → (j : ℕ) → SpilledOwned (spill os j)
spill-owned [] h j = (tt, tt)
spill-owned (o ∷ os) h j = case-owned (o.plain && all_plain os) o.fixed o.plain o os j h (spill-owned os h.1)

use-owned : (os : List Operand) → OperandsOwned os → (j : ℕ) (made : List core.Expression → ℕ → Code) → ((es : List core.Expression) (i : ℕ) → EachOwned es → Owned (made es i)) → Owned (then_use (spill os j) made)
use-owned os h j made k =
    let r : Spilled = spill os j in
    let s = spill-owned os h j in
    followed-owned r.statements (made r.expressions r.next).statements s.0 (k r.expressions r.next s.1)

-- the first of operands may stand before `.` where its own text may
case-owns : (all fixed plain : Bool) (o : Operand) (os : List Operand) (j : ℕ) → MayOwn o.text → MayOwn (first_of (spill_case all fixed plain o os (spill os) j).expressions)
case-owns true fixed plain o os j h = h
case-owns false true plain o os j h = h
case-owns false false true o os j h = λ known. refl
case-owns false false false o os j h = λ known. refl

use-receiver : (o : Operand) (os : List Operand) → OperandsOwned (o ∷ os) → (j : ℕ) (made : List core.Expression → ℕ → Code) → ((es : List core.Expression) (i : ℕ) → (MayOwn o.text → MayOwn (first_of es)) → EachOwned es → Owned (made es i)) → Owned (then_use (spill (o ∷ os) j) made)
use-receiver o os h j made k =
    let r : Spilled = spill (o ∷ os) j in
    let s = spill-owned (o ∷ os) h j in
    followed-owned r.statements (made r.expressions r.next).statements s.0 (k r.expressions r.next (case-owns (o.plain && all_plain os) o.fixed o.plain o os j) s.1)

use-object : (o : Operand) (os : List Operand) → MayOwn o.text → OperandsOwned (o ∷ os) → (j : ℕ) (made : List core.Expression → ℕ → Code) → ((es : List core.Expression) (i : ℕ) → MayOwn (first_of es) → EachOwned es → Owned (made es i)) → Owned (then_use (spill (o ∷ os) j) made)
use-object o os m h j made k = use-receiver o os h j made (λ es i f g. k es i (f m) g)

value-owned : (quiet : Bool) (p : Position) (e : core.Expression) (s : core.Statement) (j : ℕ) → HasOwners e → IsOwned s → Owned (elim quiet as (λ b. Code) [ true ↦ one (core.evaluate_of (Some p) e) j | false ↦ one s j ])
value-owned true p e s j h k = (h, tt)
value-owned false p e s j h k = (k, tt)

finish-owned : (k : Destination) (p : Position) (t : IrType) (quiet : Bool) (e : core.Expression) (j : ℕ) → HasOwners e → Owned (finish k p t quiet e j)
finish-owned discard p t true e j h = tt
finish-owned discard p t false e j h = (h, tt)
finish-owned (to_variable x expected) p t quiet e j h = value-owned (has_no_value t) p e (core.assign_to (Some p) x (coerced expected t e)) j h (coerced-owned expected t e h)
finish-owned (to_result expected) p t quiet e j h = value-owned (has_no_value t) p e (core.return_of (Some p) (coerced expected t e)) j h (coerced-owned expected t e h)

receiver-owned : (known : Bool) (o : Operand) → OperandOwned o → OperandOwned (received known o)
receiver-owned true o h = h
receiver-owned false o h = (h.0, λ x t j. use-owned (o ∷ []) (h, tt) j (λ es. finish (to_variable x t) o.at o.tpe false (core.checked_value (first_of es))) (λ es i f. finish-owned (to_variable x t) o.at o.tpe false (core.checked_value (first_of es)) i (first-owned es f)))

receiver-owns : (known : Bool) (o : Operand) → (known ≡ true → MayOwn o.text) → MayOwn (received known o).text
receiver-owns true o h = h refl
receiver-owns false o h = λ known. refl

keep-owned : (xs : List core.Variable) (j : ℕ) → Owned (keep_all xs j)
keep-owned [] j = tt
keep-owned (x ∷ xs) j = (tt, keep-owned xs (suc j))

give-owned : (xs : List core.Variable) (j next : ℕ) → Owned (give_all_back xs j next)
give-owned [] j next = tt
give-owned (x ∷ xs) j next = (tt, give-owned xs (suc j) next)

finalizer-owned : (goes_to : List ℕ → Destination) (d : Term) (j : ℕ) (body : ℕ → Code) → ((i : ℕ) → Owned (body i)) → Owned (finalizer_code goes_to d j body)
finalizer-owned goes_to d j body h =
    let front : Code = keep_all (kept goes_to d) j in
    let code : Code = body front.next in
    followed-owned (followed front.statements code.statements) (give_all_back (kept goes_to d) j code.next).statements (followed-owned front.statements code.statements (keep-owned (kept goes_to d) j) (h front.next)) (give-owned (kept goes_to d) j code.next)

labeled-owned : (k : Destination) (p : Position) (l : List ℕ) (c : Code) → Owned c → Owned (labeled_code k p l c)
labeled-owned (to_result t) p l c h = h
labeled-owned discard p l c h = (h, tt)
labeled-owned (to_variable x t) p l c h = (h, tt)

leaving-owned : (k : Destination) (p : Position) (l : List ℕ) (c : Code) → Owned c → Owned (leaving_code k p l c)
leaving-owned (to_result t) p l c h = h
leaving-owned discard p l c h = followed-owned c.statements (core.statement (core.leave_label (Some p) l) core.no_statements) h (tt, tt)
leaving-owned (to_variable x t) p l c h = followed-owned c.statements (core.statement (core.leave_label (Some p) l) core.no_statements) h (tt, tt)

either-owned : (plain : Bool) (c d : Code) → Owned c → Owned d → Owned (elim plain as (λ b. Code) [ true ↦ c | false ↦ d ])
either-owned true c d h k = h
either-owned false c d h k = k

module _ (is_mutable sure : List ℕ → Bool) where
  abbrev TreeOwned : Term → Type 0
  TreeOwned t = (ts : Targets) (k : Destination) (j : ℕ) → Owned (into is_mutable sure ts k j t)

  abbrev operand_in : Targets → Term → Operand
  operand_in ts e = operand is_mutable sure e (λ k j. into is_mutable sure ts k j e)

  abbrev owner_in : Targets → Term → Operand
  owner_in ts e = receiver is_mutable sure e (λ k j. into is_mutable sure ts k j e)

  part_owned : (e : Term) → OnObjects e → TreeOwned e → (ts : Targets) → OperandOwned (operand_in ts e)
  part_owned e h owned ts = (expression-owned sure e h, λ x t j. owned ts (to_variable x t) j)

  owner_owned : (e : Term) → OnObjects e → TreeOwned e → (ts : Targets) → OperandOwned (owner_in ts e)
  owner_owned e h owned ts = receiver-owned (is_sure sure e) (operand_in ts e) (part_owned e h owned ts)

  owner_owns : (e : Term) → is_sure_type (type_of_term e) ≡ false → (ts : Targets) → MayOwn (owner_in ts e).text
  owner_owns e h ts = receiver-owns (is_sure sure e) (operand_in ts e) (λ k. may-own sure e k h)

  -- one operand
  act_owned : (e : Term) → OnObjects e → TreeOwned e → (ts : Targets) (j : ℕ) (made : List core.Expression → ℕ → Code) → ((es : List core.Expression) (i : ℕ) → HasOwners (first_of es) → Owned (made es i)) → Owned (then_use (spill (operand_in ts e ∷ []) j) made)
  act_owned e h owned ts j made k = use-owned (operand_in ts e ∷ []) (part_owned e h owned ts, tt) j made (λ es i f. k es i (first-owned es f))

  mutual
    owned : (t : Term) → OnObjects t → TreeOwned t
    owned (var_def p x t c e) h = λ ts k j. either-owned (is_plain e) (one (core.define_of (Some p) (core.named x) (coerced t (type_of_term e) (expression_of sure e))) j) (put_first (core.declare_of (Some p) (core.named x)) (into is_mutable sure ts (to_variable (core.named x) t) j e)) (coerced-owned t (type_of_term e) (expression_of sure e) (expression-owned sure e h), tt) (tt, owned e h ts (to_variable (core.named x) t) j)
    owned (block_of p es) h = λ ts k j. owned_block es h ts k j
    owned (labeled p l t e) h = λ ts k j. labeled-owned k p l (into is_mutable sure (record { label = l; goes_to = k } ∷ ts) k j e) (owned e h (record { label = l; goes_to = k } ∷ ts) k j)
    owned (assign p (var_ref q x t) e) h = λ ts k j. act_owned e h (owned e h) ts j (λ es. one (core.assign_to (Some p) (core.named x) (coerced t (type_of_term e) (first_of es)))) (λ es i f. (coerced-owned t (type_of_term e) (first_of es) f, tt))
    owned (assign p (select q d c f t) e) h = λ ts k j. use-object (owner_in ts d) (operand_in ts e ∷ []) (owner_owns d h.0 ts) (owner_owned d h.1 (owned d h.1) ts, (part_owned e h.2 (owned e h.2) ts, tt)) j (λ es. one (core.assign_field (Some p) (first_of es) c f (coerced t (type_of_term e) (second_of es)))) (λ es i m g. ((m, first-owned es g, coerced-owned t (type_of_term e) (second_of es) (second-owned es g)), tt))
    owned (assign p (select_static q c f t) e) h = λ ts k j. act_owned e h (owned e h) ts j (λ es. one (core.assign_static (Some p) c f (coerced t (type_of_term e) (first_of es)))) (λ es i g. (coerced-owned t (type_of_term e) (first_of es) g, tt))
    owned (assign p (array_select q d x t) e) h = λ ts k j. use-owned (owner_in ts d ∷ operand_in ts x ∷ operand_in ts e ∷ []) (owner_owned d h.1 (owned d h.1) ts, (part_owned x h.2 (owned x h.2) ts, (part_owned e h.3 (owned e h.3) ts, tt))) j (λ es. one (core.assign_element (Some p) t (first_of es) (second_of es) (coerced t (type_of_term e) (third_of es)))) (λ es i f. ((first-owned es f, second-owned es f, coerced-owned t (type_of_term e) (third_of es) (third-owned es f)), tt))
    owned (return_to p e l) h = λ ts k j. leaving-owned (target_of ts l) p l (into is_mutable sure ts (target_of ts l) j e) (owned e h ts (target_of ts l) j)
    owned (if_then p c a b t) h = λ ts k j. act_owned c h.0 (owned c h.0) ts j (λ es j. branches p (first_of es) (into is_mutable sure ts k j a) (λ j. into is_mutable sure ts k j b)) (λ es i f. ((f, owned a h.1 ts k i, owned b h.2 ts k (into is_mutable sure ts k i a).next), tt))
    owned (while_loop p c b) h = λ ts k j. either-owned (is_plain c) (wrapped (core.while_of (Some p) (expression_of sure c)) (into is_mutable sure ts discard j b)) (wrapped (core.while_of (Some p) (core.boolean_value true)) (then_use (spill (operand_in ts c ∷ []) j) (λ es j. put_first (break_unless (first_of es)) (into is_mutable sure ts discard j b)))) ((expression-owned sure c h.0, owned b h.1 ts discard j), tt) ((tt, act_owned c h.0 (owned c h.0) ts j (λ es j. put_first (break_unless (first_of es)) (into is_mutable sure ts discard j b)) (λ es i f. ((f, (tt, tt), tt), owned b h.1 ts discard i))), tt)
    owned (do_while p b c) h = λ ts k j. (followed-owned (into is_mutable sure ts discard j b).statements (then_use (spill (operand_in ts c ∷ []) (into is_mutable sure ts discard j b).next) (λ es. one (break_unless (first_of es)))).statements (owned b h.0 ts discard j) (act_owned c h.1 (owned c h.1) ts (into is_mutable sure ts discard j b).next (λ es. one (break_unless (first_of es))) (λ es i f. ((f, (tt, tt), tt), tt))), tt)
    owned (try_catch p e x b t) h = λ ts k j. ((owned e h.0 ts k j, owned b h.1 ts k (into is_mutable sure ts k j e).next), tt)
    owned (try_finally p e d) h = λ ts k j. ((owned e h.0 ts k j, finalizer-owned (target_of ts) d (into is_mutable sure ts k j e).next (λ i. into is_mutable sure ts discard i d) (λ i. owned d h.1 ts discard i)), tt)
    owned (match_on p e cs b t) h = λ ts k j. act_owned e h.0 (owned e h.0) ts j (λ es j. switch_code p (first_of es) (cases is_mutable sure ts k j cs) (λ j. into is_mutable sure ts k j b)) (λ es i f. ((f, owned_cases cs h.1 ts k i, owned b h.2 ts k (cases is_mutable sure ts k i cs).next), tt))
    owned (apply_static p c n m es t) h = λ ts k j. use-owned (operands is_mutable sure ts es) (owned_operands es h ts) j (λ xs. finish k p t false (core.static_call (member c n m) (expressions_of (coerced_arguments m.params (types_of es) xs)))) (λ xs i f. finish-owned k p t false (core.static_call (member c n m) (expressions_of (coerced_arguments m.params (types_of es) xs))) i (arguments-owned m.params (types_of es) xs f))
    owned (apply p e m es t) h = λ ts k j. use-receiver (owner_in ts e) (operands is_mutable sure ts es) (owner_owned e h.0 (owned e h.0) ts, owned_operands es h.1 ts) j (λ xs. finish k p t false (core.receiver_call (callee_of (type_of_term e) m) (coerced_receiver (type_of_term e) (first_of xs)) (expressions_of (coerced_arguments m.params (types_of es) (rest_of xs))))) (λ xs i g f. finish-owned k p t false (core.receiver_call (callee_of (type_of_term e) m) (coerced_receiver (type_of_term e) (first_of xs)) (expressions_of (coerced_arguments m.params (types_of es) (rest_of xs)))) i (named-may m.result (type_of_term e) m (coerced_receiver (type_of_term e) (first_of xs)) (λ no. boxed-owns _ (first_of xs) (g (owner_owns e no ts))), boxed-owned _ (first_of xs) (first-owned xs f), arguments-owned m.params (types_of es) (rest_of xs) (rest-owned xs f)))
    owned (apply_statically p e c n m es t) h = λ ts k j. use-owned (owner_in ts e ∷ operands is_mutable sure ts es) (owner_owned e h.0 (owned e h.0) ts, owned_operands es h.1 ts) j (λ xs. finish k p t false (core.receiver_call (callees.Member (member c n m)) (coerced_receiver (type_of_term e) (first_of xs)) (expressions_of (coerced_arguments m.params (types_of es) (rest_of xs))))) (λ xs i f. finish-owned k p t false (core.receiver_call (callees.Member (member c n m)) (coerced_receiver (type_of_term e) (first_of xs)) (expressions_of (coerced_arguments m.params (types_of es) (rest_of xs)))) i (tt, boxed-owned _ (first_of xs) (first-owned xs f), arguments-owned m.params (types_of es) (rest_of xs) (rest-owned xs f)))
    owned (this_ref p t) h = λ ts k j. finish-owned k p t true (core.variable_use core.receiver) j tt
    owned (throw p e) h = λ ts k j. act_owned e h (owned e h) ts j (λ es. one (core.throw_of (Some p) (coerced Any (type_of_term e) (first_of es)))) (λ es i f. (coerced-owned Any (type_of_term e) (first_of es) f, tt))
    owned (new_object p c m es) h = λ ts k j. use-owned (operands is_mutable sure ts es) (owned_operands es h ts) j (λ xs. finish k p (class_type c) false (core.made_of (member c Constructor m) (expressions_of (coerced_arguments m.params (types_of es) xs)))) (λ xs i f. finish-owned k p (class_type c) false (core.made_of (member c Constructor m) (expressions_of (coerced_arguments m.params (types_of es) xs))) i (arguments-owned m.params (types_of es) xs f))
    owned (select p e c f t) h = λ ts k j. use-object (owner_in ts e) [] (owner_owns e h.0 ts) (owner_owned e h.1 (owned e h.1) ts, tt) j (λ es. finish k p t false (core.field_of (first_of es) c f)) (λ es i m g. finish-owned k p t false (core.field_of (first_of es) c f) i (m, first-owned es g))
    owned (select_static p c f t) h = λ ts k j. finish-owned k p t false (core.static_of c f) j tt
    owned (load_module p c) h = λ ts k j. finish-owned k p (class_type c) false (core.module_of c) j tt
    owned (store_module p c e) h = λ ts k j. act_owned e h (owned e h) ts j (λ es. one (core.store_module_of (Some p) c (coerced (class_type c) (type_of_term e) (first_of es)))) (λ es i g. (coerced-owned (class_type c) (type_of_term e) (first_of es) g, tt))
    owned (unary_op p o e) h = λ ts k j. act_owned e h (owned e h) ts j (λ es. finish k p (unary_result o) false (core.unary_of o (first_of es))) (λ es i f. finish-owned k p (unary_result o) false (core.unary_of o (first_of es)) i f)
    owned (is_instance_of p e t) h = λ ts k j. act_owned e h (owned e h) ts j (λ es. finish k p Boolean false (core.test_of t (coerced Any (type_of_term e) (first_of es)))) (λ es i f. finish-owned k p Boolean false (core.test_of t (coerced Any (type_of_term e) (first_of es))) i (coerced-owned Any (type_of_term e) (first_of es) f))
    owned (as_instance_of p e t) h = λ ts k j. act_owned e h (owned e h) ts j (λ es. finish k p t false (core.cast_of t (coerced Any (type_of_term e) (first_of es)))) (λ es i f. finish-owned k p t false (core.cast_of t (coerced Any (type_of_term e) (first_of es))) i (coerced-owned Any (type_of_term e) (first_of es) f))
    owned (new_array p r e) h = λ ts k j. act_owned e h (owned e h) ts j (λ es. finish k p (Array r) false (core.new_array_of r (first_of es))) (λ es i f. finish-owned k p (Array r) false (core.new_array_of r (first_of es)) i f)
    owned (array_value p r es) h = λ ts k j. use-owned (operands is_mutable sure ts es) (owned_operands es h ts) j (λ xs. finish k p (Array r) false (core.array_of r (expressions_of (coerced_items (element_type r) (types_of es) xs)))) (λ xs i f. finish-owned k p (Array r) false (core.array_of r (expressions_of (coerced_items (element_type r) (types_of es) xs))) i (items-owned (element_type r) (types_of es) xs f))
    owned (array_length p e) h = λ ts k j. use-object (owner_in ts e) [] (owner_owns e h.0 ts) (owner_owned e h.1 (owned e h.1) ts, tt) j (λ es. finish k p Int false (core.length_of (first_of es))) (λ es i m g. finish-owned k p Int false (core.length_of (first_of es)) i (m, first-owned es g))
    owned (array_select p e x t) h = λ ts k j. use-owned (owner_in ts e ∷ operand_in ts x ∷ []) (owner_owned e h.1 (owned e h.1) ts, (part_owned x h.2 (owned x h.2) ts, tt)) j (λ es. finish k p t false (core.element_of (first_of es) (second_of es))) (λ es i f. finish-owned k p t false (core.element_of (first_of es) (second_of es)) i (first-owned es f, second-owned es f))
    owned (binary_op p o e b) h = λ ts k j. use-owned (operand_in ts e ∷ operand_in ts b ∷ []) (part_owned e h.0 (owned e h.0) ts, (part_owned b h.1 (owned b h.1) ts, tt)) j (λ es. finish k p (binary_result o) false (core.binary_of o (operand_of o (type_of_term e) (first_of es)) (operand_of o (type_of_term b) (second_of es)))) (λ es i f. finish-owned k p (binary_result o) false (core.binary_of o (operand_of o (type_of_term e) (first_of es)) (operand_of o (type_of_term b) (second_of es))) i (operand-owned o (type_of_term e) (first_of es) (first-owned es f), operand-owned o (type_of_term b) (second_of es) (second-owned es f)))
    owned (undefined_literal p) h = λ ts k j. finish-owned k p Undefined true core.undefined_value j tt
    owned (null_literal p) h = λ ts k j. finish-owned k p Null true core.null_value j tt
    owned (boolean_literal p v) h = λ ts k j. finish-owned k p Boolean true (core.boolean_value v) j tt
    owned (char_literal p u) h = λ ts k j. finish-owned k p Char true (core.number_value (pos u)) j tt
    owned (byte_literal p n) h = λ ts k j. finish-owned k p Byte true (core.number_value n) j tt
    owned (short_literal p n) h = λ ts k j. finish-owned k p Short true (core.number_value n) j tt
    owned (int_literal p n) h = λ ts k j. finish-owned k p Int true (core.number_value n) j tt
    owned (long_literal p n) h = λ ts k j. finish-owned k p Long true (core.long_value n) j tt
    owned (string_literal p us) h = λ ts k j. finish-owned k p String true (core.text_value us) j tt
    owned (var_ref p x t) h = λ ts k j. finish-owned k p t true (core.variable_use (core.named x)) j tt
    owned (log_line p e) h = λ ts k j. act_owned e h (owned e h) ts j (λ es. one (core.log_of (Some p) (first_of es))) (λ es i f. (f, tt))
    owned t h = λ ts k j. tt

    owned_block : (es : Terms) → AllOnObjects es → (ts : Targets) (k : Destination) (j : ℕ) → Owned (block is_mutable sure ts k j es)
    owned_block no_terms h ts k j = tt
    owned_block (more_terms t no_terms) h ts k j = owned t h.0 ts k j
    owned_block (more_terms t (more_terms u us)) h ts k j = followed-owned (into is_mutable sure ts discard j t).statements (block is_mutable sure ts k (into is_mutable sure ts discard j t).next (more_terms u us)).statements (owned t h.0 ts discard j) (owned_block (more_terms u us) h.1 ts k (into is_mutable sure ts discard j t).next)

    owned_operands : (es : Terms) → AllOnObjects es → (ts : Targets) → OperandsOwned (operands is_mutable sure ts es)
    owned_operands no_terms h ts = tt
    owned_operands (more_terms t es) h ts = (part_owned t h.0 (owned t h.0) ts, owned_operands es h.1 ts)

    owned_cases : (cs : Cases) → CasesOnObjects cs → (ts : Targets) (k : Destination) (j : ℕ) → CasesOwned (cases is_mutable sure ts k j cs).cases
    owned_cases no_cases h ts k j = tt
    owned_cases (more_cases [] t cs) h ts k j = owned_cases cs h ts k j
    owned_cases (more_cases (n ∷ ns) t cs) h ts k j = (followed-owned (into is_mutable sure ts k j t).statements (core.statement (core.break_nearest None) core.no_statements) (owned t h.0 ts k j) (tt, tt), owned_cases cs h.1 ts k (into is_mutable sure ts k j t).next)

pub desugared-owned : (d : MethodDef) (e : Term) → OnObjects e → FieldsHaveOwners (desugared d e)
desugared-owned d e h = owned (is_mutable_in d e) (sure_locals e) e h [] (result_destination d.result) 1

completed-owned : (n : Namespace) (ss : core.Statements) → AreOwned ss → AreOwned (completed n ss)
completed-owned Constructor ss h = followed-owned ss (core.statement (core.return_of None (core.variable_use core.receiver)) core.no_statements) h (tt, tt)
completed-owned Public ss h = h
completed-owned PublicStatic ss h = h
completed-owned Private ss h = h
completed-owned PrivateStatic ss h = h

pub member-owned : (d : MethodDef) (e : Term) → OnObjects e → FieldsHaveOwners (desugared_member d e)
member-owned d e h = completed-owned d.namespace (body_code (is_mutable_in d e) d.result e) (desugared-owned d e h)
