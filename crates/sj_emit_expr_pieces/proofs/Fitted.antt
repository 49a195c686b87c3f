-- What desugaring gives for a body of which there is a listing has its names, numbers and units in their ranges.
use Rattle.std.proofs.Common.{ℕ, pos, suc, Bool, true, false, ◌&&◌, List, [], ◌∷◌, ◌++◌, Option, Some, None, refl, if◌then◌else◌, arith}
use Rattle.std.specs.Prelude.{All, codes, nat_eq}
use Rattle.std.specs.Cmp.Lexicographic.{pointwise}
use Rattle.std.specs.List.{flat_map, list_any}
use Rattle.std.proofs.lemmas.List.Elements.{All-nil, All-cons, All-head, All-tail}
use Rattle.sj_core.specs.Terms as core
use Rattle.sj_core.specs.Terms.{followed}
use Rattle.sj_core.specs.Views.{expressions_of}
use Rattle.sj_core.specs.declared.callees.Callee.TheVariants as callees
use Rattle.sj_desugar_spec.specs.Coercions.{coerced, coerced_arguments, coerced_items, coerced_receiver}
use Rattle.sj_desugar_spec.specs.Desugar.{operand, into, block, operands, cases, finish, has_no_value, target_of, Targets, expression_of, all_expressions, labeled_code, leaving_code, wrapped, branches, break_unless, switch_code, first_of, second_of, third_of, rest_of, member, named_by, callee_of, types_of, received_text, received, receiver, desugared_member, completed, body_code, is_mutable_in, names_of, result_destination}
use Rattle.sj_desugar_spec.specs.Finalizers.{kept, keep_all, give_all_back, finalizer_code, each_once, variables_in, is_same_variable, left_labels, holds_finally}
use Rattle.sj_desugar_spec.specs.Plain.{is_plain, is_no_type}
use Rattle.sj_desugar_spec.specs.Spill.{Destination, discard, to_variable, to_result, Code, one, put_first, Operand, all_plain, texts, Spilled, spill, spill_case, then_use}
use Rattle.sj_desugar_spec.specs.Texts.{text_of, operand_of}
use Rattle.sj_names.specs.WellKnown.{is_hijacked}
use Rattle.sj_names.specs.declared.method_names.MethodName.{MethodName}
use Rattle.sj_names.specs.declared.method_names.Namespace.{Namespace}
use Rattle.sj_names.specs.declared.method_names.Namespace.TheVariants.{Public, PublicStatic, Private, PrivateStatic, Constructor}
use Rattle.sj_names.specs.declared.references.TypeRef.{TypeRef}
use Rattle.sj_text_spec.specs.Rules.{IsListedTree, AreListedTrees, AreListedCases, IsListedParam}
use Rattle.sj_trees.specs.Term.{Term, Terms, no_terms, more_terms, Cases, no_cases, more_cases, var_def, block_of, labeled, assign, return_to, if_then, while_loop, do_while, try_catch, try_finally, match_on, throw, new_object, load_module, store_module, select, select_static, apply, apply_statically, apply_static, unary_op, binary_op, new_array, array_value, array_length, array_select, is_instance_of, as_instance_of, undefined_literal, null_literal, boolean_literal, char_literal, byte_literal, short_literal, int_literal, long_literal, string_literal, var_ref, this_ref, log_line}
use Rattle.sj_trees.specs.TypeOf.{type_of_term, type_of_last, loop_type, unary_result, binary_result}
use Rattle.sj_trees.specs.Types.{class_type, element_type, reference_type}
use Rattle.sj_trees.specs.declared.classes.MethodDef.{MethodDef}
use Rattle.sj_trees.specs.declared.classes.ParamDef.{ParamDef}
use Rattle.sj_trees.specs.declared.operators.BinaryOp.{BinaryOp}
use Rattle.sj_trees.specs.declared.operators.BinaryOp.TheVariants.{StringConcatenate, StrictEqual, StrictNotEqual}
use Rattle.sj_trees.specs.declared.operators.UnaryOp.{UnaryOp}
use Rattle.sj_trees.specs.declared.operators.UnaryOp.TheVariants.{BooleanNot}
use Rattle.sj_trees.specs.declared.positions.Position.{Position}
use Rattle.sj_trees.specs.declared.types.IrType.{IrType}
use Rattle.sj_trees.specs.declared.types.IrType.TheVariants.{Any, Nothing, NoType, Class, Array, Undefined, Null, Boolean, Char, Byte, Short, Int, Long, String}
use Rattle.sure_receivers.specs.Sure.{is_sure, sure_locals}
use Rattle.sj_emit_expr_pieces.specs.Ranges.{AreBytes, FitsType, FitsMethodName, FitsCallee, FitsVariable, FitsExpression, FitExpressions, FitsStatement, FitStatements, FitCases, FitsMethod}
use Rattle.sj_emit_expr_pieces.proofs.Listed.{bytes-by, text-fits, method-fits, array-fits, type-fits, class-fits, byte-fits, short-fits}

abbrev Fit : Code → Type 0
Fit c = FitStatements c.statements

followed-fit : (a b : core.Statements) → FitStatements a → FitStatements b → FitStatements (followed a b)
followed-fit core.no_statements b h k = k
followed-fit (core.statement s ss) b h k = (h.0, followed-fit ss b h.1 k)

-- expressions
abbrev EachFits : List core.Expression → Type 0
EachFits [] = Unit {0}
EachFits (e ∷ es) = FitsExpression e × EachFits es

boxed-fits : (boxed : Bool) (e : core.Expression) → FitsExpression e → FitsExpression (if boxed then core.boxed_char e else e)
boxed-fits true e h = h
boxed-fits false e h = h

coerced-fits : (t u : IrType) (e : core.Expression) → FitsExpression e → FitsExpression (coerced t u e)
coerced-fits t u e h = boxed-fits _ e h

joined-fits : (t : IrType) (e : core.Expression) → FitsExpression e → FitsExpression (text_of t e)
joined-fits String e h = h
joined-fits Char e h = h
joined-fits _ e h = h

operand-fits : (o : BinaryOp) (t : IrType) (e : core.Expression) → FitsExpression e → FitsExpression (operand_of o t e)
operand-fits StringConcatenate t e h = joined-fits t e h
operand-fits StrictEqual t e h = coerced-fits Any t e h
operand-fits StrictNotEqual t e h = coerced-fits Any t e h
operand-fits _ t e h = h

each-fits : (es : List core.Expression) → EachFits es → FitExpressions (expressions_of es)
each-fits [] h = tt
each-fits (e ∷ es) h = (h.0, each-fits es h.1)

arguments-fit : (rs : List TypeRef) (ts : List IrType) (es : List core.Expression) → EachFits es → FitExpressions (expressions_of (coerced_arguments rs ts es))
arguments-fit [] ts es h = each-fits es h
arguments-fit (r ∷ rs) [] es h = each-fits es h
arguments-fit (r ∷ rs) (t ∷ ts) [] h = tt
arguments-fit (r ∷ rs) (t ∷ ts) (e ∷ es) h = (coerced-fits (reference_type r) t e h.0, arguments-fit rs ts es h.1)

items-fit : (u : IrType) (ts : List IrType) (es : List core.Expression) → EachFits es → FitExpressions (expressions_of (coerced_items u ts es))
items-fit u [] es h = each-fits es h
items-fit u (t ∷ ts) [] h = tt
items-fit u (t ∷ ts) (e ∷ es) h = (coerced-fits u t e h.0, items-fit u ts es h.1)

first-fits : (es : List core.Expression) → EachFits es → FitsExpression (first_of es)
first-fits [] h = tt
first-fits (e ∷ es) h = h.0

second-fits : (es : List core.Expression) → EachFits es → FitsExpression (second_of es)
second-fits [] h = tt
second-fits (e ∷ es) h = first-fits es h.1

third-fits : (es : List core.Expression) → EachFits es → FitsExpression (third_of es)
third-fits [] h = tt
third-fits (e ∷ es) h = second-fits es h.1

rest-fits : (es : List core.Expression) → EachFits es → EachFits (rest_of es)
rest-fits [] h = tt
rest-fits (e ∷ es) h = h.1

-- the types of trees
unary-fits : (o : UnaryOp) → FitsType (unary_result o)
unary-fits BooleanNot = tt
unary-fits _ = tt

binary-fits : (o : BinaryOp) → FitsType (binary_result o)
binary-fits StrictEqual = tt
binary-fits _ = tt

loop-fits : (c : Term) → FitsType (loop_type c)
loop-fits (boolean_literal p true) = tt
loop-fits (boolean_literal p false) = tt
loop-fits _ = tt

mutual
  type-of-fits : (t : Term) → IsListedTree t → FitsType (type_of_term t)
  type-of-fits (block_of p es) h = last-fits NoType tt es h
  type-of-fits (labeled p l t e) h = type-fits t h.1
  type-of-fits (if_then p c e d t) h = type-fits t h.3
  type-of-fits (while_loop p c e) h = loop-fits c
  type-of-fits (do_while p e c) h = loop-fits c
  type-of-fits (try_catch p e x d t) h = type-fits t h.3
  type-of-fits (try_finally p e d) h = type-of-fits e h.0
  type-of-fits (match_on p e cs d t) h = type-fits t h.3
  type-of-fits (new_object p c m es) h = class-fits c (text-fits c h.0.1)
  type-of-fits (load_module p c) h = class-fits c (text-fits c h.1)
  type-of-fits (select p e c f t) h = type-fits t h.3
  type-of-fits (select_static p c f t) h = type-fits t h.2
  type-of-fits (apply p e m es t) h = type-fits t h.3
  type-of-fits (apply_statically p e c n m es t) h = type-fits t h.4
  type-of-fits (apply_static p c n m es t) h = type-fits t h.3
  type-of-fits (unary_op p o e) h = unary-fits o
  type-of-fits (binary_op p o e d) h = binary-fits o
  type-of-fits (new_array p r e) h = array-fits r h.0
  type-of-fits (array_value p r es) h = array-fits r h.0
  type-of-fits (array_select p e i t) h = type-fits t h.2
  type-of-fits (as_instance_of p e t) h = type-fits t h.1
  type-of-fits (var_ref p x t) h = type-fits t h.1
  type-of-fits (this_ref p t) h = type-fits t h
  type-of-fits _ h = tt

  last-fits : (t : IrType) → FitsType t → (es : Terms) → AreListedTrees es → FitsType (type_of_last t es)
  last-fits t f no_terms h = f
  last-fits t f (more_terms e es) h = last-fits (type_of_term e) (type-of-fits e h.0) es h.1

-- by what a receiver is called
hijacked-fits : (hijacked : Bool) (c : List ℕ) (m : MethodName) → AreBytes c → FitsMethodName m → FitsCallee (if hijacked then callees.Member (member c Public m) else callees.LookedUp c m)
hijacked-fits true c m h k = (h, k)
hijacked-fits false c m h k = (h, k)

named-fits : (r : Option TypeRef) (t : IrType) (m : MethodName) → FitsType t → FitsMethodName m → FitsCallee (named_by r t m)
named-fits None t m h k = k
named-fits (Some r) Any m h k = (bytes-by (codes "java.lang.Object") refl, k)
named-fits (Some r) (Array a) m h k = k
named-fits (Some r) (Class c) m h k = hijacked-fits (is_hijacked c) c m h k
named-fits (Some r) Nothing m h k = k
named-fits (Some r) Null m h k = k
named-fits (Some r) NoType m h k = k
named-fits (Some r) Undefined m h k = (bytes-by (codes "java.lang.Void") refl, k)
named-fits (Some r) Boolean m h k = (bytes-by (codes "java.lang.Boolean") refl, k)
named-fits (Some r) Char m h k = (bytes-by (codes "java.lang.Character") refl, k)
named-fits (Some r) Byte m h k = (bytes-by (codes "java.lang.Byte") refl, k)
named-fits (Some r) Short m h k = (bytes-by (codes "java.lang.Short") refl, k)
named-fits (Some r) Int m h k = (bytes-by (codes "java.lang.Integer") refl, k)
named-fits (Some r) Long m h k = (bytes-by (codes "java.lang.Long") refl, k)
named-fits (Some r) String m h k = (bytes-by (codes "java.lang.String") refl, k)

received-fits : (known : Bool) (e : core.Expression) → FitsExpression e → FitsExpression (received_text known e)
received-fits true e h = h
received-fits false e h = h

module _ (sure : List ℕ → Bool) where
  mutual
    expression-fits : (t : Term) → IsListedTree t → FitsExpression (expression_of sure t)
    expression-fits (if_then p c a b t) h = (expression-fits c h.0, coerced-fits t (type_of_term a) (expression_of sure a) (expression-fits a h.1), coerced-fits t (type_of_term b) (expression_of sure b) (expression-fits b h.2))
    expression-fits (apply_static p c n m ts t) h = ((text-fits c h.0.1, method-fits m h.1), arguments-fit m.params (types_of ts) (all_expressions sure ts) (expressions-fit ts h.2))
    expression-fits (apply p e m ts t) h = (named-fits m.result (type_of_term e) m (type-of-fits e h.0) (method-fits m h.1), boxed-fits _ (received_text (is_sure sure e) (expression_of sure e)) (received-fits (is_sure sure e) (expression_of sure e) (expression-fits e h.0)), arguments-fit m.params (types_of ts) (all_expressions sure ts) (expressions-fit ts h.2))
    expression-fits (apply_statically p e c n m ts t) h = ((text-fits c h.1.1, method-fits m h.2), boxed-fits _ (received_text (is_sure sure e) (expression_of sure e)) (received-fits (is_sure sure e) (expression_of sure e) (expression-fits e h.0)), arguments-fit m.params (types_of ts) (all_expressions sure ts) (expressions-fit ts h.3))
    expression-fits (new_object p c m ts) h = ((text-fits c h.0.1, method-fits m h.1), arguments-fit m.params (types_of ts) (all_expressions sure ts) (expressions-fit ts h.2))
    expression-fits (select p e c f t) h = (received-fits (is_sure sure e) (expression_of sure e) (expression-fits e h.0), text-fits c h.1.1, text-fits f h.2.1)
    expression-fits (select_static p c f t) h = (text-fits c h.0.1, text-fits f h.1.1)
    expression-fits (load_module p c) h = text-fits c h.1
    expression-fits (new_array p r e) h = (array-fits r h.0, expression-fits e h.1)
    expression-fits (array_value p r ts) h = (array-fits r h.0, items-fit (element_type r) (types_of ts) (all_expressions sure ts) (expressions-fit ts h.1))
    expression-fits (array_length p e) h = received-fits (is_sure sure e) (expression_of sure e) (expression-fits e h)
    expression-fits (array_select p e i t) h = (received-fits (is_sure sure e) (expression_of sure e) (expression-fits e h.0), expression-fits i h.1)
    expression-fits (unary_op p o e) h = expression-fits e h
    expression-fits (is_instance_of p e t) h = (type-fits t h.1, coerced-fits Any (type_of_term e) (expression_of sure e) (expression-fits e h.0))
    expression-fits (as_instance_of p e t) h = (type-fits t h.1, coerced-fits Any (type_of_term e) (expression_of sure e) (expression-fits e h.0))
    expression-fits (binary_op p o e d) h = (operand-fits o (type_of_term e) (expression_of sure e) (expression-fits e h.0), operand-fits o (type_of_term d) (expression_of sure d) (expression-fits d h.1))
    expression-fits (char_literal p u) h = omega (arith, h)
    expression-fits (byte_literal p n) h = byte-fits n h
    expression-fits (short_literal p n) h = short-fits n h
    expression-fits (int_literal p n) h = h
    expression-fits (long_literal p n) h = h
    expression-fits (string_literal p us) h = h
    expression-fits (var_ref p x t) h = text-fits x h.0.1
    expression-fits _ h = tt

    expressions-fit : (ts : Terms) → AreListedTrees ts → EachFits (all_expressions sure ts)
    expressions-fit no_terms h = tt
    expressions-fit (more_terms t ts) h = (expression-fits t h.0, expressions-fit ts h.1)

-- where values go
abbrev FitsDestination : Destination → Type 0
FitsDestination (to_variable x t) = FitsVariable x
FitsDestination discard = Unit {0}
FitsDestination (to_result t) = Unit {0}

abbrev FitTargets : Targets → Type 0
FitTargets [] = Unit {0}
FitTargets (t ∷ ts) = FitsDestination t.goes_to × FitTargets ts

target-fits : (ts : Targets) → FitTargets ts → (l : List ℕ) → FitsDestination (target_of ts l)
target-fits [] h l = tt
target-fits (t ∷ ts) h l = go (pointwise nat_eq l t.label) (target-fits ts h.1 l)
  where
    go : (b : Bool) → FitsDestination (target_of ts l) → FitsDestination (if b then t.goes_to else target_of ts l)
    go true k = h.0
    go false k = k

-- operands
abbrev OperandFits : Operand → Type 0
OperandFits o = FitsExpression o.text × ((x : core.Variable) → FitsVariable x → (t : IrType) (j : ℕ) → Fit (o.code (to_variable x t) j))

abbrev OperandsFit : List Operand → Type 0
OperandsFit [] = Unit {0}
OperandsFit (o ∷ os) = OperandFits o × OperandsFit os

texts-fit : (os : List Operand) → OperandsFit os → EachFits (texts os)
texts-fit [] h = tt
texts-fit (o ∷ os) h = (h.0.0, texts-fit os h.1)

abbrev SpilledFits : Spilled → Type 0
SpilledFits r = FitStatements r.statements × EachFits r.expressions

case-fits : (all fixed plain : Bool) (o : Operand) (os : List Operand) (j : ℕ) → OperandsFit (o ∷ os) → ((j : ℕ) → SpilledFits (spill os j)) → SpilledFits (spill_case all fixed plain o os (spill os) j)
case-fits true fixed plain o os j h rest = (tt, (h.0.0, texts-fit os h.1))
case-fits false true plain o os j h rest = let r = rest j in (r.0, (h.0.0, r.1))
case-fits false false true o os j h rest = let r = rest (suc j) in (((tt, h.0.0), r.0), (tt, r.1))
case-fits false false false o os j h rest =
    let c : Code = o.code (to_variable (core.numbered j) o.tpe) (suc j) in
    let r = rest c.next in
    ((tt, followed-fit c.statements (spill os c.next).statements (h.0.1 (core.numbered j) tt o.tpe (suc j)) r.0), (tt, r.1))

spill-fits : (os : List Operand) → OperandsFit os → (j : ℕ) → SpilledFits (spill os j)
spill-fits [] h j = (tt, tt)
spill-fits (o ∷ os) h j = case-fits (o.plain && all_plain os) o.fixed o.plain o os j h (spill-fits os h.1)

use-fits : (os : List Operand) → OperandsFit os → (j : ℕ) (made : List core.Expression → ℕ → Code) → ((es : List core.Expression) (i : ℕ) → EachFits es → Fit (made es i)) → Fit (then_use (spill os j) made)
use-fits os h j made k =
    let r : Spilled = spill os j in
    let s = spill-fits os h j in
    followed-fit r.statements (made r.expressions r.next).statements s.0 (k r.expressions r.next s.1)

value-fits : (quiet : Bool) (p : Position) (e : core.Expression) (s : core.Statement) (j : ℕ) → FitsExpression e → FitsStatement s → Fit (elim quiet as (λ b. Code) [ true ↦ one (core.evaluate_of (Some p) e) j | false ↦ one s j ])
value-fits true p e s j h k = (h, tt)
value-fits false p e s j h k = (k, tt)

finish-fits : (k : Destination) (p : Position) (t : IrType) (quiet : Bool) (e : core.Expression) (j : ℕ) → FitsDestination k → FitsExpression e → Fit (finish k p t quiet e j)
finish-fits discard p t true e j v h = tt
finish-fits discard p t false e j v h = (h, tt)
finish-fits (to_variable x expected) p t quiet e j v h = value-fits (has_no_value t) p e (core.assign_to (Some p) x (coerced expected t e)) j h (v, coerced-fits expected t e h)
finish-fits (to_result expected) p t quiet e j v h = value-fits (has_no_value t) p e (core.return_of (Some p) (coerced expected t e)) j h (coerced-fits expected t e h)

receiver-fits : (known : Bool) (o : Operand) → OperandFits o → OperandFits (received known o)
receiver-fits true o h = h
receiver-fits false o h = (h.0, λ x v t j. use-fits (o ∷ []) (h, tt) j (λ es. finish (to_variable x t) o.at o.tpe false (core.checked_value (first_of es))) (λ es i z. finish-fits (to_variable x t) o.at o.tpe false (core.checked_value (first_of es)) i v (first-fits es z)))

-- finalizers
abbrev VariablesFit : List core.Variable → Type 0
VariablesFit [] = Unit {0}
VariablesFit (x ∷ xs) = FitsVariable x × VariablesFit xs

both-fit : (xs ys : List core.Variable) → VariablesFit xs → VariablesFit ys → VariablesFit (xs ++ ys)
both-fit [] ys h k = k
both-fit (x ∷ xs) ys h k = (h.0, both-fit xs ys h.1 k)

one-fits : (k : Destination) → FitsDestination k → VariablesFit (variables_in k)
one-fits (to_variable x t) h = (h, tt)
one-fits discard h = tt
one-fits (to_result t) h = tt

once-fit : (seen xs : List core.Variable) → VariablesFit xs → VariablesFit (each_once seen xs)
once-fit seen [] h = tt
once-fit seen (x ∷ xs) h = go (list_any (is_same_variable x) seen) (once-fit seen xs h.1) (once-fit (x ∷ seen) xs h.1)
  where
    go : (b : Bool) → VariablesFit (each_once seen xs) → VariablesFit (each_once (x ∷ seen) xs) → VariablesFit (if b then each_once seen xs else (x ∷ each_once (x ∷ seen) xs))
    go true k l = k
    go false k l = (h.0, l)

module _ (goes_to : List ℕ → Destination) (fits : (l : List ℕ) → FitsDestination (goes_to l)) where
  labels-fit : (ls : List (List ℕ)) → VariablesFit (flat_map (λ l. variables_in (goes_to l)) ls)
  labels-fit [] = tt
  labels-fit (l ∷ ls) = both-fit (variables_in (goes_to l)) (flat_map (λ l. variables_in (goes_to l)) ls) (one-fits (goes_to l) (fits l)) (labels-fit ls)

  kept-fit : (d : Term) → VariablesFit (kept goes_to d)
  kept-fit d = go (holds_finally d)
    where
      go : (b : Bool) → VariablesFit (if b then each_once [] (flat_map (λ l. variables_in (goes_to l)) (left_labels [] d)) else [])
      go true = once-fit [] (flat_map (λ l. variables_in (goes_to l)) (left_labels [] d)) (labels-fit (left_labels [] d))
      go false = tt

keep-fits : (xs : List core.Variable) → VariablesFit xs → (j : ℕ) → Fit (keep_all xs j)
keep-fits [] h j = tt
keep-fits (x ∷ xs) h j = ((tt, h.0), keep-fits xs h.1 (suc j))

give-fits : (xs : List core.Variable) → VariablesFit xs → (j next : ℕ) → Fit (give_all_back xs j next)
give-fits [] h j next = tt
give-fits (x ∷ xs) h j next = ((h.0, tt), give-fits xs h.1 (suc j) next)

finalizer-fits : (goes_to : List ℕ → Destination) → ((l : List ℕ) → FitsDestination (goes_to l)) → (d : Term) (j : ℕ) (body : ℕ → Code) → ((i : ℕ) → Fit (body i)) → Fit (finalizer_code goes_to d j body)
finalizer-fits goes_to fits d j body h =
    let variables = kept-fit goes_to fits d in
    let front : Code = keep_all (kept goes_to d) j in
    let code : Code = body front.next in
    followed-fit (followed front.statements code.statements) (give_all_back (kept goes_to d) j code.next).statements (followed-fit front.statements code.statements (keep-fits (kept goes_to d) variables j) (h front.next)) (give-fits (kept goes_to d) variables j code.next)

labeled-fits : (k : Destination) (p : Position) (l : List ℕ) (c : Code) → AreBytes l → Fit c → Fit (labeled_code k p l c)
labeled-fits (to_result t) p l c b h = h
labeled-fits discard p l c b h = ((b, h), tt)
labeled-fits (to_variable x t) p l c b h = ((b, h), tt)

leaving-fits : (k : Destination) (p : Position) (l : List ℕ) (c : Code) → AreBytes l → Fit c → Fit (leaving_code k p l c)
leaving-fits (to_result t) p l c b h = h
leaving-fits discard p l c b h = followed-fit c.statements (core.statement (core.leave_label (Some p) l) core.no_statements) h (b, tt)
leaving-fits (to_variable x t) p l c b h = followed-fit c.statements (core.statement (core.leave_label (Some p) l) core.no_statements) h (b, tt)

either-fits : (plain : Bool) (c d : Code) → Fit c → Fit d → Fit (elim plain as (λ b. Code) [ true ↦ c | false ↦ d ])
either-fits true c d h k = h
either-fits false c d h k = k

module _ (is_mutable sure : List ℕ → Bool) where
  abbrev TreeFits : Term → Type 0
  TreeFits t = (ts : Targets) → FitTargets ts → (k : Destination) → FitsDestination k → (j : ℕ) → Fit (into is_mutable sure ts k j t)

  abbrev operand_in : Targets → Term → Operand
  operand_in ts e = operand is_mutable sure e (λ k j. into is_mutable sure ts k j e)

  abbrev owner_in : Targets → Term → Operand
  owner_in ts e = receiver is_mutable sure e (λ k j. into is_mutable sure ts k j e)

  part-fits : (e : Term) → IsListedTree e → TreeFits e → (ts : Targets) → FitTargets ts → OperandFits (operand_in ts e)
  part-fits e h fits ts g = (expression-fits sure e h, λ x v t j. fits ts g (to_variable x t) v j)

  owner-fits : (e : Term) → IsListedTree e → TreeFits e → (ts : Targets) → FitTargets ts → OperandFits (owner_in ts e)
  owner-fits e h fits ts g = receiver-fits (is_sure sure e) (operand_in ts e) (part-fits e h fits ts g)

  -- one operand
  act-fits : (e : Term) → IsListedTree e → TreeFits e → (ts : Targets) → FitTargets ts → (j : ℕ) (made : List core.Expression → ℕ → Code) → ((es : List core.Expression) (i : ℕ) → FitsExpression (first_of es) → Fit (made es i)) → Fit (then_use (spill (operand_in ts e ∷ []) j) made)
  act-fits e h fits ts g j made k = use-fits (operand_in ts e ∷ []) (part-fits e h fits ts g, tt) j made (λ es i z. k es i (first-fits es z))

  mutual
    fit : (t : Term) → IsListedTree t → TreeFits t
    fit (var_def p x t c e) h = λ ts g k v j. either-fits (is_plain e) (one (core.define_of (Some p) (core.named x) (coerced t (type_of_term e) (expression_of sure e))) j) (put_first (core.declare_of (Some p) (core.named x)) (into is_mutable sure ts (to_variable (core.named x) t) j e)) ((text-fits x h.0.1, coerced-fits t (type_of_term e) (expression_of sure e) (expression-fits sure e h.2)), tt) (text-fits x h.0.1, fit e h.2 ts g (to_variable (core.named x) t) (text-fits x h.0.1) j)
    fit (block_of p es) h = λ ts g k v j. fit-block es h ts g k v j
    fit (labeled p l t e) h = λ ts g k v j. labeled-fits k p l (into is_mutable sure (record { label = l; goes_to = k } ∷ ts) k j e) (text-fits l h.0.1) (fit e h.2 (record { label = l; goes_to = k } ∷ ts) (v, g) k v j)
    fit (assign p (var_ref q x t) e) h = λ ts g k v j. act-fits e h.1 (fit e h.1) ts g j (λ es. one (core.assign_to (Some p) (core.named x) (coerced t (type_of_term e) (first_of es)))) (λ es i z. ((text-fits x h.0.0.1, coerced-fits t (type_of_term e) (first_of es) z), tt))
    fit (assign p (select q d c f t) e) h = λ ts g k v j. use-fits (owner_in ts d ∷ operand_in ts e ∷ []) (owner-fits d h.0.0 (fit d h.0.0) ts g, (part-fits e h.1 (fit e h.1) ts g, tt)) j (λ es. one (core.assign_field (Some p) (first_of es) c f (coerced t (type_of_term e) (second_of es)))) (λ es i z. ((first-fits es z, text-fits c h.0.1.1, text-fits f h.0.2.1, coerced-fits t (type_of_term e) (second_of es) (second-fits es z)), tt))
    fit (assign p (select_static q c f t) e) h = λ ts g k v j. act-fits e h.1 (fit e h.1) ts g j (λ es. one (core.assign_static (Some p) c f (coerced t (type_of_term e) (first_of es)))) (λ es i z. ((text-fits c h.0.0.1, text-fits f h.0.1.1, coerced-fits t (type_of_term e) (first_of es) z), tt))
    fit (assign p (array_select q d x t) e) h = λ ts g k v j. use-fits (owner_in ts d ∷ operand_in ts x ∷ operand_in ts e ∷ []) (owner-fits d h.0.0 (fit d h.0.0) ts g, (part-fits x h.0.1 (fit x h.0.1) ts g, (part-fits e h.1 (fit e h.1) ts g, tt))) j (λ es. one (core.assign_element (Some p) t (first_of es) (second_of es) (coerced t (type_of_term e) (third_of es)))) (λ es i z. ((first-fits es z, second-fits es z, coerced-fits t (type_of_term e) (third_of es) (third-fits es z)), tt))
    fit (return_to p e l) h = λ ts g k v j. leaving-fits (target_of ts l) p l (into is_mutable sure ts (target_of ts l) j e) (text-fits l h.1.1) (fit e h.0 ts g (target_of ts l) (target-fits ts g l) j)
    fit (if_then p c a b t) h = λ ts g k v j. act-fits c h.0 (fit c h.0) ts g j (λ es j. branches p (first_of es) (into is_mutable sure ts k j a) (λ j. into is_mutable sure ts k j b)) (λ es i z. ((z, fit a h.1 ts g k v i, fit b h.2 ts g k v (into is_mutable sure ts k i a).next), tt))
    fit (while_loop p c b) h = λ ts g k v j. either-fits (is_plain c) (wrapped (core.while_of (Some p) (expression_of sure c)) (into is_mutable sure ts discard j b)) (wrapped (core.while_of (Some p) (core.boolean_value true)) (then_use (spill (operand_in ts c ∷ []) j) (λ es j. put_first (break_unless (first_of es)) (into is_mutable sure ts discard j b)))) ((expression-fits sure c h.0, fit b h.1 ts g discard tt j), tt) ((tt, act-fits c h.0 (fit c h.0) ts g j (λ es j. put_first (break_unless (first_of es)) (into is_mutable sure ts discard j b)) (λ es i z. ((z, (tt, tt), tt), fit b h.1 ts g discard tt i))), tt)
    fit (do_while p b c) h = λ ts g k v j. (followed-fit (into is_mutable sure ts discard j b).statements (then_use (spill (operand_in ts c ∷ []) (into is_mutable sure ts discard j b).next) (λ es. one (break_unless (first_of es)))).statements (fit b h.0 ts g discard tt j) (act-fits c h.1 (fit c h.1) ts g (into is_mutable sure ts discard j b).next (λ es. one (break_unless (first_of es))) (λ es i z. ((z, (tt, tt), tt), tt))), tt)
    fit (try_catch p e x b t) h = λ ts g k v j. ((fit e h.0 ts g k v j, text-fits x h.1.1, fit b h.2 ts g k v (into is_mutable sure ts k j e).next), tt)
    fit (try_finally p e d) h = λ ts g k v j. ((fit e h.0 ts g k v j, finalizer-fits (target_of ts) (target-fits ts g) d (into is_mutable sure ts k j e).next (λ i. into is_mutable sure ts discard i d) (λ i. fit d h.1 ts g discard tt i)), tt)
    fit (match_on p e cs b t) h = λ ts g k v j. act-fits e h.0 (fit e h.0) ts g j (λ es j. switch_code p (first_of es) (cases is_mutable sure ts k j cs) (λ j. into is_mutable sure ts k j b)) (λ es i z. ((z, fit-cases cs h.1 ts g k v i, fit b h.2 ts g k v (cases is_mutable sure ts k i cs).next), tt))
    fit (apply_static p c n m es t) h = λ ts g k v j. use-fits (operands is_mutable sure ts es) (fit-operands es h.2 ts g) j (λ xs. finish k p t false (core.static_call (member c n m) (expressions_of (coerced_arguments m.params (types_of es) xs)))) (λ xs i z. finish-fits k p t false (core.static_call (member c n m) (expressions_of (coerced_arguments m.params (types_of es) xs))) i v ((text-fits c h.0.1, method-fits m h.1), arguments-fit m.params (types_of es) xs z))
    fit (apply p e m es t) h = λ ts g k v j. use-fits (owner_in ts e ∷ operands is_mutable sure ts es) (owner-fits e h.0 (fit e h.0) ts g, fit-operands es h.2 ts g) j (λ xs. finish k p t false (core.receiver_call (callee_of (type_of_term e) m) (coerced_receiver (type_of_term e) (first_of xs)) (expressions_of (coerced_arguments m.params (types_of es) (rest_of xs))))) (λ xs i z. finish-fits k p t false (core.receiver_call (callee_of (type_of_term e) m) (coerced_receiver (type_of_term e) (first_of xs)) (expressions_of (coerced_arguments m.params (types_of es) (rest_of xs)))) i v (named-fits m.result (type_of_term e) m (type-of-fits e h.0) (method-fits m h.1), boxed-fits _ (first_of xs) (first-fits xs z), arguments-fit m.params (types_of es) (rest_of xs) (rest-fits xs z)))
    fit (apply_statically p e c n m es t) h = λ ts g k v j. use-fits (owner_in ts e ∷ operands is_mutable sure ts es) (owner-fits e h.0 (fit e h.0) ts g, fit-operands es h.3 ts g) j (λ xs. finish k p t false (core.receiver_call (callees.Member (member c n m)) (coerced_receiver (type_of_term e) (first_of xs)) (expressions_of (coerced_arguments m.params (types_of es) (rest_of xs))))) (λ xs i z. finish-fits k p t false (core.receiver_call (callees.Member (member c n m)) (coerced_receiver (type_of_term e) (first_of xs)) (expressions_of (coerced_arguments m.params (types_of es) (rest_of xs)))) i v ((text-fits c h.1.1, method-fits m h.2), boxed-fits _ (first_of xs) (first-fits xs z), arguments-fit m.params (types_of es) (rest_of xs) (rest-fits xs z)))
    fit (this_ref p t) h = λ ts g k v j. finish-fits k p t true (core.variable_use core.receiver) j v tt
    fit (throw p e) h = λ ts g k v j. act-fits e h (fit e h) ts g j (λ es. one (core.throw_of (Some p) (coerced Any (type_of_term e) (first_of es)))) (λ es i z. (coerced-fits Any (type_of_term e) (first_of es) z, tt))
    fit (new_object p c m es) h = λ ts g k v j. use-fits (operands is_mutable sure ts es) (fit-operands es h.2 ts g) j (λ xs. finish k p (class_type c) false (core.made_of (member c Constructor m) (expressions_of (coerced_arguments m.params (types_of es) xs)))) (λ xs i z. finish-fits k p (class_type c) false (core.made_of (member c Constructor m) (expressions_of (coerced_arguments m.params (types_of es) xs))) i v ((text-fits c h.0.1, method-fits m h.1), arguments-fit m.params (types_of es) xs z))
    fit (select p e c f t) h = λ ts g k v j. use-fits (owner_in ts e ∷ []) (owner-fits e h.0 (fit e h.0) ts g, tt) j (λ es. finish k p t false (core.field_of (first_of es) c f)) (λ es i z. finish-fits k p t false (core.field_of (first_of es) c f) i v (first-fits es z, text-fits c h.1.1, text-fits f h.2.1))
    fit (select_static p c f t) h = λ ts g k v j. finish-fits k p t false (core.static_of c f) j v (text-fits c h.0.1, text-fits f h.1.1)
    fit (load_module p c) h = λ ts g k v j. finish-fits k p (class_type c) false (core.module_of c) j v (text-fits c h.1)
    fit (store_module p c e) h = λ ts g k v j. act-fits e h.1 (fit e h.1) ts g j (λ es. one (core.store_module_of (Some p) c (coerced (class_type c) (type_of_term e) (first_of es)))) (λ es i z. ((text-fits c h.0.1, coerced-fits (class_type c) (type_of_term e) (first_of es) z), tt))
    fit (unary_op p o e) h = λ ts g k v j. act-fits e h (fit e h) ts g j (λ es. finish k p (unary_result o) false (core.unary_of o (first_of es))) (λ es i z. finish-fits k p (unary_result o) false (core.unary_of o (first_of es)) i v z)
    fit (is_instance_of p e t) h = λ ts g k v j. act-fits e h.0 (fit e h.0) ts g j (λ es. finish k p Boolean false (core.test_of t (coerced Any (type_of_term e) (first_of es)))) (λ es i z. finish-fits k p Boolean false (core.test_of t (coerced Any (type_of_term e) (first_of es))) i v (type-fits t h.1, coerced-fits Any (type_of_term e) (first_of es) z))
    fit (as_instance_of p e t) h = λ ts g k v j. act-fits e h.0 (fit e h.0) ts g j (λ es. finish k p t false (core.cast_of t (coerced Any (type_of_term e) (first_of es)))) (λ es i z. finish-fits k p t false (core.cast_of t (coerced Any (type_of_term e) (first_of es))) i v (type-fits t h.1, coerced-fits Any (type_of_term e) (first_of es) z))
    fit (new_array p r e) h = λ ts g k v j. act-fits e h.1 (fit e h.1) ts g j (λ es. finish k p (Array r) false (core.new_array_of r (first_of es))) (λ es i z. finish-fits k p (Array r) false (core.new_array_of r (first_of es)) i v (array-fits r h.0, z))
    fit (array_value p r es) h = λ ts g k v j. use-fits (operands is_mutable sure ts es) (fit-operands es h.1 ts g) j (λ xs. finish k p (Array r) false (core.array_of r (expressions_of (coerced_items (element_type r) (types_of es) xs)))) (λ xs i z. finish-fits k p (Array r) false (core.array_of r (expressions_of (coerced_items (element_type r) (types_of es) xs))) i v (array-fits r h.0, items-fit (element_type r) (types_of es) xs z))
    fit (array_length p e) h = λ ts g k v j. use-fits (owner_in ts e ∷ []) (owner-fits e h (fit e h) ts g, tt) j (λ es. finish k p Int false (core.length_of (first_of es))) (λ es i z. finish-fits k p Int false (core.length_of (first_of es)) i v (first-fits es z))
    fit (array_select p e x t) h = λ ts g k v j. use-fits (owner_in ts e ∷ operand_in ts x ∷ []) (owner-fits e h.0 (fit e h.0) ts g, (part-fits x h.1 (fit x h.1) ts g, tt)) j (λ es. finish k p t false (core.element_of (first_of es) (second_of es))) (λ es i z. finish-fits k p t false (core.element_of (first_of es) (second_of es)) i v (first-fits es z, second-fits es z))
    fit (binary_op p o e b) h = λ ts g k v j. use-fits (operand_in ts e ∷ operand_in ts b ∷ []) (part-fits e h.0 (fit e h.0) ts g, (part-fits b h.1 (fit b h.1) ts g, tt)) j (λ es. finish k p (binary_result o) false (core.binary_of o (operand_of o (type_of_term e) (first_of es)) (operand_of o (type_of_term b) (second_of es)))) (λ es i z. finish-fits k p (binary_result o) false (core.binary_of o (operand_of o (type_of_term e) (first_of es)) (operand_of o (type_of_term b) (second_of es))) i v (operand-fits o (type_of_term e) (first_of es) (first-fits es z), operand-fits o (type_of_term b) (second_of es) (second-fits es z)))
    fit (undefined_literal p) h = λ ts g k v j. finish-fits k p Undefined true core.undefined_value j v tt
    fit (null_literal p) h = λ ts g k v j. finish-fits k p Null true core.null_value j v tt
    fit (boolean_literal p b) h = λ ts g k v j. finish-fits k p Boolean true (core.boolean_value b) j v tt
    fit (char_literal p u) h = λ ts g k v j. finish-fits k p Char true (core.number_value (pos u)) j v (omega (arith, h))
    fit (byte_literal p n) h = λ ts g k v j. finish-fits k p Byte true (core.number_value n) j v (byte-fits n h)
    fit (short_literal p n) h = λ ts g k v j. finish-fits k p Short true (core.number_value n) j v (short-fits n h)
    fit (int_literal p n) h = λ ts g k v j. finish-fits k p Int true (core.number_value n) j v h
    fit (long_literal p n) h = λ ts g k v j. finish-fits k p Long true (core.long_value n) j v h
    fit (string_literal p us) h = λ ts g k v j. finish-fits k p String true (core.text_value us) j v h
    fit (var_ref p x t) h = λ ts g k v j. finish-fits k p t true (core.variable_use (core.named x)) j v (text-fits x h.0.1)
    fit (log_line p e) h = λ ts g k v j. act-fits e h (fit e h) ts g j (λ es. one (core.log_of (Some p) (first_of es))) (λ es i z. (z, tt))
    fit t h = λ ts g k v j. tt

    fit-block : (es : Terms) → AreListedTrees es → (ts : Targets) → FitTargets ts → (k : Destination) → FitsDestination k → (j : ℕ) → Fit (block is_mutable sure ts k j es)
    fit-block no_terms h ts g k v j = tt
    fit-block (more_terms t no_terms) h ts g k v j = fit t h.0 ts g k v j
    fit-block (more_terms t (more_terms u us)) h ts g k v j = followed-fit (into is_mutable sure ts discard j t).statements (block is_mutable sure ts k (into is_mutable sure ts discard j t).next (more_terms u us)).statements (fit t h.0 ts g discard tt j) (fit-block (more_terms u us) h.1 ts g k v (into is_mutable sure ts discard j t).next)

    fit-operands : (es : Terms) → AreListedTrees es → (ts : Targets) → FitTargets ts → OperandsFit (operands is_mutable sure ts es)
    fit-operands no_terms h ts g = tt
    fit-operands (more_terms t es) h ts g = (part-fits t h.0 (fit t h.0) ts g, fit-operands es h.1 ts g)

    fit-cases : (cs : Cases) → AreListedCases cs → (ts : Targets) → FitTargets ts → (k : Destination) → FitsDestination k → (j : ℕ) → FitCases (cases is_mutable sure ts k j cs).cases
    fit-cases no_cases h ts g k v j = tt
    fit-cases (more_cases [] t cs) h ts g k v j = fit-cases cs h.2 ts g k v j
    fit-cases (more_cases (n ∷ ns) t cs) h ts g k v j = (h.0, followed-fit (into is_mutable sure ts k j t).statements (core.statement (core.break_nearest None) core.no_statements) (fit t h.1 ts g k v j) (tt, tt), fit-cases cs h.2 ts g k v (into is_mutable sure ts k j t).next)

pub names-fit : (ps : List ParamDef) → All IsListedParam ps → All AreBytes (names_of ps)
names-fit [] h = All-nil AreBytes
names-fit (p ∷ ps) h = All-cons AreBytes p.name (names_of ps) (text-fits p.name (All-head IsListedParam p ps h).0.1) (names-fit ps (All-tail IsListedParam p ps h))

result-fits : (none : Bool) (t : IrType) → FitsDestination (elim none as (λ b. Destination) [ true ↦ discard | false ↦ to_result t ])
result-fits true t = tt
result-fits false t = tt

completed-fits : (n : Namespace) (ss : core.Statements) → FitStatements ss → FitStatements (completed n ss)
completed-fits Constructor ss h = followed-fit ss (core.statement (core.return_of None (core.variable_use core.receiver)) core.no_statements) h (tt, tt)
completed-fits Public ss h = h
completed-fits PublicStatic ss h = h
completed-fits Private ss h = h
completed-fits PrivateStatic ss h = h

pub member-fits : (d : MethodDef) (e : Term) → All IsListedParam d.params → IsListedTree e → FitsMethod (desugared_member d e)
member-fits d e params h =
    (names-fit d.params params, completed-fits d.namespace (body_code (is_mutable_in d e) d.result e) (fit (is_mutable_in d e) (sure_locals e) e h [] tt (result_destination d.result) (result-fits (is_no_type d.result) d.result) 1))
