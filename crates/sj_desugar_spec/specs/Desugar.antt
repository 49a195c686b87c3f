-- Trees as statements and expressions of the core.
use Rattle.std.specs.Prelude.{ℕ, Bool, true, false, List, [], ◌∷◌, ℤ, pos, Option, Some, None, if◌then◌else◌}
use Rattle.std.specs.Cmp.Lexicographic.{pointwise}
use Rattle.std.specs.Prelude.{nat_eq}
use Rattle.sj_core.specs.Member.{Member}
use Rattle.sj_core.specs.MethodName.{MethodName}
use Rattle.sj_core.specs.Namespace.{Namespace}
use Rattle.sj_core.specs.TypeRef.{TypeRef}
use Rattle.sj_core.specs.NamespaceVariants.{Public, Constructor}
use Rattle.sj_core.specs.Term.{Term, Terms, no_terms, more_terms, Cases, no_cases, more_cases, var_def, skip, block_of, labeled, assign, return_to, if_then, while_loop, do_while, try_catch, try_finally, throw, match_on, new_object, load_module, store_module, select, select_static, apply, apply_statically, apply_static, unary_op, binary_op, new_array, array_value, array_length, array_select, is_instance_of, as_instance_of, undefined_literal, null_literal, boolean_literal, char_literal, byte_literal, short_literal, int_literal, long_literal, string_literal, var_ref, this_ref, log_line}
use Rattle.sj_core.specs.Types.{class_type, element_type}
use Rattle.sj_core.specs.TypeOf.{type_of_term, unary_result, binary_result}
use Rattle.sj_core.specs.MethodDef.{MethodDef}
use Rattle.sj_core.specs.ParamDef.{ParamDef}
use Rattle.sj_core.specs.UnaryOpVariants.{BooleanNot}
use Rattle.sj_core.specs.Position.{Position}
use Rattle.sj_core.specs.IrType.{IrType}
use Rattle.sj_core.specs.IrTypeVariants.{Any, Array, Nothing, Undefined, Boolean, Char, Byte, Short, Int, Long, String, Null, NoType}
use Rattle.sj_core.specs.Terms as core
use Rattle.sj_core.specs.Terms.{named, Expression, field_of, static_of, module_of, made_of, receiver_call, test_of, cast_of, new_array_of, array_of, length_of, element_of, checked_value, undefined_value, null_value, boolean_value, number_value, long_value, text_value, variable_use, choice_of, static_call, unary_of, binary_of, Statement, define_of, declare_of, assign_to, evaluate_of, return_of, log_of, assign_field, assign_static, assign_element, store_module_of, throw_of, leave_label, break_nearest, if_of, while_of, loop_of, labeled_of, switch_of, try_of, finally_of, Statements, no_statements, statement, followed, Method}
use Rattle.sj_core.specs.Views.{expressions_of}
use Rattle.sj_core.specs.declared.callees.Callee.{Callee}
use Rattle.sj_core.specs.declared.callees.Callee.TheVariants as callees
use Rattle.sj_desugar_spec.specs.Coercions.{coerced, coerced_arguments, coerced_items, coerced_receiver}
use Rattle.sj_desugar_spec.specs.Finalizers.{finalizer_code}
use Rattle.sj_desugar_spec.specs.Plain.{is_no_type, is_plain, is_fixed, is_among, mutable_in, mutable_params}
use Rattle.sj_desugar_spec.specs.Texts.{operand_of}
use Rattle.sj_world.specs.Calls.{receiver_class}
use Rattle.sj_world.specs.Known.{is_hijacked}
use Rattle.sure_receivers.specs.Sure.{is_sure, sure_locals}
use Rattle.sj_desugar_spec.specs.Spill.{Destination, discard, to_variable, to_result, Code, no_code, one, put_first, joined, then_code, Operand, spill, then_use}

-- the position of a tree
abbrev pub position_of : Term → Position
position_of (var_def p x t b e) = p
position_of (skip p) = p
position_of (block_of p es) = p
position_of (labeled p l t e) = p
position_of (assign p e d) = p
position_of (return_to p e l) = p
position_of (if_then p c e d t) = p
position_of (while_loop p c e) = p
position_of (do_while p e c) = p
position_of (try_catch p e x d t) = p
position_of (try_finally p e d) = p
position_of (throw p e) = p
position_of (match_on p e cs d t) = p
position_of (new_object p c m es) = p
position_of (load_module p c) = p
position_of (store_module p c e) = p
position_of (select p e c f t) = p
position_of (select_static p c f t) = p
position_of (apply p e m es t) = p
position_of (apply_statically p e c n m es t) = p
position_of (apply_static p c n m es t) = p
position_of (unary_op p o e) = p
position_of (binary_op p o e d) = p
position_of (new_array p r e) = p
position_of (array_value p r es) = p
position_of (array_length p e) = p
position_of (array_select p e i t) = p
position_of (is_instance_of p e t) = p
position_of (as_instance_of p e t) = p
position_of (undefined_literal p) = p
position_of (null_literal p) = p
position_of (boolean_literal p b) = p
position_of (char_literal p v) = p
position_of (byte_literal p v) = p
position_of (short_literal p v) = p
position_of (int_literal p v) = p
position_of (long_literal p v) = p
position_of (string_literal p u) = p
position_of (var_ref p x t) = p
position_of (this_ref p t) = p
position_of (log_line p e) = p

abbrev pub types_of : Terms → List IrType
types_of no_terms = []
types_of (more_terms e es) = type_of_term e ∷ types_of es

-- a tree of this type has no value to bring anywhere
abbrev pub has_no_value : IrType → Bool
has_no_value NoType = true
has_no_value Nothing = true
has_no_value _ = false

abbrev pub member : List ℕ → Namespace → MethodName → Member
member c n m = record { class = c; namespace = n; method = m }

-- a public method, called on a receiver of this class: a hijacked class decides by itself what is called; where there is no class, none has a value
abbrev pub called_in : Option (List ℕ) → MethodName → Callee
called_in None m = callees.OfArray m
called_in (Some c) m = if is_hijacked c then callees.Member (member c Public m) else callees.LookedUp c m

-- by what a receiver of this type is called under a name: a name without a result is a reflective one
abbrev pub called_on : IrType → MethodName → Callee
called_on (Array r) m = callees.OfArray m
called_on t m = called_in (receiver_class t) m

abbrev pub named_by : Option TypeRef → IrType → MethodName → Callee
named_by None t m = callees.Reflective m
named_by (Some r) t m = called_on t m

abbrev pub callee_of : IrType → MethodName → Callee
callee_of t m = named_by m.result t m

-- the first of these expressions; a form that has an operand has one
abbrev pub first_of : List Expression → Expression
first_of [] = undefined_value
first_of (e ∷ es) = e

abbrev pub second_of : List Expression → Expression
second_of [] = undefined_value
second_of (e ∷ es) = first_of es

abbrev pub third_of : List Expression → Expression
third_of [] = undefined_value
third_of (e ∷ es) = second_of es

-- those behind the first
abbrev pub rest_of : List Expression → List Expression
rest_of [] = []
rest_of (e ∷ es) = es

-- a receiver, with its null check unless it is sure
abbrev pub received_text : Bool → Expression → Expression
received_text true e = e
received_text false e = checked_value e

-- the locals that are never null
module _ (sure : List ℕ → Bool) where
  abbrev mutual
    -- a plain tree as an expression; any other stands as undefined
    pub expression_of : Term → Expression
    expression_of (if_then p c a b t) = choice_of (expression_of c) (coerced t (type_of_term a) (expression_of a)) (coerced t (type_of_term b) (expression_of b))
    expression_of (apply_static p c n m ts t) = static_call (member c n m) (expressions_of (coerced_arguments m.params (types_of ts) (all_expressions ts)))
    expression_of (apply p e m ts t) = receiver_call (callee_of (type_of_term e) m) (coerced_receiver (type_of_term e) (received_text (is_sure sure e) (expression_of e))) (expressions_of (coerced_arguments m.params (types_of ts) (all_expressions ts)))
    expression_of (apply_statically p e c n m ts t) = receiver_call (callees.Member (member c n m)) (coerced_receiver (type_of_term e) (received_text (is_sure sure e) (expression_of e))) (expressions_of (coerced_arguments m.params (types_of ts) (all_expressions ts)))
    expression_of (this_ref p t) = variable_use core.receiver
    expression_of (new_object p c m ts) = made_of (member c Constructor m) (expressions_of (coerced_arguments m.params (types_of ts) (all_expressions ts)))
    expression_of (select p e c f t) = field_of (received_text (is_sure sure e) (expression_of e)) c f
    expression_of (select_static p c f t) = static_of c f
    expression_of (load_module p c) = module_of c
    expression_of (unary_op p o e) = unary_of o (expression_of e)
    expression_of (is_instance_of p e t) = test_of t (coerced Any (type_of_term e) (expression_of e))
    expression_of (as_instance_of p e t) = cast_of t (coerced Any (type_of_term e) (expression_of e))
    expression_of (new_array p r e) = new_array_of r (expression_of e)
    expression_of (array_value p r ts) = array_of r (expressions_of (coerced_items (element_type r) (types_of ts) (all_expressions ts)))
    expression_of (array_length p e) = length_of (received_text (is_sure sure e) (expression_of e))
    expression_of (array_select p e i t) = element_of (received_text (is_sure sure e) (expression_of e)) (expression_of i)
    expression_of (binary_op p o e d) = binary_of o (operand_of o (type_of_term e) (expression_of e)) (operand_of o (type_of_term d) (expression_of d))
    expression_of (undefined_literal p) = undefined_value
    expression_of (null_literal p) = null_value
    expression_of (boolean_literal p b) = boolean_value b
    expression_of (char_literal p u) = number_value (pos u)
    expression_of (byte_literal p z) = number_value z
    expression_of (short_literal p z) = number_value z
    expression_of (int_literal p z) = number_value z
    expression_of (long_literal p z) = long_value z
    expression_of (string_literal p us) = text_value us
    expression_of (var_ref p x t) = variable_use (named x)
    expression_of _ = undefined_value

    pub all_expressions : Terms → List Expression
    all_expressions no_terms = []
    all_expressions (more_terms e es) = expression_of e ∷ all_expressions es

-- the labels around a tree, the innermost first, and where a value that leaves to one goes
pub record Target : Type 0 where
  pub label : List ℕ
  pub goes_to : Destination

abbrev pub Targets : Type 0
Targets = List Target

abbrev pub target_of : Targets → List ℕ → Destination
target_of [] l = discard
target_of (t ∷ ts) l = if pointwise nat_eq l t.label then t.goes_to else target_of ts l

-- the value of an expression of this type goes to a destination: under `discard` nothing is written where it can't be seen
abbrev pub finish : Destination → Position → IrType → Bool → Expression → ℕ → Code
finish discard p t true e j = no_code j
finish discard p t false e j = one (evaluate_of (Some p) e) j
finish (to_variable x expected) p t quiet e j = elim (has_no_value t) [ true ↦ one (evaluate_of (Some p) e) j | false ↦ one (assign_to (Some p) x (coerced expected t e)) j ]
finish (to_result expected) p t quiet e j = elim (has_no_value t) [ true ↦ one (evaluate_of (Some p) e) j | false ↦ one (return_of (Some p) (coerced expected t e)) j ]

-- the statement around code
abbrev pub wrapped : (Statements → Statement) → Code → Code
wrapped f c = record { statements = statement (f c.statements) no_statements; next = c.next }

-- a labelled block, which a return out of the method needs none of
abbrev pub labeled_code : Destination → Position → List ℕ → Code → Code
labeled_code (to_result t) p l c = c
labeled_code discard p l c = wrapped (labeled_of (Some p) l) c
labeled_code (to_variable x t) p l c = wrapped (labeled_of (Some p) l) c

-- behind the code that brings a value to the destination of a label, the jump to it
abbrev pub leaving_code : Destination → Position → List ℕ → Code → Code
leaving_code (to_result t) p l c = c
leaving_code discard p l c = joined c (one (leave_label (Some p) l) c.next)
leaving_code (to_variable x t) p l c = joined c (one (leave_label (Some p) l) c.next)

abbrev pub branched : Position → Expression → Code → Code → Code
branched p c first second = record { statements = statement (if_of (Some p) c first.statements second.statements) no_statements; next = second.next }

abbrev pub branches : Position → Expression → Code → (ℕ → Code) → Code
branches p c first second = branched p c first (second first.next)

-- `if (!c) { break; }`
abbrev pub break_unless : Expression → Statement
break_unless c = if_of None (unary_of BooleanNot c) (statement (break_nearest None) no_statements) no_statements

-- the cases of a switch, and the number of the next variable for an operand
pub record Branches : Type 0 where
  pub cases : core.Cases
  pub next : ℕ

abbrev pub case_in_front : List ℤ → Code → Branches → Branches
case_in_front ks c bs = record { cases = core.switch_case ks (followed c.statements (statement (break_nearest None) no_statements)) bs.cases; next = bs.next }

abbrev pub one_case : List ℤ → Code → (ℕ → Branches) → Branches
one_case ks c rest = case_in_front ks c (rest c.next)

abbrev pub switched : Position → Expression → Branches → Code → Code
switched p e bs d = record { statements = statement (switch_of (Some p) e bs.cases d.statements) no_statements; next = d.next }

abbrev pub switch_code : Position → Expression → Branches → (ℕ → Code) → Code
switch_code p e bs d = switched p e bs (d bs.next)

abbrev pub tried : Position → List ℕ → Code → Code → Code
tried p x first second = record { statements = statement (try_of (Some p) first.statements (named x) second.statements) no_statements; next = second.next }

-- what the first code throws is caught under the name for the second
abbrev pub tries : Position → List ℕ → Code → (ℕ → Code) → Code
tries p x first second = tried p x first (second first.next)

abbrev pub finished : Position → Code → Code → Code
finished p first second = record { statements = statement (finally_of (Some p) first.statements second.statements) no_statements; next = second.next }

-- however the first code ends, the second runs behind it
abbrev pub finishes : Position → Code → (ℕ → Code) → Code
finishes p first second = finished p first (second first.next)

-- a receiver as an operand, with its null check unless it is sure: with it, it isn't fixed, and where it isn't plain it is spilled by itself
abbrev pub received : Bool → Operand → Operand
received true o = o
received false o = record { at = o.at; tpe = o.tpe; plain = o.plain; fixed = false; text = checked_value o.text; code = λ k j. then_use (spill (o ∷ []) j) (λ es. finish k o.at o.tpe false (checked_value (first_of es))) }

module _ (is_mutable sure : List ℕ → Bool) where
  abbrev pub operand : Term → (Destination → ℕ → Code) → Operand
  operand t code = record { at = position_of t; tpe = type_of_term t; plain = is_plain t; fixed = is_fixed is_mutable t; text = expression_of sure t; code = code }

  abbrev pub receiver : Term → (Destination → ℕ → Code) → Operand
  receiver t code = received (is_sure sure t) (operand t code)

  abbrev mutual
    -- a tree as statements that bring its value to a destination, with variables for operands from this number on. An assignment to what can't be
    -- assigned to writes nothing.
    pub into : Targets → Destination → ℕ → Term → Code
    into ls k j (var_def p x t b e) = elim (is_plain e) [ true ↦ one (define_of (Some p) (named x) (coerced t (type_of_term e) (expression_of sure e))) j | false ↦ put_first (declare_of (Some p) (named x)) (into ls (to_variable (named x) t) j e) ]
    into ls k j (skip p) = no_code j
    into ls k j (block_of p ts) = block ls k j ts
    into ls k j (labeled p l t e) = labeled_code k p l (into (record { label = l; goes_to = k } ∷ ls) k j e)
    into ls k j (assign p (var_ref q x t) e) = then_use (spill (operand e (λ k j. into ls k j e) ∷ []) j) (λ es. one (assign_to (Some p) (named x) (coerced t (type_of_term e) (first_of es))))
    into ls k j (assign p (select q d c f t) e) = then_use (spill (receiver d (λ k j. into ls k j d) ∷ operand e (λ k j. into ls k j e) ∷ []) j) (λ es. one (assign_field (Some p) (first_of es) c f (coerced t (type_of_term e) (second_of es))))
    into ls k j (assign p (select_static q c f t) e) = then_use (spill (operand e (λ k j. into ls k j e) ∷ []) j) (λ es. one (assign_static (Some p) c f (coerced t (type_of_term e) (first_of es))))
    into ls k j (assign p (array_select q d i t) e) = then_use (spill (receiver d (λ k j. into ls k j d) ∷ operand i (λ k j. into ls k j i) ∷ operand e (λ k j. into ls k j e) ∷ []) j) (λ es. one (assign_element (Some p) t (first_of es) (second_of es) (coerced t (type_of_term e) (third_of es))))
    into ls k j (return_to p e l) = leaving_code (target_of ls l) p l (into ls (target_of ls l) j e)
    into ls k j (if_then p c a b t) = then_use (spill (operand c (λ k j. into ls k j c) ∷ []) j) (λ es j. branches p (first_of es) (into ls k j a) (λ j. into ls k j b))
    into ls k j (while_loop p c b) = elim (is_plain c) [ true ↦ wrapped (while_of (Some p) (expression_of sure c)) (into ls discard j b) | false ↦ wrapped (while_of (Some p) (boolean_value true)) (then_use (spill (operand c (λ k j. into ls k j c) ∷ []) j) (λ es j. put_first (break_unless (first_of es)) (into ls discard j b))) ]
    into ls k j (do_while p b c) = wrapped (loop_of (Some p)) (then_code (into ls discard j b) (λ j. then_use (spill (operand c (λ k j. into ls k j c) ∷ []) j) (λ es. one (break_unless (first_of es)))))
    into ls k j (try_catch p e x d t) = tries p x (into ls k j e) (λ j. into ls k j d)
    into ls k j (try_finally p e d) = finishes p (into ls k j e) (λ j. finalizer_code (target_of ls) d j (λ i. into ls discard i d))
    into ls k j (match_on p e cs d t) = then_use (spill (operand e (λ k j. into ls k j e) ∷ []) j) (λ es j. switch_code p (first_of es) (cases ls k j cs) (λ j. into ls k j d))
    into ls k j (apply_static p c n m ts t) = then_use (spill (operands ls ts) j) (λ es. finish k p t false (static_call (member c n m) (expressions_of (coerced_arguments m.params (types_of ts) es))))
    into ls k j (apply p e m ts t) = then_use (spill (receiver e (λ k j. into ls k j e) ∷ operands ls ts) j) (λ es. finish k p t false (receiver_call (callee_of (type_of_term e) m) (coerced_receiver (type_of_term e) (first_of es)) (expressions_of (coerced_arguments m.params (types_of ts) (rest_of es)))))
    into ls k j (apply_statically p e c n m ts t) = then_use (spill (receiver e (λ k j. into ls k j e) ∷ operands ls ts) j) (λ es. finish k p t false (receiver_call (callees.Member (member c n m)) (coerced_receiver (type_of_term e) (first_of es)) (expressions_of (coerced_arguments m.params (types_of ts) (rest_of es)))))
    into ls k j (this_ref p t) = finish k p t true (variable_use core.receiver) j
    into ls k j (throw p e) = then_use (spill (operand e (λ k j. into ls k j e) ∷ []) j) (λ es. one (throw_of (Some p) (coerced Any (type_of_term e) (first_of es))))
    into ls k j (new_object p c m ts) = then_use (spill (operands ls ts) j) (λ es. finish k p (class_type c) false (made_of (member c Constructor m) (expressions_of (coerced_arguments m.params (types_of ts) es))))
    into ls k j (select p e c f t) = then_use (spill (receiver e (λ k j. into ls k j e) ∷ []) j) (λ es. finish k p t false (field_of (first_of es) c f))
    into ls k j (select_static p c f t) = finish k p t false (static_of c f) j
    into ls k j (load_module p c) = finish k p (class_type c) false (module_of c) j
    into ls k j (store_module p c e) = then_use (spill (operand e (λ k j. into ls k j e) ∷ []) j) (λ es. one (store_module_of (Some p) c (coerced (class_type c) (type_of_term e) (first_of es))))
    into ls k j (unary_op p o e) = then_use (spill (operand e (λ k j. into ls k j e) ∷ []) j) (λ es. finish k p (unary_result o) false (unary_of o (first_of es)))
    into ls k j (is_instance_of p e t) = then_use (spill (operand e (λ k j. into ls k j e) ∷ []) j) (λ es. finish k p Boolean false (test_of t (coerced Any (type_of_term e) (first_of es))))
    into ls k j (as_instance_of p e t) = then_use (spill (operand e (λ k j. into ls k j e) ∷ []) j) (λ es. finish k p t false (cast_of t (coerced Any (type_of_term e) (first_of es))))
    into ls k j (new_array p r e) = then_use (spill (operand e (λ k j. into ls k j e) ∷ []) j) (λ es. finish k p (Array r) false (new_array_of r (first_of es)))
    into ls k j (array_value p r ts) = then_use (spill (operands ls ts) j) (λ es. finish k p (Array r) false (array_of r (expressions_of (coerced_items (element_type r) (types_of ts) es))))
    into ls k j (array_length p e) = then_use (spill (receiver e (λ k j. into ls k j e) ∷ []) j) (λ es. finish k p Int false (length_of (first_of es)))
    into ls k j (array_select p e i t) = then_use (spill (receiver e (λ k j. into ls k j e) ∷ operand i (λ k j. into ls k j i) ∷ []) j) (λ es. finish k p t false (element_of (first_of es) (second_of es)))
    into ls k j (binary_op p o e d) = then_use (spill (operand e (λ k j. into ls k j e) ∷ operand d (λ k j. into ls k j d) ∷ []) j) (λ es. finish k p (binary_result o) false (binary_of o (operand_of o (type_of_term e) (first_of es)) (operand_of o (type_of_term d) (second_of es))))
    into ls k j (undefined_literal p) = finish k p Undefined true undefined_value j
    into ls k j (null_literal p) = finish k p Null true null_value j
    into ls k j (boolean_literal p b) = finish k p Boolean true (boolean_value b) j
    into ls k j (char_literal p u) = finish k p Char true (number_value (pos u)) j
    into ls k j (byte_literal p z) = finish k p Byte true (number_value z) j
    into ls k j (short_literal p z) = finish k p Short true (number_value z) j
    into ls k j (int_literal p z) = finish k p Int true (number_value z) j
    into ls k j (long_literal p z) = finish k p Long true (long_value z) j
    into ls k j (string_literal p us) = finish k p String true (text_value us) j
    into ls k j (var_ref p x t) = finish k p t true (variable_use (named x)) j
    into ls k j (log_line p e) = then_use (spill (operand e (λ k j. into ls k j e) ∷ []) j) (λ es. one (log_of (Some p) (first_of es)))
    into ls k j _ = no_code j

    -- each tree of a block but the last gives its value up
    pub block : Targets → Destination → ℕ → Terms → Code
    block ls k j no_terms = no_code j
    block ls k j (more_terms t no_terms) = into ls k j t
    block ls k j (more_terms t (more_terms u us)) = then_code (into ls discard j t) (λ j. block ls k j (more_terms u us))

    pub operands : Targets → Terms → List Operand
    operands ls no_terms = []
    operands ls (more_terms t ts) = operand t (λ k j. into ls k j t) ∷ operands ls ts

    -- a case without keys is left out
    pub cases : Targets → Destination → ℕ → Cases → Branches
    cases ls k j no_cases = record { cases = core.no_cases; next = j }
    cases ls k j (more_cases [] t cs) = cases ls k j cs
    cases ls k j (more_cases (z ∷ zs) t cs) = one_case (z ∷ zs) (into ls k j t) (λ j. cases ls k j cs)

-- a method without result gives its body's value up
abbrev pub result_destination : IrType → Destination
result_destination t = elim (is_no_type t) [ true ↦ discard | false ↦ to_result t ]

-- the statements of a body whose mutable locals are these
abbrev pub body_code : (List ℕ → Bool) → IrType → Term → Statements
body_code is_mutable t e = (into is_mutable (sure_locals e) [] (result_destination t) 1 e).statements

abbrev pub is_mutable_in : MethodDef → Term → List ℕ → Bool
is_mutable_in d e x = is_among (mutable_params d.params (mutable_in e [])) x

abbrev pub names_of : List ParamDef → List (List ℕ)
names_of [] = []
names_of (d ∷ ds) = d.name ∷ names_of ds

-- a method with this body in the core
abbrev pub desugared : MethodDef → Term → Method
desugared d e = record { namespace = d.namespace; params = names_of d.params; body = body_code (is_mutable_in d e) d.result e }

-- a constructor gives the object that it ran on
abbrev pub completed : Namespace → Statements → Statements
completed Constructor ss = followed ss (statement (return_of None (variable_use core.receiver)) no_statements)
completed n ss = ss

-- any method with this body: that of a constructor is followed by the return of its object
abbrev pub desugared_member : MethodDef → Term → Method
desugared_member d e = record { namespace = d.namespace; params = names_of d.params; body = completed d.namespace (body_code (is_mutable_in d e) d.result e) }
