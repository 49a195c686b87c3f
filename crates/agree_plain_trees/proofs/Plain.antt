-- A plain tree and its expression are alike.
use Rattle.std.proofs.Common.{◌≡◌, zero, suc, Bool, true, false, List, [], ◌∷◌, None, Option, refl, sym, ap, ◌∙◌, subst, inl, inr, if◌then◌else◌, ⊎_elim}
use Rattle.std.specs.Prelude.{ℤ, ◌^◌, codes, length, pos, negsuc, FitsSigned, ℕ, ◌&&◌, ◌||◌, ◌⊎◌, not}
use Rattle.std.proofs.lemmas.Bool.{and_parts}
use Rattle.agree_body_rules.proofs.Direct.{Direct, ByName, Applied, directly, by_lookup, on_array, by_name, applied}
use Rattle.ir_mean.proofs.HijackedCalls.{hijacked_call, takes_any}
use Rattle.agree_body_rules.proofs.AgreeBodyFormsDirect.{array_valued}
use Rattle.agree_body_rules.proofs.Fitting.{fits-lowest, fits-unary, fits-dividend, operates, not_no_type, unary-operand-value, left-operand-value, right-operand-value}
use Rattle.agree_body_rules.proofs.Locals.{there}
use Rattle.agree_body_rules.proofs.RulesGive.{when_not, ArgumentsFit, Takes, its_types, texts, of_division, of_identity, each_made, arguments_there, operation}
use Rattle.agree_body_rules.specs.Subtyping.{IsSubtyping}
use Rattle.agree_body_rules.specs.Typing.{Scene, Typed, TypedAll, may_check}
use Rattle.agree_body_rules.specs.Boxes.{is_boxed, any_is_boxed, any_item_boxed, operands_are_boxed, boxes_as_text, any_boxes_as_text}
use Rattle.agree_body_rules.specs.Built.{Usable, may_make, divides, has_base, is_based, can_cast, are_countable}
use Rattle.agree_body_rules.specs.Plain.{is_plain, are_plain, is_no_type}
use Rattle.sj_names.specs.declared.method_names.Namespace.{Namespace}
use Rattle.sj_names.specs.declared.method_names.MethodName.{MethodName}
use Rattle.ir_mean.specs.Known.{object}
use Rattle.ir_mean.specs.Subtypes.{IsSub, to_any}
use Rattle.std.specs.Int.{w32, w64}
use Rattle.int_arithmetic.proofs.Longs.{in_range-fits}
use Rattle.outcomes.specs.Outcome.{Out, done, wrong, then_do}
use Rattle.outcomes.specs.Agreement.{Sim}
use Rattle.outcomes.proofs.Simulation.{sim_done, sim_wrong, sim_weaken}
use Rattle.ir_mean.specs.Meaning as ir_meaning
use Rattle.ir_mean.specs.States as ir
use Rattle.ir_mean.specs.World as ir_world
use Rattle.js_mean.specs.Files.{owner}
use Rattle.js_mean.specs.Meaning as js_meaning
use Rattle.js_mean.specs.States as js
use Rattle.js_tree.specs.Terms as tree
use Rattle.sj_core.specs.declared.callees.Callee.TheVariants as callees
use Rattle.sj_core.specs.Terms as core
use Rattle.sj_core.specs.Views.{expressions_of}
use Rattle.agree_body_rules.specs.Coercions.{is_char, coerced, coerced_arguments, coerced_items, coerced_receiver}
use Rattle.sj_names.specs.declared.references.TypeRef.{TypeRef}
use Rattle.agree_body_rules.specs.Desugar.{member, types_of, received_text, expression_of, all_expressions}
use Rattle.agree_body_rules.specs.Texts.{operand_of}
use Rattle.agree_body_rules.specs.Templates.{check_name, member_name, expression_template, expression_templates, binary_template, unary_template, is_nonzero_literal}
use Rattle.sj_names.proofs.Same.{impossible}
use Rattle.sj_names.specs.declared.method_names.Member.{Member}
use Rattle.sj_trees.specs.Term.{Term, Terms, no_terms, more_terms, var_def, skip, block_of, labeled, assign, return_to, if_then, while_loop, do_while, throw, try_catch, try_finally, match_on, new_object, new_array, array_value, array_length, array_select, select, select_static, apply, apply_statically, this_ref, apply_static, unary_op, binary_op, is_instance_of, as_instance_of, log_line, undefined_literal, null_literal, boolean_literal, char_literal, byte_literal, short_literal, int_literal, long_literal, string_literal, var_ref, load_module, store_module}
use Rattle.sj_trees.specs.TypeOf.{type_of_term, unary_result, binary_result}
use Rattle.sj_trees.specs.declared.operators.BinaryOp.{BinaryOp}
use Rattle.sj_trees.specs.declared.operators.BinaryOp.TheVariants.{StrictEqual, StrictNotEqual, StringConcatenate, IntDivide, IntRemainder, LongDivide, LongRemainder, LongShiftLeft, LongShiftRightLogical, LongShiftRightArithmetic}
use Rattle.sj_trees.specs.declared.operators.UnaryOp.{UnaryOp}
use Rattle.sj_trees.specs.declared.operators.UnaryOp.TheVariants.{CharToInt, ByteToInt, ShortToInt}
use Rattle.sj_trees.specs.declared.positions.Position.{Position}
use Rattle.sj_trees.specs.declared.types.IrType.{IrType}
use Rattle.sj_trees.specs.Types.{class_type, element_type, reference_type}
use Rattle.sj_trees.specs.declared.types.IrType.TheVariants.{Any, Undefined, Null, Boolean, Char, Byte, Short, Int, Long, String}
use Rattle.agree_body_rules.specs.Operators.{is_simple, Operates, of_its_types, joins, divided, compared, a_quotient, a_remainder, a_long_quotient, a_long_remainder, DividesBy, by_int, by_long}
use Rattle.agree_body_rules.specs.Rules.{AllFit, left_operand, right_operand, unary_operand, Yields, nothing_wanted, fitting}
use Rattle.agree_plain_trees.specs.Conditions.{InScope, IsNoConstruction, Plain}
use Rattle.agree_body_rules.specs.Locals.{Scope}
use Rattle.agree_plain_trees.specs.Settings.{Setting, shown, SameState, Inside, Valued, valued, Lawful, Holding, holding, Sees, Receiving, no_receiver, on_receiver, usable, a_function, function_of_member, function_call}
use Rattle.agree_plain_trees.specs.Standing.{suits}
use Rattle.agree_body_rules.specs.Standing.{Fits, FitAll, types_referred, call_type, MayStand}
use Rattle.agree_plain_trees.proofs.Divided.{divided_operands}
use Rattle.agree_plain_trees.proofs.Divisions.{division_alike, dividend_alone}
use Rattle.agree_plain_trees.proofs.Operators.{template_value, is_direct}
use Rattle.agree_plain_trees.proofs.Reflected.{reflected_call_alike}
use Rattle.agree_body_rules.proofs.Arrays.{ItemsOf, items-of, items-value, array-value, element-value, below-is}
use Rattle.sj_names.specs.declared.references.ArrayRef.{ArrayRef}
use Rattle.agree_plain_trees.proofs.Arrays.{StandForEach, stand-for-each, items_coerced, new_array_alike, array_alike, length_alike, item_alike, any_test_alike, any_cast_alike}
use Rattle.agree_plain_trees.proofs.Instances.{OnInstances, by_class, by_array}
use Rattle.agree_plain_trees.proofs.Looked.{as_instances, looked_call_alike}
use Rattle.agree_plain_trees.proofs.Modules.{load_alike}
use Rattle.agree_plain_trees.proofs.Objects.{select_alike, static_alike, new_alike, received_call_alike, checked_alike}
use Rattle.sure_receivers.specs.Sure.{is_sure}
use Rattle.sj_names.specs.declared.method_names.Namespace.TheVariants.{Public, Private, Constructor}
use Rattle.agree_plain_trees.proofs.Received.{value_none, not_none, class_value, value_below, value_apart, may_be_checked, Received, received, with_value, looked_stand}
use Rattle.agree_plain_trees.proofs.Nulls.{never_null_alike}
use Rattle.agree_plain_trees.proofs.Orders.{ActsAlike, OperandAlike, OperandsAlike, no_operands, more_operands, all_shown, valued-weaken, in_order_alike}
use Rattle.agree_plain_trees.proofs.Shifts.{left_shift_alike, right_shift_alike, zero_shift_alike, joined_alike}
use Rattle.agree_plain_trees.proofs.Boxes.{operand_coerced, operands_coerced, stood, stood-fits, operand_stood, all_stood, all-stood-fit, StandsFor, StandForAll, stands-for, stand-for-all, receiver-coerced}
use Rattle.agree_plain_trees.proofs.Templates.{fits-exact, unit_is_int, by_value, by_one_value, one_template_value, binary_shown, binary_acts, unary_shown, unary_acts}
use Rattle.agree_plain_trees.proofs.Tests.{compared_alike, test_told, cast_told, identity_told}
use Rattle.agree_plain_trees.proofs.Told.{may_be_long, tells, tells-narrow, no_ratio}
use Rattle.agree_plain_trees.proofs.Worlds.{World, Grows, grows-refl, Shaped, SameValue, Stands, same_undefined, same_null, same_boolean, same_char, same_number, same_long, same_text, value-lift, values-fit, no_values, one_more}

pub holding-lift : (u w : World) (t : IrType) (o : Option ir.Value) (cell : js.Cell) → Grows u w → Holding u t o cell → Holding w t o cell
holding-lift u w t _ _ g (holding v x a) = holding v x (value-lift u w t v x g a)

pub receiving-lift : (u w : World) (c : List ℕ) (o : Option ir.Value) (cell : js.Cell) → Grows u w → Receiving u c o cell → Receiving w c o cell
receiving-lift u w c _ _ g (no_receiver cell) = no_receiver cell
receiving-lift u w c _ _ g (on_receiver v x a) = on_receiver v x (record { stands = value-lift u w (class_type c) v x g a.stands; there = a.there })

pub sees-lift : (z : Setting) (scope : Scope) (u w : World) (env : ir.Env) (sc : js.Scope) → Grows u w → Sees z.place z.code scope u env sc → Sees z.place z.code scope w env sc
sees-lift z scope u w env sc g h = record { inside = h.inside; this = receiving-lift u w z.code.owner env.this_value (sc.bindings (z.place.name core.receiver)) g h.this; sure = h.sure; locals = λ x t i. holding-lift u w t (env.locals x) (sc.bindings (z.place.name (core.named x))) g (h.locals x t i) }

-- an operator whose value is that of its operand
abbrev is_widening : UnaryOp → Bool
is_widening CharToInt = true
is_widening ByteToInt = true
is_widening ShortToInt = true
is_widening _ = false

-- a division takes its operands as they are
taken_as_they_are : (has : Usable) (o : BinaryOp) → divides has o ≡ true → (s t : IrType) (e g : core.Expression) → core.binary_of o (operand_of o s e) (operand_of o t g) ≡ core.binary_of o e g
taken_as_they_are has IntDivide h s t e g = refl
taken_as_they_are has IntRemainder h s t e g = refl
taken_as_they_are has LongDivide h s t e g = refl
taken_as_they_are has LongRemainder h s t e g = refl
taken_as_they_are has _ h s t e g = impossible h

module _ (z : Setting) (lawful : Lawful z) (scope : Scope) where
  gives_alike : (w : World) (env : ir.Env) (t : IrType) (s : ir.State) (u : js.State) (v : ir.Value) (x : js.Value) → SameValue w t v x → SameState z.place w s u → Sim z.direction (Valued z.place w env t) (done (ir.ends (ir.gives v) env s)) (done (js.gives x u))
  gives_alike w env t s u v x a same = sim_done z.direction (Valued z.place w env t) (ir.ends (ir.gives v) env s) (js.gives x u) (valued w v x s u (grows-refl w) a same)

  literal_alike : (w : World) (env : ir.Env) (t : IrType) (s : ir.State) (u : js.State) (v : ir.Value) (x : js.Value) → Stands w (is_char t) v x → suits t v ≡ true → Shaped w v t → SameState z.place w s u → Sim z.direction (Valued z.place w env t) (done (ir.ends (ir.gives v) env s)) (done (js.gives x u))
  literal_alike w env t s u v x a k r same = gives_alike w env t s u v x (record { stands = a; suits = k; shaped = r }) same

  number_alike : (w : World) (env : ir.Env) (t : IrType) (s : ir.State) (sc : js.Scope) (u : js.State) (v : ir.Value) (n : ℤ) → FitsSigned w32 n → Stands w (is_char t) v (js.number n) → suits t v ≡ true → Shaped w v t → SameState z.place w s u → Sim z.direction (Valued z.place w env t) (done (ir.ends (ir.gives v) env s)) (js_meaning.literal n sc u)
  number_alike w env t s sc u v n f a k r same = subst (λ (b : Bool). Sim z.direction (Valued z.place w env t) (done (ir.ends (ir.gives v) env s)) (if b then done (js.gives (js.number n) u) else wrong)) (sym (fits-exact n f)) (literal_alike w env t s u v (js.number n) a k r same)

  long_alike : (w : World) (env : ir.Env) (s : ir.State) (sc : js.Scope) (u : js.State) (n : ℤ) → FitsSigned w64 n → SameState z.place w s u → Sim z.direction (Valued z.place w env Long) (done (ir.ends (ir.gives (ir.long n)) env s)) (js_meaning.literal_of_big n sc u)
  long_alike w env s sc u n f same = subst (λ (b : Bool). Sim z.direction (Valued z.place w env Long) (done (ir.ends (ir.gives (ir.long n)) env s)) (if b then done (js.gives (js.big_int n) u) else wrong)) (sym (in_range-fits n f)) (literal_alike w env Long s u (ir.long n) (js.big_int n) (same_long n f) refl tt same)

  local_alike : (w : World) (env : ir.Env) (t : IrType) (s : ir.State) (u : js.State) (o : Option ir.Value) (cell outer : js.Cell) → Holding w t o cell → SameState z.place w s u → Sim z.direction (Valued z.place w env t) (ir_meaning.local_value o env s) (js_meaning.cell_value (js_meaning.or_outer cell outer) u)
  local_alike w env t s u _ _ outer (holding v x a) same = gives_alike w env t s u v x a same

  -- This, of the type of its class
  this_alike : (w : World) (env : ir.Env) (t : IrType) (s : ir.State) (u : js.State) (o : Option ir.Value) (cell outer : js.Cell) → t ≡ class_type z.code.owner → Receiving w z.code.owner o cell → SameState z.place w s u → Sim z.direction (Valued z.place w env t) (ir_meaning.local_value o env s) (js_meaning.cell_value (js_meaning.or_outer cell outer) u)
  this_alike w env t s u _ _ outer f (no_receiver cell) same = sim_wrong z.direction (Valued z.place w env t) _
  this_alike w env t s u _ _ outer f (on_receiver v x a) same = gives_alike w env t s u v x (subst (λ k. SameValue w k v x) (sym f) a.stands) same

  -- a call: the name stands for the function, the arguments are evaluated, and the bodies are alike
  name_shown : (m : Member) (w : World) (s : ir.State) (sc : js.Scope) (u : js.State) → (usable z).linked m ≡ true → Inside z.place z.code sc → SameState z.place w s u → js_meaning.name_value z.place.program (member_name m) sc u ≡ done (js.gives (function_of_member z.place m) u)
  name_shown m w s sc u linked inside same = (λ i. js_meaning.cell_value (js_meaning.or_outer (inside.free (member_name m) (lawful.base.names.tops (a_function m)) i) (js_meaning.top_cell (owner z.place.program (inside.file i) (member_name m)) (member_name m) u)) u) ∙ (λ i. js_meaning.cell_value (js_meaning.top_cell (lawful.base.reaches (a_function m) linked i) (member_name m) u) u) ∙ (λ i. js_meaning.cell_value (same.tops z.code.file (a_function m) linked i) u)

  weaker : (v w : World) (env : ir.Env) (t : IrType) (o : Out ir.Ended) (q : Out js.ExpressionEnd) → Grows v w → Sim z.direction (Valued z.place w env t) o q → Sim z.direction (Valued z.place v env t) o q
  weaker v w env t o q g h = sim_weaken z.direction (Valued z.place w env t) (Valued z.place v env t) o q (λ a b. valued-weaken z v w env t a b g) h

  call_acts : (m : Member) (ts : List IrType) (w : World) (env : ir.Env) (sc : js.Scope) → (usable z).linked m ≡ true → FitAll (types_referred m.method.params) ts → ActsAlike z w w env ts (call_type m.method.result) (ir_meaning.call z.low (ir_world.member_of z.place.classes m.class m.namespace m.method) None) (js_meaning.call z.place.program z.js_low (function_of_member z.place m)) sc
  call_acts m ts w env sc linked fit y vs xs s u g alike same = weaker w y env (call_type m.method.result) (ir_meaning.call z.low (ir_world.member_of z.place.classes m.class m.namespace m.method) None vs env s) (function_call z.place z.js_low m xs u) g (lawful.base.calls m linked y vs xs env s u (values-fit y (types_referred m.method.params) ts vs xs fit alike) same)

  branch_acts : (w : World) (env : ir.Env) (sc : js.Scope) (own t : IrType) (first second : ir.Run) (one other : js.Evaluation) → OperandAlike z w env sc t first one → OperandAlike z w env sc t second other → ActsAlike z w w env (own ∷ []) t (ir_meaning.branch first second) (js_meaning.chosen one other) sc
  branch_acts w env sc own t first second one other f g y _ _ s u h (one_more _ v x _ _ _ a no_values) same = by v x a.stands
    where
      by : (v : ir.Value) (x : js.Value) → Stands y (is_char own) v x → Sim z.direction (Valued z.place w env t) (ir_meaning.branch first second (v ∷ []) env s) (js_meaning.chosen one other (x ∷ []) sc u)
      by _ _ (same_boolean true) = weaker w y env t (first env s) (one sc u) h (f y s u h same)
      by _ _ (same_boolean false) = weaker w y env t (second env s) (other sc u) h (g y s u h same)
      by _ _ _ = sim_wrong z.direction (Valued z.place w env t) _

  arguments_shown : (es : List core.Expression) → js_meaning.arguments z.place.program z.js_low (expression_templates z.place.name z.place.label (usable z).lookup (expressions_of es)) ≡ all_shown z es
  arguments_shown [] = refl
  arguments_shown (e ∷ es) = ap (λ rest. shown z e ∷ rest) (arguments_shown es)

  -- two outcomes that stand for two that are alike
  pub by_equal : (w : World) (env : ir.Env) (t : IrType) (o o' : Out ir.Ended) (q q' : Out js.ExpressionEnd) → o ≡ o' → q ≡ q' → Sim z.direction (Valued z.place w env t) o' q' → Sim z.direction (Valued z.place w env t) o q
  by_equal w env t o o' q q' e g h = subst (λ x. Sim z.direction (Valued z.place w env t) x q) (sym e) (subst (λ x. Sim z.direction (Valued z.place w env t) o' x) (sym g) h)

  abbrev pub PlainAlike : Term → Type 0
  PlainAlike t = (w : World) (env : ir.Env) (s : ir.State) (sc : js.Scope) (u : js.State) → Sees z.place z.code scope w env sc → SameState z.place w s u → Sim z.direction (Valued z.place w env (type_of_term t)) (ir_meaning.step z.place.classes z.low t env s) (shown z (expression_of z.code.sure t) sc u)

  pub as_operand : (t : Term) → PlainAlike t → (w : World) (env : ir.Env) (sc : js.Scope) → Sees z.place z.code scope w env sc → OperandAlike z w env sc (type_of_term t) (ir_meaning.step z.place.classes z.low t) (shown z (expression_of z.code.sure t))
  as_operand t h w env sc sees y s u g same = h y env s sc u (sees-lift z scope w y env sc g sees) same

  standing_operand : (t : Term) (expected : IrType) → StandsFor z expected (type_of_term t) → PlainAlike t → (w : World) (env : ir.Env) (sc : js.Scope) → Sees z.place z.code scope w env sc → OperandAlike z w env sc expected (ir_meaning.step z.place.classes z.low t) (shown z (coerced expected (type_of_term t) (expression_of z.code.sure t)))
  standing_operand t expected f h w env sc sees = operand_coerced z lawful.base expected (type_of_term t) f.0 f.1 w env sc sees.inside (ir_meaning.step z.place.classes z.low t) (expression_of z.code.sure t) (as_operand t h w env sc sees)

  if_alike : (c a b : Term) (t : IrType) → PlainAlike c → PlainAlike a → PlainAlike b → StandsFor z t (type_of_term a) → StandsFor z t (type_of_term b) → tells (type_of_term c) (expression_template z.place.name z.place.label (usable z).lookup (expression_of z.code.sure c)) ≡ true → (w : World) (env : ir.Env) (s : ir.State) (sc : js.Scope) (u : js.State) → Sees z.place z.code scope w env sc → SameState z.place w s u → Sim z.direction (Valued z.place w env t) (ir_meaning.in_order (ir_meaning.step z.place.classes z.low c ∷ []) (ir_meaning.branch (ir_meaning.step z.place.classes z.low a) (ir_meaning.step z.place.classes z.low b)) env s) (shown z (core.choice_of (expression_of z.code.sure c) (coerced t (type_of_term a) (expression_of z.code.sure a)) (coerced t (type_of_term b) (expression_of z.code.sure b))) sc u)
  if_alike c a b t hc ha hb fa fb told w env s sc u sees same = in_order_alike z w w env sc w (type_of_term c ∷ []) t (ir_meaning.step z.place.classes z.low c ∷ []) (expression_of z.code.sure c ∷ []) (ir_meaning.branch (ir_meaning.step z.place.classes z.low a) (ir_meaning.step z.place.classes z.low b)) (js_meaning.chosen (shown z (coerced t (type_of_term a) (expression_of z.code.sure a))) (shown z (coerced t (type_of_term b) (expression_of z.code.sure b)))) (more_operands _ _ _ _ _ _ told (as_operand c hc w env sc sees) no_operands) (branch_acts w env sc (type_of_term c) t (ir_meaning.step z.place.classes z.low a) (ir_meaning.step z.place.classes z.low b) (shown z (coerced t (type_of_term a) (expression_of z.code.sure a))) (shown z (coerced t (type_of_term b) (expression_of z.code.sure b))) (standing_operand a t fa ha w env sc sees) (standing_operand b t fb hb w env sc sees)) w s u (grows-refl w) (grows-refl w) (grows-refl w) same

  pub call_alike : (m : Member) (ts : List IrType) (rs : List ir.Run) (es es' : List core.Expression) → es ≡ es' → (usable z).linked m ≡ true → FitAll (types_referred m.method.params) ts → (w : World) (env : ir.Env) (s : ir.State) (sc : js.Scope) (u : js.State) → Inside z.place z.code sc → OperandsAlike z w env sc ts rs es' → SameState z.place w s u → Sim z.direction (Valued z.place w env (call_type m.method.result)) (ir_meaning.in_order rs (ir_meaning.call z.low (ir_world.member_of z.place.classes m.class m.namespace m.method) None) env s) (shown z (core.static_call m (expressions_of es)) sc u)
  call_alike m ts rs es es' e linked fit w env s sc u inside operands same = by_equal w env (call_type m.method.result) _ _ _ _ refl (ap (λ o. then_do o (js.with_value (λ f. js_meaning.in_order (js_meaning.arguments z.place.program z.js_low (expression_templates z.place.name z.place.label (usable z).lookup (expressions_of es))) (js_meaning.call z.place.program z.js_low f) sc))) (name_shown m w s sc u linked inside same) ∙ ap (λ args. js_meaning.in_order args (js_meaning.call z.place.program z.js_low (function_of_member z.place m)) sc u) (arguments_shown es ∙ ap (all_shown z) e)) (in_order_alike z w w env sc w ts (call_type m.method.result) rs es' (ir_meaning.call z.low (ir_world.member_of z.place.classes m.class m.namespace m.method) None) (js_meaning.call z.place.program z.js_low (function_of_member z.place m)) operands (call_acts m ts w env sc linked fit) w s u (grows-refl w) (grows-refl w) (grows-refl w) same)

  pub unary_alike : (o : UnaryOp) (own : IrType) (r : ir.Run) (e : core.Expression) → Fits (unary_operand o) own → (w : World) (env : ir.Env) (s : ir.State) (sc : js.Scope) (u : js.State) → OperandsAlike z w env sc (own ∷ []) (r ∷ []) (e ∷ []) → SameState z.place w s u → Sim z.direction (Valued z.place w env (unary_result o)) (ir_meaning.in_order (r ∷ []) (ir_meaning.unary z.place.classes z.low o) env s) (shown z (core.unary_of o e) sc u)
  unary_alike o own r e fit w env s sc u operand same = by_equal w env (unary_result o) _ _ _ _ refl (unary_shown z.place.program z.js_low (expression_template z.place.name z.place.label (usable z).lookup e) sc u o) (in_order_alike z w w env sc w (own ∷ []) (unary_result o) (r ∷ []) (e ∷ []) (ir_meaning.unary z.place.classes z.low o) (by_one_value (one_template_value o)) operand (unary_acts z w env sc o own fit) w s u (grows-refl w) (grows-refl w) (grows-refl w) same)

  -- an operator whose template takes the operands' values as they are
  direct_alike : (o : BinaryOp) (left right : IrType) (r q : ir.Run) (e d : core.Expression) → is_direct o ≡ true → Fits (left_operand o) left → Fits (right_operand o) right → (w : World) (env : ir.Env) (s : ir.State) (sc : js.Scope) (u : js.State) → OperandsAlike z w env sc (left ∷ right ∷ []) (r ∷ q ∷ []) (e ∷ d ∷ []) → SameState z.place w s u → Sim z.direction (Valued z.place w env (binary_result o)) (ir_meaning.in_order (r ∷ q ∷ []) (ir_meaning.binary z.place.classes z.low o) env s) (shown z (core.binary_of o e d) sc u)
  direct_alike o left right r q e d direct f g w env s sc u operands same = by_equal w env (binary_result o) _ _ _ _ refl (binary_shown z.place.program z.js_low (is_nonzero_literal d) (expression_template z.place.name z.place.label (usable z).lookup e) (expression_template z.place.name z.place.label (usable z).lookup d) (not_ratio operands) sc u o direct) (in_order_alike z w w env sc w (left ∷ right ∷ []) (binary_result o) (r ∷ q ∷ []) (e ∷ d ∷ []) (ir_meaning.binary z.place.classes z.low o) (by_value (template_value o)) operands (binary_acts z w env sc o left right direct) w s u (grows-refl w) (grows-refl w) (grows-refl w) same)
    where
      not_ratio : OperandsAlike z w env sc (left ∷ right ∷ []) (r ∷ q ∷ []) (e ∷ d ∷ []) → js_meaning.over_zero (expression_template z.place.name z.place.label (usable z).lookup d) (js_meaning.ratio_of z.place.program z.js_low (expression_template z.place.name z.place.label (usable z).lookup e)) ≡ None
      not_ratio (more_operands _ _ _ _ _ _ h one (more_operands _ _ _ _ _ _ k other no_operands)) = no_ratio z.place.program z.js_low o direct left right (expression_template z.place.name z.place.label (usable z).lookup e) (expression_template z.place.name z.place.label (usable z).lookup d) f g h k

  abbrev TwoAlike : BinaryOp → IrType → IrType → core.Expression → core.Expression → ir.Run → ir.Run → core.Expression → World → ir.Env → ir.State → js.Scope → js.State → Type 0
  TwoAlike o left right e d r q made w env s sc u = OperandsAlike z w env sc (left ∷ right ∷ []) (r ∷ q ∷ []) (e ∷ d ∷ []) → SameState z.place w s u → Sim z.direction (Valued z.place w env (binary_result o)) (ir_meaning.in_order (r ∷ q ∷ []) (ir_meaning.binary z.place.classes z.low o) env s) (shown z made sc u)

  simple_alike : (o : BinaryOp) (left right : IrType) (r q : ir.Run) (e d : core.Expression) → is_simple o ≡ true → Fits (left_operand o) left → Fits (right_operand o) right → (w : World) (env : ir.Env) (s : ir.State) (sc : js.Scope) (u : js.State) → TwoAlike o left right e d r q (core.binary_of o (operand_of o left e) (operand_of o right d)) w env s sc u
  simple_alike LongShiftLeft left right r q e d simple f g w env s sc u (more_operands _ _ _ _ _ _ h one (more_operands _ _ _ _ _ _ k other no_operands)) same = left_shift_alike z w env sc left right r q e d one other s u same f g
  simple_alike LongShiftRightLogical left right r q e d simple f g w env s sc u (more_operands _ _ _ _ _ _ h one (more_operands _ _ _ _ _ _ k other no_operands)) same = zero_shift_alike z w env sc left right r q e d one other s u same f g
  simple_alike LongShiftRightArithmetic left right r q e d simple f g w env s sc u (more_operands _ _ _ _ _ _ h one (more_operands _ _ _ _ _ _ k other no_operands)) same = right_shift_alike z w env sc left right r q e d one other s u same f g
  simple_alike StrictEqual left right r q e d simple f g w env s sc u _ same = impossible simple
  simple_alike StrictNotEqual left right r q e d simple f g w env s sc u _ same = impossible simple
  simple_alike StringConcatenate left right r q e d simple f g w env s sc u _ same = impossible simple
  simple_alike o left right r q e d simple f g w env s sc u operands same = direct_alike o left right r q e d simple f g w env s sc u operands same

  -- an operator that takes operands of these types, but for division
  pub binary_alike : (o : BinaryOp) (left right : IrType) (r q : ir.Run) (e d : core.Expression) → Operates (usable z) o left right → (w : World) (env : ir.Env) (s : ir.State) (sc : js.Scope) (u : js.State) → Inside z.place z.code sc → TwoAlike o left right e d r q (core.binary_of o (operand_of o left e) (operand_of o right d)) w env s sc u
  binary_alike _ _ _ r q e d (of_its_types o left right is f g) w env s sc u inside operands same = simple_alike o left right r q e d is f g w env s sc u operands same
  binary_alike _ _ _ r q e d (joins left right bare other_bare) w env s sc u inside (more_operands _ _ _ _ _ _ h one (more_operands _ _ _ _ _ _ k other no_operands)) same = joined_alike z w env sc left right r q e d one other s u same bare other_bare
  binary_alike _ _ _ r q e d (divided o left right h f g) w env s sc u inside operands same = by_equal w env (binary_result o) _ _ _ _ refl (λ i. shown z (taken_as_they_are (usable z) o h left right e d i) sc u) (divided_operands z lawful o h left right r q e d f g w env s sc u inside operands same)
  binary_alike _ _ _ r q e d (compared o left right i has f g) w env s sc u inside operands same = compared_alike z lawful o i has left right f g r q e d w env s sc u inside operands same

  abbrev text_of_tree : Term → tree.Expression
  text_of_tree t = expression_template z.place.name z.place.label (usable z).lookup (expression_of z.code.sure t)

  -- what the text of a plain tree tells of its type
  not_long : (o : UnaryOp) (own : IrType) → is_widening o ≡ true → Fits (unary_operand o) own → may_be_long own ≡ false
  not_long CharToInt Any n f = impossible f
  not_long CharToInt Long n f = impossible f
  not_long ByteToInt Any n f = impossible f
  not_long ByteToInt Long n f = impossible f
  not_long ShortToInt Any n f = impossible f
  not_long ShortToInt Long n f = impossible f
  not_long o Any n f = impossible n
  not_long o Long n f = impossible n
  not_long o own n f = refl

  unary_tells : (o : UnaryOp) (own : IrType) (e : tree.Expression) → Fits (unary_operand o) own → tells own e ≡ true → tells (unary_result o) (unary_template o e) ≡ true
  unary_tells CharToInt own e f h = tells-narrow own e (not_long CharToInt own refl f) h
  unary_tells ByteToInt own e f h = tells-narrow own e (not_long ByteToInt own refl f) h
  unary_tells ShortToInt own e f h = tells-narrow own e (not_long ShortToInt own refl f) h
  unary_tells _ own e f h = refl

  simple_tells : (o : BinaryOp) → is_simple o ≡ true → (b : Bool) (e g : tree.Expression) → tells (binary_result o) (binary_template b o e g) ≡ true
  simple_tells StrictEqual h b e g = impossible h
  simple_tells StrictNotEqual h b e g = impossible h
  simple_tells StringConcatenate h b e g = impossible h
  simple_tells IntDivide h b e g = impossible h
  simple_tells IntRemainder h b e g = impossible h
  simple_tells LongDivide h b e g = impossible h
  simple_tells LongRemainder h b e g = impossible h
  simple_tells _ h b e g = refl

  divided_tells : (o : BinaryOp) → divides (usable z) o ≡ true → (b : Bool) (e g : tree.Expression) → tells (binary_result o) (binary_template b o e g) ≡ true
  divided_tells IntDivide h true e g = refl
  divided_tells IntDivide h false e g = refl
  divided_tells IntRemainder h true e g = refl
  divided_tells IntRemainder h false e g = refl
  divided_tells LongDivide h true e g = refl
  divided_tells LongDivide h false e g = refl
  divided_tells LongRemainder h true e g = refl
  divided_tells LongRemainder h false e g = refl
  divided_tells _ h b e g = impossible h

  binary_tells : (o : BinaryOp) (left right : IrType) → Operates (usable z) o left right → (b : Bool) (e g : tree.Expression) → tells (binary_result o) (binary_template b o e g) ≡ true
  binary_tells _ _ _ (of_its_types o left right h f g) b e x = simple_tells o h b e x
  binary_tells _ _ _ (joins left right bare other) b e g = refl
  binary_tells _ _ _ (divided o left right h f g) b e x = divided_tells o h b e x
  binary_tells _ _ _ (compared o left right i h f g) b e x = identity_told z lawful o i b e x

  division_tells : (o : BinaryOp) (d : Term) → DividesBy o d → (e : tree.Expression) → tells (binary_result o) (binary_template (is_nonzero_literal (expression_of z.code.sure d)) o e (text_of_tree d)) ≡ true
  division_tells _ _ (by_int _ i p (pos zero) f ne) e = absurd (ne refl)
  division_tells _ _ (by_int _ a_quotient p (pos (suc n)) f ne) e = refl
  division_tells _ _ (by_int _ a_quotient p (negsuc n) f ne) e = refl
  division_tells _ _ (by_int _ a_remainder p (pos (suc n)) f ne) e = refl
  division_tells _ _ (by_int _ a_remainder p (negsuc n) f ne) e = refl
  division_tells _ _ (by_long _ i p (pos zero) f ne) e = absurd (ne refl)
  division_tells _ _ (by_long _ a_long_quotient p (pos (suc n)) f ne) e = refl
  division_tells _ _ (by_long _ a_long_quotient p (negsuc n) f ne) e = refl
  division_tells _ _ (by_long _ a_long_remainder p (pos (suc n)) f ne) e = refl
  division_tells _ _ (by_long _ a_long_remainder p (negsuc n) f ne) e = refl

  -- a division takes its operands as they are
  pub operand_same : (o : BinaryOp) (d : Term) → DividesBy o d → (t : IrType) (e : core.Expression) → operand_of o t e ≡ e
  operand_same _ _ (by_int _ a_quotient p n f ne) t e = refl
  operand_same _ _ (by_int _ a_remainder p n f ne) t e = refl
  operand_same _ _ (by_long _ a_long_quotient p n f ne) t e = refl
  operand_same _ _ (by_long _ a_long_remainder p n f ne) t e = refl

  pub division_same : (o : BinaryOp) (d : Term) → DividesBy o d → (s t : IrType) (e g : core.Expression) → core.binary_of o (operand_of o s e) (operand_of o t g) ≡ core.binary_of o e g
  division_same o d by s t e g = λ i. core.binary_of o (operand_same o d by s e i) (operand_same o d by t g i)

  -- a plain tree and its expression: they are alike, and the text tells of its type
  pub record TreeAlike (t : Term) : Type 0 where
    pub alike : PlainAlike t
    pub told : tells (type_of_term t) (text_of_tree t) ≡ true

  -- it as the one operand, or the first of several
  with_tree : (t : Term) → TreeAlike t → (w : World) (env : ir.Env) (sc : js.Scope) → Sees z.place z.code scope w env sc → (ts : List IrType) (rs : List ir.Run) (es : List core.Expression) → OperandsAlike z w env sc ts rs es → OperandsAlike z w env sc (type_of_term t ∷ ts) (ir_meaning.step z.place.classes z.low t ∷ rs) (expression_of z.code.sure t ∷ es)
  with_tree t h w env sc sees ts rs es others = more_operands (type_of_term t) (ir_meaning.step z.place.classes z.low t) (expression_of z.code.sure t) ts rs es h.told (as_operand t h.alike w env sc sees) others

  unary_tree : (p : Position) (o : UnaryOp) (e : Term) → Fits (unary_operand o) (type_of_term e) → TreeAlike e → TreeAlike (unary_op p o e)
  unary_tree p o e fit h = record {
    alike = λ w env s sc u sees same. unary_alike o (type_of_term e) (ir_meaning.step z.place.classes z.low e) (expression_of z.code.sure e) fit w env s sc u (with_tree e h w env sc sees [] [] [] no_operands) same;
    told = unary_tells o (type_of_term e) (text_of_tree e) fit h.told;
  }

  binary_tree : (p : Position) (o : BinaryOp) (e d : Term) → Operates (usable z) o (type_of_term e) (type_of_term d) → TreeAlike e → TreeAlike d → TreeAlike (binary_op p o e d)
  binary_tree p o e d operates h k = record {
    alike = λ w env s sc u sees same. binary_alike o (type_of_term e) (type_of_term d) (ir_meaning.step z.place.classes z.low e) (ir_meaning.step z.place.classes z.low d) (expression_of z.code.sure e) (expression_of z.code.sure d) operates w env s sc u sees.inside (with_tree e h w env sc sees _ _ _ (with_tree d k w env sc sees [] [] [] no_operands)) same;
    told = binary_tells o (type_of_term e) (type_of_term d) operates _ _ _;
  }

  division_tree : (p : Position) (o : BinaryOp) (e d : Term) → DividesBy o d → Fits (left_operand o) (type_of_term e) → TreeAlike e → TreeAlike (binary_op p o e d)
  division_tree p o e d by fit h = record {
    alike = λ w env s sc u sees same. by_equal w env (binary_result o) _ _ _ _ (dividend_alone z o d by (ir_meaning.step z.place.classes z.low e) env s) (λ i. shown z (division_same o d by (type_of_term e) (type_of_term d) (expression_of z.code.sure e) (expression_of z.code.sure d) i) sc u) (division_alike z o d by (type_of_term e) fit (ir_meaning.step z.place.classes z.low e) (expression_of z.code.sure e) w env s sc u (with_tree e h w env sc sees [] [] [] no_operands) same);
    told = subst (λ x. tells (binary_result o) (expression_template z.place.name z.place.label (usable z).lookup x) ≡ true) (sym (division_same o d by (type_of_term e) (type_of_term d) (expression_of z.code.sure e) (expression_of z.code.sure d))) (division_tells o d by (text_of_tree e));
  }

  -- arguments as they are coerced
  passed : (rs : List TypeRef) (ts : Terms) (fit : StandForAll z (types_referred rs) (types_of ts)) (w : World) (env : ir.Env) (sc : js.Scope) → Inside z.place z.code sc → OperandsAlike z w env sc (types_of ts) (ir_meaning.operands z.place.classes z.low ts) (all_expressions z.code.sure ts) → OperandsAlike z w env sc (all_stood (types_referred rs) (types_of ts) fit.0) (ir_meaning.operands z.place.classes z.low ts) (coerced_arguments rs (types_of ts) (all_expressions z.code.sure ts))
  passed rs ts fit w env sc inside = operands_coerced z lawful.base w env sc inside rs (types_of ts) (ir_meaning.operands z.place.classes z.low ts) (all_expressions z.code.sure ts) fit.0 fit.1

  call_plain : (p : Position) (m : Member) (ts : Terms) (t : IrType) → t ≡ call_type m.method.result → (usable z).linked m ≡ true → StandForAll z (types_referred m.method.params) (types_of ts) → (w : World) (env : ir.Env) (s : ir.State) (sc : js.Scope) (u : js.State) → Sees z.place z.code scope w env sc → OperandsAlike z w env sc (types_of ts) (ir_meaning.operands z.place.classes z.low ts) (all_expressions z.code.sure ts) → SameState z.place w s u → Sim z.direction (Valued z.place w env t) (ir_meaning.in_order (ir_meaning.operands z.place.classes z.low ts) (ir_meaning.call z.low (ir_world.member_of z.place.classes m.class m.namespace m.method) None) env s) (shown z (core.static_call m (expressions_of (coerced_arguments m.method.params (types_of ts) (all_expressions z.code.sure ts)))) sc u)
  call_plain p m ts t is linked fit w env s sc u sees operands same = subst (λ i. Sim z.direction (Valued z.place w env i) (ir_meaning.in_order (ir_meaning.operands z.place.classes z.low ts) (ir_meaning.call z.low (ir_world.member_of z.place.classes m.class m.namespace m.method) None) env s) (shown z (core.static_call m (expressions_of (coerced_arguments m.method.params (types_of ts) (all_expressions z.code.sure ts)))) sc u)) (sym is) (call_alike m (all_stood (types_referred m.method.params) (types_of ts) fit.0) (ir_meaning.operands z.place.classes z.low ts) (coerced_arguments m.method.params (types_of ts) (all_expressions z.code.sure ts)) (coerced_arguments m.method.params (types_of ts) (all_expressions z.code.sure ts)) refl linked (all-stood-fit (types_referred m.method.params) (types_of ts) fit.0) w env s sc u sees.inside (passed m.method.params ts fit w env sc sees.inside operands) same)

  surely_alike : (t : IrType) (w : World) (env : ir.Env) (sc : js.Scope) (r : ir.Run) (e : core.Expression) → OperandsAlike z w env sc (t ∷ []) (r ∷ []) (e ∷ []) → OperandsAlike z w env sc (t ∷ []) (ir_meaning.receiving z.place.classes true z.low r ∷ []) (e ∷ [])
  surely_alike _ w env sc _ _ (more_operands t r e _ _ _ told one no_operands) = more_operands t (ir_meaning.receiving z.place.classes true z.low r) e [] [] [] told (λ k s u g same. never_null_alike z.direction (Valued z.place k env t) (r env s) (shown z e sc u) (one k s u g same)) no_operands

  -- a receiver, by whether it is sure
  pub received_alike : (b : Bool) (t : IrType) (w : World) (env : ir.Env) (sc : js.Scope) (r : ir.Run) (e : core.Expression) → (b ≡ true) ⊎ ((usable z).helper check_name ≡ true) → Inside z.place z.code sc → OperandsAlike z w env sc (t ∷ []) (r ∷ []) (e ∷ []) → OperandsAlike z w env sc (t ∷ []) (ir_meaning.receiving z.place.classes b z.low r ∷ []) (received_text b e ∷ [])
  received_alike true t w env sc r e may inside h = surely_alike t w env sc r e h
  received_alike false t w env sc r e (inl i) inside h = impossible i
  received_alike false t w env sc r e (inr i) inside h = more_operands t (ir_meaning.checked z.place.classes z.low r) (core.checked_value e) [] [] [] refl (checked_alike z lawful t w env sc r e i inside h) no_operands

  -- one operand in front of others
  in_front : (t : IrType) (r : ir.Run) (e : core.Expression) (w : World) (env : ir.Env) (sc : js.Scope) (ts : List IrType) (rs : List ir.Run) (es : List core.Expression) → OperandsAlike z w env sc (t ∷ []) (r ∷ []) (e ∷ []) → OperandsAlike z w env sc ts rs es → OperandsAlike z w env sc (t ∷ ts) (r ∷ rs) (e ∷ es)
  in_front _ _ _ w env sc ts rs es (more_operands t r e _ _ _ told one no_operands) others = more_operands t r e ts rs es told one others

  module _ (scene : Scene) (seen : InScope scene scope) (surely : scene.sure ≡ z.code.sure) (owned : scene.owner ≡ z.code.owner) where
    abbrev law : IsSubtyping (IsSub z.place.typing)
    law = lawful.base.ordered

    abbrev Kept : Term → Type 0
    Kept t = Typed z.place.typing (usable z) scene t

    -- objects that hold chars can be made, or none is
    abbrev Makes : Bool → Type 0
    Makes boxed = may_make (usable z) boxed ≡ true

    abbrev IsValue : Term → Type 0
    IsValue t = is_no_type (type_of_term t) ≡ false

    value_yielded : (e : Term) (t : IrType) → is_no_type t ≡ false → Yields z.place.typing e t → IsValue e
    value_yielded e t n (nothing_wanted i) = impossible (sym n ∙ ap is_no_type i)
    value_yielded e t n (fitting f) = value_below z.place.typing law (type_of_term e) t f n

    yielded_stands : (e : Term) (t : IrType) → is_no_type t ≡ false → Makes (is_boxed t e) → Yields z.place.typing e t → StandsFor z t (type_of_term e)
    yielded_stands e t n may (nothing_wanted i) = impossible (sym n ∙ ap is_no_type i)
    yielded_stands e t n may (fitting f) = stands-for z lawful t (type_of_term e) f may

    if_tree : (p : Position) (c a b : Term) (t : IrType) → Kept (if_then p c a b t) → Makes (is_boxed t a) → Makes (is_boxed t b) → is_no_type t ≡ false → TreeAlike c → TreeAlike a → TreeAlike b → TreeAlike (if_then p c a b t)
    if_tree p c a b t h first second value hc ha hb = record {
      alike = λ w env s sc u sees same. if_alike c a b t hc.alike ha.alike hb.alike (yielded_stands a t value first h.0.meets.1) (yielded_stands b t value second h.0.meets.2) hc.told w env s sc u sees same;
      told = refl;
    }

    abbrev RowAlike : Terms → Type 0
    RowAlike ts = (w : World) (env : ir.Env) (sc : js.Scope) → Sees z.place z.code scope w env sc → OperandsAlike z w env sc (types_of ts) (ir_meaning.operands z.place.classes z.low ts) (all_expressions z.code.sure ts)

    call_tree : (p : Position) (c : List ℕ) (n : Namespace) (m : MethodName) (ts : Terms) (t : IrType) → Kept (apply_static p c n m ts t) → Makes (any_is_boxed m.params ts) → RowAlike ts → TreeAlike (apply_static p c n m ts t)
    call_tree p c n m ts t h may operands = record {
      alike = λ w env s sc u sees same. call_plain p (member c n m) ts t h.0.meets.1 h.0.built (stand-for-all z lawful ts m.params (arguments_there z.place.typing (usable z) ts m.params may h.0.finds h.0.meets.2)) w env s sc u sees (operands w env sc sees) same;
      told = refl;
    }

    -- a receiver that is never null, or whose check can be used
    receiver_alike : (e : Term) → TreeAlike e → may_check (usable z) scene.sure e ≡ true → (w : World) (env : ir.Env) (sc : js.Scope) → Sees z.place z.code scope w env sc → OperandsAlike z w env sc (type_of_term e ∷ []) (ir_meaning.receiving z.place.classes (is_sure env.sure e) z.low (ir_meaning.step z.place.classes z.low e) ∷ []) (received_text (is_sure z.code.sure e) (expression_of z.code.sure e) ∷ [])
    receiver_alike e h may w env sc sees = subst (λ q. OperandsAlike z w env sc (type_of_term e ∷ []) (ir_meaning.receiving z.place.classes (is_sure q e) z.low (ir_meaning.step z.place.classes z.low e) ∷ []) (received_text (is_sure z.code.sure e) (expression_of z.code.sure e) ∷ [])) (sym sees.sure) (received_alike (is_sure z.code.sure e) (type_of_term e) w env sc (ir_meaning.step z.place.classes z.low e) (expression_of z.code.sure e) (may_be_checked (usable z) z.code.sure e (subst (λ (q : List ℕ → Bool). may_check (usable z) q e ≡ true) surely may)) sees.inside (with_tree e h w env sc sees [] [] [] no_operands))

    select_tree : (p : Position) (e : Term) (c f : List ℕ) (t : IrType) → Kept (select p e c f t) → TreeAlike e → TreeAlike (select p e c f t)
    select_tree p e c f t h one = record {
      alike = λ w env s sc u sees same. select_alike z lawful.base w env s sc u (type_of_term e) (ir_meaning.receiving z.place.classes (is_sure env.sure e) z.low (ir_meaning.step z.place.classes z.low e)) (received_text (is_sure z.code.sure e) (expression_of z.code.sure e)) c f t (lawful.base.fields c f t (and_parts ((usable z).field c f t) (may_check (usable z) scene.sure e) h.0.built).0).field (receiver_alike e one (and_parts ((usable z).field c f t) (may_check (usable z) scene.sure e) h.0.built).1 w env sc sees) same;
      told = refl;
    }

    new_tree : (p : Position) (c : List ℕ) (m : MethodName) (ts : Terms) → Kept (new_object p c m ts) → Makes (any_is_boxed m.params ts) → RowAlike ts → TreeAlike (new_object p c m ts)
    new_tree p c m ts h may operands = record {
      alike = λ w env s sc u sees same. new_alike z lawful.base c m (all_stood (types_referred m.params) (types_of ts) fit.0) (ir_meaning.operands z.place.classes z.low ts) (coerced_arguments m.params (types_of ts) (all_expressions z.code.sure ts)) (coerced_arguments m.params (types_of ts) (all_expressions z.code.sure ts)) refl its.1 its.0 (lawful.base.objects c its.0) (all-stood-fit (types_referred m.params) (types_of ts) fit.0) w env s sc u sees.inside (passed m.params ts fit w env sc sees.inside (operands w env sc sees)) same;
      told = refl;
    }
      where
        its : ((usable z).made c ≡ true) × ((usable z).built (member c Constructor m) ≡ true)
        its = and_parts ((usable z).made c) ((usable z).built (member c Constructor m)) h.0.built

        fit : StandForAll z (types_referred m.params) (types_of ts)
        fit = stand-for-all z lawful ts m.params (arguments_there z.place.typing (usable z) ts m.params may h.0.finds h.0.meets.1)

    -- a receiver as it is coerced
    receiver_stood : (c : List ℕ) (own : IrType) (h : StandsFor z (class_type c) own) (r : ir.Run) (e : core.Expression) (w : World) (env : ir.Env) (sc : js.Scope) → Inside z.place z.code sc → OperandsAlike z w env sc (own ∷ []) (r ∷ []) (e ∷ []) → OperandsAlike z w env sc (stood (class_type c) own h.0 ∷ []) (r ∷ []) (coerced (class_type c) own e ∷ [])
    receiver_stood c own h r e w env sc inside operand = operand_stood z lawful.base w env sc inside (class_type c) own h.0 h.1 r e operand

    receive_tree : (p : Position) (e : Term) (c : List ℕ) (n : Namespace) (m : MethodName) (ts : Terms) (t : IrType) → Received z.place.typing (usable z) (may_check (usable z) scene.sure) e c n m ts → Kept (apply_statically p e c n m ts t) → TreeAlike e → RowAlike ts → TreeAlike (apply_statically p e c n m ts t)
    receive_tree p e c n m ts t its h one operands = record {
      alike = λ w env s sc u sees same. by_equal w env t _ _ _ _ refl (λ i. shown z (core.receiver_call (callees.Member (member c n m)) (receiver-coerced c (type_of_term e) (received_text (is_sure z.code.sure e) (expression_of z.code.sure e)) i) (expressions_of (coerced_arguments m.params (types_of ts) (all_expressions z.code.sure ts)))) sc u) (subst (λ k. Sim z.direction (Valued z.place w env k) (ir_meaning.step z.place.classes z.low (apply_statically p e c n m ts t) env s) (shown z (core.receiver_call (callees.Member (member c n m)) (coerced (class_type c) (type_of_term e) (received_text (is_sure z.code.sure e) (expression_of z.code.sure e))) (expressions_of (coerced_arguments m.params (types_of ts) (all_expressions z.code.sure ts)))) sc u)) (sym h.0.meets.1) (received_call_alike z lawful.base (member c n m) (stood (class_type c) (type_of_term e) on.0) (all_stood (types_referred m.params) (types_of ts) fit.0) (ir_meaning.receiving z.place.classes (is_sure env.sure e) z.low (ir_meaning.step z.place.classes z.low e)) (ir_meaning.operands z.place.classes z.low ts) (coerced (class_type c) (type_of_term e) (received_text (is_sure z.code.sure e) (expression_of z.code.sure e))) (coerced_arguments m.params (types_of ts) (all_expressions z.code.sure ts)) its.there (stood-fits (class_type c) (type_of_term e) on.0) (all-stood-fit (types_referred m.params) (types_of ts) fit.0) w env s sc u sees.inside (in_front _ _ _ w env sc _ _ _ (receiver_stood c (type_of_term e) on _ _ w env sc sees.inside (receiver_alike e one its.may_be w env sc sees)) (passed m.params ts fit w env sc sees.inside (operands w env sc sees))) same));
      told = refl;
    }
      where
        on : StandsFor z (class_type c) (type_of_term e)
        on = stands-for z lawful (class_type c) (type_of_term e) its.below its.stands

        fit : StandForAll z (types_referred m.params) (types_of ts)
        fit = stand-for-all z lawful ts m.params its.arguments

    this_tree : (p : Position) (t : IrType) → Kept (this_ref p t) → TreeAlike (this_ref p t)
    this_tree p t h = record {
      alike = λ w env s sc u sees same. this_alike w env t s u env.this_value (sc.bindings (z.place.name core.receiver)) (js_meaning.top_cell (owner z.place.program sc.file (z.place.name core.receiver)) (z.place.name core.receiver) u) (h.finds.1 ∙ ap class_type owned) sees.this same;
      told = refl;
    }

    -- both operands of an operator, where it takes them, have values
    operation_tree : (p : Position) (o : BinaryOp) (e d : Term) → Kept (binary_op p o e d) → Makes (operands_are_boxed o e d) → (IsValue e → TreeAlike e) → (IsValue d → TreeAlike d) → TreeAlike (binary_op p o e d)
    operation_tree p o e d h may one other = ⊎_elim (λ takes. binary_tree p o e d (operates z.place.typing law (usable z) o e d may takes) (one (left_value takes)) (other (right_value takes))) (λ divides. division_tree p o e d divides.0 (fits-dividend z.place.typing law o d (type_of_term e) divides.0 divides.1) (one (value_below z.place.typing law (type_of_term e) (left_operand o) divides.1 (value_none (left_operand o) (left-operand-value o))))) (operation z.place.typing (usable z) scene o e d h.0.built h.2 h.0.meets)
      where
        left_value : Takes z.place.typing (usable z) o e d → IsValue e
        left_value (its_types simple f g) = value_below z.place.typing law (type_of_term e) (left_operand o) f (value_none (left_operand o) (left-operand-value o))
        left_value (of_division is f g) = value_below z.place.typing law (type_of_term e) (left_operand o) f (value_none (left_operand o) (left-operand-value o))
        left_value (of_identity i is f g) = value_below z.place.typing law (type_of_term e) (left_operand o) f (value_none (left_operand o) (left-operand-value o))
        left_value (texts is f g) = not_none (type_of_term e) (not_no_type (type_of_term e) f)

        right_value : Takes z.place.typing (usable z) o e d → IsValue d
        right_value (its_types simple f g) = value_below z.place.typing law (type_of_term d) (right_operand o) g (value_none (right_operand o) (right-operand-value o))
        right_value (of_division is f g) = value_below z.place.typing law (type_of_term d) (right_operand o) g (value_none (right_operand o) (right-operand-value o))
        right_value (of_identity i is f g) = value_below z.place.typing law (type_of_term d) (right_operand o) g (value_none (right_operand o) (right-operand-value o))
        right_value (texts is f g) = not_none (type_of_term d) (not_no_type (type_of_term d) g)

    -- the operand of a test or a cast, as it is coerced
    standing_any : (e : Term) → Makes (is_boxed Any e) → IsSub z.place.typing (type_of_term e) Any → StandsFor z Any (type_of_term e)
    standing_any e may f = stands-for z lawful Any (type_of_term e) f may

    brought : (e : Term) (f : StandsFor z Any (type_of_term e)) → TreeAlike e → (w : World) (env : ir.Env) (sc : js.Scope) → Sees z.place z.code scope w env sc → OperandsAlike z w env sc (stood Any (type_of_term e) f.0 ∷ []) (ir_meaning.step z.place.classes z.low e ∷ []) (coerced Any (type_of_term e) (expression_of z.code.sure e) ∷ [])
    brought e f one w env sc sees = operand_stood z lawful.base w env sc sees.inside Any (type_of_term e) f.0 f.1 (ir_meaning.step z.place.classes z.low e) (expression_of z.code.sure e) (with_tree e one w env sc sees [] [] [] no_operands)

    test_tree : (p : Position) (e : Term) (t : IrType) → Kept (is_instance_of p e t) → StandsFor z Any (type_of_term e) → TreeAlike e → TreeAlike (is_instance_of p e t)
    test_tree p e t h f one = record {
      alike = λ w env s sc u sees same. any_test_alike z lawful t (stood Any (type_of_term e) f.0) h.0.finds its.0 its.1 (stood-fits Any (type_of_term e) f.0) (ir_meaning.step z.place.classes z.low e) (coerced Any (type_of_term e) (expression_of z.code.sure e)) w env s sc u sees.inside (brought e f one w env sc sees) same;
      told = test_told z lawful t (coerced Any (type_of_term e) (expression_of z.code.sure e));
    }
      where
        its : ((usable z).tests t ≡ true) × (is_based (usable z) t ≡ true)
        its = and_parts ((usable z).tests t) (is_based (usable z) t) h.0.built

    cast_tree : (p : Position) (e : Term) (t : IrType) → Kept (as_instance_of p e t) → StandsFor z Any (type_of_term e) → TreeAlike e → TreeAlike (as_instance_of p e t)
    cast_tree p e t h f one = record {
      alike = λ w env s sc u sees same. any_cast_alike z lawful t (stood Any (type_of_term e) f.0) h.0.finds its.0 its.1 (stood-fits Any (type_of_term e) f.0) (ir_meaning.step z.place.classes z.low e) (coerced Any (type_of_term e) (expression_of z.code.sure e)) w env s sc u sees.inside (brought e f one w env sc sees) same;
      told = cast_told z lawful t (type_of_term e) (expression_of z.code.sure e) one.told;
    }
      where
        its : (can_cast (usable z) t ≡ true) × (is_based (usable z) t ≡ true)
        its = and_parts (can_cast (usable z) t) (is_based (usable z) t) h.0.built

    -- arrays
    new_array_tree : (p : Position) (r : ArrayRef) (e : Term) → Kept (new_array p r e) → TreeAlike e → TreeAlike (new_array p r e)
    new_array_tree p r e h one = record {
      alike = λ w env s sc u sees same. new_array_alike z lawful r h.0.finds whole.0 its.0 its.1 (type_of_term e) (fits-lowest z.place.typing law Int (type_of_term e) refl h.0.meets) (ir_meaning.step z.place.classes z.low e) (expression_of z.code.sure e) w env s sc u sees.inside (with_tree e one w env sc sees [] [] [] no_operands) same;
      told = refl;
    }
      where
        whole : ((usable z).arrays ≡ true) × (((usable z).helper (codes "$mk") && has_base (usable z) r.base) ≡ true)
        whole = and_parts (usable z).arrays ((usable z).helper (codes "$mk") && has_base (usable z) r.base) h.0.built

        its : ((usable z).helper (codes "$mk") ≡ true) × (has_base (usable z) r.base ≡ true)
        its = and_parts ((usable z).helper (codes "$mk")) (has_base (usable z) r.base) whole.1

    array_tree_of : (p : Position) (r : ArrayRef) (ts : Terms) → Kept (array_value p r ts) → Makes (any_item_boxed (element_type r) ts) → RowAlike ts → TreeAlike (array_value p r ts)
    array_tree_of p r ts h may operands = record {
      alike = λ w env s sc u sees same. array_alike z lawful r h.0.finds whole.0 its.0 more.0 (types_of ts) fit.0 (below-is (length (types_of ts)) (2 ^ 31) more.1) (ir_meaning.operands z.place.classes z.low ts) (coerced_items (element_type r) (types_of ts) (all_expressions z.code.sure ts)) (coerced_items (element_type r) (types_of ts) (all_expressions z.code.sure ts)) refl w env s sc u sees.inside (items_coerced z lawful.base w env sc sees.inside (element_type r) (types_of ts) (ir_meaning.operands z.place.classes z.low ts) (all_expressions z.code.sure ts) fit.0 fit.1 (operands w env sc sees)) same;
      told = refl;
    }
      where
        whole : ((usable z).arrays ≡ true) × (((usable z).helper (codes "$A") && (has_base (usable z) r.base && are_countable ts)) ≡ true)
        whole = and_parts (usable z).arrays ((usable z).helper (codes "$A") && (has_base (usable z) r.base && are_countable ts)) h.0.built

        its : ((usable z).helper (codes "$A") ≡ true) × ((has_base (usable z) r.base && are_countable ts) ≡ true)
        its = and_parts ((usable z).helper (codes "$A")) (has_base (usable z) r.base && are_countable ts) whole.1

        more : (has_base (usable z) r.base ≡ true) × (are_countable ts ≡ true)
        more = and_parts (has_base (usable z) r.base) (are_countable ts) its.1

        fit : StandForEach z (element_type r) (types_of ts)
        fit = stand-for-each z lawful ts (element_type r) may h.0.meets

    length_tree : (p : Position) (e : Term) → Kept (array_length p e) → TreeAlike e → TreeAlike (array_length p e)
    length_tree p e h one = record {
      alike = λ w env s sc u sees same. length_alike z lawful (type_of_term e) (ir_meaning.receiving z.place.classes (is_sure env.sure e) z.low (ir_meaning.step z.place.classes z.low e)) (received_text (is_sure z.code.sure e) (expression_of z.code.sure e)) w env s sc u (receiver_alike e one h.0.built w env sc sees) same;
      told = refl;
    }

    item_tree : (p : Position) (e i : Term) (t : IrType) → Kept (array_select p e i t) → TreeAlike e → TreeAlike i → TreeAlike (array_select p e i t)
    item_tree p e i t h one other = record {
      alike = λ w env s sc u sees same. subst (λ k. Sim z.direction (Valued z.place w env k) (ir_meaning.in_order (ir_meaning.receiving z.place.classes (is_sure env.sure e) z.low (ir_meaning.step z.place.classes z.low e) ∷ ir_meaning.step z.place.classes z.low i ∷ []) (ir_meaning.select_item z.place.classes z.low) env s) (shown z (core.element_of (received_text (is_sure z.code.sure e) (expression_of z.code.sure e)) (expression_of z.code.sure i)) sc u)) its.element (item_alike z lawful its.reference its.dimensions built.0 (type_of_term e) (type_of_term i) its.fits (fits-lowest z.place.typing law Int (type_of_term i) refl h.0.meets.1) (ir_meaning.receiving z.place.classes (is_sure env.sure e) z.low (ir_meaning.step z.place.classes z.low e)) (ir_meaning.step z.place.classes z.low i) (received_text (is_sure z.code.sure e) (expression_of z.code.sure e)) (expression_of z.code.sure i) w env s sc u sees.inside (in_front (receiver_alike e one built.1 w env sc sees) (with_tree i other w env sc sees [] [] [] no_operands)) same);
      told = refl;
    }
      where
        built : ((usable z).helper (codes "$get") ≡ true) × (may_check (usable z) scene.sure e ≡ true)
        built = and_parts ((usable z).helper (codes "$get")) (may_check (usable z) scene.sure e) h.0.built

        its : ItemsOf (type_of_term e) t
        its = items-of (type_of_term e) t h.0.finds h.0.meets.0

        in_front : {w : World} {env : ir.Env} {sc : js.Scope} {own : IrType} {q : ir.Run} {x : core.Expression} {ts : List IrType} {rs : List ir.Run} {es : List core.Expression} → OperandsAlike z w env sc (own ∷ []) (q ∷ []) (x ∷ []) → OperandsAlike z w env sc ts rs es → OperandsAlike z w env sc (own ∷ ts) (q ∷ rs) (x ∷ es)
        in_front (more_operands own q x _ _ _ told one no_operands) others = more_operands own q x _ _ _ told one others

    -- a call on a receiver: of a private or a public member, or of a constructor with a value
    receiving_tree : (p : Position) (e : Term) (c : List ℕ) (n : Namespace) (m : MethodName) (ts : Terms) (t : IrType) → Kept (apply_statically p e c n m ts t) → Makes (is_boxed Any e || any_is_boxed m.params ts) → IsNoConstruction (apply_statically p e c n m ts t) → TreeAlike e → (ArgumentsFit z.place.typing (usable z) ts m.params → RowAlike ts) → TreeAlike (apply_statically p e c n m ts t)
    receiving_tree p e c Private m ts t h may v one others = let its = received z.place.typing (usable z) (may_check (usable z) scene.sure) e c Private m ts h.0.built may h.0.finds h.0.meets.2 h.0.meets.3 in receive_tree p e c Private m ts t its h one (others its.arguments)
    receiving_tree p e c Public m ts t h may v one others = let its = received z.place.typing (usable z) (may_check (usable z) scene.sure) e c Public m ts h.0.built may h.0.finds h.0.meets.2 h.0.meets.3 in receive_tree p e c Public m ts t its h one (others its.arguments)
    receiving_tree p e c Constructor m ts t h may v one others = let its = received z.place.typing (usable z) (may_check (usable z) scene.sure) e c Constructor m ts (with_value (usable z) c m t (may_check (usable z) scene.sure e) v h.0.built) may h.0.finds h.0.meets.2 h.0.meets.3 in receive_tree p e c Constructor m ts t its h one (others its.arguments)
    receiving_tree p e c n m ts t h may v one others = impossible h.0.built

    -- a call that is looked up, on a receiver of a hijacked class: what the member does that this class runs, and its text
    applied_tree : (p : Position) (e : Term) (m : MethodName) (ts : Terms) (t : IrType) → (d : Direct z.place.typing (usable z) scene p e m ts t) → TreeAlike (apply_statically p e d.is.direct.class Public m ts t) → TreeAlike (apply p e m ts t)
    applied_tree p e m ts t d one = record {
      alike = λ w env s sc u sees same. by_equal w env t _ _ _ _ ((λ i. ir_meaning.in_order (takes env i ∷ ir_meaning.operands z.place.classes z.low ts) (ir_meaning.call_method z.place.classes z.low (type_of_term e) m m.result) env s) ∙ (λ i. ir_meaning.in_order (ir_meaning.receiving z.place.classes (is_sure env.sure e) z.low (ir_meaning.step z.place.classes z.low e) ∷ ir_meaning.operands z.place.classes z.low ts) (runs i) env s)) (λ i. shown z (written i) sc u) (one.alike w env s sc u sees same);
      told = subst (λ x. tells t (expression_template z.place.name z.place.label (usable z).lookup x) ≡ true) (sym written) one.told;
    }
      where
        runs : ir_meaning.call_method z.place.classes z.low (type_of_term e) m m.result ≡ ir_meaning.call_on z.place.classes z.low (ir_meaning.static_target z.place.classes d.is.direct.class Public m)
        runs = hijacked_call z.place.classes z.low (type_of_term e) m d.is.direct.class d.is.direct.receiver d.is.direct.hijacked d.is.result d.is.named

        takes : (env : ir.Env) → ir_meaning.taking z.place.classes (ir_meaning.class_looked_up (type_of_term e) m.result) (ir_meaning.receiving z.place.classes (is_sure env.sure e) z.low (ir_meaning.step z.place.classes z.low e)) ≡ ir_meaning.receiving z.place.classes (is_sure env.sure e) z.low (ir_meaning.step z.place.classes z.low e)
        takes env = takes_any z.place.classes z.low (type_of_term e) m d.is.direct.class d.is.direct.receiver d.is.direct.hijacked (ir_meaning.receiving z.place.classes (is_sure env.sure e) z.low (ir_meaning.step z.place.classes z.low e))

        written : expression_of z.code.sure (apply p e m ts t) ≡ expression_of z.code.sure (apply_statically p e d.is.direct.class Public m ts t)
        written = ap (λ k. core.receiver_call k (coerced_receiver (type_of_term e) (received_text (is_sure z.code.sure e) (expression_of z.code.sure e))) (expressions_of (coerced_arguments m.params (types_of ts) (all_expressions z.code.sure ts)))) d.is.callee

    -- a call on an instance of a class
    instance_tree : (p : Position) (e : Term) (m : MethodName) (ts : Terms) (t : IrType) → OnInstances z lawful scene e m → t ≡ call_type m.result → ArgumentsFit z.place.typing (usable z) ts m.params → TreeAlike e → (ArgumentsFit z.place.typing (usable z) ts m.params → RowAlike ts) → TreeAlike (apply p e m ts t)
    instance_tree p e m ts t d result may one others = record {
      alike = λ w env s sc u sees same. by_equal w env t _ _ _ _ ((λ i. ir_meaning.in_order (d.takes (received env) i ∷ ir_meaning.operands z.place.classes z.low ts) (ir_meaning.call_method z.place.classes z.low (type_of_term e) m m.result) env s) ∙ (λ i. ir_meaning.in_order (as_instances z d.class (received env) ∷ ir_meaning.operands z.place.classes z.low ts) (d.runs i) env s)) (λ i. shown z (written i) sc u) (subst (λ k. Sim z.direction (Valued z.place w env k) (ir_meaning.in_order (as_instances z d.class (received env) ∷ ir_meaning.operands z.place.classes z.low ts) (ir_meaning.call_instance z.place.classes z.low d.class m) env s) (shown z (core.receiver_call d.way.callee (coerced (class_type d.class) (type_of_term e) receiver) (expressions_of (coerced_arguments m.params (types_of ts) (all_expressions z.code.sure ts)))) sc u)) (sym result) (looked_call_alike z lawful d.class m d.free (stood (class_type d.class) (type_of_term e) d.on.0) d.way (all_stood (types_referred m.params) (types_of ts) fit.0) (received env) (ir_meaning.operands z.place.classes z.low ts) (coerced (class_type d.class) (type_of_term e) receiver) (coerced_arguments m.params (types_of ts) (all_expressions z.code.sure ts)) (stood-fits (class_type d.class) (type_of_term e) d.on.0) (all-stood-fit (types_referred m.params) (types_of ts) fit.0) w env s sc u sees.inside (in_front _ _ _ w env sc _ _ _ (receiver_stood d.class (type_of_term e) d.on _ _ w env sc sees.inside (receiver_alike e one d.checked w env sc sees)) (passed m.params ts fit w env sc sees.inside (others may w env sc sees))) same));
      told = subst (λ x. tells t (expression_template z.place.name z.place.label (usable z).lookup x) ≡ true) (sym written) (d.way.told t (coerced (class_type d.class) (type_of_term e) receiver) (expressions_of (coerced_arguments m.params (types_of ts) (all_expressions z.code.sure ts))));
    }
      where
        fit : StandForAll z (types_referred m.params) (types_of ts)
        fit = stand-for-all z lawful ts m.params may

        receiver : core.Expression
        receiver = received_text (is_sure z.code.sure e) (expression_of z.code.sure e)

        received : ir.Env → ir.Run
        received env = ir_meaning.receiving z.place.classes (is_sure env.sure e) z.low (ir_meaning.step z.place.classes z.low e)

        written : expression_of z.code.sure (apply p e m ts t) ≡ core.receiver_call d.way.callee (coerced (class_type d.class) (type_of_term e) receiver) (expressions_of (coerced_arguments m.params (types_of ts) (all_expressions z.code.sure ts)))
        written = ap (λ k. core.receiver_call k (coerced_receiver (type_of_term e) receiver) (expressions_of (coerced_arguments m.params (types_of ts) (all_expressions z.code.sure ts)))) d.called ∙ ap (λ x. core.receiver_call d.way.callee x (expressions_of (coerced_arguments m.params (types_of ts) (all_expressions z.code.sure ts)))) (receiver-coerced d.class (type_of_term e) receiver)

    -- a call by a reflective name
    named_tree : (p : Position) (e : Term) (m : MethodName) (ts : Terms) (t : IrType) (d : ByName z.place.typing (usable z) scene e m) → t ≡ call_type m.result → MayStand (usable z) (class_type object) (type_of_term e) × ArgumentsFit z.place.typing (usable z) ts m.params → TreeAlike e → (ArgumentsFit z.place.typing (usable z) ts m.params → RowAlike ts) → TreeAlike (apply p e m ts t)
    named_tree p e m ts t d result may one others = record {
      alike = λ w env s sc u sees same. by_equal w env t _ _ _ _ (λ i. ir_meaning.in_order (ir_meaning.taking z.place.classes (ir_meaning.class_looked_up (type_of_term e) (d.is.named i)) (received env) ∷ ir_meaning.operands z.place.classes z.low ts) (ir_meaning.call_method z.place.classes z.low (type_of_term e) m (d.is.named i)) env s) (λ i. shown z (written i) sc u) (subst (λ k. Sim z.direction (Valued z.place w env k) (ir_meaning.in_order (received env ∷ ir_meaning.operands z.place.classes z.low ts) (ir_meaning.call_reflective z.place.classes z.low m) env s) (shown z (core.receiver_call (callees.Reflective m) (coerced Any (type_of_term e) receiver) (expressions_of (coerced_arguments m.params (types_of ts) (all_expressions z.code.sure ts)))) sc u)) (sym (result ∙ ap call_type d.is.named)) (reflected_call_alike z lawful m d.is.there (stood Any (type_of_term e) on.0) (all_stood (types_referred m.params) (types_of ts) fit.0) (received env) (ir_meaning.operands z.place.classes z.low ts) (coerced Any (type_of_term e) receiver) (coerced_arguments m.params (types_of ts) (all_expressions z.code.sure ts)) (stood-fits Any (type_of_term e) on.0) (all-stood-fit (types_referred m.params) (types_of ts) fit.0) w env s sc u sees.inside (in_front _ _ _ w env sc _ _ _ (receiver_stood object (type_of_term e) on _ _ w env sc sees.inside (receiver_alike e one d.checked w env sc sees)) (passed m.params ts fit w env sc sees.inside (others may.1 w env sc sees))) same));
      told = subst (λ x. tells t (expression_template z.place.name z.place.label (usable z).lookup x) ≡ true) (sym written) refl;
    }
      where
        on : StandsFor z Any (type_of_term e)
        on = stands-for z lawful Any (type_of_term e) (to_any refl d.value) may.0

        fit : StandForAll z (types_referred m.params) (types_of ts)
        fit = stand-for-all z lawful ts m.params may.1

        receiver : core.Expression
        receiver = received_text (is_sure z.code.sure e) (expression_of z.code.sure e)

        received : ir.Env → ir.Run
        received env = ir_meaning.receiving z.place.classes (is_sure env.sure e) z.low (ir_meaning.step z.place.classes z.low e)

        written : expression_of z.code.sure (apply p e m ts t) ≡ core.receiver_call (callees.Reflective m) (coerced Any (type_of_term e) receiver) (expressions_of (coerced_arguments m.params (types_of ts) (all_expressions z.code.sure ts)))
        written = ap (λ k. core.receiver_call k (coerced_receiver (type_of_term e) receiver) (expressions_of (coerced_arguments m.params (types_of ts) (all_expressions z.code.sure ts)))) d.is.callee ∙ ap (λ x. core.receiver_call (callees.Reflective m) x (expressions_of (coerced_arguments m.params (types_of ts) (all_expressions z.code.sure ts)))) (receiver-coerced object (type_of_term e) receiver)

    called_tree : (p : Position) (e : Term) (m : MethodName) (ts : Terms) (t : IrType) → Kept (apply p e m ts t) → Makes (is_boxed Any e || any_is_boxed m.params ts) → ((c : List ℕ) → IsSub z.place.typing (type_of_term e) (class_type c) → TreeAlike e) → (ArgumentsFit z.place.typing (usable z) ts m.params → RowAlike ts) → TreeAlike (apply p e m ts t)
    called_tree p e m ts t h may one others = by (applied z.place.typing (usable z) scene p e m ts t h.0)
      where
        by : Applied z.place.typing (usable z) scene p e m ts t → TreeAlike (apply p e m ts t)
        by (directly d) = applied_tree p e m ts t d (receiving_tree p e d.is.direct.class Public m ts t (d.here, h.1, h.2) may tt (one d.is.direct.class (d.is.direct.below z.place.typing)) others)
        by (by_name d) = named_tree p e m ts t d h.0.meets.1 (looked_stand z.place.typing (usable z) e object m ts may h.0.finds h.0.meets.2) (one object (to_any refl d.value)) others
        by (on_array d) = instance_tree p e m ts t (by_array z lawful scene e m d) h.0.meets.1 (looked_stand z.place.typing (usable z) e object m ts may h.0.finds h.0.meets.2).1 (one object (to_any refl (array_valued (type_of_term e) d.array))) others
        by (by_lookup d) = let stand = looked_stand z.place.typing (usable z) e d.is.lookup.class m ts may h.0.finds h.0.meets.2 in instance_tree p e m ts t (by_class z lawful scene e m d stand.0) h.0.meets.1 stand.1 (one d.is.lookup.class (d.is.lookup.below z.place.typing)) others

    mutual
      -- both directions at once: what a plain tree comes to, its expression comes to
      tree_alike : (t : Term) → Kept t → Makes (boxes_as_text t) → is_plain t ≡ true → IsNoConstruction t → TreeAlike t
      tree_alike (if_then p c a b t) h boxed k v =
          let x = and_parts (not (is_no_type t) && is_plain c && is_plain a) (is_plain b) k in
          let y = and_parts (not (is_no_type t) && is_plain c) (is_plain a) x.0 in
          let q = and_parts (not (is_no_type t)) (is_plain c) y.0 in
          let parts = each_made (usable z) (boxes_as_text c) ((is_boxed t a || boxes_as_text a) || (is_boxed t b || boxes_as_text b)) boxed in
          let branches = each_made (usable z) (is_boxed t a || boxes_as_text a) (is_boxed t b || boxes_as_text b) parts.1 in
          let first = each_made (usable z) (is_boxed t a) (boxes_as_text a) branches.0 in
          let second = each_made (usable z) (is_boxed t b) (boxes_as_text b) branches.1 in
          if_tree p c a b t h first.0 second.0 (when_not (is_no_type t) q.0) (tree_alike c h.1 parts.0 q.1 (value_apart z.place.typing (usable z) scene c h.1 (value_below z.place.typing law (type_of_term c) Boolean h.0.meets.0 refl))) (tree_alike a h.2 first.1 y.1 (value_apart z.place.typing (usable z) scene a h.2 (value_yielded a t (when_not (is_no_type t) q.0) h.0.meets.1))) (tree_alike b h.3 second.1 x.1 (value_apart z.place.typing (usable z) scene b h.3 (value_yielded b t (when_not (is_no_type t) q.0) h.0.meets.2)))
      tree_alike (new_object p c m ts) h boxed k v = let parts = each_made (usable z) (any_is_boxed m.params ts) (any_boxes_as_text ts) boxed in new_tree p c m ts h parts.0 (trees_alike ts m.params h.1 parts.1 k (arguments_there z.place.typing (usable z) ts m.params parts.0 h.0.finds h.0.meets.1))
      tree_alike (select p e c f t) h boxed k v = select_tree p e c f t h (tree_alike e h.1 boxed k (value_apart z.place.typing (usable z) scene e h.1 (value_below z.place.typing law (type_of_term e) (class_type c) h.0.meets.0 (class_value c))))
      tree_alike (apply_statically p e c n m ts t) h boxed k v =
          let x = and_parts (is_plain e) (are_plain ts) k in
          let parts = each_made (usable z) (is_boxed Any e || any_is_boxed m.params ts) (boxes_as_text e || any_boxes_as_text ts) boxed in
          let operands = each_made (usable z) (boxes_as_text e) (any_boxes_as_text ts) parts.1 in
          receiving_tree p e c n m ts t h parts.0 v (tree_alike e h.1 operands.0 x.0 (value_apart z.place.typing (usable z) scene e h.1 (value_below z.place.typing law (type_of_term e) (class_type c) h.0.meets.2 (class_value c)))) (trees_alike ts m.params h.2 operands.1 x.1)
      tree_alike (apply p e m ts t) h boxed k v =
          let x = and_parts (is_plain e) (are_plain ts) k in
          let parts = each_made (usable z) (is_boxed Any e || any_is_boxed m.params ts) (boxes_as_text e || any_boxes_as_text ts) boxed in
          let operands = each_made (usable z) (boxes_as_text e) (any_boxes_as_text ts) parts.1 in
          called_tree p e m ts t h parts.0 (λ c on. tree_alike e h.1 operands.0 x.0 (value_apart z.place.typing (usable z) scene e h.1 (value_below z.place.typing law (type_of_term e) (class_type c) on (class_value c)))) (trees_alike ts m.params h.2 operands.1 x.1)
      tree_alike (select_static p c f t) h boxed k v = record { alike = λ w env s sc u sees same. static_alike z lawful.base c f t h.built w env s sc u sees.inside same; told = refl }
      tree_alike (load_module p c) h boxed k v = record { alike = λ w env s sc u sees same. load_alike z lawful c h.built w env s sc u sees.inside same; told = refl }
      tree_alike (this_ref p t) h boxed k v = this_tree p t h
      tree_alike (apply_static p c n m ts t) h boxed k v = let parts = each_made (usable z) (any_is_boxed m.params ts) (any_boxes_as_text ts) boxed in call_tree p c n m ts t h parts.0 (trees_alike ts m.params h.1 parts.1 k (arguments_there z.place.typing (usable z) ts m.params parts.0 h.0.finds h.0.meets.2))
      tree_alike (unary_op p o e) h boxed k v = unary_tree p o e (fits-unary z.place.typing law o (type_of_term e) h.0.meets) (tree_alike e h.1 boxed k (value_apart z.place.typing (usable z) scene e h.1 (value_below z.place.typing law (type_of_term e) (unary_operand o) h.0.meets (value_none (unary_operand o) (unary-operand-value o)))))
      tree_alike (binary_op p o e d) h boxed k v = let x = and_parts (is_plain e) (is_plain d) k in let whole = each_made (usable z) (operands_are_boxed o e d) (boxes_as_text e || boxes_as_text d) boxed in let parts = each_made (usable z) (boxes_as_text e) (boxes_as_text d) whole.1 in operation_tree p o e d h whole.0 (λ v. tree_alike e h.1 parts.0 x.0 (value_apart z.place.typing (usable z) scene e h.1 v)) (λ v. tree_alike d h.2 parts.1 x.1 (value_apart z.place.typing (usable z) scene d h.2 v))
      tree_alike (new_array p r e) h boxed k v = new_array_tree p r e h (tree_alike e h.1 boxed k (value_apart z.place.typing (usable z) scene e h.1 (value_below z.place.typing law (type_of_term e) Int h.0.meets refl)))
      tree_alike (array_value p r ts) h boxed k v = let parts = each_made (usable z) (any_item_boxed (element_type r) ts) (any_boxes_as_text ts) boxed in array_tree_of p r ts h parts.0 (items_alike ts (element_type r) (value_none (element_type r) (element-value r)) h.1 parts.1 k h.0.meets)
      tree_alike (array_length p e) h boxed k v = length_tree p e h (tree_alike e h.1 boxed k (value_apart z.place.typing (usable z) scene e h.1 (array-value (type_of_term e) h.0.meets)))
      tree_alike (array_select p e i t) h boxed k v =
          let x = and_parts (is_plain e) (is_plain i) k in
          let parts = each_made (usable z) (boxes_as_text e) (boxes_as_text i) boxed in
          item_tree p e i t h (tree_alike e h.1 parts.0 x.0 (value_apart z.place.typing (usable z) scene e h.1 (items-value (type_of_term e) t h.0.meets.0))) (tree_alike i h.2 parts.1 x.1 (value_apart z.place.typing (usable z) scene i h.2 (value_below z.place.typing law (type_of_term i) Int h.0.meets.1 refl)))
      tree_alike (is_instance_of p e t) h boxed k v = let parts = each_made (usable z) (is_boxed Any e) (boxes_as_text e) boxed in test_tree p e t h (standing_any e parts.0 h.0.meets.1) (tree_alike e h.1 parts.1 k (value_apart z.place.typing (usable z) scene e h.1 (value_below z.place.typing law (type_of_term e) Any h.0.meets.1 refl)))
      tree_alike (as_instance_of p e t) h boxed k v = let parts = each_made (usable z) (is_boxed Any e) (boxes_as_text e) boxed in cast_tree p e t h (standing_any e parts.0 h.0.meets.1) (tree_alike e h.1 parts.1 k (value_apart z.place.typing (usable z) scene e h.1 (value_below z.place.typing law (type_of_term e) Any h.0.meets.1 refl)))
      tree_alike (undefined_literal p) h boxed k v = record { alike = λ w env s sc u sees same. literal_alike w env Undefined s u ir.undefined js.undefined same_undefined refl tt same; told = refl }
      tree_alike (null_literal p) h boxed k v = record { alike = λ w env s sc u sees same. literal_alike w env Null s u ir.null js.null same_null refl tt same; told = refl }
      tree_alike (boolean_literal p b) h boxed k v = record { alike = λ w env s sc u sees same. literal_alike w env Boolean s u (ir.boolean b) (js.boolean b) (same_boolean b) refl tt same; told = refl }
      tree_alike (char_literal p n) h boxed k v = record { alike = λ w env s sc u sees same. number_alike w env Char s sc u (ir.char n) (pos n) (unit_is_int n h.finds) (same_char refl n h.finds) refl tt same; told = refl }
      tree_alike (byte_literal p n) h boxed k v = record { alike = λ w env s sc u sees same. number_alike w env Byte s sc u (ir.number n) n h.finds (same_number n h.finds) refl tt same; told = refl }
      tree_alike (short_literal p n) h boxed k v = record { alike = λ w env s sc u sees same. number_alike w env Short s sc u (ir.number n) n h.finds (same_number n h.finds) refl tt same; told = refl }
      tree_alike (int_literal p n) h boxed k v = record { alike = λ w env s sc u sees same. number_alike w env Int s sc u (ir.number n) n h.finds (same_number n h.finds) refl tt same; told = refl }
      tree_alike (long_literal p n) h boxed k v = record { alike = λ w env s sc u sees same. long_alike w env s sc u n h.finds same; told = refl }
      tree_alike (string_literal p us) h boxed k v = record { alike = λ w env s sc u sees same. literal_alike w env String s u (ir.text us) (js.text us) (same_text us) refl tt same; told = refl }
      tree_alike (var_ref p x t) h boxed k v = record { alike = λ w env s sc u sees same. local_alike w env t s u (env.locals x) (sc.bindings (z.place.name (core.named x))) (js_meaning.top_cell (owner z.place.program sc.file (z.place.name (core.named x))) (z.place.name (core.named x)) u) (sees.locals x t (seen x t (there scene x t h.finds))) same; told = refl }
      tree_alike (var_def p x t b e) h boxed k v = impossible k
      tree_alike (skip p) h boxed k v = impossible k
      tree_alike (block_of p ts) h boxed k v = impossible k
      tree_alike (labeled p l t e) h boxed k v = impossible k
      tree_alike (assign p e d) h boxed k v = impossible k
      tree_alike (return_to p e l) h boxed k v = impossible k
      tree_alike (while_loop p c b) h boxed k v = impossible k
      tree_alike (do_while p b c) h boxed k v = impossible k
      tree_alike (throw p e) h boxed k v = impossible k
      tree_alike (try_catch p e x d t) h boxed k v = impossible k
      tree_alike (try_finally p e d) h boxed k v = impossible k
      tree_alike (store_module p c e) h boxed k v = impossible k
      tree_alike (match_on p e cs d t) h boxed k v = impossible k
      tree_alike (log_line p e) h boxed k v = impossible k

      trees_alike : (ts : Terms) (rs : List TypeRef) → TypedAll z.place.typing (usable z) scene ts → Makes (any_boxes_as_text ts) → are_plain ts ≡ true → ArgumentsFit z.place.typing (usable z) ts rs → RowAlike ts
      trees_alike no_terms rs h boxed k fit w env sc sees = no_operands
      trees_alike (more_terms t ts) [] h boxed k fit w env sc sees = absurd fit
      trees_alike (more_terms t ts) (r ∷ rs) h boxed k fit w env sc sees = let x = and_parts (is_plain t) (are_plain ts) k in let parts = each_made (usable z) (boxes_as_text t) (any_boxes_as_text ts) boxed in with_tree t (tree_alike t h.0 parts.0 x.0 (value_apart z.place.typing (usable z) scene t h.0 (value_below z.place.typing law (type_of_term t) (reference_type r) fit.0.0 (value_none (reference_type r) fit.1)))) w env sc sees _ _ _ (trees_alike ts rs h.1 parts.1 x.1 fit.2 w env sc sees)

      -- items, each of which has a value
      items_alike : (ts : Terms) (t : IrType) → is_no_type t ≡ false → TypedAll z.place.typing (usable z) scene ts → Makes (any_boxes_as_text ts) → are_plain ts ≡ true → AllFit z.place.typing ts t → RowAlike ts
      items_alike no_terms t n h boxed k fit w env sc sees = no_operands
      items_alike (more_terms e ts) t n h boxed k fit w env sc sees = let x = and_parts (is_plain e) (are_plain ts) k in let parts = each_made (usable z) (boxes_as_text e) (any_boxes_as_text ts) boxed in with_tree e (tree_alike e h.0 parts.0 x.0 (value_apart z.place.typing (usable z) scene e h.0 (value_below z.place.typing law (type_of_term e) t fit.0 n))) w env sc sees _ _ _ (items_alike ts t n h.1 parts.1 x.1 fit.1 w env sc sees)

  pub plain_alike : (t : Term) → Plain z.place.typing (usable z) z.code scope t → TreeAlike t
  plain_alike t p = tree_alike p.scene p.seen p.surely p.owned t p.typed p.boxed p.plain p.apart
