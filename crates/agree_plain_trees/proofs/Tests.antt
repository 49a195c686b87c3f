-- Tests, casts and identity: operands as values of any type, and then the calls of what tests, casts and compares them.
use Rattle.std.proofs.Common.{◌≡◌, Bool, true, false, [], ◌∷◌, refl, sym, ap, ◌∙◌, subst}
use Rattle.std.specs.Prelude.{not}
use Rattle.outcomes.specs.Outcome.{Out, done, then_do}
use Rattle.outcomes.specs.Agreement.{Sim}
use Rattle.outcomes.proofs.Sequence.{then_do-right}
use Rattle.outcomes.proofs.Simulation.{sim_done, sim_then, sim_weaken}
use Rattle.agree_body_rules.specs.Built.{can_cast, compares}
use Rattle.sj_emit_help_spec.specs.declared.kinds.Helper.TheVariants.{Equal}
use Rattle.ir_mean.specs.Meaning as ir_meaning
use Rattle.ir_mean.specs.Operators as ir_operators
use Rattle.ir_mean.specs.States as ir
use Rattle.ir_mean.specs.World as ir_world
use Rattle.js_mean.specs.Meaning as js_meaning
use Rattle.js_mean.specs.States as js
use Rattle.js_tree.specs.Terms as tree
use Rattle.sj_core.specs.Terms as core
use Rattle.agree_body_rules.specs.Coercions.{coerced}
use Rattle.agree_body_rules.specs.Texts.{operand_of}
use Rattle.agree_body_rules.specs.Templates.{binary_template}
use Rattle.agree_body_rules.specs.Tests.{test_name, cast_name, test_template, cast_template, same_template, call_of_one}
use Rattle.sj_names.proofs.Same.{impossible}
use Rattle.sj_trees.specs.TypeOf.{binary_result}
use Rattle.sj_trees.specs.declared.operators.BinaryOp.{BinaryOp}
use Rattle.sj_trees.specs.declared.operators.BinaryOp.TheVariants.{StrictEqual, StrictNotEqual}
use Rattle.sj_trees.specs.declared.operators.UnaryOp.TheVariants.{BooleanNot}
use Rattle.sj_trees.specs.declared.types.IrType.{IrType}
use Rattle.sj_trees.specs.declared.types.IrType.TheVariants.{Any, Boolean, Char, Array}
use Rattle.agree_body_rules.specs.Operators.{IsIdentity, a_sameness, a_difference}
use Rattle.agree_body_rules.specs.Standing.{Fits, MayStand, is_array_type}
use Rattle.agree_plain_trees.specs.Settings.{Setting, usable, shown, SameState, Valued, valued, thrown, Lawful, Inside, HasFunction, CastsAlike, a_test, a_cast, a_helper, top_function}
use Rattle.agree_plain_trees.specs.Standing.{suits, Takes}
use Rattle.agree_plain_trees.proofs.Boxes.{stood, stood-fits, takes-any, both_stood, may-box}
use Rattle.agree_plain_trees.proofs.Orders.{ActsAlike, OperandAlike, OperandsAlike, no_operands, more_operands, text_of, in_order_alike, in_order-then, valued-weaken}
use Rattle.agree_plain_trees.proofs.Told.{tells, tells-any}
use Rattle.agree_plain_trees.proofs.Tops.{top_seen}
use Rattle.agree_plain_trees.proofs.Worlds.{World, grows-refl, Stands, same_boolean, value-fits, no_values, one_more}

-- what identity gives of two values of any kinds
pub same_is : (v w : ir.Value) → ir_operators.binary_value StrictEqual v w ≡ ir_operators.answers (ir.boolean (ir_operators.is_same_value v w))
same_is (ir.boolean a) (ir.boolean b) = refl
same_is (ir.number a) (ir.number b) = refl
same_is (ir.long a) (ir.long b) = refl
same_is (ir.long a) (ir.number b) = refl
same_is v w = refl

other_is : (v w : ir.Value) → ir_operators.binary_value StrictNotEqual v w ≡ ir_operators.answers (ir.boolean (not (ir_operators.is_same_value v w)))
other_is (ir.boolean a) (ir.boolean b) = refl
other_is (ir.number a) (ir.number b) = refl
other_is (ir.long a) (ir.long b) = refl
other_is (ir.long a) (ir.number b) = refl
other_is v w = refl

-- a cast to any gives the value
any_is : (w : ir_world.World) (s : ir.State) (v : ir.Value) → ir_meaning.cast_answer w Any s v ≡ ir_operators.answers v
any_is w s ir.null = refl
any_is w s v = refl

test_called : (t : IrType) → HasFunction t → (e : tree.Expression) → test_template t e ≡ call_of_one (test_name t) e
test_called Any h e = absurd h
test_called (Array r) h e = absurd h
test_called t h e = refl

cast_called : (t : IrType) → HasFunction t → (e : tree.Expression) → cast_template t e ≡ call_of_one (cast_name t) e
cast_called Any h e = absurd h
cast_called (Array r) h e = absurd h
cast_called t h e = refl

module _ (z : Setting) (lawful : Lawful z) where
  -- a call of a function at the top with one expression
  abbrev call_shown : js.Value → core.Expression → js.Scope → js.State → Out js.ExpressionEnd
  call_shown fun e sc u = js_meaning.in_order (shown z e ∷ []) (js_meaning.call z.place.program z.js_low fun) sc u

  abbrev One : World → ir.Env → js.Scope → IrType → ir.Run → core.Expression → Type 0
  One w env sc own r e = OperandsAlike z w env sc (own ∷ []) (r ∷ []) (e ∷ [])

  test_acts : (t own : IrType) → is_array_type t ≡ false → (usable z).tests t ≡ true → Fits Any own → (base : World) (env : ir.Env) (sc : js.Scope) → ActsAlike z base base env (own ∷ []) Boolean (ir_meaning.test z.place.classes t) (js_meaning.call z.place.program z.js_low (top_function z.place (a_test t))) sc
  test_acts t own other has f base env sc y _ _ s u g (one_more _ v x _ _ _ a no_values) same = sim_weaken z.direction (Valued z.place y env Boolean) (Valued z.place base env Boolean) _ _ (λ a b. valued-weaken z base y env Boolean a b g) ((lawful.tests t other has).1 y v x env s u (value-fits y Any own v x f a) same)

  -- a test of an operand that may stand for any
  pub test_alike : (t own : IrType) → is_array_type t ≡ false → (usable z).tests t ≡ true → Fits Any own → (r : ir.Run) (e : core.Expression) (w : World) (env : ir.Env) (s : ir.State) (sc : js.Scope) (u : js.State) → Inside z.place z.code sc → One w env sc own r e → SameState z.place w s u → Sim z.direction (Valued z.place w env Boolean) (ir_meaning.in_order (r ∷ []) (ir_meaning.test z.place.classes t) env s) (shown z (core.test_of t e) sc u)
  test_alike t own other has f r e w env s sc u inside operand same = subst (λ o. Sim z.direction (Valued z.place w env Boolean) (ir_meaning.in_order (r ∷ []) (ir_meaning.test z.place.classes t) env s) o) (sym js_is) (in_order_alike z w w env sc w (own ∷ []) Boolean (r ∷ []) (e ∷ []) (ir_meaning.test z.place.classes t) (js_meaning.call z.place.program z.js_low fun) operand (test_acts t own other has f w env sc) w s u (grows-refl w) (grows-refl w) (grows-refl w) same)
    where
      fun : js.Value
      fun = top_function z.place (a_test t)

      js_is : shown z (core.test_of t e) sc u ≡ call_shown fun e sc u
      js_is = ap (λ c. js_meaning.evaluate z.place.program z.js_low c sc u) (test_called t (lawful.tests t other has).0 (text_of z e)) ∙ ap (λ o. then_do o (js.with_value (λ g. js_meaning.in_order (shown z e ∷ []) (js_meaning.call z.place.program z.js_low g) sc))) (top_seen z lawful.base (a_test t) fun sc u has inside (same.tops z.code.file (a_test t) has))

  cast_acts : (t own : IrType) → CastsAlike z t → Fits Any own → (base : World) (env : ir.Env) (sc : js.Scope) → ActsAlike z base base env (own ∷ []) t (ir_meaning.cast z.place.classes z.low t) (js_meaning.call z.place.program z.js_low (top_function z.place (a_cast t))) sc
  cast_acts t own casts f base env sc y _ _ s u g (one_more _ v x _ _ _ a no_values) same = sim_weaken z.direction (Valued z.place y env t) (Valued z.place base env t) _ _ (λ a b. valued-weaken z base y env t a b g) (casts y v x env s u (value-fits y Any own v x f a) same)

  called_cast : (t own : IrType) → is_array_type t ≡ false → (usable z).casts t ≡ true → Fits Any own → (r : ir.Run) (e : core.Expression) (w : World) (env : ir.Env) (s : ir.State) (sc : js.Scope) (u : js.State) → Inside z.place z.code sc → One w env sc own r e → SameState z.place w s u → Sim z.direction (Valued z.place w env t) (ir_meaning.in_order (r ∷ []) (ir_meaning.cast z.place.classes z.low t) env s) (shown z (core.cast_of t e) sc u)
  called_cast t own other has f r e w env s sc u inside operand same = subst (λ o. Sim z.direction (Valued z.place w env t) (ir_meaning.in_order (r ∷ []) (ir_meaning.cast z.place.classes z.low t) env s) o) (sym js_is) (in_order_alike z w w env sc w (own ∷ []) t (r ∷ []) (e ∷ []) (ir_meaning.cast z.place.classes z.low t) (js_meaning.call z.place.program z.js_low fun) operand (cast_acts t own (lawful.casts t other has).1 f w env sc) w s u (grows-refl w) (grows-refl w) (grows-refl w) same)
    where
      fun : js.Value
      fun = top_function z.place (a_cast t)

      js_is : shown z (core.cast_of t e) sc u ≡ call_shown fun e sc u
      js_is = ap (λ c. js_meaning.evaluate z.place.program z.js_low c sc u) (cast_called t (lawful.casts t other has).0 (text_of z e)) ∙ ap (λ o. then_do o (js.with_value (λ g. js_meaning.in_order (shown z e ∷ []) (js_meaning.call z.place.program z.js_low g) sc))) (top_seen z lawful.base (a_cast t) fun sc u has inside (same.tops z.code.file (a_cast t) has))

  any_cast : (own : IrType) → Fits Any own → (r : ir.Run) (e : core.Expression) (w : World) (env : ir.Env) (s : ir.State) (sc : js.Scope) (u : js.State) → One w env sc own r e → SameState z.place w s u → Sim z.direction (Valued z.place w env Any) (ir_meaning.in_order (r ∷ []) (ir_meaning.cast z.place.classes z.low Any) env s) (shown z e sc u)
  any_cast own f r e w env s sc u operand same = subst (λ o. Sim z.direction (Valued z.place w env Any) (ir_meaning.in_order (r ∷ []) (ir_meaning.cast z.place.classes z.low Any) env s) o) (then_do-right (shown z e sc u)) (sim_then z.direction (Valued z.place w env own) (Valued z.place w env Any) (r env s) (shown z e sc u) (ir.onward (λ v. ir_meaning.cast z.place.classes z.low Any (v ∷ []))) done (alike operand w s u (grows-refl w) same) each)
    where
      alike : One w env sc own r e → OperandAlike z w env sc own r (shown z e)
      alike (more_operands _ _ _ _ _ _ told one no_operands) = one

      each : (a : ir.Ended) (b : js.ExpressionEnd) → Valued z.place w env own a b → Sim z.direction (Valued z.place w env Any) (ir.onward (λ v. ir_meaning.cast z.place.classes z.low Any (v ∷ [])) a) (done b)
      each _ _ (valued y v x k q g a states) = subst (λ o. Sim z.direction (Valued z.place w env Any) (ir_meaning.answered z.place.classes z.low o env k) (done (js.gives x q))) (sym (any_is z.place.classes k v)) (sim_done z.direction (Valued z.place w env Any) (ir.ends (ir.gives v) env k) (js.gives x q) (valued y v x k q g (value-fits y Any own v x f a) states))
      each _ _ (thrown y v x k q g a states) = sim_done z.direction (Valued z.place w env Any) (ir.ends (ir.throws v) env k) (js.throws x q) (thrown y v x k q g a states)

  -- a cast of an operand that may stand for any
  pub cast_alike : (t own : IrType) → is_array_type t ≡ false → can_cast (usable z) t ≡ true → Fits Any own → (r : ir.Run) (e : core.Expression) (w : World) (env : ir.Env) (s : ir.State) (sc : js.Scope) (u : js.State) → Inside z.place z.code sc → One w env sc own r e → SameState z.place w s u → Sim z.direction (Valued z.place w env t) (ir_meaning.in_order (r ∷ []) (ir_meaning.cast z.place.classes z.low t) env s) (shown z (core.cast_of t e) sc u)
  cast_alike Any own other has f r e w env s sc u inside operand same = any_cast own f r e w env s sc u operand same
  cast_alike t own other has f r e w env s sc u inside operand same = called_cast t own other has f r e w env s sc u inside operand same

  abbrev equal : js.Value
  equal = top_function z.place (a_helper Equal)

  same_acts : (left right : IrType) → compares (usable z) ≡ true → Fits Any left → Fits Any right → (base : World) (env : ir.Env) (sc : js.Scope) → ActsAlike z base base env (left ∷ right ∷ []) Boolean (ir_meaning.binary z.place.classes z.low StrictEqual) (js_meaning.call z.place.program z.js_low equal) sc
  same_acts left right has f g base env sc y _ _ s u grown (one_more _ v x _ _ _ a (one_more _ v' x' _ _ _ b no_values)) same = sim_weaken z.direction (Valued z.place y env Boolean) (Valued z.place base env Boolean) _ _ (λ a b. valued-weaken z base y env Boolean a b grown) (lawful.compares has y v v' x x' env s u (value-fits y Any left v x f a) (value-fits y Any right v' x' g b) same)

  -- a value that is negated
  abbrev turned : ir.Ended → Out ir.Ended
  turned = ir.onward (λ v. ir_meaning.unary z.place.classes z.low BooleanNot (v ∷ []))

  turned_alike : (base : World) (env : ir.Env) (sc : js.Scope) (a : ir.Ended) (b : js.ExpressionEnd) → Valued z.place base env Boolean a b → Sim z.direction (Valued z.place base env Boolean) (turned a) (js.with_value (λ v. js_meaning.negated (v ∷ []) sc) b)
  turned_alike base env sc _ _ (valued y v x s u g a states) = by v x a.stands a.suits
    where
      by : (v : ir.Value) (x : js.Value) → Stands y false v x → suits Boolean v ≡ true → Sim z.direction (Valued z.place base env Boolean) (turned (ir.ends (ir.gives v) env s)) (js_meaning.negated (x ∷ []) sc u)
      by _ _ (same_boolean b) h = sim_done z.direction (Valued z.place base env Boolean) (ir.ends (ir.gives (ir.boolean (not b))) env s) (js.gives (js.boolean (not b)) u) (valued y (ir.boolean (not b)) (js.boolean (not b)) s u g (record { stands = same_boolean (not b); suits = refl; shaped = tt }) states)
      by _ _ _ h = impossible h
  turned_alike base env sc _ _ (thrown y v x s u g a states) = sim_done z.direction (Valued z.place base env Boolean) (ir.ends (ir.throws v) env s) (js.throws x u) (thrown y v x s u g a states)

  other_acts : (left right : IrType) → compares (usable z) ≡ true → Fits Any left → Fits Any right → (base : World) (env : ir.Env) (sc : js.Scope) → ActsAlike z base base env (left ∷ right ∷ []) Boolean (ir_meaning.binary z.place.classes z.low StrictNotEqual) (λ xs k u. then_do (js_meaning.call z.place.program z.js_low equal xs k u) (js.with_value (λ v. js_meaning.negated (v ∷ []) sc))) sc
  other_acts left right has f g base env sc y _ _ s u grown (one_more _ v x _ _ _ a (one_more _ v' x' _ _ _ b no_values)) same = subst (λ o. Sim z.direction (Valued z.place base env Boolean) o (then_do equals (js.with_value (λ v. js_meaning.negated (v ∷ []) sc)))) (sym ir_is) (sim_then z.direction (Valued z.place base env Boolean) (Valued z.place base env Boolean) (ir_meaning.answered z.place.classes z.low (ir_operators.binary_value StrictEqual v v') env s) equals turned (js.with_value (λ v. js_meaning.negated (v ∷ []) sc)) (same_acts left right has f g base env sc y (v ∷ v' ∷ []) (x ∷ x' ∷ []) s u grown (one_more left v x (right ∷ []) (v' ∷ []) (x' ∷ []) a (one_more right v' x' [] [] [] b no_values)) same) (turned_alike base env sc))
    where
      equals : Out js.ExpressionEnd
      equals = js_meaning.call z.place.program z.js_low equal (x ∷ x' ∷ []) sc u

      ir_is : ir_meaning.answered z.place.classes z.low (ir_operators.binary_value StrictNotEqual v v') env s ≡ then_do (ir_meaning.answered z.place.classes z.low (ir_operators.binary_value StrictEqual v v') env s) turned
      ir_is = ap (λ o. ir_meaning.answered z.place.classes z.low o env s) (other_is v v') ∙ sym (ap (λ o. then_do (ir_meaning.answered z.place.classes z.low o env s) turned) (same_is v v'))

  compared_shown : compares (usable z) ≡ true → (w : World) (s : ir.State) (sc : js.Scope) (u : js.State) → Inside z.place z.code sc → SameState z.place w s u → (e d : core.Expression) → js_meaning.evaluate z.place.program z.js_low (same_template (text_of z e) (text_of z d)) sc u ≡ js_meaning.in_order (shown z e ∷ shown z d ∷ []) (js_meaning.call z.place.program z.js_low equal) sc u
  compared_shown has w s sc u inside same e d = ap (λ o. then_do o (js.with_value (λ g. js_meaning.in_order (shown z e ∷ shown z d ∷ []) (js_meaning.call z.place.program z.js_low g) sc))) (top_seen z lawful.base (a_helper Equal) equal sc u has inside (same.tops z.code.file (a_helper Equal) has))

  -- identity of operands of any types
  pub compared_alike : (o : BinaryOp) → IsIdentity o → compares (usable z) ≡ true → (left right : IrType) → MayStand (usable z) Any left → MayStand (usable z) Any right → (r q : ir.Run) (e d : core.Expression) (w : World) (env : ir.Env) (s : ir.State) (sc : js.Scope) (u : js.State) → Inside z.place z.code sc → OperandsAlike z w env sc (left ∷ right ∷ []) (r ∷ q ∷ []) (e ∷ d ∷ []) → SameState z.place w s u → Sim z.direction (Valued z.place w env (binary_result o)) (ir_meaning.in_order (r ∷ q ∷ []) (ir_meaning.binary z.place.classes z.low o) env s) (shown z (core.binary_of o (operand_of o left e) (operand_of o right d)) sc u)
  compared_alike o i has left right may also r q e d w env s sc u inside operands same = by o i
    where
      first : Takes Any left
      first = takes-any left

      second : Takes Any right
      second = takes-any right

      brought : OperandsAlike z w env sc (stood Any left first ∷ stood Any right second ∷ []) (r ∷ q ∷ []) (coerced Any left e ∷ coerced Any right d ∷ [])
      brought = both_stood z lawful.base w env sc inside Any left right first second (may-box z lawful Any left may) (may-box z lawful Any right also) r q e d operands

      negates : js.Value → js.State → Out js.ExpressionEnd
      negates v = js_meaning.negated (v ∷ []) sc

      shown_is : js_meaning.evaluate z.place.program z.js_low (same_template (text_of z (coerced Any left e)) (text_of z (coerced Any right d))) sc u ≡ js_meaning.in_order (shown z (coerced Any left e) ∷ shown z (coerced Any right d) ∷ []) (js_meaning.call z.place.program z.js_low equal) sc u
      shown_is = compared_shown has w s sc u inside same (coerced Any left e) (coerced Any right d)

      by : (o : BinaryOp) → IsIdentity o → Sim z.direction (Valued z.place w env (binary_result o)) (ir_meaning.in_order (r ∷ q ∷ []) (ir_meaning.binary z.place.classes z.low o) env s) (shown z (core.binary_of o (operand_of o left e) (operand_of o right d)) sc u)
      by _ a_sameness = subst (λ p. Sim z.direction (Valued z.place w env Boolean) (ir_meaning.in_order (r ∷ q ∷ []) (ir_meaning.binary z.place.classes z.low StrictEqual) env s) p) (sym shown_is) (in_order_alike z w w env sc w (stood Any left first ∷ stood Any right second ∷ []) Boolean (r ∷ q ∷ []) (coerced Any left e ∷ coerced Any right d ∷ []) (ir_meaning.binary z.place.classes z.low StrictEqual) (js_meaning.call z.place.program z.js_low equal) brought (same_acts (stood Any left first) (stood Any right second) has (stood-fits Any left first) (stood-fits Any right second) w env sc) w s u (grows-refl w) (grows-refl w) (grows-refl w) same)
      by _ a_difference = subst (λ p. Sim z.direction (Valued z.place w env Boolean) (ir_meaning.in_order (r ∷ q ∷ []) (ir_meaning.binary z.place.classes z.low StrictNotEqual) env s) p) (sym (ap (λ o. then_do o (js.with_value negates)) shown_is ∙ in_order-then (shown z (coerced Any left e) ∷ shown z (coerced Any right d) ∷ []) (js_meaning.call z.place.program z.js_low equal) negates sc u)) (in_order_alike z w w env sc w (stood Any left first ∷ stood Any right second ∷ []) Boolean (r ∷ q ∷ []) (coerced Any left e ∷ coerced Any right d ∷ []) (ir_meaning.binary z.place.classes z.low StrictNotEqual) (λ xs k u. then_do (js_meaning.call z.place.program z.js_low equal xs k u) (js.with_value negates)) brought (other_acts (stood Any left first) (stood Any right second) has (stood-fits Any left first) (stood-fits Any right second) w env sc) w s u (grows-refl w) (grows-refl w) (grows-refl w) same)

  -- what the texts tell of their types
  any_told : (own : IrType) (e : core.Expression) → tells own (text_of z e) ≡ true → tells Any (text_of z (coerced Any own e)) ≡ true
  any_told Char e h = refl
  any_told own e h = tells-any own (text_of z e) h

  pub cast_told : (t own : IrType) (e : core.Expression) → tells own (text_of z e) ≡ true → tells t (text_of z (core.cast_of t (coerced Any own e))) ≡ true
  cast_told Any own e h = any_told own e h
  cast_told t own e h = refl

  pub test_told : (t : IrType) (e : core.Expression) → tells Boolean (text_of z (core.test_of t e)) ≡ true
  test_told Any e = refl
  test_told t e = refl

  pub identity_told : (o : BinaryOp) → IsIdentity o → (b : Bool) (e g : tree.Expression) → tells (binary_result o) (binary_template b o e g) ≡ true
  identity_told _ a_sameness b e g = refl
  identity_told _ a_difference b e g = refl
