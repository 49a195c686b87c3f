-- The helpers of divisions: what each computes, and what it throws where its divisor is zero.
use Rattle.std.proofs.Common.{◌≡◌, ℕ, zero, suc, Bool, true, false, [], ◌∷◌, Some, None, Option, refl, sym, ap, ◌∙◌, subst}
use Rattle.std.specs.Prelude.{codes, ℤ, pos, negsuc}
use Rattle.std.specs.Ordering.{int_eq}
use Rattle.std.proofs.lemmas.Bool.Decides.{Decides-int_eq}
use Rattle.outcomes.specs.Outcome.{Out, done, then_do}
use Rattle.outcomes.specs.Agreement.{Direction, Sim}
use Rattle.outcomes.proofs.Sequence.{then_do-right}
use Rattle.outcomes.proofs.Simulation.{sim_done, sim_then}
use Rattle.agree_bodies.specs.Built.{Usable, divides}
use Rattle.dispatch_laws.specs.Meaning as ir_meaning
use Rattle.dispatch_laws.specs.Operators as ir_operators
use Rattle.dispatch_laws.specs.States as ir
use Rattle.js_mean.specs.Files.{owner}
use Rattle.js_mean.specs.Meaning as js_meaning
use Rattle.js_mean.specs.Operators as js_operators
use Rattle.js_mean.specs.States as js
use Rattle.js_tree.specs.Terms as tree
use Rattle.js_tree.specs.Terms.{Name}
use Rattle.js_tree.specs.Views.{statements_of}
use Rattle.js_tree.specs.declared.operators.BinaryOperator.TheVariants as Op
use Rattle.array_code.specs.Helpers.{helper_name, does, calls, num, or_zero, operation, wrapped}
use Rattle.agree_bodies.specs.Helper.{Helper}
use Rattle.array_code.specs.HelperVariants.{Throws}
use Rattle.array_code.specs.FailureVariants.{Division}
use Rattle.sj_names.proofs.Same.{impossible}
use Rattle.sj_trees.specs.TypeOf.{binary_result}
use Rattle.sj_trees.specs.declared.operators.BinaryOp.{BinaryOp}
use Rattle.sj_trees.specs.declared.operators.BinaryOp.TheVariants.{IntDivide, IntRemainder, LongDivide, LongRemainder}
use Rattle.sj_trees.specs.declared.types.IrType.{IrType}
use Rattle.sj_trees.specs.declared.types.IrType.TheVariants.{Int, Long}
use Rattle.agree_bodies.specs.Rules.{left_operand, right_operand}
use Rattle.agree_bodies.specs.Operators.{IsDivision, a_quotient, a_remainder, IsLongDivision, a_long_quotient, a_long_remainder}
use Rattle.agree_bodies.specs.Settings.{Place, Setting, SameState, Valued, thrown, a_helper, division_helper, top_function, top_call}
use Rattle.agree_bodies.proofs.Divisions.{over_int, over_long, divided_alike, long_divided_alike}
use Rattle.agree_bodies.proofs.Operators.{GivenIf}
use Rattle.agree_bodies.proofs.Shifts.{IsLong, a_long, IsInt, an_int, as_long, as_int}
use Rattle.agree_bodies.proofs.Templates.{value_alike, wrapped_next}
use Rattle.agree_bodies.proofs.Worlds.{World, grows-refl, SameValue}
use Rattle.agree_calls.specs.Helpers.{dividing_code, division_code, Failed, failed_so}
use Rattle.agree_calls.specs.Worlds.{CanDivide}
use Rattle.agree_calls.proofs.Helps.{FailsAt, five_grouped, in_helper}

abbrev ae : Helper
ae = Throws Division

no_zero : (n : ℤ) → (n ≡ pos 0 → ⊥) → int_eq n (pos 0) ≡ false
no_zero n ne = go (int_eq n (pos 0)) refl
  where
    go : (b : Bool) → int_eq n (pos 0) ≡ b → b ≡ false
    go false e = refl
    go true e = absurd (ne ((Decides-int_eq n (pos 0)).0 e))

abbrev failing_block : tree.Statements
failing_block = statements_of (does (calls ae []) ∷ [])

module _ (p : Place) (h : Helper) where
  abbrev scope : tree.Expression → tree.Expression → js.Value → js.Value → js.Scope
  scope nought result x x' = js_meaning.function_scope (p.home (a_helper h)) (dividing_code nought result) (x ∷ x' ∷ [])

  abbrev run : ℕ → tree.Expression → tree.Expression → js.Value → js.Value → js.State → Out js.ExpressionEnd
  run m nought result x x' u = js_meaning.code_call (js_meaning.below p.program (suc m)) (p.home (a_helper h)) (Some (dividing_code nought result)) (x ∷ x' ∷ []) u

  -- by zero the other helper is called, which throws
  abbrev behind_failure : js_meaning.Low → tree.Expression → js.Scope → js.ExpressionEnd → Out js.ExpressionEnd
  behind_failure low result sc b = then_do (then_do (then_do (then_do (js.in_statement (js_meaning.enter failing_block sc) (λ v. js_meaning.nothing (js_meaning.enter failing_block sc)) b) (js.next_statement js_meaning.nothing)) (js_meaning.leaving failing_block sc)) (js.next_statement (js_meaning.execute_all p.program low (statements_of (tree.return_of result ∷ []))))) js_meaning.returned

  abbrev around : ℕ → tree.Expression → js.Scope → Out js.ExpressionEnd → Out js.ExpressionEnd
  around m result sc o = then_do (then_do (then_do (then_do (then_do (then_do o (js.with_value (λ f. js_meaning.in_order [] (js_meaning.call p.program (js_meaning.below p.program m) f) (js_meaning.enter failing_block sc)))) (js.in_statement (js_meaning.enter failing_block sc) (λ v. js_meaning.nothing (js_meaning.enter failing_block sc)))) (js.next_statement js_meaning.nothing)) (js_meaning.leaving failing_block sc)) (js.next_statement (js_meaning.execute_all p.program (js_meaning.below p.program m) (statements_of (tree.return_of result ∷ []))))) js_meaning.returned

  module _ (m : ℕ) (result : tree.Expression) (x : js.Value) (u : js.State) (owned : owner p.program (p.home (a_helper h)) (helper_name ae) ≡ Some (p.home (a_helper ae))) (held : u.tops (p.home (a_helper ae)) (helper_name ae) ≡ js.holds false (top_function p (a_helper ae))) where
    called : (sc : js.Scope) → around m result sc (js_meaning.cell_value (js_meaning.top_cell (owner p.program (p.home (a_helper h)) (helper_name ae)) (helper_name ae) u) u) ≡ then_do (top_call p (js_meaning.below p.program m) (a_helper ae) [] u) (behind_failure (js_meaning.below p.program m) result sc)
    called sc =
        ap (λ (f : Option Name). around m result sc (js_meaning.cell_value (js_meaning.top_cell f (helper_name ae) u) u)) owned
        ∙ ap (λ (cell : js.Cell). around m result sc (js_meaning.cell_value cell u)) held
        ∙ five_grouped (top_call p (js_meaning.below p.program m) (a_helper ae) [] u) (js.in_statement (js_meaning.enter failing_block sc) (λ v. js_meaning.nothing (js_meaning.enter failing_block sc))) (js.next_statement js_meaning.nothing) (js_meaning.leaving failing_block sc) (js.next_statement (js_meaning.execute_all p.program (js_meaning.below p.program m) (statements_of (tree.return_of result ∷ [])))) js_meaning.returned

    number_fails : run m (num 0) result x (js.number (pos 0)) u ≡ then_do (top_call p (js_meaning.below p.program m) (a_helper ae) [] u) (behind_failure (js_meaning.below p.program m) result (scope (num 0) result x (js.number (pos 0))))
    number_fails = called (scope (num 0) result x (js.number (pos 0)))

    big_fails : run m (tree.big_literal (pos 0)) result x (js.big_int (pos 0)) u ≡ then_do (top_call p (js_meaning.below p.program m) (a_helper ae) [] u) (behind_failure (js_meaning.below p.program m) result (scope (tree.big_literal (pos 0)) result x (js.big_int (pos 0))))
    big_fails = called (scope (tree.big_literal (pos 0)) result x (js.big_int (pos 0)))

  -- by any other divisor the result is given
  abbrev back : js.Scope → Out js.ExpressionEnd → Out js.ExpressionEnd
  back sc o = then_do (then_do (then_do o (js.in_statement sc (λ v s. done (js.ends (js.returns v) sc s)))) (js.next_statement js_meaning.nothing)) js_meaning.returned

  given_back : (sc : js.Scope) (o : Option js.Value) (u : js.State) → back sc (js_meaning.value_or_wrong o sc u) ≡ js_meaning.value_or_wrong o sc u
  given_back sc None u = refl
  given_back sc (Some v) u = refl

  -- behind the comparison with zero
  abbrev tested : ℕ → tree.Expression → js.Scope → js.State → Bool → Out js.ExpressionEnd
  tested m result sc u b = then_do (then_do (then_do (done (js.gives (js.boolean b) u)) (js.in_statement sc (λ v. js_meaning.taken (js_meaning.in_block failing_block (js_meaning.execute_all p.program (js_meaning.below p.program m) failing_block)) js_meaning.nothing v sc))) (js.next_statement (js_meaning.execute_all p.program (js_meaning.below p.program m) (statements_of (tree.return_of result ∷ []))))) js_meaning.returned

  number_goes_on : (m : ℕ) (result : tree.Expression) (x : js.Value) (n : ℤ) (u : js.State) → (n ≡ pos 0 → ⊥) → run m (num 0) result x (js.number n) u ≡ back (scope (num 0) result x (js.number n)) (js_meaning.evaluate p.program (js_meaning.below p.program m) result (scope (num 0) result x (js.number n)) u)
  number_goes_on m result x n u ne = ap (tested m result (scope (num 0) result x (js.number n)) u) (no_zero n ne)

  big_goes_on : (m : ℕ) (result : tree.Expression) (x : js.Value) (n : ℤ) (u : js.State) → (n ≡ pos 0 → ⊥) → run m (tree.big_literal (pos 0)) result x (js.big_int n) u ≡ back (scope (tree.big_literal (pos 0)) result x (js.big_int n)) (js_meaning.evaluate p.program (js_meaning.below p.program m) result (scope (tree.big_literal (pos 0)) result x (js.big_int n)) u)
  big_goes_on m result x n u ne = ap (tested m result (scope (tree.big_literal (pos 0)) result x (js.big_int n)) u) (no_zero n ne)

module _ (d : Direction) (p : Place) (low : ir_meaning.Low) (m : ℕ) (fails : FailsAt d p low m (Throws Division) (codes "java.lang.ArithmeticException") (codes "/ by zero")) (w : World) (env : ir.Env) (s : ir.State) (u : js.State) (same : SameState p w s u) where
  abbrev inside : Helper → Setting
  inside h = record { place = p; code = in_helper p h; direction = d; is_mutable = λ x. false; low = low; js_low = js_meaning.below p.program m }

  abbrev raised : Out ir.Ended
  raised = ir_meaning.raise p.classes low (codes "java.lang.ArithmeticException") (codes "/ by zero") env s

  throws_zero : (h : Helper) (t : IrType) (result : tree.Expression) (sc : js.Scope) (q : Out js.ExpressionEnd) → q ≡ then_do (top_call p (js_meaning.below p.program m) (a_helper ae) [] u) (behind_failure p h (js_meaning.below p.program m) result sc) → Sim d (Valued p w env t) raised q
  throws_zero h t result sc q is = subst (λ o. Sim d (Valued p w env t) raised o) (sym is) (subst (λ o. Sim d (Valued p w env t) o (then_do (top_call p (js_meaning.below p.program m) (a_helper ae) [] u) (behind_failure p h (js_meaning.below p.program m) result sc))) (then_do-right raised) (sim_then d (Failed p w env) (Valued p w env t) raised (top_call p (js_meaning.below p.program m) (a_helper ae) [] u) done (behind_failure p h (js_meaning.below p.program m) result sc) (fails w env s u same) each))
    where
      each : (a : ir.Ended) (b : js.ExpressionEnd) → Failed p w env a b → Sim d (Valued p w env t) (done a) (behind_failure p h (js_meaning.below p.program m) result sc b)
      each _ _ (failed_so y v q s u g k same) = sim_done d (Valued p w env t) (ir.ends (ir.throws v) env s) (js.throws q u) (thrown y v q s u g k same)

  gives_whole : (h : Helper) (t : IrType) (o : ir_operators.Answer) (f : Option js.Value) (sc : js.Scope) (q : Out js.ExpressionEnd) → q ≡ js_meaning.value_or_wrong f sc u → GivenIf w t o f → Sim d (Valued p w env t) (ir_meaning.answered p.classes low o env s) q
  gives_whole h t o f sc q is given = subst (λ q. Sim d (Valued p w env t) (ir_meaning.answered p.classes low o env s) q) (sym is) (value_alike (inside h) w w env t sc s u o f given (grows-refl w) same)

  abbrev DividesHere : BinaryOp → ir.Value → ir.Value → js.Value → js.Value → Type 0
  DividesHere o v v' x x' = Sim d (Valued p w env (binary_result o)) (ir_meaning.answered p.classes low (ir_operators.binary_value o v v') env s) (top_call p (js_meaning.below p.program (suc m)) (a_helper (division_helper o)) (x ∷ x' ∷ []) u)

  stood : (o : BinaryOp) → CanDivide p o → (x x' : js.Value) → top_call p (js_meaning.below p.program (suc m)) (a_helper (division_helper o)) (x ∷ x' ∷ []) u ≡ js_meaning.code_call (js_meaning.below p.program (suc m)) (p.home (a_helper (division_helper o))) (Some (division_code o)) (x ∷ x' ∷ []) u
  stood o can x x' = ap (λ c. js_meaning.code_call (js_meaning.below p.program (suc m)) (p.home (a_helper (division_helper o))) c (x ∷ x' ∷ []) u) can.division

  int_whole : (o : BinaryOp) → IsDivision o → CanDivide p o → (a n : ℤ) → (n ≡ pos 0 → ⊥) → (sc : js.Scope) → top_call p (js_meaning.below p.program (suc m)) (a_helper (division_helper o)) (js.number a ∷ js.number n ∷ []) u ≡ js_meaning.value_or_wrong (over_int o n (js.number a)) sc u
  int_whole _ a_quotient can a n ne sc = stood IntDivide can (js.number a) (js.number n) ∙ number_goes_on p (division_helper IntDivide) m (or_zero (operation Op.Divide)) (js.number a) n u ne
  int_whole _ a_remainder can a n ne sc = stood IntRemainder can (js.number a) (js.number n) ∙ number_goes_on p (division_helper IntRemainder) m (or_zero (operation Op.Remainder)) (js.number a) n u ne

  int_divides : (o : BinaryOp) → IsDivision o → CanDivide p o → (v v' : ir.Value) (x x' : js.Value) → IsInt w v x → IsInt w v' x' → DividesHere o v v' x x'
  int_divides _ a_quotient can _ _ _ _ (an_int a f) (an_int (pos zero) k) = throws_zero (division_helper IntDivide) Int (or_zero (operation Op.Divide)) (scope p (division_helper IntDivide) (num 0) (or_zero (operation Op.Divide)) (js.number a) (js.number (pos 0))) _ (stood IntDivide can (js.number a) (js.number (pos 0)) ∙ number_fails p (division_helper IntDivide) m (or_zero (operation Op.Divide)) (js.number a) u can.owned (can.held w s u same))
  int_divides _ a_remainder can _ _ _ _ (an_int a f) (an_int (pos zero) k) = throws_zero (division_helper IntRemainder) Int (or_zero (operation Op.Remainder)) (scope p (division_helper IntRemainder) (num 0) (or_zero (operation Op.Remainder)) (js.number a) (js.number (pos 0))) _ (stood IntRemainder can (js.number a) (js.number (pos 0)) ∙ number_fails p (division_helper IntRemainder) m (or_zero (operation Op.Remainder)) (js.number a) u can.owned (can.held w s u same))
  int_divides o i can _ _ _ _ (an_int a f) (an_int (pos (suc n)) k) = gives_whole (division_helper o) (binary_result o) (ir_operators.binary_value o (ir.number a) (ir.number (pos (suc n)))) (over_int o (pos (suc n)) (js.number a)) (js_meaning.top_scope p.program []) _ (int_whole o i can a (pos (suc n)) (λ e. cc) (js_meaning.top_scope p.program [])) (divided_alike o i w a (pos (suc n)) f k (λ e. cc))
  int_divides o i can _ _ _ _ (an_int a f) (an_int (negsuc n) k) = gives_whole (division_helper o) (binary_result o) (ir_operators.binary_value o (ir.number a) (ir.number (negsuc n))) (over_int o (negsuc n) (js.number a)) (js_meaning.top_scope p.program []) _ (int_whole o i can a (negsuc n) (λ e. cc) (js_meaning.top_scope p.program [])) (divided_alike o i w a (negsuc n) f k (λ e. cc))

  abbrev big_scope : BinaryOp → tree.Expression → ℤ → ℤ → js.Scope
  big_scope o result a n = scope p (division_helper o) (tree.big_literal (pos 0)) result (js.big_int a) (js.big_int n)

  abbrev long_result : BinaryOp → tree.Expression
  long_result LongDivide = wrapped (operation Op.Divide)
  long_result _ = operation Op.Remainder

  long_whole : (o : BinaryOp) → IsLongDivision o → CanDivide p o → (a n : ℤ) → (n ≡ pos 0 → ⊥) → top_call p (js_meaning.below p.program (suc m)) (a_helper (division_helper o)) (js.big_int a ∷ js.big_int n ∷ []) u ≡ js_meaning.value_or_wrong (over_long o n (js.big_int a)) (big_scope o (long_result o) a n) u
  long_whole _ a_long_quotient can a n ne = stood LongDivide can (js.big_int a) (js.big_int n) ∙ big_goes_on p (division_helper LongDivide) m (wrapped (operation Op.Divide)) (js.big_int a) n u ne ∙ ap (back p (division_helper LongDivide) (big_scope LongDivide (long_result LongDivide) a n)) (wrapped_next p.program (js_meaning.below p.program m) (js_operators.binary_value Op.Divide (js.big_int a) (js.big_int n)) (big_scope LongDivide (long_result LongDivide) a n) (big_scope LongDivide (long_result LongDivide) a n) u) ∙ given_back p (division_helper LongDivide) (big_scope LongDivide (long_result LongDivide) a n) (over_long LongDivide n (js.big_int a)) u
  long_whole _ a_long_remainder can a n ne = stood LongRemainder can (js.big_int a) (js.big_int n) ∙ big_goes_on p (division_helper LongRemainder) m (operation Op.Remainder) (js.big_int a) n u ne ∙ given_back p (division_helper LongRemainder) (big_scope LongRemainder (long_result LongRemainder) a n) (over_long LongRemainder n (js.big_int a)) u

  long_divides : (o : BinaryOp) → IsLongDivision o → CanDivide p o → (v v' : ir.Value) (x x' : js.Value) → IsLong w v x → IsLong w v' x' → DividesHere o v v' x x'
  long_divides _ a_long_quotient can _ _ _ _ (a_long a f) (a_long (pos zero) k) = throws_zero (division_helper LongDivide) Long (long_result LongDivide) (big_scope LongDivide (long_result LongDivide) a (pos 0)) _ (stood LongDivide can (js.big_int a) (js.big_int (pos 0)) ∙ big_fails p (division_helper LongDivide) m (long_result LongDivide) (js.big_int a) u can.owned (can.held w s u same))
  long_divides _ a_long_remainder can _ _ _ _ (a_long a f) (a_long (pos zero) k) = throws_zero (division_helper LongRemainder) Long (long_result LongRemainder) (big_scope LongRemainder (long_result LongRemainder) a (pos 0)) _ (stood LongRemainder can (js.big_int a) (js.big_int (pos 0)) ∙ big_fails p (division_helper LongRemainder) m (long_result LongRemainder) (js.big_int a) u can.owned (can.held w s u same))
  long_divides o i can _ _ _ _ (a_long a f) (a_long (pos (suc n)) k) = gives_whole (division_helper o) (binary_result o) (ir_operators.binary_value o (ir.long a) (ir.long (pos (suc n)))) (over_long o (pos (suc n)) (js.big_int a)) (big_scope o (long_result o) a (pos (suc n))) _ (long_whole o i can a (pos (suc n)) (λ e. cc)) (long_divided_alike o i w a (pos (suc n)) f (λ e. cc))
  long_divides o i can _ _ _ _ (a_long a f) (a_long (negsuc n) k) = gives_whole (division_helper o) (binary_result o) (ir_operators.binary_value o (ir.long a) (ir.long (negsuc n))) (over_long o (negsuc n) (js.big_int a)) (big_scope o (long_result o) a (negsuc n)) _ (long_whole o i can a (negsuc n) (λ e. cc)) (long_divided_alike o i w a (negsuc n) f (λ e. cc))

  -- a division, and its helper
  pub divides_alike : (has : Usable) (o : BinaryOp) → divides has o ≡ true → CanDivide p o → (v v' : ir.Value) (x x' : js.Value) → SameValue w (left_operand o) v x → SameValue w (right_operand o) v' x' → DividesHere o v v' x x'
  divides_alike has IntDivide i can v v' x x' a b = int_divides IntDivide a_quotient can v v' x x' (as_int w Int v x refl a) (as_int w Int v' x' refl b)
  divides_alike has IntRemainder i can v v' x x' a b = int_divides IntRemainder a_remainder can v v' x x' (as_int w Int v x refl a) (as_int w Int v' x' refl b)
  divides_alike has LongDivide i can v v' x x' a b = long_divides LongDivide a_long_quotient can v v' x x' (as_long w Long v x refl a) (as_long w Long v' x' refl b)
  divides_alike has LongRemainder i can v v' x x' a b = long_divides LongRemainder a_long_remainder can v v' x x' (as_long w Long v x refl a) (as_long w Long v' x' refl b)
  divides_alike has _ i can v v' x x' a b = impossible i
