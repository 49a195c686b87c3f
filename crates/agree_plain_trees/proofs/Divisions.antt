-- Division by a literal other than zero.
use Rattle.std.proofs.Common.{◌≡◌, zero, suc, Bool, true, List, [], ◌∷◌, Some, None, Option, refl, sym, ap, ◌∙◌, subst, if◌then◌else◌}
use Rattle.std.specs.Prelude.{ℤ, pos, negsuc, ◌≢◌, int_div, FitsSigned}
use Rattle.std.specs.Int.{w32, w64}
use mathlib.Core.Path.{fun_ext}
use Rattle.int_arithmetic.specs.Longs as longs
use Rattle.int_arithmetic.specs.Numbers as numbers
use Rattle.int_arithmetic.specs.Signed as signed
use Rattle.int_arithmetic.proofs.Fits.{wrapped-fits, remainder-fits}
use Rattle.int_arithmetic.proofs.Longs as on_longs
use Rattle.int_arithmetic.proofs.Operators.{quotient-is, remainder-is}
use Rattle.outcomes.specs.Outcome.{done, wrong, then_do}
use Rattle.outcomes.specs.Agreement.{Sim}
use Rattle.ir_mean.specs.Meaning as ir_meaning
use Rattle.ir_mean.specs.Operators as ir_operators
use Rattle.ir_mean.specs.States as ir
use Rattle.js_mean.specs.Meaning as js_meaning
use Rattle.js_mean.specs.Operators as js_operators
use Rattle.js_mean.specs.States as js
use Rattle.js_tree.specs.Terms as tree
use Rattle.js_tree.specs.declared.operators.BinaryOperator.{BinaryOperator}
use Rattle.js_tree.specs.declared.operators.BinaryOperator.TheVariants as Op
use Rattle.sj_core.specs.Terms as core
use Rattle.agree_body_rules.specs.Desugar.{expression_of}
use Rattle.agree_body_rules.specs.Templates.{expression_template, binary_template, is_nonzero_literal, wrapped}
use Rattle.sj_trees.specs.Term.{Term, int_literal, long_literal}
use Rattle.sj_trees.specs.TypeOf.{binary_result}
use Rattle.sj_trees.specs.declared.operators.BinaryOp.{BinaryOp}
use Rattle.sj_trees.specs.declared.operators.BinaryOp.TheVariants.{IntDivide, LongDivide}
use Rattle.sj_trees.specs.declared.types.IrType.{IrType}
use Rattle.sj_trees.specs.declared.types.IrType.TheVariants.{Int, Long}
use Rattle.agree_body_rules.specs.Rules.{left_operand}
use Rattle.agree_body_rules.specs.Operators.{IsDivision, a_quotient, a_remainder, IsLongDivision, a_long_quotient, a_long_remainder, DividesBy, by_int, by_long}
use Rattle.agree_plain_trees.specs.Settings.{Setting, shown, SameState, Valued, usable}
use Rattle.agree_body_rules.specs.Standing.{Fits}
use Rattle.agree_plain_trees.proofs.Operators.{wrapped_value, number_given, long_given, GivenIf}
use Rattle.agree_plain_trees.proofs.Orders.{ActsAlike, OperandsAlike, in_order_alike, in_order-then}
use Rattle.agree_plain_trees.proofs.Shifts.{IsLong, a_long, IsInt, an_int, as_long, as_int}
use Rattle.agree_plain_trees.proofs.Templates.{fits-exact, by_one_value, value_alike, same_act, wrapped_next}
use Rattle.agree_plain_trees.proofs.Worlds.{World, grows-refl, no_values, one_more}

-- the value of a literal divisor
abbrev pub divisor_of : Term → ir.Value
divisor_of (int_literal p n) = ir.number n
divisor_of (long_literal p n) = ir.long n
divisor_of _ = ir.undefined

-- what a division gives on its dividend
abbrev whole_of : BinaryOp → ℤ → ℤ → ℤ
whole_of IntDivide = numbers.quotient_or_zero
whole_of _ = numbers.remainder_or_zero

abbrev number_over : (ℤ → ℤ → ℤ) → Option ℤ → ℤ → Option js.Value
number_over f None n = None
number_over f (Some a) n = Some (js.number (f a n))

abbrev pub over_int : BinaryOp → ℤ → js.Value → Option js.Value
over_int o n x = number_over (whole_of o) (js_operators.to_number x) n

abbrev pub over_long : BinaryOp → ℤ → js.Value → Option js.Value
over_long LongDivide n x = wrapped_value (js_operators.binary_value Op.Divide x (js.big_int n))
over_long _ n x = js_operators.binary_value Op.Remainder x (js.big_int n)

pub divided_alike : (o : BinaryOp) → IsDivision o → (w : World) (a n : ℤ) → FitsSigned w32 a → FitsSigned w32 n → n ≢ pos 0 → GivenIf w (binary_result o) (ir_operators.binary_value o (ir.number a) (ir.number n)) (over_int o n (js.number a))
divided_alike _ a_quotient w a (pos zero) f g ne = absurd (ne refl)
divided_alike _ a_quotient w a (pos (suc n)) f g ne = number_given w Int (signed.quotient a (pos (suc n))) _ (ap (λ (x : ℤ). Some (js.number x)) (quotient-is a (pos (suc n)) ne)) (wrapped-fits _) refl
divided_alike _ a_quotient w a (negsuc n) f g ne = number_given w Int (signed.quotient a (negsuc n)) _ (ap (λ (x : ℤ). Some (js.number x)) (quotient-is a (negsuc n) ne)) (wrapped-fits _) refl
divided_alike _ a_remainder w a (pos zero) f g ne = absurd (ne refl)
divided_alike _ a_remainder w a (pos (suc n)) f g ne = number_given w Int (signed.remainder a (pos (suc n))) _ (ap (λ (x : ℤ). Some (js.number x)) (remainder-is a (pos (suc n)) g ne)) (remainder-fits a (pos (suc n)) f) refl
divided_alike _ a_remainder w a (negsuc n) f g ne = number_given w Int (signed.remainder a (negsuc n)) _ (ap (λ (x : ℤ). Some (js.number x)) (remainder-is a (negsuc n) g ne)) (remainder-fits a (negsuc n) f) refl

wrapped_quotient : (a n : ℤ) → FitsSigned w64 a → n ≢ pos 0 → wrapped_value (js_operators.binary_value Op.Divide (js.big_int a) (js.big_int n)) ≡ Some (js.big_int (longs.quotient a n))
wrapped_quotient a n f ne = ap (λ o. wrapped_value (js_operators.big o)) (on_longs.quotient-is a n f ne) ∙ ap (λ z. Some (js.big_int z)) (on_longs.cut-is (int_div a n))

pub long_divided_alike : (o : BinaryOp) → IsLongDivision o → (w : World) (a n : ℤ) → FitsSigned w64 a → n ≢ pos 0 → GivenIf w (binary_result o) (ir_operators.binary_value o (ir.long a) (ir.long n)) (over_long o n (js.big_int a))
long_divided_alike _ a_long_quotient w a (pos zero) f ne = absurd (ne refl)
long_divided_alike _ a_long_quotient w a (pos (suc n)) f ne = long_given w (longs.quotient a (pos (suc n))) _ (wrapped_quotient a (pos (suc n)) f ne) (on_longs.wrapped-fits _)
long_divided_alike _ a_long_quotient w a (negsuc n) f ne = long_given w (longs.quotient a (negsuc n)) _ (wrapped_quotient a (negsuc n) f ne) (on_longs.wrapped-fits _)
long_divided_alike _ a_long_remainder w a (pos zero) f ne = absurd (ne refl)
long_divided_alike _ a_long_remainder w a (pos (suc n)) f ne = long_given w (longs.remainder a (pos (suc n))) _ (ap js_operators.big (on_longs.remainder-is a (pos (suc n)) f ne)) (on_longs.remainder-fits a (pos (suc n)) f)
long_divided_alike _ a_long_remainder w a (negsuc n) f ne = long_given w (longs.remainder a (negsuc n)) _ (ap js_operators.big (on_longs.remainder-is a (negsuc n) f ne)) (on_longs.remainder-fits a (negsuc n) f)

module _ (z : Setting) where
  whole_shown : (f : ℤ → ℤ → ℤ) (t : Option ℤ) (n : ℤ) (sc : js.Scope) (u : js.State) → js_meaning.whole_number f t (Some n) sc u ≡ js_meaning.value_or_wrong (number_over f t n) sc u
  whole_shown f None n sc u = refl
  whole_shown f (Some a) n sc u = refl

  ratio_next : (f : ℤ → ℤ → ℤ) (n : ℤ) (sc : js.Scope) (x : js.Value) (u : js.State) → numbers.is_exact n ≡ true → js_meaning.in_order (js_meaning.literal n ∷ []) (λ xs. js_meaning.ratio f (x ∷ xs)) sc u ≡ js_meaning.value_or_wrong (number_over f (js_operators.to_number x) n) sc u
  ratio_next f n sc x u e = ap (λ (b : Bool). then_do (if b then done (js.gives (js.number n) u) else wrong) (js.with_value (λ y. js_meaning.ratio f (x ∷ y ∷ []) sc))) e ∙ whole_shown f (js_operators.to_number x) n sc u

  ratio_shown : (f : ℤ → ℤ → ℤ) (n : ℤ) (e : js.Evaluation) (sc : js.Scope) (u : js.State) → numbers.is_exact n ≡ true → js_meaning.in_order (e ∷ js_meaning.literal n ∷ []) (js_meaning.ratio f) sc u ≡ js_meaning.in_order (e ∷ []) (by_one_value (λ x. number_over f (js_operators.to_number x) n)) sc u
  ratio_shown f n e sc u h = ap (λ k. then_do (e sc u) (js.with_value k)) (fun_ext (λ x. fun_ext (λ q. ratio_next f n sc x q h)))

  division_shown : (o : BinaryOp) → IsDivision o → (n : ℤ) → FitsSigned w32 n → n ≢ pos 0 → (e : tree.Expression) (sc : js.Scope) (u : js.State) → js_meaning.evaluate z.place.program z.js_low (binary_template (is_nonzero_literal (core.number_value n)) o e (tree.number_literal n)) sc u ≡ js_meaning.in_order (js_meaning.evaluate z.place.program z.js_low e ∷ []) (by_one_value (over_int o n)) sc u
  division_shown _ a_quotient (pos zero) f ne e sc u = absurd (ne refl)
  division_shown _ a_quotient (pos (suc n)) f ne e sc u = ratio_shown numbers.quotient_or_zero (pos (suc n)) (js_meaning.evaluate z.place.program z.js_low e) sc u (fits-exact (pos (suc n)) f)
  division_shown _ a_quotient (negsuc n) f ne e sc u = ratio_shown numbers.quotient_or_zero (negsuc n) (js_meaning.evaluate z.place.program z.js_low e) sc u (fits-exact (negsuc n) f)
  division_shown _ a_remainder (pos zero) f ne e sc u = absurd (ne refl)
  division_shown _ a_remainder (pos (suc n)) f ne e sc u = ratio_shown numbers.remainder_or_zero (pos (suc n)) (js_meaning.evaluate z.place.program z.js_low e) sc u (fits-exact (pos (suc n)) f)
  division_shown _ a_remainder (negsuc n) f ne e sc u = ratio_shown numbers.remainder_or_zero (negsuc n) (js_meaning.evaluate z.place.program z.js_low e) sc u (fits-exact (negsuc n) f)

  -- the same of longs
  big_next : (op : BinaryOperator) (n : ℤ) (sc : js.Scope) (x : js.Value) (u : js.State) → FitsSigned w64 n → js_meaning.in_order (js_meaning.literal_of_big n ∷ []) (λ xs. js_meaning.binary op (x ∷ xs)) sc u ≡ js_meaning.value_or_wrong (js_operators.binary_value op x (js.big_int n)) sc u
  big_next op n sc x u f = ap (λ (b : Bool). then_do (if b then done (js.gives (js.big_int n) u) else wrong) (js.with_value (λ y. js_meaning.binary op (x ∷ y ∷ []) sc))) (on_longs.in_range-fits n f)

  big_shown : (op : BinaryOperator) (n : ℤ) (e : js.Evaluation) (sc : js.Scope) (u : js.State) → FitsSigned w64 n → js_meaning.in_order (e ∷ js_meaning.literal_of_big n ∷ []) (js_meaning.binary op) sc u ≡ js_meaning.in_order (e ∷ []) (by_one_value (λ x. js_operators.binary_value op x (js.big_int n))) sc u
  big_shown op n e sc u h = ap (λ k. then_do (e sc u) (js.with_value k)) (fun_ext (λ x. fun_ext (λ q. big_next op n sc x q h)))

  wrapped_one : (g : js.Value → Option js.Value) (sc' : js.Scope) (xs : List js.Value) (sc : js.Scope) (u : js.State) → then_do (by_one_value g xs sc u) (js.with_value (λ v. js_meaning.value_or_wrong (js_operators.as_signed_value (js.number (pos 64)) v) sc')) ≡ by_one_value (λ x. wrapped_value (g x)) xs sc u
  wrapped_one g sc' [] sc u = refl
  wrapped_one g sc' (v ∷ []) sc u = wrapped_next z.place.program z.js_low (g v) sc sc' u
  wrapped_one g sc' (v ∷ w ∷ xs) sc u = refl

  quotient_shown : (n : ℤ) (e : tree.Expression) (sc : js.Scope) (u : js.State) → FitsSigned w64 n → js_meaning.evaluate z.place.program z.js_low (wrapped (tree.binary_of e Op.Divide (tree.big_literal n))) sc u ≡ js_meaning.in_order (js_meaning.evaluate z.place.program z.js_low e ∷ []) (by_one_value (over_long LongDivide n)) sc u
  quotient_shown n e sc u f = ap (λ o. then_do o (js.with_value (λ v. js_meaning.value_or_wrong (js_operators.as_signed_value (js.number (pos 64)) v) sc))) (big_shown Op.Divide n (js_meaning.evaluate z.place.program z.js_low e) sc u f) ∙ in_order-then (js_meaning.evaluate z.place.program z.js_low e ∷ []) (by_one_value (λ x. js_operators.binary_value Op.Divide x (js.big_int n))) (λ v. js_meaning.value_or_wrong (js_operators.as_signed_value (js.number (pos 64)) v) sc) sc u ∙ same_act (js_meaning.evaluate z.place.program z.js_low e ∷ []) (λ xs sc' u. then_do (by_one_value (λ x. js_operators.binary_value Op.Divide x (js.big_int n)) xs sc' u) (js.with_value (λ v. js_meaning.value_or_wrong (js_operators.as_signed_value (js.number (pos 64)) v) sc))) (by_one_value (over_long LongDivide n)) sc u (wrapped_one (λ x. js_operators.binary_value Op.Divide x (js.big_int n)) sc)

  long_division_shown : (o : BinaryOp) → IsLongDivision o → (n : ℤ) → FitsSigned w64 n → n ≢ pos 0 → (e : tree.Expression) (sc : js.Scope) (u : js.State) → js_meaning.evaluate z.place.program z.js_low (binary_template (is_nonzero_literal (core.long_value n)) o e (tree.big_literal n)) sc u ≡ js_meaning.in_order (js_meaning.evaluate z.place.program z.js_low e ∷ []) (by_one_value (over_long o n)) sc u
  long_division_shown _ a_long_quotient (pos zero) f ne e sc u = absurd (ne refl)
  long_division_shown _ a_long_quotient (pos (suc n)) f ne e sc u = quotient_shown (pos (suc n)) e sc u f
  long_division_shown _ a_long_quotient (negsuc n) f ne e sc u = quotient_shown (negsuc n) e sc u f
  long_division_shown _ a_long_remainder (pos zero) f ne e sc u = absurd (ne refl)
  long_division_shown _ a_long_remainder (pos (suc n)) f ne e sc u = big_shown Op.Remainder (pos (suc n)) (js_meaning.evaluate z.place.program z.js_low e) sc u f
  long_division_shown _ a_long_remainder (negsuc n) f ne e sc u = big_shown Op.Remainder (negsuc n) (js_meaning.evaluate z.place.program z.js_low e) sc u f

  abbrev pub division_act : BinaryOp → ir.Value → List ir.Value → ir.Run
  division_act o n (v ∷ []) env s = ir_meaning.binary z.place.classes z.low o (v ∷ n ∷ []) env s
  division_act o n _ env s = wrong

  int_acts : (o : BinaryOp) → IsDivision o → (own : IrType) → Fits Int own → (n : ℤ) → FitsSigned w32 n → n ≢ pos 0 → (w : World) (env : ir.Env) (sc : js.Scope) → ActsAlike z w w env (own ∷ []) (binary_result o) (division_act o (ir.number n)) (by_one_value (over_int o n)) sc
  int_acts o d own f n fits ne w env sc y _ _ s u g (one_more _ v x _ _ _ a no_values) same = by v x (as_int y own v x f a)
    where
      by : (v : ir.Value) (x : js.Value) → IsInt y v x → Sim z.direction (Valued z.place w env (binary_result o)) (division_act o (ir.number n) (v ∷ []) env s) (js_meaning.value_or_wrong (over_int o n x) sc u)
      by _ _ (an_int b k) = value_alike z w y env (binary_result o) sc s u (ir_operators.binary_value o (ir.number b) (ir.number n)) (over_int o n (js.number b)) (divided_alike o d y b n k fits ne) g same

  long_acts : (o : BinaryOp) → IsLongDivision o → (own : IrType) → Fits Long own → (n : ℤ) → n ≢ pos 0 → (w : World) (env : ir.Env) (sc : js.Scope) → ActsAlike z w w env (own ∷ []) (binary_result o) (division_act o (ir.long n)) (by_one_value (over_long o n)) sc
  long_acts o d own f n ne w env sc y _ _ s u g (one_more _ v x _ _ _ a no_values) same = by v x (as_long y own v x f a)
    where
      by : (v : ir.Value) (x : js.Value) → IsLong y v x → Sim z.direction (Valued z.place w env (binary_result o)) (division_act o (ir.long n) (v ∷ []) env s) (js_meaning.value_or_wrong (over_long o n x) sc u)
      by _ _ (a_long b k) = value_alike z w y env (binary_result o) sc s u (ir_operators.binary_value o (ir.long b) (ir.long n)) (over_long o n (js.big_int b)) (long_divided_alike o d y b n k ne) g same

  -- a division, by its dividend
  pub division_alike : (o : BinaryOp) (d : Term) → DividesBy o d → (own : IrType) → Fits (left_operand o) own → (r : ir.Run) (e : core.Expression) (w : World) (env : ir.Env) (s : ir.State) (sc : js.Scope) (u : js.State) → OperandsAlike z w env sc (own ∷ []) (r ∷ []) (e ∷ []) → SameState z.place w s u → Sim z.direction (Valued z.place w env (binary_result o)) (ir_meaning.in_order (r ∷ []) (division_act o (divisor_of d)) env s) (shown z (core.binary_of o e (expression_of z.code.sure d)) sc u)
  division_alike _ _ (by_int o d p n f ne) own k r e w env s sc u operand same = subst (λ q. Sim z.direction (Valued z.place w env (binary_result o)) (ir_meaning.in_order (r ∷ []) (division_act o (ir.number n)) env s) q) (sym (division_shown o d n f ne (expression_template z.place.name z.place.label (usable z).lookup e) sc u)) (in_order_alike z w w env sc w (own ∷ []) (binary_result o) (r ∷ []) (e ∷ []) (division_act o (ir.number n)) (by_one_value (over_int o n)) operand (int_acts o d own (int_operand o d own k) n f ne w env sc) w s u (grows-refl w) (grows-refl w) (grows-refl w) same)
    where
      int_operand : (o : BinaryOp) → IsDivision o → (own : IrType) → Fits (left_operand o) own → Fits Int own
      int_operand _ a_quotient own k = k
      int_operand _ a_remainder own k = k
  division_alike _ _ (by_long o d p n f ne) own k r e w env s sc u operand same = subst (λ q. Sim z.direction (Valued z.place w env (binary_result o)) (ir_meaning.in_order (r ∷ []) (division_act o (ir.long n)) env s) q) (sym (long_division_shown o d n f ne (expression_template z.place.name z.place.label (usable z).lookup e) sc u)) (in_order_alike z w w env sc w (own ∷ []) (binary_result o) (r ∷ []) (e ∷ []) (division_act o (ir.long n)) (by_one_value (over_long o n)) operand (long_acts o d own (long_operand o d own k) n ne w env sc) w s u (grows-refl w) (grows-refl w) (grows-refl w) same)
    where
      long_operand : (o : BinaryOp) → IsLongDivision o → (own : IrType) → Fits (left_operand o) own → Fits Long own
      long_operand _ a_long_quotient own k = k
      long_operand _ a_long_remainder own k = k

  -- the literal is evaluated at once, and is no text that is joined
  pub dividend_alone : (o : BinaryOp) (d : Term) → DividesBy o d → (r : ir.Run) (env : ir.Env) (s : ir.State) → ir_meaning.in_order (r ∷ ir_meaning.step z.place.classes z.low d ∷ []) (ir_meaning.binary z.place.classes z.low o) env s ≡ ir_meaning.in_order (r ∷ []) (division_act o (divisor_of d)) env s
  dividend_alone _ _ (by_int o d p n f ne) r env s = refl
  dividend_alone _ _ (by_long o d p n f ne) r env s = refl
