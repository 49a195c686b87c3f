-- The templates of operators compute what they are to compute, from operands in order.
use Rattle.std.proofs.Common.{◌≡◌, ℕ, ◌<◌, ◌^◌, arith, Bool, true, List, [], ◌∷◌, Some, None, Option, refl, sym, ap, ◌∙◌, subst}
use Rattle.std.specs.Prelude.{ℤ, pos, negsuc, not, FitsSigned, if◌then◌else◌}
use Rattle.std.specs.Int.{w32}
use mathlib.Core.Path.{fun_ext}
use Rattle.int_arithmetic.specs.Numbers as numbers
use Rattle.int_arithmetic.specs.Signed as signed
use Rattle.int_arithmetic.specs.Modulo.{modulo}
use Rattle.int_arithmetic.proofs.Fits.{wrapped-fits, byte-fits, short-fits}
use Rattle.int_arithmetic.proofs.Longs.{int_is_long, to_unit-is, unit-below, to_int-is}
use Rattle.int_arithmetic.proofs.Operators.{to_byte-is, to_short-is}
use Rattle.outcomes.specs.Outcome.{Out, done, wrong, then_do}
use Rattle.outcomes.specs.Agreement.{Sim}
use Rattle.outcomes.proofs.Sequence.{then_do-right}
use Rattle.outcomes.proofs.Simulation.{sim_done, sim_wrong}
use Rattle.ir_mean.specs.Meaning as ir_meaning
use Rattle.ir_mean.specs.Operators as ir_operators
use Rattle.ir_mean.specs.States as ir
use Rattle.js_mean.specs.Meaning as js_meaning
use Rattle.js_mean.specs.Operators as js_operators
use Rattle.js_mean.specs.States as js
use Rattle.js_tree.specs.Terms as tree
use Rattle.js_tree.specs.declared.operators.BinaryOperator.{BinaryOperator}
use Rattle.js_tree.specs.declared.operators.BinaryOperator.TheVariants as Op
use Rattle.js_tree.specs.declared.operators.UnaryOperator.TheVariants.{Not}
use Rattle.agree_body_rules.specs.Templates.{unary_template, binary_template, wrapped}
use Rattle.sj_trees.specs.declared.operators.BinaryOp.{BinaryOp}
use Rattle.sj_trees.specs.declared.operators.BinaryOp.TheVariants.{BooleanEqual, BooleanNotEqual, BooleanOr, BooleanAnd, IntAdd, IntSubtract, IntMultiply, IntOr, IntAnd, IntXor, IntShiftLeft, IntShiftRightLogical, IntShiftRightArithmetic, IntEqual, IntNotEqual, IntLess, IntLessOrEqual, IntGreater, IntGreaterOrEqual, LongAdd, LongSubtract, LongMultiply, LongOr, LongAnd, LongXor, LongEqual, LongNotEqual, LongLess, LongLessOrEqual, LongGreater, LongGreaterOrEqual}
use Rattle.sj_trees.specs.declared.operators.UnaryOp.{UnaryOp}
use Rattle.sj_trees.specs.declared.operators.UnaryOp.TheVariants.{BooleanNot, CharToInt, ByteToInt, ShortToInt, IntToLong, IntToChar, IntToByte, IntToShort, LongToInt}
use Rattle.sj_trees.specs.TypeOf.{unary_result, binary_result}
use Rattle.sj_trees.specs.declared.types.IrType.{IrType}
use Rattle.sj_trees.specs.declared.types.IrType.TheVariants.{Byte, Short, Int}
use Rattle.agree_plain_trees.proofs.Worlds.{World, Grows, Stands, same_boolean, same_char, same_box, same_number, same_long, one_more, no_values, value-fits}
use Rattle.sj_names.proofs.Same.{impossible}
use Rattle.agree_body_rules.specs.Coercions.{is_char}
use Rattle.agree_body_rules.specs.Standing.{Fits}
use Rattle.agree_body_rules.specs.Rules.{unary_operand}
use Rattle.agree_plain_trees.proofs.Operators.{template_value, or_zero_value, boolean_of, wrapped_value, is_direct, number_given, long_given, GivenIf, values_alike}
use Rattle.agree_plain_trees.proofs.Orders.{ActsAlike, in_order-then}
use Rattle.agree_plain_trees.specs.Settings.{Setting, SameState, Valued, valued}

-- an act on two values by what they give
abbrev pub by_value : (js.Value → js.Value → Option js.Value) → List js.Value → js.Evaluation
by_value f (v ∷ w ∷ []) sc u = js_meaning.value_or_wrong (f v w) sc u
by_value f _ sc u = wrong

pub binary-act : (op : BinaryOperator) (xs : List js.Value) (sc : js.Scope) (u : js.State) → js_meaning.binary op xs sc u ≡ by_value (js_operators.binary_value op) xs sc u
binary-act op [] sc u = refl
binary-act op (v ∷ []) sc u = refl
binary-act op (v ∷ w ∷ []) sc u = refl
binary-act op (v ∷ w ∷ x ∷ xs) sc u = refl

multiplied-act : (xs : List js.Value) (sc : js.Scope) (u : js.State) → js_meaning.multiplied xs sc u ≡ by_value js_operators.imul_value xs sc u
multiplied-act [] sc u = refl
multiplied-act (v ∷ []) sc u = refl
multiplied-act (v ∷ w ∷ []) sc u = refl
multiplied-act (v ∷ w ∷ x ∷ xs) sc u = refl

-- operands in order with one act are operands in order with another that does the same
pub same_act : (es : List js.Evaluation) (act act' : List js.Value → js.Evaluation) (sc : js.Scope) (u : js.State) → ((xs : List js.Value) (sc : js.Scope) (u : js.State) → act xs sc u ≡ act' xs sc u) → js_meaning.in_order es act sc u ≡ js_meaning.in_order es act' sc u
same_act es act act' sc u h = ap (λ (f : List js.Value → js.Evaluation). js_meaning.in_order es f sc u) (fun_ext (λ xs. fun_ext (λ sc. fun_ext (λ u. h xs sc u))))

scope_free : (o : Option js.Value) (sc sc' : js.Scope) (u : js.State) → js_meaning.value_or_wrong o sc u ≡ js_meaning.value_or_wrong o sc' u
scope_free None sc sc' u = refl
scope_free (Some v) sc sc' u = refl

module _ (p : js.Program) (low : js_meaning.Low) where
  -- `| 0` behind a value
  or_zero_next : (o : Option js.Value) (sc sc' : js.Scope) (u : js.State) → then_do (js_meaning.value_or_wrong o sc u) (js.with_value (λ v. js_meaning.in_order (js_meaning.evaluate p low (tree.number_literal (pos 0)) ∷ []) (λ vs. js_meaning.binary Op.BitOr (v ∷ vs)) sc')) ≡ js_meaning.value_or_wrong (or_zero_value o) sc u
  or_zero_next None sc sc' u = refl
  or_zero_next (Some v) sc sc' u = scope_free (js_operators.binary_value Op.BitOr v (js.number (pos 0))) sc' sc u

  or_zero_act : (f : js.Value → js.Value → Option js.Value) (sc' : js.Scope) (xs : List js.Value) (sc : js.Scope) (u : js.State) → then_do (by_value f xs sc u) (js.with_value (λ v. js_meaning.in_order (js_meaning.evaluate p low (tree.number_literal (pos 0)) ∷ []) (λ vs. js_meaning.binary Op.BitOr (v ∷ vs)) sc')) ≡ by_value (λ v w. or_zero_value (f v w)) xs sc u
  or_zero_act f sc' [] sc u = refl
  or_zero_act f sc' (v ∷ []) sc u = refl
  or_zero_act f sc' (v ∷ w ∷ []) sc u = or_zero_next (f v w) sc sc' u
  or_zero_act f sc' (v ∷ w ∷ x ∷ xs) sc u = refl

  -- `(e | 0)` of what two operands give
  or_zero_shown : (inner : tree.Expression) (es : List js.Evaluation) (f : js.Value → js.Value → Option js.Value) (sc : js.Scope) (u : js.State) → js_meaning.ratio_of p low inner ≡ None → js_meaning.evaluate p low inner sc u ≡ js_meaning.in_order es (by_value f) sc u → js_meaning.evaluate p low (tree.binary_of inner Op.BitOr (tree.number_literal (pos 0))) sc u ≡ js_meaning.in_order es (by_value (λ v w. or_zero_value (f v w))) sc u
  or_zero_shown inner es f sc u r h = ap (λ t. js_meaning.bits_or t (js_meaning.evaluate p low inner) (js_meaning.evaluate p low (tree.number_literal (pos 0))) sc u) r ∙ ap (λ o. then_do o (js.with_value (λ v. js_meaning.in_order (js_meaning.evaluate p low (tree.number_literal (pos 0)) ∷ []) (λ vs. js_meaning.binary Op.BitOr (v ∷ vs)) sc))) h ∙ in_order-then es (by_value f) (λ v. js_meaning.in_order (js_meaning.evaluate p low (tree.number_literal (pos 0)) ∷ []) (λ vs. js_meaning.binary Op.BitOr (v ∷ vs)) sc) sc u ∙ same_act es (λ xs sc' u. then_do (by_value f xs sc' u) (js.with_value (λ v. js_meaning.in_order (js_meaning.evaluate p low (tree.number_literal (pos 0)) ∷ []) (λ vs. js_meaning.binary Op.BitOr (v ∷ vs)) sc))) (by_value (λ v w. or_zero_value (f v w))) sc u (or_zero_act f sc)

  -- a bitwise or whose left operand is no ratio
  or_shown : (e g : tree.Expression) (sc : js.Scope) (u : js.State) → js_meaning.over_zero g (js_meaning.ratio_of p low e) ≡ None → js_meaning.evaluate p low (tree.binary_of e Op.BitOr g) sc u ≡ js_meaning.in_order (js_meaning.evaluate p low e ∷ js_meaning.evaluate p low g ∷ []) (by_value (js_operators.binary_value Op.BitOr)) sc u
  or_shown e g sc u r = ap (λ t. js_meaning.bits_or t (js_meaning.evaluate p low e) (js_meaning.evaluate p low g) sc u) r ∙ same_act (js_meaning.evaluate p low e ∷ js_meaning.evaluate p low g ∷ []) (js_meaning.binary Op.BitOr) (by_value (js_operators.binary_value Op.BitOr)) sc u (binary-act Op.BitOr)

  -- `BigInt.asIntN(64, e)` of what two operands give
  pub wrapped_next : (o : Option js.Value) (sc sc' : js.Scope) (u : js.State) → then_do (js_meaning.value_or_wrong o sc u) (js.with_value (λ v. js_meaning.value_or_wrong (js_operators.as_signed_value (js.number (pos 64)) v) sc')) ≡ js_meaning.value_or_wrong (wrapped_value o) sc u
  wrapped_next None sc sc' u = refl
  wrapped_next (Some v) sc sc' u = scope_free (js_operators.as_signed_value (js.number (pos 64)) v) sc' sc u

  wrapped_act : (f : js.Value → js.Value → Option js.Value) (sc' : js.Scope) (xs : List js.Value) (sc : js.Scope) (u : js.State) → then_do (by_value f xs sc u) (js.with_value (λ v. js_meaning.value_or_wrong (js_operators.as_signed_value (js.number (pos 64)) v) sc')) ≡ by_value (λ v w. wrapped_value (f v w)) xs sc u
  wrapped_act f sc' [] sc u = refl
  wrapped_act f sc' (v ∷ []) sc u = refl
  wrapped_act f sc' (v ∷ w ∷ []) sc u = wrapped_next (f v w) sc sc' u
  wrapped_act f sc' (v ∷ w ∷ x ∷ xs) sc u = refl

  pub wrapped_shown : (inner : tree.Expression) (es : List js.Evaluation) (f : js.Value → js.Value → Option js.Value) (sc : js.Scope) (u : js.State) → js_meaning.evaluate p low inner sc u ≡ js_meaning.in_order es (by_value f) sc u → js_meaning.evaluate p low (wrapped inner) sc u ≡ js_meaning.in_order es (by_value (λ v w. wrapped_value (f v w))) sc u
  wrapped_shown inner es f sc u h = ap (λ o. then_do o (js.with_value (λ v. js_meaning.value_or_wrong (js_operators.as_signed_value (js.number (pos 64)) v) sc))) h ∙ in_order-then es (by_value f) (λ v. js_meaning.value_or_wrong (js_operators.as_signed_value (js.number (pos 64)) v) sc) sc u ∙ same_act es (λ xs sc' u. then_do (by_value f xs sc' u) (js.with_value (λ v. js_meaning.value_or_wrong (js_operators.as_signed_value (js.number (pos 64)) v) sc))) (by_value (λ v w. wrapped_value (f v w))) sc u (wrapped_act f sc)

  negated_next : (o : Option js.Value) (sc sc' : js.Scope) (u : js.State) → then_do (then_do (js_meaning.value_or_wrong o sc u) (js.with_value (λ v. js_meaning.negated (v ∷ []) sc'))) (js.with_value (λ w. js_meaning.negated (w ∷ []) sc')) ≡ js_meaning.value_or_wrong (boolean_of o) sc u
  negated_next None sc sc' u = refl
  negated_next (Some v) sc sc' u = refl

  negated_act : (f : js.Value → js.Value → Option js.Value) (sc' : js.Scope) (xs : List js.Value) (sc : js.Scope) (u : js.State) → then_do (then_do (by_value f xs sc u) (js.with_value (λ v. js_meaning.negated (v ∷ []) sc'))) (js.with_value (λ w. js_meaning.negated (w ∷ []) sc')) ≡ by_value (λ v w. boolean_of (f v w)) xs sc u
  negated_act f sc' [] sc u = refl
  negated_act f sc' (v ∷ []) sc u = refl
  negated_act f sc' (v ∷ w ∷ []) sc u = negated_next (f v w) sc sc' u
  negated_act f sc' (v ∷ w ∷ x ∷ xs) sc u = refl

  -- `(!(!e))` of what two operands give
  negated_shown : (inner : tree.Expression) (es : List js.Evaluation) (f : js.Value → js.Value → Option js.Value) (sc : js.Scope) (u : js.State) → js_meaning.evaluate p low inner sc u ≡ js_meaning.in_order es (by_value f) sc u → js_meaning.evaluate p low (tree.unary_of Not (tree.unary_of Not inner)) sc u ≡ js_meaning.in_order es (by_value (λ v w. boolean_of (f v w))) sc u
  negated_shown inner es f sc u h = ap (λ o. then_do (then_do o (js.with_value (λ v. js_meaning.negated (v ∷ []) sc))) (js.with_value (λ w. js_meaning.negated (w ∷ []) sc))) h ∙ ap (λ o. then_do o (js.with_value (λ w. js_meaning.negated (w ∷ []) sc))) (in_order-then es (by_value f) (λ v. js_meaning.negated (v ∷ []) sc) sc u) ∙ in_order-then es (λ xs sc' u. then_do (by_value f xs sc' u) (js.with_value (λ v. js_meaning.negated (v ∷ []) sc))) (λ w. js_meaning.negated (w ∷ []) sc) sc u ∙ same_act es (λ xs sc' u. then_do (then_do (by_value f xs sc' u) (js.with_value (λ v. js_meaning.negated (v ∷ []) sc))) (js.with_value (λ w. js_meaning.negated (w ∷ []) sc))) (by_value (λ v w. boolean_of (f v w))) sc u (negated_act f sc)

  module _ (b : Bool) (e g : tree.Expression) (r : js_meaning.over_zero g (js_meaning.ratio_of p low e) ≡ None) (sc : js.Scope) (u : js.State) where
    plain_operator : (op : BinaryOperator) → js_meaning.in_order (js_meaning.evaluate p low e ∷ js_meaning.evaluate p low g ∷ []) (js_meaning.binary op) sc u ≡ js_meaning.in_order (js_meaning.evaluate p low e ∷ js_meaning.evaluate p low g ∷ []) (by_value (js_operators.binary_value op)) sc u
    plain_operator op = same_act (js_meaning.evaluate p low e ∷ js_meaning.evaluate p low g ∷ []) (js_meaning.binary op) (by_value (js_operators.binary_value op)) sc u (binary-act op)

    -- the template of an operator evaluates its operands in order, and then gives what it is to give
    pub binary_shown : (o : BinaryOp) → is_direct o ≡ true → (js_meaning.evaluate p low (binary_template b o e g) sc u ≡ js_meaning.in_order (js_meaning.evaluate p low e ∷ js_meaning.evaluate p low g ∷ []) (by_value (template_value o)) sc u)
    binary_shown BooleanEqual h = plain_operator Op.StrictEqual
    binary_shown BooleanNotEqual h = plain_operator Op.StrictNotEqual
    binary_shown BooleanOr h = negated_shown (tree.binary_of e Op.BitOr g) (js_meaning.evaluate p low e ∷ js_meaning.evaluate p low g ∷ []) (js_operators.binary_value Op.BitOr) sc u (or_shown e g sc u r)
    binary_shown BooleanAnd h = negated_shown (tree.binary_of e Op.BitAnd g) (js_meaning.evaluate p low e ∷ js_meaning.evaluate p low g ∷ []) (js_operators.binary_value Op.BitAnd) sc u (plain_operator Op.BitAnd)
    binary_shown IntAdd h = or_zero_shown (tree.binary_of e Op.Add g) (js_meaning.evaluate p low e ∷ js_meaning.evaluate p low g ∷ []) (js_operators.binary_value Op.Add) sc u refl (plain_operator Op.Add)
    binary_shown IntSubtract h = or_zero_shown (tree.binary_of e Op.Subtract g) (js_meaning.evaluate p low e ∷ js_meaning.evaluate p low g ∷ []) (js_operators.binary_value Op.Subtract) sc u refl (plain_operator Op.Subtract)
    binary_shown IntMultiply h = same_act (js_meaning.evaluate p low e ∷ js_meaning.evaluate p low g ∷ []) js_meaning.multiplied (by_value js_operators.imul_value) sc u multiplied-act
    binary_shown IntOr h = or_shown e g sc u r
    binary_shown IntAnd h = plain_operator Op.BitAnd
    binary_shown IntXor h = plain_operator Op.BitXor
    binary_shown IntShiftLeft h = plain_operator Op.ShiftLeft
    binary_shown IntShiftRightLogical h = or_zero_shown (tree.binary_of e Op.ShiftRightUnsigned g) (js_meaning.evaluate p low e ∷ js_meaning.evaluate p low g ∷ []) (js_operators.binary_value Op.ShiftRightUnsigned) sc u refl (plain_operator Op.ShiftRightUnsigned)
    binary_shown IntShiftRightArithmetic h = plain_operator Op.ShiftRight
    binary_shown IntEqual h = plain_operator Op.StrictEqual
    binary_shown IntNotEqual h = plain_operator Op.StrictNotEqual
    binary_shown IntLess h = plain_operator Op.Less
    binary_shown IntLessOrEqual h = plain_operator Op.LessOrEqual
    binary_shown IntGreater h = plain_operator Op.Greater
    binary_shown IntGreaterOrEqual h = plain_operator Op.GreaterOrEqual
    binary_shown LongAdd h = wrapped_shown (tree.binary_of e Op.Add g) (js_meaning.evaluate p low e ∷ js_meaning.evaluate p low g ∷ []) (js_operators.binary_value Op.Add) sc u (plain_operator Op.Add)
    binary_shown LongSubtract h = wrapped_shown (tree.binary_of e Op.Subtract g) (js_meaning.evaluate p low e ∷ js_meaning.evaluate p low g ∷ []) (js_operators.binary_value Op.Subtract) sc u (plain_operator Op.Subtract)
    binary_shown LongMultiply h = wrapped_shown (tree.binary_of e Op.Multiply g) (js_meaning.evaluate p low e ∷ js_meaning.evaluate p low g ∷ []) (js_operators.binary_value Op.Multiply) sc u (plain_operator Op.Multiply)
    binary_shown LongOr h = or_shown e g sc u r
    binary_shown LongAnd h = plain_operator Op.BitAnd
    binary_shown LongXor h = plain_operator Op.BitXor
    binary_shown LongEqual h = plain_operator Op.StrictEqual
    binary_shown LongNotEqual h = plain_operator Op.StrictNotEqual
    binary_shown LongLess h = plain_operator Op.Less
    binary_shown LongLessOrEqual h = plain_operator Op.LessOrEqual
    binary_shown LongGreater h = plain_operator Op.Greater
    binary_shown LongGreaterOrEqual h = plain_operator Op.GreaterOrEqual
    binary_shown _ h = impossible h

pub value_alike : (z : Setting) (base w : World) (env : ir.Env) (t : IrType) (sc : js.Scope) (s : ir.State) (u : js.State) (o : ir_operators.Answer) (q : Option js.Value) → GivenIf w t o q → Grows base w → SameState z.place w s u → Sim z.direction (Valued z.place base env t) (ir_meaning.answered z.place.classes z.low o env s) (js_meaning.value_or_wrong q sc u)
value_alike z base w env t sc s u ir_operators.lacks q h g same = sim_wrong z.direction (Valued z.place base env t) (js_meaning.value_or_wrong q sc u)
value_alike z base w env t sc s u (ir_operators.raises c message) q h g same = absurd h
value_alike z base w env t sc s u (ir_operators.answers v) q h g same = subst (λ o. Sim z.direction (Valued z.place base env t) (done (ir.ends (ir.gives v) env s)) (js_meaning.value_or_wrong o sc u)) (sym h.is) (sim_done z.direction (Valued z.place base env t) (ir.ends (ir.gives v) env s) (js.gives h.value u) (valued w v h.value s u g h.alike same))

-- the act of an operator, and that of its template
pub binary_acts : (z : Setting) (base : World) (env : ir.Env) (sc : js.Scope) (o : BinaryOp) (left right : IrType) → is_direct o ≡ true → ActsAlike z base base env (left ∷ right ∷ []) (binary_result o) (ir_meaning.binary z.place.classes z.low o) (by_value (template_value o)) sc
binary_acts z base env sc o left right h w _ _ s u g (one_more _ v1 x1 _ _ _ a (one_more _ v2 x2 _ _ _ b no_values)) same = value_alike z base w env (binary_result o) sc s u (ir_operators.binary_value o v1 v2) (template_value o x1 x2) (values_alike w (is_char left) (is_char right) o v1 v2 x1 x2 h a.stands b.stands) g same

-- `>>` behind a value
abbrev pub shifted_back : ℤ → Option js.Value → Option js.Value
shifted_back n None = None
shifted_back n (Some v) = js_operators.binary_value Op.ShiftRight v (js.number n)

-- `Number(e)` behind a value
abbrev pub number_after : Option js.Value → Option js.Value
number_after None = None
number_after (Some v) = js_operators.number_of v

-- what the template of an operator on one operand gives
abbrev pub one_template_value : UnaryOp → js.Value → Option js.Value
one_template_value BooleanNot v = Some (js.boolean (not (js_operators.to_boolean v)))
one_template_value CharToInt v = Some v
one_template_value ByteToInt v = Some v
one_template_value ShortToInt v = Some v
one_template_value IntToLong v = js_operators.to_big v
one_template_value IntToChar v = js_operators.binary_value Op.BitAnd v (js.number (pos 65535))
one_template_value IntToByte v = shifted_back (pos 24) (js_operators.binary_value Op.ShiftLeft v (js.number (pos 24)))
one_template_value IntToShort v = shifted_back (pos 16) (js_operators.binary_value Op.ShiftLeft v (js.number (pos 16)))
one_template_value LongToInt v = number_after (js_operators.as_signed_value (js.number (pos 32)) v)

abbrev pub by_one_value : (js.Value → Option js.Value) → List js.Value → js.Evaluation
by_one_value f (v ∷ []) sc u = js_meaning.value_or_wrong (f v) sc u
by_one_value f _ sc u = wrong

pub unit_is_int : (u : ℕ) → u < 2 ^ 16 → FitsSigned w32 (pos u)
unit_is_int u h = record { sfits = omega arith }

pub fits-exact : (n : ℤ) → FitsSigned w32 n → numbers.is_exact n ≡ true
fits-exact (pos n) f = let h : n < 2 ^ 31 = f.sfits in grind arith
fits-exact (negsuc n) f = let h : n < 2 ^ 31 = f.sfits in grind arith

exact_number : (n : ℤ) → FitsSigned w32 n → js_operators.exact n ≡ Some (js.number n)
exact_number n f = ap (λ (b : Bool). if b then Some (js.number n) else None) (fits-exact n f)

one_value_alike : (w : World) (o : UnaryOp) (v : ir.Value) (x : js.Value) → Stands w (is_char (unary_operand o)) v x → GivenIf w (unary_result o) (ir_operators.unary_value o v) (one_template_value o x)
one_value_alike w BooleanNot _ _ (same_boolean b) = record { value = js.boolean (not b); is = refl; alike = record { stands = same_boolean (not b); suits = refl; shaped = tt } }
one_value_alike w CharToInt _ _ (same_box r u a f b) = impossible (sym r)
one_value_alike w CharToInt _ _ (same_char r u f) = number_given w Int (pos u) _ refl (unit_is_int u f) refl
one_value_alike w ByteToInt _ _ (same_number a f) = number_given w Int a _ refl f refl
one_value_alike w ShortToInt _ _ (same_number a f) = number_given w Int a _ refl f refl
one_value_alike w IntToLong _ _ (same_number a f) = long_given w a _ refl (int_is_long a f)
one_value_alike w IntToChar _ _ (same_number a f) = record { value = js.number (pos (modulo a (2 ^ 16))); is = ap (λ (b : ℤ). Some (js.number b)) (to_unit-is a); alike = record { stands = same_char refl (modulo a (2 ^ 16)) (unit-below a); suits = refl; shaped = tt } }
one_value_alike w IntToByte _ _ (same_number a f) = number_given w Byte (signed.wrapped_to_byte a) _ (ap (λ (b : ℤ). Some (js.number b)) (to_byte-is a)) (byte-fits a) refl
one_value_alike w IntToShort _ _ (same_number a f) = number_given w Short (signed.wrapped_to_short a) _ (ap (λ (b : ℤ). Some (js.number b)) (to_short-is a)) (short-fits a) refl
one_value_alike w LongToInt _ _ (same_long a f) = number_given w Int (signed.wrapped a) _ (ap js_operators.exact (to_int-is a) ∙ exact_number (signed.wrapped a) (wrapped-fits a)) (wrapped-fits a) refl
one_value_alike w BooleanNot _ _ _ = tt
one_value_alike w CharToInt _ _ _ = tt
one_value_alike w ByteToInt _ _ _ = tt
one_value_alike w ShortToInt _ _ _ = tt
one_value_alike w IntToLong _ _ _ = tt
one_value_alike w IntToChar _ _ _ = tt
one_value_alike w IntToByte _ _ _ = tt
one_value_alike w IntToShort _ _ _ = tt
one_value_alike w LongToInt _ _ _ = tt

pub unary_acts : (z : Setting) (base : World) (env : ir.Env) (sc : js.Scope) (o : UnaryOp) (own : IrType) → Fits (unary_operand o) own → ActsAlike z base base env (own ∷ []) (unary_result o) (ir_meaning.unary z.place.classes z.low o) (by_one_value (one_template_value o)) sc
unary_acts z base env sc o own fit w _ _ s u g (one_more _ v x _ _ _ a no_values) same = value_alike z base w env (unary_result o) sc s u (ir_operators.unary_value o v) (one_template_value o x) (one_value_alike w o v x (value-fits w (unary_operand o) own v x fit a).stands) g same

negated_one : (xs : List js.Value) (sc : js.Scope) (u : js.State) → js_meaning.negated xs sc u ≡ by_one_value (one_template_value BooleanNot) xs sc u
negated_one [] sc u = refl
negated_one (v ∷ []) sc u = refl
negated_one (v ∷ w ∷ xs) sc u = refl

valued-again : (b : js.ExpressionEnd) (sc : js.Scope) → js.with_value (λ v s. by_one_value Some (v ∷ []) sc s) b ≡ done b
valued-again (js.gives v s) sc = refl
valued-again (js.throws v s) sc = refl

-- an expression by itself is one operand that is handed on
pub alone_shown : (e : js.Evaluation) (sc : js.Scope) (u : js.State) → e sc u ≡ js_meaning.in_order (e ∷ []) (by_one_value Some) sc u
alone_shown e sc u = sym (ap (then_do (e sc u)) (fun_ext (λ b. valued-again b sc)) ∙ then_do-right (e sc u))

module _ (p : js.Program) (low : js_meaning.Low) where
  shift_next : (n : ℕ) (e : numbers.is_exact (pos n) ≡ true) (o : Option js.Value) (sc sc' : js.Scope) (u : js.State) → then_do (js_meaning.value_or_wrong o sc u) (js.with_value (λ v. js_meaning.in_order (js_meaning.evaluate p low (tree.number_literal (pos n)) ∷ []) (λ vs. js_meaning.binary Op.ShiftRight (v ∷ vs)) sc')) ≡ js_meaning.value_or_wrong (shifted_back (pos n) o) sc u
  shift_next n e None sc sc' u = refl
  shift_next n e (Some v) sc sc' u = ap (λ (t : Bool). then_do (if t then done (js.gives (js.number (pos n)) u) else wrong) (js.with_value (λ w. js_meaning.binary Op.ShiftRight (v ∷ w ∷ []) sc'))) e ∙ scope_free (js_operators.binary_value Op.ShiftRight v (js.number (pos n))) sc' sc u

  abbrev back : ℕ → js.Scope → js.Value → js.State → Out js.ExpressionEnd
  back n sc v = js_meaning.in_order (js_meaning.evaluate p low (tree.number_literal (pos n)) ∷ []) (λ vs. js_meaning.binary Op.ShiftRight (v ∷ vs)) sc

  one_shift : (n : ℕ) (e : numbers.is_exact (pos n) ≡ true) (sc : js.Scope) (x : js.Value) (u : js.State) → js_meaning.in_order (js_meaning.evaluate p low (tree.number_literal (pos n)) ∷ []) (λ vs sc' u. then_do (js_meaning.binary Op.ShiftLeft (x ∷ vs) sc' u) (js.with_value (back n sc))) sc u ≡ js_meaning.value_or_wrong (shifted_back (pos n) (js_operators.binary_value Op.ShiftLeft x (js.number (pos n)))) sc u
  one_shift n e sc x u = ap (λ (t : Bool). then_do (if t then done (js.gives (js.number (pos n)) u) else wrong) (js.with_value (λ w q. then_do (js_meaning.binary Op.ShiftLeft (x ∷ w ∷ []) sc q) (js.with_value (back n sc))))) e ∙ shift_next n e (js_operators.binary_value Op.ShiftLeft x (js.number (pos n))) sc sc u

  pub cut_shown : (n : ℕ) (e : numbers.is_exact (pos n) ≡ true) (g : tree.Expression) (sc : js.Scope) (u : js.State) → js_meaning.evaluate p low (tree.binary_of (tree.binary_of g Op.ShiftLeft (tree.number_literal (pos n))) Op.ShiftRight (tree.number_literal (pos n))) sc u ≡ js_meaning.in_order (js_meaning.evaluate p low g ∷ []) (by_one_value (λ v. shifted_back (pos n) (js_operators.binary_value Op.ShiftLeft v (js.number (pos n))))) sc u
  cut_shown n e g sc u = in_order-then (js_meaning.evaluate p low g ∷ js_meaning.evaluate p low (tree.number_literal (pos n)) ∷ []) (js_meaning.binary Op.ShiftLeft) (back n sc) sc u ∙ ap (λ f. then_do (js_meaning.evaluate p low g sc u) (js.with_value f)) (fun_ext (λ x. fun_ext (λ q. one_shift n e sc x q)))

  one-act : (f : js.Value → Option js.Value) (xs : List js.Value) (sc : js.Scope) (u : js.State) → js_meaning.by_one f xs sc u ≡ by_one_value f xs sc u
  one-act f [] sc u = refl
  one-act f (v ∷ []) sc u = refl
  one-act f (v ∷ w ∷ xs) sc u = refl

  number_next : (o : Option js.Value) (sc sc' : js.Scope) (u : js.State) → then_do (js_meaning.value_or_wrong o sc' u) (js.with_value (λ v. js_meaning.value_or_wrong (js_operators.number_of v) sc)) ≡ js_meaning.value_or_wrong (number_after o) sc u
  number_next None sc sc' u = refl
  number_next (Some v) sc sc' u = refl

  -- `Number(BigInt.asIntN(32, e))`
  to_number_shown : (e : tree.Expression) (sc : js.Scope) (u : js.State) → js_meaning.evaluate p low (unary_template LongToInt e) sc u ≡ js_meaning.in_order (js_meaning.evaluate p low e ∷ []) (by_one_value (one_template_value LongToInt)) sc u
  to_number_shown e sc u = in_order-then (js_meaning.evaluate p low e ∷ []) (λ vs. js_meaning.by_two js_operators.as_signed_value (js.number (pos 32) ∷ vs)) (λ v. js_meaning.value_or_wrong (js_operators.number_of v) sc) sc u ∙ ap (λ f. then_do (js_meaning.evaluate p low e sc u) (js.with_value f)) (fun_ext (λ x. fun_ext (λ q. number_next (js_operators.as_signed_value (js.number (pos 32)) x) sc sc q)))

  module _ (e : tree.Expression) (sc : js.Scope) (u : js.State) where
    pub unary_shown : (o : UnaryOp) → (js_meaning.evaluate p low (unary_template o e) sc u ≡ js_meaning.in_order (js_meaning.evaluate p low e ∷ []) (by_one_value (one_template_value o)) sc u)
    unary_shown BooleanNot = same_act (js_meaning.evaluate p low e ∷ []) js_meaning.negated (by_one_value (one_template_value BooleanNot)) sc u negated_one
    unary_shown CharToInt = alone_shown (js_meaning.evaluate p low e) sc u
    unary_shown ByteToInt = alone_shown (js_meaning.evaluate p low e) sc u
    unary_shown ShortToInt = alone_shown (js_meaning.evaluate p low e) sc u
    unary_shown IntToLong = same_act (js_meaning.evaluate p low e ∷ []) (js_meaning.by_one js_operators.to_big) (by_one_value (one_template_value IntToLong)) sc u (one-act js_operators.to_big)
    unary_shown IntToChar = refl
    unary_shown IntToByte = cut_shown 24 refl e sc u
    unary_shown IntToShort = cut_shown 16 refl e sc u
    unary_shown LongToInt = to_number_shown e sc u
