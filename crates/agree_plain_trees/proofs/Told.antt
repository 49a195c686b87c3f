-- What the text of an expression tells of its type: a bare remainder is one of longs, and a literal number is no long; a cast to any leaves the text as it is. So
-- no `|` takes a ratio of Numbers.
use Rattle.std.proofs.Common.{◌≡◌, zero, suc, Bool, true, false, None, Option, refl, sym, ap, ◌∙◌}
use Rattle.std.specs.Prelude.{pos, negsuc}
use Rattle.js_mean.specs.Meaning as js_meaning
use Rattle.js_mean.specs.States as js
use Rattle.js_tree.specs.Terms as tree
use Rattle.js_tree.specs.declared.operators.BinaryOperator.TheVariants as Op
use Rattle.sj_names.proofs.Same.{impossible}
use Rattle.sj_trees.specs.declared.operators.BinaryOp.{BinaryOp}
use Rattle.sj_trees.specs.declared.operators.BinaryOp.TheVariants.{StrictEqual, StrictNotEqual, StringConcatenate, BooleanEqual, BooleanNotEqual, BooleanOr, BooleanAnd, LongAdd, LongSubtract, LongMultiply, LongDivide, LongRemainder, LongOr, LongAnd, LongXor, LongShiftLeft, LongShiftRightLogical, LongShiftRightArithmetic, LongEqual, LongNotEqual, LongLess, LongLessOrEqual, LongGreater, LongGreaterOrEqual}
use Rattle.sj_trees.specs.declared.types.IrType.{IrType}
use Rattle.sj_trees.specs.declared.types.IrType.TheVariants.{Any, Boolean, Char, Byte, Short, Int, Long}
use Rattle.agree_body_rules.specs.Rules.{left_operand, right_operand}
use Rattle.agree_body_rules.specs.Standing.{Fits}
use Rattle.agree_plain_trees.proofs.Operators.{is_direct}

-- a type of which longs may be, and one of which other numbers may be
abbrev pub may_be_long : IrType → Bool
may_be_long Any = true
may_be_long Long = true
may_be_long _ = false

abbrev pub may_be_narrow : IrType → Bool
may_be_narrow Any = true
may_be_narrow Char = true
may_be_narrow Byte = true
may_be_narrow Short = true
may_be_narrow Int = true
may_be_narrow _ = false

abbrev pub tells : IrType → tree.Expression → Bool
tells t (tree.binary_of e Op.Remainder g) = may_be_long t
tells t (tree.binary_of e Op.Divide g) = false
tells t (tree.number_literal z) = may_be_narrow t
tells t _ = true

not_ratio : (p : js.Program) (low : js_meaning.Low) (t : IrType) (e : tree.Expression) → may_be_long t ≡ false → tells t e ≡ true → js_meaning.ratio_of p low e ≡ None
not_ratio p low Any e n h = impossible (sym n)
not_ratio p low Long e n h = impossible (sym n)
not_ratio p low t (tree.binary_of e Op.Remainder g) n h = impossible h
not_ratio p low t (tree.binary_of e Op.Divide g) n h = impossible h
not_ratio p low t (tree.binary_of e _ g) n h = refl
not_ratio p low t _ n h = refl

over_none : (g : tree.Expression) → js_meaning.over_zero g None ≡ None
over_none (tree.number_literal (pos zero)) = refl
over_none (tree.number_literal (pos (suc n))) = refl
over_none (tree.number_literal (negsuc n)) = refl
over_none _ = refl

not_literal : (t : IrType) (g : tree.Expression) (r : Option js_meaning.Ratio) → may_be_narrow t ≡ false → tells t g ≡ true → js_meaning.over_zero g r ≡ None
not_literal t (tree.number_literal z) r n h = impossible (sym n ∙ h)
not_literal t _ r n h = refl

-- the left operand is no long, or the right one is no Number
data Side (s t : IrType) : Type 0 where
  left_side : may_be_long s ≡ false → Side s t
  right_side : may_be_narrow t ≡ false → Side s t

int_left : (s t : IrType) → Fits Int s → Side s t
int_left Any t f = impossible f
int_left Long t f = impossible f
int_left s t f = left_side refl

boolean_left : (s t : IrType) → Fits Boolean s → Side s t
boolean_left Any t f = impossible f
boolean_left Long t f = impossible f
boolean_left s t f = left_side refl

long_right : (s t : IrType) → Fits Long t → Side s t
long_right s Any f = impossible f
long_right s Char f = impossible f
long_right s Byte f = impossible f
long_right s Short f = impossible f
long_right s Int f = impossible f
long_right s t f = right_side refl

side : (o : BinaryOp) → is_direct o ≡ true → (s t : IrType) → Fits (left_operand o) s → Fits (right_operand o) t → Side s t
side StrictEqual h s t f g = impossible h
side StrictNotEqual h s t f g = impossible h
side StringConcatenate h s t f g = impossible h
side BooleanEqual h s t f g = boolean_left s t f
side BooleanNotEqual h s t f g = boolean_left s t f
side BooleanOr h s t f g = boolean_left s t f
side BooleanAnd h s t f g = boolean_left s t f
side LongAdd h s t f g = long_right s t g
side LongSubtract h s t f g = long_right s t g
side LongMultiply h s t f g = long_right s t g
side LongDivide h s t f g = impossible h
side LongRemainder h s t f g = impossible h
side LongOr h s t f g = long_right s t g
side LongAnd h s t f g = long_right s t g
side LongXor h s t f g = long_right s t g
side LongShiftLeft h s t f g = impossible h
side LongShiftRightLogical h s t f g = impossible h
side LongShiftRightArithmetic h s t f g = impossible h
side LongEqual h s t f g = long_right s t g
side LongNotEqual h s t f g = long_right s t g
side LongLess h s t f g = long_right s t g
side LongLessOrEqual h s t f g = long_right s t g
side LongGreater h s t f g = long_right s t g
side LongGreaterOrEqual h s t f g = long_right s t g
side _ h s t f g = int_left s t f

by_side : (p : js.Program) (low : js_meaning.Low) (s t : IrType) (e g : tree.Expression) → Side s t → tells s e ≡ true → tells t g ≡ true → js_meaning.over_zero g (js_meaning.ratio_of p low e) ≡ None
by_side p low s t e g (left_side n) h k = ap (js_meaning.over_zero g) (not_ratio p low s e n h) ∙ over_none g
by_side p low s t e g (right_side n) h k = not_literal t g (js_meaning.ratio_of p low e) n k

-- no operator takes a ratio over the literal 0 from its operands
pub no_ratio : (p : js.Program) (low : js_meaning.Low) (o : BinaryOp) → is_direct o ≡ true → (s t : IrType) (e g : tree.Expression) → Fits (left_operand o) s → Fits (right_operand o) t → tells s e ≡ true → tells t g ≡ true → js_meaning.over_zero g (js_meaning.ratio_of p low e) ≡ None
no_ratio p low o d s t e g f k h i = by_side p low s t e g (side o d s t f k) h i

-- an int that is made of a char, a byte or a short has its text
pub tells-narrow : (s : IrType) (e : tree.Expression) → may_be_long s ≡ false → tells s e ≡ true → tells Int e ≡ true
tells-narrow Any e n h = impossible (sym n)
tells-narrow Long e n h = impossible (sym n)
tells-narrow s (tree.binary_of e Op.Remainder g) n h = impossible h
tells-narrow s (tree.binary_of e Op.Divide g) n h = impossible h
tells-narrow s (tree.binary_of e _ g) n h = refl
tells-narrow s (tree.number_literal z) n h = refl
tells-narrow s _ n h = refl

-- what is cast to any has its text
pub tells-any : (s : IrType) (e : tree.Expression) → tells s e ≡ true → tells Any e ≡ true
tells-any s (tree.binary_of e Op.Remainder g) h = refl
tells-any s (tree.binary_of e Op.Divide g) h = impossible h
tells-any s (tree.binary_of e _ g) h = refl
tells-any s (tree.number_literal z) h = refl
tells-any s _ h = refl
