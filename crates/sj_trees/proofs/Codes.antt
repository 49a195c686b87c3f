-- An operator is the one that has its code.
use Rattle.std.proofs.Common.{◌≡◌, ℕ, List, [], ◌∷◌, Some, Bool, true, false, Option, refl, eqb, sym}
use Rattle.std.proofs.lemmas.Bool.{eqb-true}
use Rattle.std.specs.Prelude.{if◌then◌else◌}
use Rattle.sj_trees.specs.Operators.{unary_code, unary_with, unary_among, unary_operators, binary_code, binary_with, binary_among, binary_operators}
use Rattle.sj_trees.specs.declared.operators.BinaryOp.{BinaryOp}
use Rattle.sj_trees.specs.declared.operators.UnaryOp.{UnaryOp}

pub unary_with-unary_code : (o : UnaryOp) → unary_with (unary_code o) ≡ Some o
unary_with-unary_code UnaryOp.BooleanNot = refl
unary_with-unary_code UnaryOp.CharToInt = refl
unary_with-unary_code UnaryOp.ByteToInt = refl
unary_with-unary_code UnaryOp.ShortToInt = refl
unary_with-unary_code UnaryOp.IntToLong = refl
unary_with-unary_code UnaryOp.IntToChar = refl
unary_with-unary_code UnaryOp.IntToByte = refl
unary_with-unary_code UnaryOp.IntToShort = refl
unary_with-unary_code UnaryOp.LongToInt = refl

pub binary_with-binary_code : (o : BinaryOp) → binary_with (binary_code o) ≡ Some o
binary_with-binary_code BinaryOp.StrictEqual = refl
binary_with-binary_code BinaryOp.StrictNotEqual = refl
binary_with-binary_code BinaryOp.StringConcatenate = refl
binary_with-binary_code BinaryOp.BooleanEqual = refl
binary_with-binary_code BinaryOp.BooleanNotEqual = refl
binary_with-binary_code BinaryOp.BooleanOr = refl
binary_with-binary_code BinaryOp.BooleanAnd = refl
binary_with-binary_code BinaryOp.IntAdd = refl
binary_with-binary_code BinaryOp.IntSubtract = refl
binary_with-binary_code BinaryOp.IntMultiply = refl
binary_with-binary_code BinaryOp.IntDivide = refl
binary_with-binary_code BinaryOp.IntRemainder = refl
binary_with-binary_code BinaryOp.IntOr = refl
binary_with-binary_code BinaryOp.IntAnd = refl
binary_with-binary_code BinaryOp.IntXor = refl
binary_with-binary_code BinaryOp.IntShiftLeft = refl
binary_with-binary_code BinaryOp.IntShiftRightLogical = refl
binary_with-binary_code BinaryOp.IntShiftRightArithmetic = refl
binary_with-binary_code BinaryOp.IntEqual = refl
binary_with-binary_code BinaryOp.IntNotEqual = refl
binary_with-binary_code BinaryOp.IntLess = refl
binary_with-binary_code BinaryOp.IntLessOrEqual = refl
binary_with-binary_code BinaryOp.IntGreater = refl
binary_with-binary_code BinaryOp.IntGreaterOrEqual = refl
binary_with-binary_code BinaryOp.LongAdd = refl
binary_with-binary_code BinaryOp.LongSubtract = refl
binary_with-binary_code BinaryOp.LongMultiply = refl
binary_with-binary_code BinaryOp.LongDivide = refl
binary_with-binary_code BinaryOp.LongRemainder = refl
binary_with-binary_code BinaryOp.LongOr = refl
binary_with-binary_code BinaryOp.LongAnd = refl
binary_with-binary_code BinaryOp.LongXor = refl
binary_with-binary_code BinaryOp.LongShiftLeft = refl
binary_with-binary_code BinaryOp.LongShiftRightLogical = refl
binary_with-binary_code BinaryOp.LongShiftRightArithmetic = refl
binary_with-binary_code BinaryOp.LongEqual = refl
binary_with-binary_code BinaryOp.LongNotEqual = refl
binary_with-binary_code BinaryOp.LongLess = refl
binary_with-binary_code BinaryOp.LongLessOrEqual = refl
binary_with-binary_code BinaryOp.LongGreater = refl
binary_with-binary_code BinaryOp.LongGreaterOrEqual = refl

unary_code-first : (b : Bool) (p o : UnaryOp) (n : ℕ) (rest : Option UnaryOp) → eqb n (unary_code p) ≡ b → (rest ≡ Some o → unary_code o ≡ n) → (if b then Some p else rest) ≡ Some o → unary_code o ≡ n
unary_code-first true p o n rest q found e = let same : p ≡ o = cc in rw (← same) (sym (eqb-true n (unary_code p) q))
unary_code-first false p o n rest q found e = found e

pub unary_code-unary_among : (os : List UnaryOp) (n : ℕ) (o : UnaryOp) → unary_among os n ≡ Some o → unary_code o ≡ n
unary_code-unary_among [] n o e = cc
unary_code-unary_among (p ∷ ps) n o e = unary_code-first (eqb n (unary_code p)) p o n (unary_among ps n) refl (unary_code-unary_among ps n o) e

pub unary_code-unary_with : (n : ℕ) (o : UnaryOp) → unary_with n ≡ Some o → unary_code o ≡ n
unary_code-unary_with = unary_code-unary_among unary_operators

binary_code-first : (b : Bool) (p o : BinaryOp) (n : ℕ) (rest : Option BinaryOp) → eqb n (binary_code p) ≡ b → (rest ≡ Some o → binary_code o ≡ n) → (if b then Some p else rest) ≡ Some o → binary_code o ≡ n
binary_code-first true p o n rest q found e = let same : p ≡ o = cc in rw (← same) (sym (eqb-true n (binary_code p) q))
binary_code-first false p o n rest q found e = found e

pub binary_code-binary_among : (os : List BinaryOp) (n : ℕ) (o : BinaryOp) → binary_among os n ≡ Some o → binary_code o ≡ n
binary_code-binary_among [] n o e = cc
binary_code-binary_among (p ∷ ps) n o e = binary_code-first (eqb n (binary_code p)) p o n (binary_among ps n) refl (binary_code-binary_among ps n o) e

pub binary_code-binary_with : (n : ℕ) (o : BinaryOp) → binary_with n ≡ Some o → binary_code o ≡ n
binary_code-binary_with = binary_code-binary_among binary_operators
