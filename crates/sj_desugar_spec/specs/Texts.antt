-- Operands of operators.
use Rattle.sj_core.specs.Terms.{Expression, char_text, value_text}
use Rattle.sj_desugar_spec.specs.Coercions.{coerced}
use Rattle.sj_core.specs.BinaryOp.{BinaryOp}
use Rattle.sj_core.specs.BinaryOpVariants.{StringConcatenate, StrictEqual, StrictNotEqual}
use Rattle.sj_core.specs.IrType.{IrType}
use Rattle.sj_core.specs.IrTypeVariants.{Any, Char, String}

-- the text of an expression of this type: a string as it is, a char as its one unit, and any other value as its text
abbrev pub text_of : IrType → Expression → Expression
text_of String e = e
text_of Char e = char_text e
text_of _ e = value_text e

-- an operand of this type of an operator: what is joined is texts, and what is compared by identity is of any type
abbrev pub operand_of : BinaryOp → IrType → Expression → Expression
operand_of StringConcatenate t e = text_of t e
operand_of StrictEqual t e = coerced Any t e
operand_of StrictNotEqual t e = coerced Any t e
operand_of _ t e = e
