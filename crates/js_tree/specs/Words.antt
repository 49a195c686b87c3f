-- The words of operators and fixed functions, and the spelling of units.
use Rattle.std.specs.Prelude.{ℕ, List, [], ◌∷◌, ◌+◌, ◌/◌, ◌%◌, ◌==◌, ◌&&◌, nat_lt, nat_le, codes, if◌then◌else◌}
use Rattle.js_tree.specs.declared.operators.BinaryOperator.{BinaryOperator}
use Rattle.js_tree.specs.declared.operators.BinaryOperator.TheVariants.{Add, Subtract, Multiply, Divide, Remainder, BitAnd, BitOr, BitXor, ShiftLeft, ShiftRight, ShiftRightUnsigned, StrictEqual, StrictNotEqual, Less, LessOrEqual, Greater, GreaterOrEqual, And, Or, In, InstanceOf}
use Rattle.js_tree.specs.declared.operators.UnaryOperator.{UnaryOperator}
use Rattle.js_tree.specs.declared.operators.UnaryOperator.TheVariants.{Not, TypeOf}
use Rattle.js_tree.specs.declared.operators.HostFunction.{HostFunction}
use Rattle.js_tree.specs.declared.operators.HostFunction.TheVariants.{BigInt, Number, StringFromCharCode, ConsoleLog}
use Rattle.js_tree.specs.declared.operators.HostOperation.{HostOperation}
use Rattle.js_tree.specs.declared.operators.HostOperation.TheVariants.{BigIntAsIntN, BigIntAsUintN, MathImul}

abbrev pub binary_text : BinaryOperator → List ℕ
binary_text Add = codes "+"
binary_text Subtract = codes "-"
binary_text Multiply = codes "*"
binary_text Divide = codes "/"
binary_text Remainder = codes "%"
binary_text BitAnd = codes "&"
binary_text BitOr = codes "|"
binary_text BitXor = codes "^"
binary_text ShiftLeft = codes "<<"
binary_text ShiftRight = codes ">>"
binary_text ShiftRightUnsigned = codes ">>>"
binary_text StrictEqual = codes "==="
binary_text StrictNotEqual = codes "!=="
binary_text Less = codes "<"
binary_text LessOrEqual = codes "<="
binary_text Greater = codes ">"
binary_text GreaterOrEqual = codes ">="
binary_text And = codes "&&"
binary_text Or = codes "||"
binary_text In = codes "in"
binary_text InstanceOf = codes "instanceof"

-- with the space that stands before the operand
abbrev pub unary_text : UnaryOperator → List ℕ
unary_text Not = codes "!"
unary_text TypeOf = codes "typeof "

abbrev pub host_text : HostFunction → List ℕ
host_text BigInt = codes "BigInt"
host_text Number = codes "Number"
host_text StringFromCharCode = codes "String.fromCharCode"
host_text ConsoleLog = codes "console.log"

abbrev pub host_of_two_text : HostOperation → List ℕ
host_of_two_text BigIntAsIntN = codes "BigInt.asIntN"
host_of_two_text BigIntAsUintN = codes "BigInt.asUintN"
host_of_two_text MathImul = codes "Math.imul"

-- a hexadecimal digit, lower case
abbrev pub hex_digit : ℕ → ℕ
hex_digit n = if nat_lt n 10 then 48 + n else 87 + n

-- `\u` and four hexadecimal digits
abbrev pub unit_escape : ℕ → List ℕ
unit_escape u = 92 ∷ 117 ∷ hex_digit (u / 4096) ∷ hex_digit (u / 256 % 16) ∷ hex_digit (u / 16 % 16) ∷ hex_digit (u % 16) ∷ []

-- a unit of a string: the quote and the backslash behind a backslash, other units from 0020 to 007E as they are, and the rest by
-- their digits
abbrev pub unit_text : ℕ → List ℕ
unit_text u = if u == 34 then codes "\\\"" else (if u == 92 then codes "\\\\" else (if (nat_le 32 u && nat_le u 126) then u ∷ [] else unit_escape u))
