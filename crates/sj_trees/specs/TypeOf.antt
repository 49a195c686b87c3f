-- The type of a tree.
use Rattle.std.specs.Prelude.{true}
use Rattle.sj_trees.specs.Term.{Term, Terms, no_terms, more_terms, var_def, skip, block_of, labeled, assign, return_to, if_then, while_loop, do_while, try_catch, try_finally, throw, match_on, new_object, load_module, store_module, select, select_static, apply, apply_statically, apply_static, unary_op, binary_op, new_array, array_value, array_length, array_select, is_instance_of, as_instance_of, undefined_literal, null_literal, boolean_literal, char_literal, byte_literal, short_literal, int_literal, long_literal, string_literal, var_ref, this_ref, log_line}
use Rattle.sj_trees.specs.declared.operators.BinaryOp.{BinaryOp}
use Rattle.sj_trees.specs.declared.operators.UnaryOp.{UnaryOp}
use Rattle.sj_trees.specs.declared.types.IrType.{IrType}
use Rattle.sj_trees.specs.declared.types.IrType.TheVariants.{Nothing, Undefined, Boolean, Char, Byte, Short, Int, Long, String, Null, Array, NoType}
use Rattle.sj_trees.specs.Types.{class_type}

-- the type of what an operator with one operand gives
abbrev pub unary_result : UnaryOp → IrType
unary_result UnaryOp.BooleanNot = Boolean
unary_result UnaryOp.CharToInt = Int
unary_result UnaryOp.ByteToInt = Int
unary_result UnaryOp.ShortToInt = Int
unary_result UnaryOp.IntToLong = Long
unary_result UnaryOp.IntToChar = Char
unary_result UnaryOp.IntToByte = Byte
unary_result UnaryOp.IntToShort = Short
unary_result UnaryOp.LongToInt = Int

-- the type of what an operator with two operands gives
abbrev pub binary_result : BinaryOp → IrType
binary_result BinaryOp.StrictEqual = Boolean
binary_result BinaryOp.StrictNotEqual = Boolean
binary_result BinaryOp.StringConcatenate = String
binary_result BinaryOp.BooleanEqual = Boolean
binary_result BinaryOp.BooleanNotEqual = Boolean
binary_result BinaryOp.BooleanOr = Boolean
binary_result BinaryOp.BooleanAnd = Boolean
binary_result BinaryOp.IntAdd = Int
binary_result BinaryOp.IntSubtract = Int
binary_result BinaryOp.IntMultiply = Int
binary_result BinaryOp.IntDivide = Int
binary_result BinaryOp.IntRemainder = Int
binary_result BinaryOp.IntOr = Int
binary_result BinaryOp.IntAnd = Int
binary_result BinaryOp.IntXor = Int
binary_result BinaryOp.IntShiftLeft = Int
binary_result BinaryOp.IntShiftRightLogical = Int
binary_result BinaryOp.IntShiftRightArithmetic = Int
binary_result BinaryOp.IntEqual = Boolean
binary_result BinaryOp.IntNotEqual = Boolean
binary_result BinaryOp.IntLess = Boolean
binary_result BinaryOp.IntLessOrEqual = Boolean
binary_result BinaryOp.IntGreater = Boolean
binary_result BinaryOp.IntGreaterOrEqual = Boolean
binary_result BinaryOp.LongAdd = Long
binary_result BinaryOp.LongSubtract = Long
binary_result BinaryOp.LongMultiply = Long
binary_result BinaryOp.LongDivide = Long
binary_result BinaryOp.LongRemainder = Long
binary_result BinaryOp.LongOr = Long
binary_result BinaryOp.LongAnd = Long
binary_result BinaryOp.LongXor = Long
binary_result BinaryOp.LongShiftLeft = Long
binary_result BinaryOp.LongShiftRightLogical = Long
binary_result BinaryOp.LongShiftRightArithmetic = Long
binary_result BinaryOp.LongEqual = Boolean
binary_result BinaryOp.LongNotEqual = Boolean
binary_result BinaryOp.LongLess = Boolean
binary_result BinaryOp.LongLessOrEqual = Boolean
binary_result BinaryOp.LongGreater = Boolean
binary_result BinaryOp.LongGreaterOrEqual = Boolean

-- a loop on the literal true never ends normally
abbrev pub loop_type : Term → IrType
loop_type (boolean_literal p true) = Nothing
loop_type _ = NoType

abbrev mutual
  -- the type of a tree
  pub type_of_term : Term → IrType
  type_of_term (var_def p x t b e) = NoType
  type_of_term (skip p) = NoType
  type_of_term (block_of p es) = type_of_last NoType es
  type_of_term (labeled p l t e) = t
  type_of_term (assign p e d) = NoType
  type_of_term (return_to p e l) = Nothing
  type_of_term (if_then p c e d t) = t
  type_of_term (while_loop p c e) = loop_type c
  type_of_term (do_while p e c) = loop_type c
  type_of_term (try_catch p e x d t) = t
  type_of_term (try_finally p e d) = type_of_term e
  type_of_term (throw p e) = Nothing
  type_of_term (match_on p e cs d t) = t
  type_of_term (new_object p c m es) = class_type c
  type_of_term (load_module p c) = class_type c
  type_of_term (store_module p c e) = NoType
  type_of_term (select p e c f t) = t
  type_of_term (select_static p c f t) = t
  type_of_term (apply p e m es t) = t
  type_of_term (apply_statically p e c n m es t) = t
  type_of_term (apply_static p c n m es t) = t
  type_of_term (unary_op p o e) = unary_result o
  type_of_term (binary_op p o e d) = binary_result o
  type_of_term (new_array p r e) = Array r
  type_of_term (array_value p r es) = Array r
  type_of_term (array_length p e) = Int
  type_of_term (array_select p e i t) = t
  type_of_term (is_instance_of p e t) = Boolean
  type_of_term (as_instance_of p e t) = t
  type_of_term (undefined_literal p) = Undefined
  type_of_term (null_literal p) = Null
  type_of_term (boolean_literal p b) = Boolean
  type_of_term (char_literal p v) = Char
  type_of_term (byte_literal p v) = Byte
  type_of_term (short_literal p v) = Short
  type_of_term (int_literal p v) = Int
  type_of_term (long_literal p v) = Long
  type_of_term (string_literal p u) = String
  type_of_term (var_ref p x t) = t
  type_of_term (this_ref p t) = t
  type_of_term (log_line p e) = NoType

  -- the type of the last, or this type where there is none
  pub type_of_last : IrType → Terms → IrType
  type_of_last t no_terms = t
  type_of_last t (more_terms e es) = type_of_last (type_of_term e) es
