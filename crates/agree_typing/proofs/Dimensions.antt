-- The type of a tree that is listed has from 1 to 255 dimensions, where it is one of arrays.
use Rattle.std.proofs.Common.{Bool, true, false, ℕ, List, codes, if◌then◌else◌}
use Rattle.std.specs.Prelude.{nat_eq}
use Rattle.std.specs.Cmp.Lexicographic.{pointwise}
use Rattle.sj_text_spec.specs.Rules.{IsListedType, IsListedTree, AreListedTrees}
use Rattle.agree_local_rules.specs.Typing.{AreDimensions}
use Rattle.sj_trees.specs.Term.{Term, Terms, no_terms, more_terms, block_of, labeled, if_then, while_loop, do_while, try_catch, try_finally, match_on, new_object, new_array, array_value, array_select, load_module, select, select_static, apply, apply_statically, apply_static, unary_op, binary_op, as_instance_of, boolean_literal, var_ref, this_ref}
use Rattle.sj_trees.specs.TypeOf.{type_of_term, type_of_last, loop_type, unary_result, binary_result}
use Rattle.sj_trees.specs.Types.{class_type}
use Rattle.sj_trees.specs.declared.operators.BinaryOp.{BinaryOp}
use Rattle.sj_trees.specs.declared.operators.BinaryOp.TheVariants.{StrictEqual, StrictNotEqual, StringConcatenate, BooleanEqual, BooleanNotEqual, BooleanOr, BooleanAnd, IntAdd, IntSubtract, IntMultiply, IntDivide, IntRemainder, IntOr, IntAnd, IntXor, IntShiftLeft, IntShiftRightLogical, IntShiftRightArithmetic, IntEqual, IntNotEqual, IntLess, IntLessOrEqual, IntGreater, IntGreaterOrEqual, LongAdd, LongSubtract, LongMultiply, LongDivide, LongRemainder, LongOr, LongAnd, LongXor, LongShiftLeft, LongShiftRightLogical, LongShiftRightArithmetic, LongEqual, LongNotEqual, LongLess, LongLessOrEqual, LongGreater, LongGreaterOrEqual}
use Rattle.sj_trees.specs.declared.operators.UnaryOp.{UnaryOp}
use Rattle.sj_trees.specs.declared.operators.UnaryOp.TheVariants.{BooleanNot, CharToInt, ByteToInt, ShortToInt, IntToLong, IntToChar, IntToByte, IntToShort, LongToInt}
use Rattle.sj_trees.specs.declared.types.IrType.{IrType}
use Rattle.sj_trees.specs.declared.types.IrType.TheVariants.{Any, Array, Class, NoType}

pub listed_dimensions : (t : IrType) → IsListedType t → AreDimensions t
listed_dimensions (Array r) h = (h.0.0, h.0.1)
listed_dimensions _ h = tt

class_dimensions : (c : List ℕ) → AreDimensions (class_type c)
class_dimensions c = go (pointwise nat_eq c (codes "java.lang.Object"))
  where
    go : (b : Bool) → AreDimensions (if b then Any else Class c)
    go true = tt
    go false = tt

unary_dimensions : (o : UnaryOp) → AreDimensions (unary_result o)
unary_dimensions BooleanNot = tt
unary_dimensions CharToInt = tt
unary_dimensions ByteToInt = tt
unary_dimensions ShortToInt = tt
unary_dimensions IntToLong = tt
unary_dimensions IntToChar = tt
unary_dimensions IntToByte = tt
unary_dimensions IntToShort = tt
unary_dimensions LongToInt = tt

binary_dimensions : (o : BinaryOp) → AreDimensions (binary_result o)
binary_dimensions StrictEqual = tt
binary_dimensions StrictNotEqual = tt
binary_dimensions StringConcatenate = tt
binary_dimensions BooleanEqual = tt
binary_dimensions BooleanNotEqual = tt
binary_dimensions BooleanOr = tt
binary_dimensions BooleanAnd = tt
binary_dimensions IntAdd = tt
binary_dimensions IntSubtract = tt
binary_dimensions IntMultiply = tt
binary_dimensions IntDivide = tt
binary_dimensions IntRemainder = tt
binary_dimensions IntOr = tt
binary_dimensions IntAnd = tt
binary_dimensions IntXor = tt
binary_dimensions IntShiftLeft = tt
binary_dimensions IntShiftRightLogical = tt
binary_dimensions IntShiftRightArithmetic = tt
binary_dimensions IntEqual = tt
binary_dimensions IntNotEqual = tt
binary_dimensions IntLess = tt
binary_dimensions IntLessOrEqual = tt
binary_dimensions IntGreater = tt
binary_dimensions IntGreaterOrEqual = tt
binary_dimensions LongAdd = tt
binary_dimensions LongSubtract = tt
binary_dimensions LongMultiply = tt
binary_dimensions LongDivide = tt
binary_dimensions LongRemainder = tt
binary_dimensions LongOr = tt
binary_dimensions LongAnd = tt
binary_dimensions LongXor = tt
binary_dimensions LongShiftLeft = tt
binary_dimensions LongShiftRightLogical = tt
binary_dimensions LongShiftRightArithmetic = tt
binary_dimensions LongEqual = tt
binary_dimensions LongNotEqual = tt
binary_dimensions LongLess = tt
binary_dimensions LongLessOrEqual = tt
binary_dimensions LongGreater = tt
binary_dimensions LongGreaterOrEqual = tt

loop_dimensions : (c : Term) → AreDimensions (loop_type c)
loop_dimensions (boolean_literal p true) = tt
loop_dimensions _ = tt

mutual
  pub tree_dimensions : (t : Term) → IsListedTree t → AreDimensions (type_of_term t)
  tree_dimensions (block_of p es) h = last_dimensions NoType es tt h
  tree_dimensions (labeled p l t e) h = listed_dimensions t h.1
  tree_dimensions (if_then p c e d t) h = listed_dimensions t h.3
  tree_dimensions (while_loop p c e) h = loop_dimensions c
  tree_dimensions (do_while p e c) h = loop_dimensions c
  tree_dimensions (try_catch p e x d t) h = listed_dimensions t h.3
  tree_dimensions (try_finally p e d) h = tree_dimensions e h.0
  tree_dimensions (match_on p e cs d t) h = listed_dimensions t h.3
  tree_dimensions (new_object p c m es) h = class_dimensions c
  tree_dimensions (load_module p c) h = class_dimensions c
  tree_dimensions (select p e c f t) h = listed_dimensions t h.3
  tree_dimensions (select_static p c f t) h = listed_dimensions t h.2
  tree_dimensions (apply p e m es t) h = listed_dimensions t h.3
  tree_dimensions (apply_statically p e c n m es t) h = listed_dimensions t h.4
  tree_dimensions (apply_static p c n m es t) h = listed_dimensions t h.3
  tree_dimensions (unary_op p o e) h = unary_dimensions o
  tree_dimensions (binary_op p o e d) h = binary_dimensions o
  tree_dimensions (new_array p r e) h = listed_dimensions (Array r) h.0
  tree_dimensions (array_value p r es) h = listed_dimensions (Array r) h.0
  tree_dimensions (array_select p e d t) h = listed_dimensions t h.2
  tree_dimensions (as_instance_of p e t) h = listed_dimensions t h.1
  tree_dimensions (var_ref p x t) h = listed_dimensions t h.1
  tree_dimensions (this_ref p t) h = listed_dimensions t h
  tree_dimensions _ h = tt

  pub last_dimensions : (t : IrType) (es : Terms) → AreDimensions t → AreListedTrees es → AreDimensions (type_of_last t es)
  last_dimensions t no_terms d h = d
  last_dimensions t (more_terms e es) d h = last_dimensions (type_of_term e) es (tree_dimensions e h.0) h.1
