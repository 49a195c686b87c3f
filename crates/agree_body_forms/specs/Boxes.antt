-- When the emitted code of a tree makes an object that holds a char.
use Rattle.std.specs.Prelude.{ℕ, Bool, false, ◌&&◌, ◌||◌, not, List, [], ◌∷◌, if◌then◌else◌, nat_eq}
use Rattle.std.specs.Cmp.Lexicographic.{pointwise}
use Rattle.sj_desugar_spec.specs.Coercions.{is_char}
use Rattle.sj_desugar_spec.specs.Desugar.{Targets}
use Rattle.sj_desugar_spec.specs.Plain.{is_plain}
use Rattle.sj_desugar_spec.specs.Spill.{Destination, discard, to_variable, to_result}
use Rattle.sj_names.specs.declared.references.TypeRef.{TypeRef}
use Rattle.sj_trees.specs.Term.{Term, Terms, no_terms, more_terms, Cases, no_cases, more_cases, var_def, block_of, labeled, assign, return_to, if_then, while_loop, do_while, try_catch, try_finally, match_on, throw, new_object, new_array, array_value, array_length, array_select, load_module, store_module, select, select_static, apply, apply_statically, this_ref, apply_static, unary_op, binary_op, is_instance_of, as_instance_of, char_literal, var_ref, log_line}
use Rattle.sj_trees.specs.TypeOf.{type_of_term, unary_result, binary_result}
use Rattle.sj_trees.specs.Types.{class_type, element_type, reference_type}
use Rattle.sj_trees.specs.declared.operators.BinaryOp.{BinaryOp}
use Rattle.sj_trees.specs.declared.operators.BinaryOp.TheVariants.{StrictEqual, StrictNotEqual}
use Rattle.sj_trees.specs.declared.types.IrType.{IrType}
use Rattle.sj_trees.specs.declared.types.IrType.TheVariants.{Any, Boolean, Char}

-- a char stands where another type is expected: there an object has to be made that holds it
abbrev pub is_boxed : IrType → Term → Bool
is_boxed expected e = is_char (type_of_term e) && not (is_char expected)

-- one of the arguments is a char for a parameter of another type
abbrev pub any_is_boxed : List TypeRef → Terms → Bool
any_is_boxed (r ∷ rs) (more_terms e es) = is_boxed (reference_type r) e || any_is_boxed rs es
any_is_boxed _ _ = false

-- one of the items of an array is a char, where items are of another type
abbrev pub any_item_boxed : IrType → Terms → Bool
any_item_boxed t no_terms = false
any_item_boxed t (more_terms e es) = is_boxed t e || any_item_boxed t es

-- one of the operands of an operator is a char where identity takes any value
abbrev pub operands_are_boxed : BinaryOp → Term → Term → Bool
operands_are_boxed StrictEqual e d = is_boxed Any e || is_boxed Any d
operands_are_boxed StrictNotEqual e d = is_boxed Any e || is_boxed Any d
operands_are_boxed _ e d = false

-- where the value of a tree goes: it is given up, or brought to a place of this type
pub data Goal : Type 0 where
  given_up : Goal
  brought_to : IrType → Goal

-- a label around a tree, and where what leaves to it goes
pub record LabelGoal : Type 0 where
  pub label : List ℕ
  pub goal : Goal

-- these labels around a tree, the innermost first; where there is none of this name, what leaves is given up
abbrev pub goal_of_label : List LabelGoal → List ℕ → Goal
goal_of_label [] l = given_up
goal_of_label (g ∷ gs) l = if pointwise nat_eq l g.label then g.goal else goal_of_label gs l

-- the goal that a destination is
abbrev pub goal_of : Destination → Goal
goal_of discard = given_up
goal_of (to_variable x t) = brought_to t
goal_of (to_result t) = brought_to t

abbrev pub goals_of : Targets → List LabelGoal
goals_of [] = []
goals_of (t ∷ ts) = record { label = t.label; goal = goal_of t.goes_to } ∷ goals_of ts

-- a value of this type comes to a goal as an object that holds it
abbrev pub is_boxed_at : Goal → IrType → Bool
is_boxed_at given_up t = false
is_boxed_at (brought_to expected) t = is_char t && not (is_char expected)

abbrev mutual
  -- the expression of a plain tree makes such an object
  pub boxes_as_text : Term → Bool
  boxes_as_text (if_then p c a b t) = boxes_as_text c || ((is_boxed t a || boxes_as_text a) || (is_boxed t b || boxes_as_text b))
  boxes_as_text (new_object p c m ts) = any_is_boxed m.params ts || any_boxes_as_text ts
  boxes_as_text (select p e c f t) = boxes_as_text e
  boxes_as_text (apply p e m ts t) = (is_boxed Any e || any_is_boxed m.params ts) || (boxes_as_text e || any_boxes_as_text ts)
  boxes_as_text (apply_statically p e c n m ts t) = (is_boxed Any e || any_is_boxed m.params ts) || (boxes_as_text e || any_boxes_as_text ts)
  boxes_as_text (apply_static p c n m ts t) = any_is_boxed m.params ts || any_boxes_as_text ts
  boxes_as_text (unary_op p o e) = boxes_as_text e
  boxes_as_text (binary_op p o e d) = operands_are_boxed o e d || (boxes_as_text e || boxes_as_text d)
  boxes_as_text (new_array p r e) = boxes_as_text e
  boxes_as_text (array_value p r ts) = any_item_boxed (element_type r) ts || any_boxes_as_text ts
  boxes_as_text (array_length p e) = boxes_as_text e
  boxes_as_text (array_select p e i t) = boxes_as_text e || boxes_as_text i
  boxes_as_text (is_instance_of p e t) = is_boxed Any e || boxes_as_text e
  boxes_as_text (as_instance_of p e t) = is_boxed Any e || boxes_as_text e
  boxes_as_text _ = false

  pub any_boxes_as_text : Terms → Bool
  any_boxes_as_text no_terms = false
  any_boxes_as_text (more_terms e es) = boxes_as_text e || any_boxes_as_text es

abbrev mutual
  -- the statements of a tree make such an object, with these labels around them and the value going there. An operand is an expression where it is plain,
  -- and else it is brought to its own type; behind that it is coerced where its form coerces it.
  pub boxes : List LabelGoal → Goal → Term → Bool
  boxes ls k (var_def p x t b e) = if is_plain e then is_boxed t e || boxes_as_text e else boxes ls (brought_to t) e
  boxes ls k (block_of p ts) = last_boxes ls k ts
  boxes ls k (labeled p l t e) = boxes (record { label = l; goal = k } ∷ ls) k e
  boxes ls k (assign p (var_ref q x t) e) = is_boxed t e || (if is_plain e then boxes_as_text e else boxes ls (brought_to (type_of_term e)) e)
  boxes ls k (assign p (select q d c f t) e) = is_boxed t e || ((if is_plain d then boxes_as_text d else boxes ls (brought_to (type_of_term d)) d) || (if is_plain e then boxes_as_text e else boxes ls (brought_to (type_of_term e)) e))
  boxes ls k (assign p (select_static q c f t) e) = is_boxed t e || (if is_plain e then boxes_as_text e else boxes ls (brought_to (type_of_term e)) e)
  boxes ls k (assign p (array_select q d i t) e) = is_boxed t e || ((if is_plain d then boxes_as_text d else boxes ls (brought_to (type_of_term d)) d) || ((if is_plain i then boxes_as_text i else boxes ls (brought_to (type_of_term i)) i) || (if is_plain e then boxes_as_text e else boxes ls (brought_to (type_of_term e)) e)))
  boxes ls k (return_to p e l) = boxes ls (goal_of_label ls l) e
  boxes ls k (if_then p c a b t) = (if is_plain c then boxes_as_text c else boxes ls (brought_to (type_of_term c)) c) || (boxes ls k a || boxes ls k b)
  boxes ls k (while_loop p c b) = (if is_plain c then boxes_as_text c else boxes ls (brought_to (type_of_term c)) c) || boxes ls given_up b
  boxes ls k (do_while p b c) = boxes ls given_up b || (if is_plain c then boxes_as_text c else boxes ls (brought_to (type_of_term c)) c)
  boxes ls k (try_catch p e x d t) = boxes ls k e || boxes ls k d
  boxes ls k (try_finally p e d) = boxes ls k e || boxes ls given_up d
  boxes ls k (match_on p e cs d t) = (if is_plain e then boxes_as_text e else boxes ls (brought_to (type_of_term e)) e) || (cases_box ls k cs || boxes ls k d)
  boxes ls k (throw p e) = is_boxed Any e || (if is_plain e then boxes_as_text e else boxes ls (brought_to (type_of_term e)) e)
  boxes ls k (new_object p c m ts) = is_boxed_at k (class_type c) || (any_is_boxed m.params ts || operands_box ls ts)
  boxes ls k (load_module p c) = is_boxed_at k (class_type c)
  boxes ls k (store_module p c e) = is_boxed (class_type c) e || (if is_plain e then boxes_as_text e else boxes ls (brought_to (type_of_term e)) e)
  boxes ls k (select p e c f t) = is_boxed_at k t || (if is_plain e then boxes_as_text e else boxes ls (brought_to (type_of_term e)) e)
  boxes ls k (select_static p c f t) = is_boxed_at k t
  boxes ls k (apply p e m ts t) = is_boxed_at k t || ((is_boxed Any e || any_is_boxed m.params ts) || ((if is_plain e then boxes_as_text e else boxes ls (brought_to (type_of_term e)) e) || operands_box ls ts))
  boxes ls k (apply_statically p e c n m ts t) = is_boxed_at k t || ((is_boxed Any e || any_is_boxed m.params ts) || ((if is_plain e then boxes_as_text e else boxes ls (brought_to (type_of_term e)) e) || operands_box ls ts))
  boxes ls k (apply_static p c n m ts t) = is_boxed_at k t || (any_is_boxed m.params ts || operands_box ls ts)
  boxes ls k (unary_op p o e) = is_boxed_at k (unary_result o) || (if is_plain e then boxes_as_text e else boxes ls (brought_to (type_of_term e)) e)
  boxes ls k (binary_op p o e d) = (is_boxed_at k (binary_result o) || operands_are_boxed o e d) || ((if is_plain e then boxes_as_text e else boxes ls (brought_to (type_of_term e)) e) || (if is_plain d then boxes_as_text d else boxes ls (brought_to (type_of_term d)) d))
  boxes ls k (new_array p r e) = if is_plain e then boxes_as_text e else boxes ls (brought_to (type_of_term e)) e
  boxes ls k (array_value p r ts) = any_item_boxed (element_type r) ts || operands_box ls ts
  boxes ls k (array_length p e) = if is_plain e then boxes_as_text e else boxes ls (brought_to (type_of_term e)) e
  boxes ls k (array_select p e i t) = is_boxed_at k t || ((if is_plain e then boxes_as_text e else boxes ls (brought_to (type_of_term e)) e) || (if is_plain i then boxes_as_text i else boxes ls (brought_to (type_of_term i)) i))
  boxes ls k (is_instance_of p e t) = is_boxed_at k Boolean || (is_boxed Any e || (if is_plain e then boxes_as_text e else boxes ls (brought_to (type_of_term e)) e))
  boxes ls k (as_instance_of p e t) = is_boxed_at k t || (is_boxed Any e || (if is_plain e then boxes_as_text e else boxes ls (brought_to (type_of_term e)) e))
  boxes ls k (char_literal p u) = is_boxed_at k Char
  boxes ls k (var_ref p x t) = is_boxed_at k t
  boxes ls k (this_ref p t) = is_boxed_at k t
  boxes ls k (log_line p e) = if is_plain e then boxes_as_text e else boxes ls (brought_to (type_of_term e)) e
  boxes ls k _ = false

  -- each tree of a block but the last gives its value up
  pub last_boxes : List LabelGoal → Goal → Terms → Bool
  last_boxes ls k no_terms = false
  last_boxes ls k (more_terms t no_terms) = boxes ls k t
  last_boxes ls k (more_terms t (more_terms u us)) = boxes ls given_up t || last_boxes ls k (more_terms u us)

  pub operands_box : List LabelGoal → Terms → Bool
  operands_box ls no_terms = false
  operands_box ls (more_terms e es) = (if is_plain e then boxes_as_text e else boxes ls (brought_to (type_of_term e)) e) || operands_box ls es

  -- a case without keys isn't written
  pub cases_box : List LabelGoal → Goal → Cases → Bool
  cases_box ls k no_cases = false
  cases_box ls k (more_cases [] e cs) = cases_box ls k cs
  cases_box ls k (more_cases (n ∷ ns) e cs) = boxes ls k e || cases_box ls k cs

-- an operand
abbrev pub operand_boxes : List LabelGoal → Term → Bool
operand_boxes ls e = if is_plain e then boxes_as_text e else boxes ls (brought_to (type_of_term e)) e
