-- Programs made of helpers, whose meanings are worked out.
use Rattle.std.specs.Prelude.{ℕ, false, true, List, [], ◌∷◌, ◌++◌, Option, Some, None, map, pos, negsuc, codes}
use Rattle.sj_emit_help_spec.specs.declared.kinds.Failure.{Failure}
use Rattle.sj_emit_help_spec.specs.declared.kinds.Helper.{Helper}
use Rattle.class_casts.specs.FailureVariants.{Cast, Index, Size, Store}
use Rattle.class_casts.specs.Helpers.{calls, failure_class, helper_item, init_name, num, var, word}
use Rattle.class_casts.specs.HelperVariants.{ArrayClass, CastToArray, CheckIndex, ClassOf, ConstantsOf, Covers, Fits, Get, MakeArray, Put, Set, TestOf, TestOfArray, Throws}
use Rattle.class_casts.specs.KindVariants.{Undefined, Boolean, Byte, Short, Int, Long, Text}
use Rattle.class_casts.specs.Pieces.{Parts, pieces}
use Rattle.class_casts.specs.Words.{class_name, constants_name, kind_class, object_class}
use Rattle.class_code.specs.Rows.{empty_class}
use Rattle.js_mean.specs.Rows.{main_file}
use Rattle.js_mean.specs.States.{Program}
use Rattle.js_tree.specs.Terms.{Name, Expression, no_expressions, null_literal, name_use, number_literal, new_of, conditional_of, binary_of, host_call, no_statements, statement, expression_statement, return_of, Item, const_item, function_item, expression_item, Piece}
use Rattle.js_tree.specs.declared.operators.BinaryOperator.TheVariants.{StrictEqual}
use Rattle.js_tree.specs.declared.operators.HostFunction.TheVariants.{ConsoleLog}
use Rattle.sj_trees.specs.declared.classes.ClassKind.TheVariants as Kinds

abbrev parts_of : Name → Option Name → List Name → Parts
parts_of c superclass above = record { class = empty_class c Kinds.Class superclass []; ancestors = above; entries = []; fields = []; statics = []; instances = []; is_live = true; is_base = false; is_loaded = false; is_stored = false; is_tested = false; is_cast = false }

abbrev items_of : Parts → List Item
items_of p = map (λ (q : Piece). q.item) (pieces p)

abbrev class_items : Name → List Item
class_items c = items_of (parts_of c (Some object_class) (c ∷ object_class ∷ []))

-- an exception: its class, the function that throws it, and its constructor, `function ct_E__<init>($this, a0) { console.log(a0); return $this; }`
abbrev exception_items : Failure → List Item
exception_items f = class_items (failure_class f) ++ helper_item (λ k. []) (Throws f) ∷ function_item (init_name (failure_class f)) (codes "$this" ∷ codes "a0" ∷ []) (statement (expression_statement (host_call ConsoleLog (name_use (codes "a0")))) (statement (return_of (name_use (codes "$this"))) no_statements)) ∷ []

abbrev helpers_of : List Helper → List Item
helpers_of = map (λ h. helper_item (λ k. kind_class k ∷ object_class ∷ []) h)

abbrev shows : Expression → Item
shows e = expression_item (host_call ConsoleLog (conditional_of e (word (codes "yes")) (word (codes "no"))))

abbrev are_same : Expression → Expression → Item
are_same e f = shows (binary_of e StrictEqual f)

abbrev constants : List ℕ → Expression
constants c = name_use (constants_name c)

abbrev new_object : List ℕ → Expression
new_object c = new_of (class_name c) no_expressions

-- arrays of `A`, of `B` below it, of ints, of integers and of arrays of `A`
abbrev array_items : List Item
array_items =
    const_item (codes "a_") (calls MakeArray (num 1 ∷ constants (codes "A") ∷ num 2 ∷ null_literal ∷ []))
    ∷ const_item (codes "b_") (calls MakeArray (num 1 ∷ constants (codes "B") ∷ num 2 ∷ null_literal ∷ []))
    ∷ const_item (codes "i_") (calls MakeArray (num 1 ∷ word (codes "I") ∷ num 2 ∷ num 0 ∷ []))
    ∷ const_item (codes "o_") (calls MakeArray (num 1 ∷ constants object_class ∷ num 1 ∷ null_literal ∷ []))
    ∷ const_item (codes "d_") (calls MakeArray (num 2 ∷ constants (codes "A") ∷ num 1 ∷ null_literal ∷ [])) ∷ []

abbrev is_array : List ℕ → ℕ → Expression → Item
is_array y depth type = shows (calls TestOfArray (var y ∷ num depth ∷ type ∷ []))

-- tests of array types, items that are set and read, and last an expression that throws
abbrev pub worked_arrays_of : Expression → Program
worked_arrays_of last = main_file (
    items_of (parts_of object_class None (object_class ∷ []))
    ++ class_items (codes "A")
    ++ items_of (parts_of (codes "B") (Some (codes "A")) (codes "B" ∷ codes "A" ∷ object_class ∷ []))
    ++ exception_items Index ++ exception_items Size ++ exception_items Store ++ exception_items Cast
    ++ helpers_of (TestOf Undefined ∷ TestOf Boolean ∷ TestOf Byte ∷ TestOf Short ∷ TestOf Int ∷ TestOf Long ∷ TestOf Text ∷ ConstantsOf Undefined ∷ ConstantsOf Boolean ∷ ConstantsOf Int ∷ ConstantsOf Long ∷ ConstantsOf Text ∷ ArrayClass ∷ MakeArray ∷ CheckIndex ∷ Get ∷ Set ∷ Put ∷ Covers ∷ Fits ∷ ClassOf ∷ TestOfArray ∷ CastToArray ∷ [])
    ++ array_items
    ++ is_array (codes "b_") 1 (constants (codes "A")) ∷ is_array (codes "a_") 1 (constants (codes "B")) ∷ is_array (codes "i_") 1 (word (codes "I")) ∷ is_array (codes "i_") 1 (constants object_class)
    ∷ is_array (codes "a_") 2 (constants (codes "A")) ∷ is_array (codes "d_") 1 (constants (codes "A")) ∷ is_array (codes "d_") 1 (constants object_class)
    ∷ expression_item (calls Put (var (codes "a_") ∷ num 1 ∷ new_object (codes "B") ∷ []))
    ∷ are_same (calls Get (var (codes "a_") ∷ num 1 ∷ [])) null_literal
    ∷ expression_item (calls Set (var (codes "i_") ∷ num 1 ∷ num 7 ∷ []))
    ∷ are_same (calls Get (var (codes "i_") ∷ num 1 ∷ [])) (num 7)
    ∷ expression_item (calls Put (var (codes "o_") ∷ num 0 ∷ num 7 ∷ []))
    ∷ expression_item (calls Put (var (codes "d_") ∷ num 0 ∷ var (codes "b_") ∷ []))
    ∷ are_same (calls Get (var (codes "d_") ∷ num 0 ∷ [])) (var (codes "b_"))
    ∷ expression_item last ∷ [])

abbrev pub worked_lines : List (List ℕ)
worked_lines = codes "yes" ∷ codes "no" ∷ codes "yes" ∷ codes "no" ∷ codes "no" ∷ codes "no" ∷ codes "yes" ∷ codes "no" ∷ codes "yes" ∷ codes "yes" ∷ []

-- an index equal to the length; an element of the class above; that at an index outside, which is checked first; a negative length; an array of another depth as an element; and a cast to arrays of the class below
abbrev pub worked_index : Program
worked_index = worked_arrays_of (calls Get (var (codes "a_") ∷ num 2 ∷ []))

abbrev pub worked_element : Program
worked_element = worked_arrays_of (calls Put (var (codes "b_") ∷ num 0 ∷ new_object (codes "A") ∷ []))

abbrev pub worked_index_first : Program
worked_index_first = worked_arrays_of (calls Put (var (codes "b_") ∷ num 2 ∷ new_object (codes "A") ∷ []))

abbrev pub worked_size : Program
worked_size = worked_arrays_of (calls MakeArray (num 1 ∷ word (codes "I") ∷ number_literal (negsuc 0) ∷ num 0 ∷ []))

abbrev pub worked_depth : Program
worked_depth = worked_arrays_of (calls Put (var (codes "d_") ∷ num 0 ∷ var (codes "d_") ∷ []))

abbrev pub worked_cast : Program
worked_cast = worked_arrays_of (calls CastToArray (var (codes "a_") ∷ num 1 ∷ constants (codes "B") ∷ word (codes "[LB;") ∷ []))
