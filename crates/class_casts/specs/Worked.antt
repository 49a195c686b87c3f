-- A program made of pieces with casts, whose meaning is worked out.
use Rattle.std.specs.Prelude.{ℕ, false, true, List, [], ◌∷◌, ◌++◌, Option, Some, None, map, pos, codes}
use Rattle.class_tests.specs.Helpers.{helper_item, failure_class, init_name}
use Rattle.class_tests.specs.Words.{object_class, class_name, as_name, call1}
use Rattle.class_tests.specs.FailureVariants.{Cast}
use Rattle.class_tests.specs.HelperVariants.{BoxedChar, CastTo, ConstantsOf, TestOf, Throws}
use Rattle.class_tests.specs.KindVariants.{Char, Int, Text}
use Rattle.js_mean.specs.Rows.{main_file}
use Rattle.js_mean.specs.States.{Program}
use Rattle.js_tree.specs.Terms.{Name, Expression, no_expressions, expression, number_literal, text_literal, null_literal, name_use, new_of, conditional_of, binary_of, host_call, no_statements, statement, expression_statement, return_of, Item, function_item, expression_item, Piece}
use Rattle.js_tree.specs.declared.operators.BinaryOperator.TheVariants.{StrictEqual}
use Rattle.js_tree.specs.declared.operators.HostFunction.TheVariants.{ConsoleLog}
use Rattle.class_tests.specs.Pieces.{Parts, pieces}
use Rattle.sj_mangling.specs.Bindings.{class_binding}
use Rattle.sj_mangling.specs.declared.bindings.ClassBinding.TheVariants.{AsInstance}
use Rattle.sj_trees.specs.declared.classes.ClassKind.TheVariants as Kinds
use Rattle.class_tests.specs.Rows.{empty_class}

abbrev parts_of : Name → Option Name → List Name → Parts
parts_of c superclass above = record { class = empty_class c Kinds.Class superclass []; ancestors = above; entries = []; fields = []; statics = []; instances = []; is_live = true; is_base = false; is_loaded = false; is_stored = false; is_tested = false; is_cast = true }

abbrev items_of : Parts → List Item
items_of p = map (λ (q : Piece). q.item) (pieces p)

-- `function ct_E__<init>($this, a0) { console.log(a0); return $this; }`
abbrev shows_message : Item
shows_message = function_item (init_name (failure_class Cast)) (codes "$this" ∷ codes "a0" ∷ []) (statement (expression_statement (host_call ConsoleLog (name_use (codes "a0")))) (statement (return_of (name_use (codes "$this"))) no_statements))

abbrev shows : Expression → Item
shows e = expression_item (host_call ConsoleLog e)

abbrev are_same : Expression → Expression → Item
are_same e f = shows (conditional_of (binary_of e StrictEqual f) (text_literal (codes "yes")) (text_literal (codes "no")))

abbrev whole : ℕ → Expression
whole n = number_literal (pos n)

abbrev as_a : Expression → Expression
as_a = call1 (class_binding AsInstance (codes "A"))

abbrev new_a : Expression
new_a = new_of (class_name (codes "A")) no_expressions

-- casts to kinds and to the class `A`: of null, of values of the kind or the class, and last of an `A` to an int, which throws
abbrev pub worked_casts_of : Expression → Program
worked_casts_of last = main_file (
    items_of (parts_of object_class None (object_class ∷ []))
    ++ items_of (parts_of (codes "A") (Some object_class) (codes "A" ∷ object_class ∷ []))
    ++ items_of (parts_of (failure_class Cast) (Some object_class) (failure_class Cast ∷ object_class ∷ []))
    ++ helper_item (λ k. []) (ConstantsOf Char) ∷ helper_item (λ k. []) BoxedChar
    ∷ helper_item (λ k. []) (TestOf Char) ∷ helper_item (λ k. []) (TestOf Int) ∷ helper_item (λ k. []) (TestOf Text)
    ∷ helper_item (λ k. []) (CastTo Char) ∷ helper_item (λ k. []) (CastTo Int) ∷ helper_item (λ k. []) (CastTo Text)
    ∷ helper_item (λ k. []) (Throws Cast) ∷ shows_message
    ∷ are_same (call1 (as_name Int) null_literal) (whole 0)
    ∷ are_same (call1 (as_name Int) (whole 7)) (whole 7)
    ∷ are_same (call1 (as_name Char) (new_of (codes "$C") (expression (whole 97) no_expressions))) (whole 97)
    ∷ shows (call1 (as_name Text) (text_literal (codes "t")))
    ∷ are_same (as_a null_literal) null_literal
    ∷ are_same (as_a new_a) null_literal
    ∷ shows last ∷ [])

abbrev pub worked_kind_cast : Program
worked_kind_cast = worked_casts_of (call1 (as_name Int) new_a)

abbrev pub worked_class_cast : Program
worked_class_cast = worked_casts_of (as_a (whole 7))

abbrev pub worked_lines : List (List ℕ)
worked_lines = codes "yes" ∷ codes "yes" ∷ codes "yes" ∷ codes "t" ∷ codes "yes" ∷ codes "no" ∷ []
