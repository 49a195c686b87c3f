-- A program made of pieces, whose meaning is worked out.
use Rattle.std.specs.Prelude.{ℕ, true, false, List, [], ◌∷◌, ◌++◌, Option, Some, None, map, pos, codes}
use Rattle.class_code.specs.Helpers.{helper_item}
use Rattle.class_code.specs.Words.{object_class, class_name, entry_name, public_function, call1}
use Rattle.class_code.specs.HelperVariants.{ConstantsOf, BoxedChar, TestOf}
use Rattle.class_code.specs.KindVariants.{Char, Int}
use Rattle.js_mean.specs.Rows.{main_file}
use Rattle.js_mean.specs.States.{Program}
use Rattle.js_tree.specs.Terms.{Name, Expression, no_expressions, expression, number_literal, text_literal, null_literal, method_call_of, new_of, conditional_of, host_call, no_statements, statement, expression_statement, Item, function_item, expression_item, Piece}
use Rattle.js_tree.specs.declared.operators.HostFunction.TheVariants.{ConsoleLog}
use Rattle.class_code.specs.ClassRows.{m, bridge_to, a_field}
use Rattle.class_code.specs.Dispatch.{dispatch_name, dispatch_item}
use Rattle.class_code.specs.Pieces.{Parts, pieces}
use Rattle.sj_trees.specs.declared.classes.ClassKind.TheVariants as Kinds
use Rattle.sj_trees.specs.declared.classes.FieldDef.{FieldDef}
use Rattle.sj_trees.specs.declared.types.IrType.TheVariants as Types
use Rattle.class_code.specs.Rows.{empty_class}
use Rattle.class_code.specs.MethodEntry.{MethodEntry}

abbrev parts_of : Name → Option Name → List Name → List MethodEntry → List FieldDef → Parts
parts_of c superclass above entries fields = record { class = empty_class c Kinds.Class superclass []; ancestors = above; entries = entries; fields = fields; statics = []; instances = []; is_live = true; is_base = false; is_loaded = false; is_stored = false; is_tested = true; is_cast = false }

abbrev items_of : Parts → List Item
items_of p = map (λ (q : Piece). q.item) (pieces p)

-- `function f_C__m($this) { console.log(text); }`
abbrev logs_in : Name → List ℕ → Item
logs_in c us = function_item (public_function c m) (codes "$this" ∷ []) (statement (expression_statement (host_call ConsoleLog (text_literal us))) no_statements)

abbrev new_of_class : Name → Expression
new_of_class c = new_of (class_name c) no_expressions

abbrev shows_test : Expression → Item
shows_test e = expression_item (host_call ConsoleLog (conditional_of (call1 (codes "is_A") e) (text_literal (codes "yes")) (text_literal (codes "no"))))

-- the interface `I` has a default for `m`, and `A` below it a bridge; `java.lang.Integer` and `java.lang.Character` have bodies of their own
abbrev pub worked_pieces : Program
worked_pieces = main_file (
    items_of (parts_of object_class None (object_class ∷ []) [] [])
    ++ items_of (parts_of (codes "A") (Some object_class) (codes "A" ∷ codes "I" ∷ object_class ∷ []) (bridge_to (codes "A") (codes "I") m ∷ []) (a_field (codes "x") Types.Int ∷ []))
    ++ helper_item (λ k. []) (ConstantsOf Char) ∷ helper_item (λ k. []) BoxedChar ∷ helper_item (λ k. []) (TestOf Char) ∷ helper_item (λ k. []) (TestOf Int)
    ∷ dispatch_item m (record { kind = Char; owner = codes "java.lang.Character" } ∷ record { kind = Int; owner = codes "java.lang.Integer" } ∷ [])
    ∷ logs_in (codes "I") (codes "d") ∷ logs_in (codes "java.lang.Integer") (codes "i") ∷ logs_in (codes "java.lang.Character") (codes "c")
    ∷ expression_item (method_call_of (new_of_class (codes "A")) (entry_name m) no_expressions)
    ∷ expression_item (call1 (dispatch_name m) (number_literal (pos 300)))
    ∷ expression_item (call1 (dispatch_name m) (new_of_class (codes "A")))
    ∷ expression_item (call1 (dispatch_name m) (new_of (codes "$C") (expression (number_literal (pos 97)) no_expressions)))
    ∷ shows_test (new_of_class (codes "A")) ∷ shows_test (number_literal (pos 7)) ∷ shows_test null_literal ∷ shows_test (new_of_class object_class) ∷ [])
