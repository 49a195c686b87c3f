-- Small modules whose meaning is worked out.
use Rattle.std.specs.Prelude.{ℕ, List, [], ◌∷◌, true, ℤ, pos, negsuc, codes, Some}
use Rattle.js_tree.specs.Terms.{Name, Expression, number_literal, text_literal, boolean_literal, name_use, call_of, binary_of, host_call, host_call_of_two, no_expressions, expression, Statement, const_of, let_of, declare_of, expression_statement, assign_name, return_of, break_nearest, break_to, if_only, if_else, while_of, do_forever, labeled_of, switch_on, no_statements, switch_case, no_cases, Item, function_item, expression_item}
use Rattle.js_tree.specs.declared.operators.BinaryOperator.TheVariants.{Add, Less, BitOr, Divide, Remainder}
use Rattle.js_tree.specs.declared.operators.HostOperation.TheVariants.{MathImul}
use Rattle.outcomes.specs.Outcome.{Out}
use Rattle.js_mean.specs.Meaning.{evaluate, below, top_scope, opening}
use Rattle.js_tree.specs.declared.items.JsImport.{JsImport}
use Rattle.js_tree.specs.Views.{statements_of}
use Rattle.js_tree.specs.declared.operators.HostFunction.TheVariants.{ConsoleLog}
use Rattle.js_mean.specs.States.{ExpressionEnd, Source, Program}

-- `console.log("..")`
abbrev pub logs : List ℕ → Expression
logs us = host_call ConsoleLog (text_literal us)

-- `x()`
abbrev pub calls : Name → Expression
calls x = call_of x no_expressions

-- `function x() { e; .. }`
abbrev pub runs : Name → List Expression → Item
runs x [] = function_item x [] no_statements
runs x (e ∷ []) = function_item x [] (statements_of (expression_statement e ∷ []))
runs x (e ∷ d ∷ es) = function_item x [] (statements_of (expression_statement e ∷ expression_statement d ∷ []))

-- a module without import and export lines, as the file `main.js`
abbrev pub main_file : List Item → Program
main_file items = record { file = codes "main.js"; content = Some (record { imports = []; items = items; exports = [] }) } ∷ []

-- `main` logs `hi`
abbrev pub hi_program : Program
hi_program = main_file (runs (codes "main_") (logs (codes "hi") ∷ []) ∷ expression_item (calls (codes "main_")) ∷ [])

-- `main_` calls `again_`, which logs `x` and calls itself
abbrev pub again_program : Program
again_program = main_file (runs (codes "again_") (logs (codes "x") ∷ calls (codes "again_") ∷ []) ∷ runs (codes "main_") (calls (codes "again_") ∷ []) ∷ expression_item (calls (codes "main_")) ∷ [])

-- logs `x` and then calls what nothing declares
abbrev pub undeclared_program : Program
undeclared_program = main_file (expression_item (logs (codes "x")) ∷ expression_item (calls (codes "none_")) ∷ [])

-- logs `x`, and declares one function twice
abbrev pub twice_declared_program : Program
twice_declared_program = main_file (expression_item (logs (codes "x")) ∷ runs (codes "f_") [] ∷ runs (codes "f_") [] ∷ [])

-- a call with one argument too many, which is a call that logs: the argument comes first
abbrev pub argument_program : Program
argument_program = main_file (runs (codes "f_") (logs (codes "f") ∷ []) ∷ runs (codes "g_") (logs (codes "g") ∷ []) ∷ expression_item (call_of (codes "g_") (expression (calls (codes "f_")) no_expressions)) ∷ [])

-- `f_` logs `f`; `main_` calls `f_`, which it declares itself further down
abbrev pub declared_below_program : Program
declared_below_program = main_file (runs (codes "f_") (logs (codes "f") ∷ []) ∷ function_item (codes "main_") [] (statements_of (expression_statement (calls (codes "f_")) ∷ let_of (codes "f_") (number_literal (pos 1)) ∷ [])) ∷ expression_item (calls (codes "main_")) ∷ [])

-- a file with one import line and one export line, or none
abbrev pub file : Name → List JsImport → List Item → List Name → Source
file f imports items exports = record { file = f; content = Some (record { imports = imports; items = items; exports = exports }) }

abbrev pub imports_f : List JsImport
imports_f = record { names = codes "f_" ∷ []; file = codes "lib.js" } ∷ []

-- `main.js` imports `f_` from `lib.js` and calls it; `lib.js` logs `lib`, and its `f_` logs `f`
abbrev pub import_program : List Name → Program
import_program exports = file (codes "main.js") imports_f (expression_item (calls (codes "f_")) ∷ []) [] ∷ file (codes "lib.js") [] (runs (codes "f_") (logs (codes "f") ∷ []) ∷ expression_item (logs (codes "lib")) ∷ []) exports ∷ []

-- two files that import from each other: `lib.js` imports from `main.js`, and logs `lib`; `main.js` logs `main`
abbrev pub circle_program : Program
circle_program = file (codes "main.js") imports_f (runs (codes "g_") [] ∷ expression_item (logs (codes "main")) ∷ []) (codes "g_" ∷ []) ∷ file (codes "lib.js") (record { names = codes "g_" ∷ []; file = codes "main.js" } ∷ []) (runs (codes "f_") [] ∷ expression_item (logs (codes "lib")) ∷ []) (codes "f_" ∷ []) ∷ []

-- one name that leads in a circle
abbrev pub circular_name_program : Program
circular_name_program = file (codes "main.js") imports_f [] (codes "f_" ∷ []) ∷ file (codes "lib.js") (record { names = codes "f_" ∷ []; file = codes "main.js" } ∷ []) [] (codes "f_" ∷ []) ∷ []

-- the file with one function `f_` of the parameter `x_`
abbrev pub one_function : List Statement → Program
one_function ss = main_file (function_item (codes "f_") (codes "x_" ∷ []) (statements_of ss) ∷ [])

-- what a call of it comes to within this bound
abbrev pub called_with : List Statement → ℕ → ℤ → Out ExpressionEnd
called_with ss m z = evaluate (one_function ss) (below (one_function ss) m) (call_of (codes "f_") (expression (number_literal z) no_expressions)) (top_scope (one_function ss) (codes "main.js")) (opening (one_function ss))

-- and one without arguments
abbrev pub called_without : List Statement → ℕ → Out ExpressionEnd
called_without ss m = evaluate (one_function ss) (below (one_function ss) m) (call_of (codes "f_") no_expressions) (top_scope (one_function ss) (codes "main.js")) (opening (one_function ss))

abbrev pub x_use : Expression
x_use = name_use (codes "x_")

abbrev pub y_use : Expression
y_use = name_use (codes "y_")

abbrev pub number_of : ℤ → Expression
number_of z = number_literal z

-- `while ((x_ < 10)) { x_ = Math.imul(x_, 3); } return x_;`
abbrev pub triples : List Statement
triples = while_of (binary_of x_use Less (number_of (pos 10))) (statements_of (assign_name (codes "x_") (host_call_of_two MathImul x_use (number_of (pos 3))) ∷ [])) ∷ return_of x_use ∷ []

-- `do { x_ = (x_ + 1); if ((10 < x_)) { break; } } while (true); return x_;`
abbrev pub counts : List Statement
counts = do_forever (statements_of (assign_name (codes "x_") (binary_of x_use Add (number_of (pos 1))) ∷ if_only (binary_of (number_of (pos 10)) Less x_use) (statements_of (break_nearest ∷ [])) ∷ [])) ∷ return_of x_use ∷ []

-- `let y_; switch (x_) { case 1: case (-1): { y_ = 10; } case 2: { y_ = 20; break; } default: { y_ = 30; } } return y_;`
abbrev pub falls : List Statement
falls = declare_of (codes "y_") ∷ switch_on x_use (switch_case (pos 1 ∷ negsuc 0 ∷ []) (statements_of (assign_name (codes "y_") (number_of (pos 10)) ∷ [])) (switch_case (pos 2 ∷ []) (statements_of (assign_name (codes "y_") (number_of (pos 20)) ∷ break_nearest ∷ [])) no_cases)) (statements_of (assign_name (codes "y_") (number_of (pos 30)) ∷ [])) ∷ return_of y_use ∷ []

-- `l_: { while (true) { const y_ = x_; if ((y_ < 0)) { break l_; } else { return 1; } } } return 2;`
abbrev pub breaks_out : List Statement
breaks_out = labeled_of (codes "l_") (statements_of (while_of (boolean_literal true) (statements_of (const_of (codes "y_") x_use ∷ if_else (binary_of y_use Less (number_of (pos 0))) (statements_of (break_to (codes "l_") ∷ [])) (statements_of (return_of (number_of (pos 1)) ∷ [])) ∷ [])) ∷ [])) ∷ return_of (number_of (pos 2)) ∷ []

-- `const y_ = x_; y_ = 1; return y_;`
abbrev pub writes_constant : List Statement
writes_constant = const_of (codes "y_") x_use ∷ assign_name (codes "y_") (number_of (pos 1)) ∷ return_of y_use ∷ []

-- `return x_;`
abbrev pub returns_parameter : List Statement
returns_parameter = return_of x_use ∷ []

-- `f_ = x_; return f_;`
abbrev pub writes_itself : List Statement
writes_itself = assign_name (codes "f_") x_use ∷ return_of (name_use (codes "f_")) ∷ []

-- `y_ = 1; let y_ = 2; return y_;`
abbrev pub writes_before_start : List Statement
writes_before_start = assign_name (codes "y_") (number_of (pos 1)) ∷ let_of (codes "y_") (number_of (pos 2)) ∷ return_of y_use ∷ []

-- `let y_ = 1; if ((x_ < 10)) { x_ = y_; let y_ = 2; } return x_;`
abbrev pub uses_before_start : List Statement
uses_before_start = let_of (codes "y_") (number_of (pos 1)) ∷ if_only (binary_of x_use Less (number_of (pos 10))) (statements_of (assign_name (codes "x_") y_use ∷ let_of (codes "y_") (number_of (pos 2)) ∷ [])) ∷ return_of x_use ∷ []

-- `let y_ = 1; if ((x_ < 10)) { let y_ = 2; x_ = y_; } return (x_ + y_);`
abbrev pub shadows : List Statement
shadows = let_of (codes "y_") (number_of (pos 1)) ∷ if_only (binary_of x_use Less (number_of (pos 10))) (statements_of (let_of (codes "y_") (number_of (pos 2)) ∷ assign_name (codes "x_") y_use ∷ [])) ∷ return_of (binary_of x_use Add y_use) ∷ []

-- `return ((x_ % 4) | 0);`
abbrev pub remainder_by_four : List Statement
remainder_by_four = return_of (binary_of (binary_of x_use Remainder (number_of (pos 4))) BitOr (number_of (pos 0))) ∷ []

-- `return (x_ / 4);`
abbrev pub bare_ratio : List Statement
bare_ratio = return_of (binary_of x_use Divide (number_of (pos 4))) ∷ []
