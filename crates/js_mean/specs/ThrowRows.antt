-- Small modules with what is thrown, and functions with the statements on it, on properties and on arrays.
use Rattle.std.specs.Prelude.{ℕ, List, [], ◌∷◌, pos, negsuc, codes, true}
use Rattle.js_tree.specs.Terms.{Name, Expression, boolean_literal, number_literal, text_literal, name_use, this_use, property_of, index_of, call_of, method_call_of, new_of, list_of, binary_of, unary_of, conditional_of, host_call, no_expressions, expression, Statement, const_of, let_of, expression_statement, assign_name, assign_property, assign_index, super_call, throw_of, return_of, break_to, while_of, labeled_of, try_catch, try_finally, Property, constructor_of, method_of, Item, object_item, let_item, expression_item, function_item, class_item, subclass_item}
use Rattle.js_tree.specs.declared.items.JsImport.{JsImport}
use Rattle.js_tree.specs.declared.operators.BinaryOperator.TheVariants.{Add, In, InstanceOf}
use Rattle.js_tree.specs.declared.operators.HostFunction.TheVariants.{ConsoleLog}
use Rattle.js_tree.specs.declared.operators.UnaryOperator.TheVariants.{TypeOf}
use Rattle.js_tree.specs.Views.{statements_of}
use Rattle.js_mean.specs.States.{Program}
use Rattle.js_mean.specs.Rows.{main_file, file}

abbrev logs : Expression → Item
logs e = expression_item (host_call ConsoleLog e)

abbrev says : Expression → Statement
says e = expression_statement (host_call ConsoleLog e)

abbrev word : List ℕ → Expression
word us = text_literal us

abbrev whole : ℕ → Expression
whole n = number_literal (pos n)

abbrev pub x_use : Expression
x_use = name_use (codes "x_")

-- logs `y`
abbrev pub says_y : Expression
says_y = host_call ConsoleLog (word (codes "y"))

abbrev returns : Expression → Statement
returns e = return_of e

-- `try { throw x_; } catch (y_) { let z_ = 1; x_ = (y_ + z_); } return x_;`
abbrev pub catches : List Statement
catches = try_catch (statements_of (throw_of x_use ∷ [])) (codes "y_") (statements_of (let_of (codes "z_") (whole 1) ∷ assign_name (codes "x_") (binary_of (name_use (codes "y_")) Add (name_use (codes "z_"))) ∷ [])) ∷ returns x_use ∷ []

-- `let y_ = 1; try { throw 5; } catch (y_) { y_ = 7; } return y_;`
abbrev pub hides : List Statement
hides = let_of (codes "y_") (whole 1) ∷ try_catch (statements_of (throw_of (whole 5) ∷ [])) (codes "y_") (statements_of (assign_name (codes "y_") (whole 7) ∷ [])) ∷ returns (name_use (codes "y_")) ∷ []

-- `try { return 1; } finally { x_ = 2; }`
abbrev pub finishes : List Statement
finishes = try_finally (statements_of (returns x_use ∷ [])) (statements_of (assign_name (codes "x_") (whole 2) ∷ [])) ∷ []

-- `try { throw 1; } finally { return 2; }`
abbrev pub overrides : List Statement
overrides = try_finally (statements_of (throw_of (whole 1) ∷ [])) (statements_of (returns (whole 2) ∷ [])) ∷ []

-- `try { try { throw 1; } finally { throw 2; } } catch (y_) { return y_; } return 3;`
abbrev pub throws_again : List Statement
throws_again = try_catch (statements_of (try_finally (statements_of (throw_of (whole 1) ∷ [])) (statements_of (throw_of (whole 2) ∷ [])) ∷ [])) (codes "y_") (statements_of (returns (name_use (codes "y_")) ∷ [])) ∷ returns (whole 3) ∷ []

-- `l_: { try { return 1; } finally { break l_; } } return 3;`
abbrev pub breaks_away : List Statement
breaks_away = labeled_of (codes "l_") (statements_of (try_finally (statements_of (returns (whole 1) ∷ [])) (statements_of (break_to (codes "l_") ∷ [])) ∷ [])) ∷ returns (whole 3) ∷ []

-- `try { while (true) { } } finally { return 1; }`, which is going at any bound
abbrev pub never_finishes : List Statement
never_finishes = try_finally (statements_of (while_of (boolean_literal true) (statements_of []) ∷ [])) (statements_of (returns (whole 1) ∷ [])) ∷ []

-- `try { none_; } catch (y_) { return 1; } return 2;`, which is wrong
abbrev pub catches_no_wrong : List Statement
catches_no_wrong = try_catch (statements_of (expression_statement (name_use (codes "none_")) ∷ [])) (codes "y_") (statements_of (returns (whole 1) ∷ [])) ∷ returns (whole 2) ∷ []

-- `const y_ = [1]; y_[2] = x_; return (y_[2] + y_.length);`
abbrev pub grows : List Statement
grows = const_of (codes "y_") (list_of (expression (whole 1) no_expressions)) ∷ assign_index (name_use (codes "y_")) (whole 2) x_use ∷ returns (binary_of (index_of (name_use (codes "y_")) (whole 2)) Add (property_of (name_use (codes "y_")) (codes "length"))) ∷ []

-- `const y_ = [1]; y_[(-1)] = x_;`, which is wrong
abbrev pub sets_below_zero : List Statement
sets_below_zero = const_of (codes "y_") (list_of no_expressions) ∷ assign_index (name_use (codes "y_")) (number_literal (negsuc 0)) x_use ∷ []

-- `let y_; y_.p_ = none_;`: a property of undefined is wrong before the right side; `x_.p_ = none_` behind it
abbrev pub sets_on : Expression → Expression → List Statement
sets_on e g = assign_property e (codes "p_") g ∷ []

abbrev one : Name → Property
one x = record { name = x; value = whole 1 }

abbrev marks : Name → Name → Item
marks k i = object_item k (record { name = codes "s"; value = word i } ∷ one i ∷ [])

-- a class whose objects have these constants, and the property `c`
abbrev with_marker : Name → Name → Item
with_marker c k = class_item c (constructor_of (codes "c" ∷ []) (statements_of (assign_property this_use (codes "k") (name_use k) ∷ assign_property this_use (codes "c") (name_use (codes "c")) ∷ [])) ∷ [])

-- throws at its top an object with this marker and this property `c`
abbrev pub throws_object : Name → Expression → Program
throws_object i e = main_file (marks (codes "k_A") i ∷ with_marker (codes "c_A") (codes "k_A") ∷ function_item (codes "f_") [] (statements_of (throw_of (new_of (codes "c_A") (expression e no_expressions)) ∷ [])) ∷ expression_item (call_of (codes "f_") no_expressions) ∷ [])

-- throws at its top this value
abbrev pub throws_value : Expression → Program
throws_value e = main_file (function_item (codes "f_") [] (statements_of (says (word (codes "x")) ∷ throw_of e ∷ [])) ∷ expression_item (call_of (codes "f_") no_expressions) ∷ logs (word (codes "y")) ∷ [])

-- an array by an index as a name, a class below another one that is imported, and what its instances are
abbrev imports_a : List JsImport
imports_a = record { names = codes "c_A" ∷ codes "n_" ∷ codes "u_" ∷ []; file = codes "lib.js" } ∷ []

abbrev yes_or_no : Expression → Expression
yes_or_no e = conditional_of e (word (codes "yes")) (word (codes "no"))

-- `class c_A { constructor() { this.f_ = 1; } m_(a) { return (this.f_ + a); } }`
abbrev class_a : Item
class_a = class_item (codes "c_A") (constructor_of [] (statements_of (assign_property this_use (codes "f_") (word (codes "a")) ∷ [])) ∷ method_of (codes "m_") (codes "a" ∷ []) (statements_of (returns (binary_of (property_of this_use (codes "f_")) Add (name_use (codes "a"))) ∷ [])) ∷ [])

-- `let n_ = "0"; function u_(a) { n_ = a; }`
abbrev cell : List Item
cell = let_item (codes "n_") (word (codes "0")) ∷ function_item (codes "u_") (codes "a" ∷ []) (statements_of (assign_name (codes "n_") (name_use (codes "a")) ∷ [])) ∷ []

-- `main.js` has a class below one of `lib.js`, whose binding `n_` it sees change
abbrev pub imported_class : Program
imported_class = file (codes "main.js") imports_a (subclass_item (codes "c_B") (codes "c_A") [] ∷ let_item (codes "b_") (new_of (codes "c_B") no_expressions) ∷ logs (method_call_of (name_use (codes "b_")) (codes "m_") (expression (word (codes "b")) no_expressions)) ∷ logs (yes_or_no (binary_of (name_use (codes "b_")) InstanceOf (name_use (codes "c_A")))) ∷ logs (yes_or_no (binary_of (new_of (codes "c_A") no_expressions) InstanceOf (name_use (codes "c_B")))) ∷ logs (yes_or_no (binary_of (word (codes "f_")) In (name_use (codes "b_")))) ∷ logs (yes_or_no (binary_of (word (codes "g_")) In (name_use (codes "b_")))) ∷ logs (name_use (codes "n_")) ∷ expression_item (call_of (codes "u_") (expression (word (codes "1")) no_expressions)) ∷ logs (name_use (codes "n_")) ∷ []) [] ∷ file (codes "lib.js") [] (class_a ∷ cell) (codes "c_A" ∷ codes "n_" ∷ codes "u_" ∷ []) ∷ []

-- a class without `super()` in its constructor, and one with two
abbrev pub supers : List Statement → Program
supers ss = main_file (class_a ∷ subclass_item (codes "c_B") (codes "c_A") (constructor_of [] (statements_of ss) ∷ []) ∷ logs (word (codes "x")) ∷ expression_item (new_of (codes "c_B") no_expressions) ∷ [])

abbrev pub once : List Statement
once = super_call ∷ []

abbrev pub twice : List Statement
twice = super_call ∷ super_call ∷ []

-- `function g_() { return (typeof this); }`, `function h_() { return this.a_; }`, `const k_ = {g_: g_, h_: h_, a_: "x"};`: both are called by
-- the object's properties, and `g_` by its name
abbrev pub on_object : Program
on_object = main_file (function_item (codes "g_") [] (statements_of (returns (unary_of TypeOf this_use) ∷ [])) ∷ function_item (codes "h_") [] (statements_of (returns (property_of this_use (codes "a_")) ∷ [])) ∷ object_item (codes "k_") (record { name = codes "g_"; value = name_use (codes "g_") } ∷ record { name = codes "h_"; value = name_use (codes "h_") } ∷ record { name = codes "a_"; value = word (codes "x") } ∷ []) ∷ logs (method_call_of (name_use (codes "k_")) (codes "g_") no_expressions) ∷ logs (method_call_of (name_use (codes "k_")) (codes "h_") no_expressions) ∷ logs (call_of (codes "g_") no_expressions) ∷ [])

-- an object that is written as a literal, with a property that is set and one that an index names
abbrev pub literal : Program
literal = main_file (object_item (codes "k_") (one (codes "a_") ∷ one (codes "b_") ∷ []) ∷ function_item (codes "f_") [] (statements_of (assign_property (name_use (codes "k_")) (codes "a_") (word (codes "a")) ∷ assign_index (name_use (codes "k_")) (word (codes "b_")) (word (codes "b")) ∷ [])) ∷ expression_item (call_of (codes "f_") no_expressions) ∷ logs (binary_of (property_of (name_use (codes "k_")) (codes "a_")) Add (index_of (name_use (codes "k_")) (word (codes "b_")))) ∷ logs (binary_of (word []) Add (property_of (name_use (codes "k_")) (codes "c_"))) ∷ expression_item (property_of (index_of (name_use (codes "k_")) (word (codes "toString"))) (codes "x_")) ∷ [])
