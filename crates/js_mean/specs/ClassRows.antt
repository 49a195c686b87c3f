-- Small modules with classes whose meaning is worked out.
use Rattle.std.specs.Prelude.{ℕ, List, [], ◌∷◌, ◌++◌, pos, codes}
use Rattle.js_tree.specs.Terms.{Name, Expression, number_literal, text_literal, name_use, this_use, property_of, method_call_of, new_of, binary_of, conditional_of, host_call, no_expressions, Statement, assign_property, super_call, return_of, Property, Member, constructor_of, method_of, Item, object_item, let_item, expression_item, class_item, subclass_item}
use Rattle.js_tree.specs.declared.operators.BinaryOperator.TheVariants.{In, StrictEqual}
use Rattle.js_tree.specs.declared.operators.HostFunction.TheVariants.{ConsoleLog}
use Rattle.js_tree.specs.Views.{statements_of}
use Rattle.js_mean.specs.States.{Program}
use Rattle.js_mean.specs.Rows.{main_file}

abbrev one : Name → Property
one x = record { name = x; value = number_literal (pos 1) }

-- `const k_ = {s: "i_", i_A: 1, ..};`
abbrev constants : Name → Name → List Name → Item
constants k i [] = object_item k (record { name = codes "s"; value = text_literal i } ∷ [])
constants k i (a ∷ []) = object_item k (record { name = codes "s"; value = text_literal i } ∷ one a ∷ [])
constants k i (a ∷ b ∷ cs) = object_item k (record { name = codes "s"; value = text_literal i } ∷ one a ∷ one b ∷ [])

abbrev sets_constants : Name → Statement
sets_constants k = assign_property this_use (codes "k") (name_use k)

abbrev gives_text : Name → List ℕ → Member
gives_text x us = method_of x [] (statements_of (return_of (text_literal us) ∷ []))

-- `class c_A { constructor() { this.k = k_A; } m_a() { return "a"; } m_b() { return this.m_a(); } }`
abbrev class_a : Item
class_a = class_item (codes "c_A") (constructor_of [] (statements_of (sets_constants (codes "k_A") ∷ [])) ∷ gives_text (codes "m_a") (codes "a") ∷ method_of (codes "m_b") [] (statements_of (return_of (method_call_of this_use (codes "m_a") no_expressions) ∷ [])) ∷ [])

-- `class c_B extends c_A { constructor() { super(); this.k = k_B; } m_a() { return "b"; } }`
abbrev class_b : Item
class_b = subclass_item (codes "c_B") (codes "c_A") (constructor_of [] (statements_of (super_call ∷ sets_constants (codes "k_B") ∷ [])) ∷ gives_text (codes "m_a") (codes "b") ∷ [])

abbrev new : Name → Expression
new c = new_of c no_expressions

abbrev logs : Expression → Item
logs e = expression_item (host_call ConsoleLog e)

abbrev has_marker : Name → Name → Expression
has_marker i c = conditional_of (binary_of (text_literal i) In (property_of (new c) (codes "k"))) (text_literal (codes "yes")) (text_literal (codes "no"))

abbrev tops : List Item
tops = constants (codes "k_A") (codes "i_A") (codes "i_A" ∷ []) ∷ constants (codes "k_B") (codes "i_B") (codes "i_A" ∷ codes "i_B" ∷ []) ∷ class_a ∷ []

abbrev pub family : Program
family = main_file (tops ++ class_b ∷ logs (method_call_of (new (codes "c_A")) (codes "m_b") no_expressions) ∷ logs (method_call_of (new (codes "c_B")) (codes "m_b") no_expressions) ∷ logs (has_marker (codes "i_A") (codes "c_B")) ∷ logs (has_marker (codes "i_B") (codes "c_A")) ∷ [])

abbrev pub too_early : Program
too_early = main_file (class_b ∷ tops)

-- `let x_ = c_A; class c_C extends x_ { }`
abbrev pub other_name : Program
other_name = main_file (tops ++ let_item (codes "x_") (name_use (codes "c_A")) ∷ subclass_item (codes "c_C") (codes "x_") [] ∷ logs (method_call_of (new (codes "c_C")) (codes "m_b") no_expressions) ∷ [])

-- a class under its own name inside its members
abbrev pub name_inside : Program
name_inside = main_file (class_item (codes "c_D") (method_of (codes "m_d") [] (statements_of (return_of (name_use (codes "c_D")) ∷ [])) ∷ []) ∷ logs (conditional_of (binary_of (method_call_of (new (codes "c_D")) (codes "m_d") no_expressions) StrictEqual (name_use (codes "c_D"))) (text_literal (codes "same")) (text_literal (codes "other"))) ∷ [])
