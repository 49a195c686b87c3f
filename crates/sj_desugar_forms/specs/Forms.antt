-- What is written for a form behind its operands.
use Rattle.std.specs.Prelude.{ℕ, true, false, List, [], ◌∷◌, pos}
use Rattle.sj_core.specs.Terms.{named, receiver, Expression, static_of, module_of, undefined_value, null_value, boolean_value, number_value, long_value, text_value, variable_use}
use Rattle.sj_core.specs.Views.{Case, cases_onto}
use Rattle.sj_desugar_spec.specs.Desugar.{Branches, finish}
use Rattle.sj_desugar_spec.specs.Spill.{Destination, Code, no_code, joined}
use Rattle.sj_desugar_forms.specs.Placing.{Placed}
use Rattle.sj_trees.specs.Term.{Term, undefined_literal, null_literal, boolean_literal, char_literal, byte_literal, short_literal, int_literal, long_literal, string_literal, var_ref, this_ref, select_static, load_module}
use Rattle.sj_trees.specs.Types.{class_type}
use Rattle.sj_trees.specs.declared.types.IrType.TheVariants.{Undefined, Boolean, Char, Byte, Short, Int, Long, String, Null}

-- behind an operand, what is written with its expression
abbrev pub behind : Placed → (Expression → ℕ → Code) → Code
behind o f = joined (record { statements = o.statements; next = o.next }) (f o.expression o.next)

-- behind cases, further ones
abbrev pub branches_onto : List Case → Branches → Branches
branches_onto cs bs = record { cases = cases_onto cs bs.cases; next = bs.next }

-- the one for a tree with no others behind it, the other for any other
abbrev pub for_last : {A B : Type 0} → List A → B → B → B
for_last [] last other = last
for_last (x ∷ xs) last other = other

-- the statements of a literal, a local, This, a static field or the one object of a class; none of any other tree
abbrev pub value_code : Destination → ℕ → Term → Code
value_code k j (undefined_literal p) = finish k p Undefined true undefined_value j
value_code k j (null_literal p) = finish k p Null true null_value j
value_code k j (boolean_literal p b) = finish k p Boolean true (boolean_value b) j
value_code k j (char_literal p u) = finish k p Char true (number_value (pos u)) j
value_code k j (byte_literal p z) = finish k p Byte true (number_value z) j
value_code k j (short_literal p z) = finish k p Short true (number_value z) j
value_code k j (int_literal p z) = finish k p Int true (number_value z) j
value_code k j (long_literal p z) = finish k p Long true (long_value z) j
value_code k j (string_literal p us) = finish k p String true (text_value us) j
value_code k j (var_ref p x t) = finish k p t true (variable_use (named x)) j
value_code k j (this_ref p t) = finish k p t true (variable_use receiver) j
value_code k j (select_static p c f t) = finish k p t false (static_of c f) j
value_code k j (load_module p c) = finish k p (class_type c) false (module_of c) j
value_code k j _ = no_code j
