-- Fields and calls on receivers, the one objects of classes, and arrays, and what is written for them.
use Rattle.std.specs.Prelude.{◌≡◌, ℕ, Bool, false, List, [], ◌∷◌, Some, None, codes, pos}
use Rattle.sj_core.specs.Terms as core
use Rattle.sj_core.specs.Terms.{Statement, Statements, statement, no_statements, try_of, finally_of, throw_of, named, numbered, variable_use, field_of, module_of, store_module_of, checked_value, receiver_call, new_array_of, array_of, length_of, element_of, boxed_char, number_value, expression, no_expressions, constant_of, assign_to, assign_element, evaluate_of, return_of}
use Rattle.sj_core.specs.declared.callees.Callee.TheVariants as callees
use Rattle.sj_desugar_spec.specs.Desugar.{Targets, target_of, into, member}
use Rattle.sj_desugar_spec.specs.Finalizers.{kept}
use Rattle.sj_desugar_spec.specs.Spill.{discard, to_variable, to_result}
use Rattle.sj_core.specs.Same.{is_same_text}
use Rattle.sj_core.specs.MethodName.{MethodName}
use Rattle.sj_core.specs.NamespaceVariants.{Private}
use Rattle.sj_core.specs.TypeRef.{TypeRef}
use Rattle.sj_names.specs.declared.references.ArrayRef.{ArrayRef}
use Rattle.sj_names.specs.declared.references.BaseRef.{BaseRef}
use Rattle.sj_core.specs.Erase.{nowhere}
use Rattle.sj_core.specs.Term.{Term, no_terms, more_terms, skip, block_of, labeled, assign, return_to, try_catch, try_finally, throw, load_module, store_module, select, apply_statically, new_array, array_value, array_length, array_select, char_literal, int_literal, var_ref}
use Rattle.sj_core.specs.IrTypeVariants.{Any, Class, Int, NoType}

-- the local `a` is never null, and `b` may be
abbrev is_a : List ℕ → Bool
is_a x = is_same_text x (codes "a")

-- the statements that return the value of a tree
abbrev returned : Term → Statements
returned t = (into (λ x. false) is_a [] (to_result Int) 1 t).statements

abbrev use_of : List ℕ → Term
use_of x = var_ref nowhere x (Class (codes "A"))

abbrev takes_int : MethodName
takes_int = record { simple = codes "m"; params = TypeRef.Int ∷ []; result = Some TypeRef.Int }

-- a block that ends with a number, which isn't plain
abbrev block : Term
block = block_of nowhere (more_terms (skip nowhere) (more_terms (int_literal nowhere (pos 4)) no_terms))

-- the statements that throw the block's value, whose variable has this number
abbrev thrown_block : ℕ → Statements
thrown_block n = statement (core.declare_of (Some nowhere) (numbered n)) (statement (assign_to (Some nowhere) (numbered n) (number_value (pos 4))) (statement (throw_of (Some nowhere) (variable_use (numbered n))) no_statements))

-- a receiver that is never null is read as it is, any other through its check, which comes in front of the arguments
pub record ReceiversAreChecked : Type 0 where
  pub of_a : returned (select nowhere (use_of (codes "a")) (codes "A") (codes "f") Int) ≡ statement (return_of (Some nowhere) (field_of (variable_use (named (codes "a"))) (codes "A") (codes "f"))) no_statements
  pub of_b : returned (select nowhere (use_of (codes "b")) (codes "A") (codes "f") Int) ≡ statement (return_of (Some nowhere) (field_of (checked_value (variable_use (named (codes "b")))) (codes "A") (codes "f"))) no_statements
  pub in_front : returned (apply_statically nowhere (use_of (codes "b")) (codes "A") Private takes_int (more_terms block no_terms) Int) ≡ statement (constant_of (Some nowhere) (numbered 1) (checked_value (variable_use (named (codes "b"))))) (statement (core.declare_of (Some nowhere) (numbered 2)) (statement (assign_to (Some nowhere) (numbered 2) (number_value (pos 4))) (statement (return_of (Some nowhere) (receiver_call (callees.Member (member (codes "A") Private takes_int)) (variable_use (numbered 1)) (expression (variable_use (numbered 2)) no_expressions))) no_statements)))

-- the statements of a tree whose value isn't used
abbrev dropped : Term → Statements
dropped t = (into (λ x. false) is_a [] discard 1 t).statements

-- what a block throws is caught for a handler, and the value of either goes where that of the whole goes; behind the handler variables for operands are further ones
pub record ThrowsAreCaught : Type 0 where
  pub either_value : returned (try_catch nowhere (int_literal nowhere (pos 1)) (codes "e") (use_of (codes "e")) Int) ≡ statement (try_of (Some nowhere) (statement (return_of (Some nowhere) (number_value (pos 1))) no_statements) (named (codes "e")) (statement (return_of (Some nowhere) (variable_use (named (codes "e")))) no_statements)) no_statements
  pub dropped_values : dropped (try_catch nowhere (int_literal nowhere (pos 1)) (codes "e") (throw nowhere (use_of (codes "e"))) NoType) ≡ statement (try_of (Some nowhere) no_statements (named (codes "e")) (statement (throw_of (Some nowhere) (variable_use (named (codes "e")))) no_statements)) no_statements
  pub numbered_on : dropped (try_catch nowhere (throw nowhere block) (codes "e") (throw nowhere block) NoType) ≡ statement (try_of (Some nowhere) (thrown_block 1) (named (codes "e")) (thrown_block 2)) no_statements

-- the one object of the class `A`
abbrev loaded : Term
loaded = load_module nowhere (codes "A")

-- a block that ends with it
abbrev loading : Term
loading = block_of nowhere (more_terms (skip nowhere) (more_terms loaded no_terms))

-- what is loaded is loaded where it isn't used too, and what is stored is evaluated in front where it isn't plain
pub record ModulesAreLoaded : Type 0 where
  pub as_a_value : returned loaded ≡ statement (return_of (Some nowhere) (module_of (codes "A"))) no_statements
  pub for_itself : dropped loaded ≡ statement (evaluate_of (Some nowhere) (module_of (codes "A"))) no_statements
  pub as_a_receiver : returned (select nowhere loaded (codes "A") (codes "f") Int) ≡ statement (return_of (Some nowhere) (field_of (module_of (codes "A")) (codes "A") (codes "f"))) no_statements
  pub stored : dropped (store_module nowhere (codes "A") (use_of (codes "a"))) ≡ statement (store_module_of (Some nowhere) (codes "A") (variable_use (named (codes "a")))) no_statements
  pub stored_in_pieces : dropped (store_module nowhere (codes "A") loading) ≡ statement (core.declare_of (Some nowhere) (numbered 1)) (statement (assign_to (Some nowhere) (numbered 1) (module_of (codes "A"))) (statement (store_module_of (Some nowhere) (codes "A") (variable_use (numbered 1))) no_statements))

-- the arrays of ints, and those of objects
abbrev ints : ArrayRef
ints = record { dimensions = 1; base = BaseRef.Int }

abbrev objects : ArrayRef
objects = record { dimensions = 1; base = BaseRef.Class (codes "java.lang.Object") }

-- the block's value in the variable of this number, in front of statements
abbrev in_front : ℕ → Statements → Statements
in_front n ss = statement (core.declare_of (Some nowhere) (numbered n)) (statement (assign_to (Some nowhere) (numbered n) (number_value (pos 4))) ss)

-- a new array is never null, and any other is checked in front of the index and the new value; an item goes where an element is expected
pub record ArraysAreMade : Type 0 where
  pub made : returned (array_length nowhere (new_array nowhere ints (int_literal nowhere (pos 2)))) ≡ statement (return_of (Some nowhere) (length_of (new_array_of ints (number_value (pos 2))))) no_statements
  pub of_items : returned (array_value nowhere objects (more_terms (char_literal nowhere 65) (more_terms (use_of (codes "b")) no_terms))) ≡ statement (return_of (Some nowhere) (array_of objects (expression (boxed_char (number_value (pos 65))) (expression (variable_use (named (codes "b"))) no_expressions)))) no_statements
  pub of_b : returned (array_select nowhere (use_of (codes "b")) (int_literal nowhere (pos 0)) Int) ≡ statement (return_of (Some nowhere) (element_of (checked_value (variable_use (named (codes "b")))) (number_value (pos 0)))) no_statements
  pub set : dropped (assign nowhere (array_select nowhere (use_of (codes "b")) (int_literal nowhere (pos 0)) Any) (char_literal nowhere 65)) ≡ statement (assign_element (Some nowhere) Any (checked_value (variable_use (named (codes "b")))) (number_value (pos 0)) (boxed_char (number_value (pos 65)))) no_statements
  pub in_order : dropped (assign nowhere (array_select nowhere (use_of (codes "b")) block Int) block) ≡ statement (constant_of (Some nowhere) (numbered 1) (checked_value (variable_use (named (codes "b"))))) (in_front 2 (in_front 3 (statement (assign_element (Some nowhere) Int (variable_use (numbered 1)) (variable_use (numbered 2)) (variable_use (numbered 3))) no_statements)))

-- one label around, whose value goes to the local `x`
abbrev labels_around : Targets
labels_around = record { label = codes "l"; goes_to = to_variable (named (codes "x")) Int } ∷ []

-- m: { try { leave l with 2 } finally { leave m } }
abbrev gives_its_jump_up : Term
gives_its_jump_up = labeled nowhere (codes "m") NoType (try_finally nowhere (return_to nowhere (int_literal nowhere (pos 2)) (codes "l")) (return_to nowhere (skip nowhere) (codes "m")))

-- m: { leave m }
abbrev jumps_to_itself : Term
jumps_to_itself = labeled nowhere (codes "m") NoType (return_to nowhere (skip nowhere) (codes "m"))

-- l: { try { leave l with 2 } finally { } }
abbrev jumps_within_itself : Term
jumps_within_itself = labeled nowhere (codes "l") NoType (try_finally nowhere (return_to nowhere (int_literal nowhere (pos 2)) (codes "l")) (skip nowhere))

-- the statements of a tree inside the label, whose value goes to `x`
abbrev labelled : Term → Statements
labelled t = (into (λ x. false) is_a labels_around (to_variable (named (codes "x")) Int) 1 t).statements

-- `x = 2; break l;`, and the jump alone
abbrev leaves_with : ℕ → Statements
leaves_with n = statement (assign_to (Some nowhere) (named (codes "x")) (number_value (pos n))) (statement (core.leave_label (Some nowhere) (codes "l")) no_statements)

abbrev inner_try : Statements → Statement
inner_try ss = core.labeled_of (Some nowhere) (codes "m") (statement (finally_of (Some nowhere) ss (statement (core.leave_label (Some nowhere) (codes "m")) no_statements)) no_statements)

-- a finalizer's value isn't used. In `x = l: { try { leave l with 1 } finally { m: { try { leave l with 2 } finally { leave m } } } }` the inner try may write
-- `x` before its jump is given up, so `x` is kept in `$1` and given back. A finalizer whose jumps are to labels in it keeps nothing, also where one of them
-- has the name of a label around it.
pub record FinalizersRun : Type 0 where
  pub value_dropped : returned (try_finally nowhere (int_literal nowhere (pos 1)) (use_of (codes "b"))) ≡ statement (finally_of (Some nowhere) (statement (return_of (Some nowhere) (number_value (pos 1))) no_statements) no_statements) no_statements
  pub given_back : labelled (try_finally nowhere (return_to nowhere (int_literal nowhere (pos 1)) (codes "l")) gives_its_jump_up) ≡ statement (finally_of (Some nowhere) (leaves_with 1) (statement (constant_of None (numbered 1) (variable_use (named (codes "x")))) (statement (inner_try (leaves_with 2)) (statement (assign_to None (named (codes "x")) (variable_use (numbered 1))) no_statements)))) no_statements
  pub left_alone : labelled (try_finally nowhere (return_to nowhere (int_literal nowhere (pos 1)) (codes "l")) (return_to nowhere (int_literal nowhere (pos 2)) (codes "l"))) ≡ statement (finally_of (Some nowhere) (leaves_with 1) (leaves_with 2)) no_statements
  pub own_label : kept (target_of labels_around) jumps_to_itself ≡ []
  pub same_name : kept (target_of labels_around) jumps_within_itself ≡ []
