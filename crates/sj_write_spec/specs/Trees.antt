-- The fields of trees: a tag, a position, and the parts of the form in order.
use Rattle.std.specs.Prelude.{ℕ, suc, ℤ, List}
use Rattle.std.specs.Int.{w8, w16, w32, w64}
use Rattle.sj_names.specs.declared.method_names.Namespace.{Namespace}
use Rattle.sj_trees.specs.Operators.{unary_code, binary_code}
use Rattle.sj_trees.specs.Term.{Term, Terms, Cases, no_terms, more_terms, no_cases, more_cases, var_def, skip, block_of, labeled, assign, return_to, if_then, while_loop, do_while, try_catch, try_finally, throw, match_on, new_object, load_module, store_module, select, select_static, apply, apply_statically, apply_static, unary_op, binary_op, new_array, array_value, array_length, array_select, is_instance_of, as_instance_of, undefined_literal, null_literal, boolean_literal, char_literal, byte_literal, short_literal, int_literal, long_literal, string_literal, var_ref, this_ref, log_line}
use Rattle.sj_write_spec.specs.Fields.{Fields, nothing, number_field, name_field, method_field, string_field, ◌▸◌, byte, mark, signed, count, list_fields, position_fields}
use Rattle.sj_write_spec.specs.References.{type_fields, array_fields}

-- a namespace
abbrev pub namespace_code : Namespace → ℕ
namespace_code Namespace.Public = 0
namespace_code Namespace.PublicStatic = 1
namespace_code Namespace.Private = 2
namespace_code Namespace.PrivateStatic = 3
namespace_code Namespace.Constructor = 4

-- the keys of a case
abbrev pub keys_fields : List ℤ → Fields
keys_fields keys = list_fields (signed w32 4) keys

-- how many trees and how many cases there are
abbrev pub count_terms : Terms → ℕ
count_terms no_terms = 0
count_terms (more_terms e es) = suc (count_terms es)

abbrev pub count_cases : Cases → ℕ
count_cases no_cases = 0
count_cases (more_cases keys e cs) = suc (count_cases cs)

abbrev mutual
  -- a tree
  pub term_fields : List (List ℕ) → Term → Fields
  term_fields sources (var_def p name tpe mutable value) = byte 1 ▸ position_fields sources p ▸ name_field name ▸ type_fields tpe ▸ mark mutable ▸ term_fields sources value
  term_fields sources (skip p) = byte 2 ▸ position_fields sources p ▸ nothing
  term_fields sources (block_of p trees) = byte 3 ▸ position_fields sources p ▸ count (count_terms trees) ▸ each_term sources trees
  term_fields sources (labeled p label tpe body) = byte 4 ▸ position_fields sources p ▸ name_field label ▸ type_fields tpe ▸ term_fields sources body
  term_fields sources (assign p target value) = byte 5 ▸ position_fields sources p ▸ term_fields sources target ▸ term_fields sources value
  term_fields sources (return_to p value label) = byte 6 ▸ position_fields sources p ▸ term_fields sources value ▸ name_field label
  term_fields sources (if_then p condition consequent alternative tpe) = byte 7 ▸ position_fields sources p ▸ term_fields sources condition ▸ term_fields sources consequent ▸ term_fields sources alternative ▸ type_fields tpe
  term_fields sources (while_loop p condition body) = byte 8 ▸ position_fields sources p ▸ term_fields sources condition ▸ term_fields sources body
  term_fields sources (do_while p body condition) = byte 9 ▸ position_fields sources p ▸ term_fields sources body ▸ term_fields sources condition
  term_fields sources (try_catch p block name handler tpe) = byte 10 ▸ position_fields sources p ▸ term_fields sources block ▸ name_field name ▸ term_fields sources handler ▸ type_fields tpe
  term_fields sources (try_finally p block finalizer) = byte 11 ▸ position_fields sources p ▸ term_fields sources block ▸ term_fields sources finalizer
  term_fields sources (throw p value) = byte 12 ▸ position_fields sources p ▸ term_fields sources value
  term_fields sources (match_on p selector cases default tpe) = byte 13 ▸ position_fields sources p ▸ term_fields sources selector ▸ (count (count_cases cases) ▸ each_case sources cases) ▸ term_fields sources default ▸ type_fields tpe
  term_fields sources (new_object p class method arguments) = byte 14 ▸ position_fields sources p ▸ name_field class ▸ method_field method ▸ count (count_terms arguments) ▸ each_term sources arguments
  term_fields sources (load_module p class) = byte 15 ▸ position_fields sources p ▸ name_field class
  term_fields sources (store_module p class value) = byte 16 ▸ position_fields sources p ▸ name_field class ▸ term_fields sources value
  term_fields sources (select p qualifier class field tpe) = byte 17 ▸ position_fields sources p ▸ term_fields sources qualifier ▸ name_field class ▸ name_field field ▸ type_fields tpe
  term_fields sources (select_static p class field tpe) = byte 18 ▸ position_fields sources p ▸ name_field class ▸ name_field field ▸ type_fields tpe
  term_fields sources (apply p receiver method arguments tpe) = byte 19 ▸ position_fields sources p ▸ term_fields sources receiver ▸ method_field method ▸ (count (count_terms arguments) ▸ each_term sources arguments) ▸ type_fields tpe
  term_fields sources (apply_statically p receiver class namespace method arguments tpe) = byte 20 ▸ position_fields sources p ▸ term_fields sources receiver ▸ name_field class ▸ byte (namespace_code namespace) ▸ method_field method ▸ (count (count_terms arguments) ▸ each_term sources arguments) ▸ type_fields tpe
  term_fields sources (apply_static p class namespace method arguments tpe) = byte 21 ▸ position_fields sources p ▸ name_field class ▸ byte (namespace_code namespace) ▸ method_field method ▸ (count (count_terms arguments) ▸ each_term sources arguments) ▸ type_fields tpe
  term_fields sources (unary_op p operator operand) = byte 22 ▸ position_fields sources p ▸ byte (unary_code operator) ▸ term_fields sources operand
  term_fields sources (binary_op p operator left right) = byte 23 ▸ position_fields sources p ▸ byte (binary_code operator) ▸ term_fields sources left ▸ term_fields sources right
  term_fields sources (new_array p array length) = byte 24 ▸ position_fields sources p ▸ array_fields array ▸ term_fields sources length
  term_fields sources (array_value p array items) = byte 25 ▸ position_fields sources p ▸ array_fields array ▸ count (count_terms items) ▸ each_term sources items
  term_fields sources (array_length p array) = byte 26 ▸ position_fields sources p ▸ term_fields sources array
  term_fields sources (array_select p array index tpe) = byte 27 ▸ position_fields sources p ▸ term_fields sources array ▸ term_fields sources index ▸ type_fields tpe
  term_fields sources (is_instance_of p value tpe) = byte 28 ▸ position_fields sources p ▸ term_fields sources value ▸ type_fields tpe
  term_fields sources (as_instance_of p value tpe) = byte 29 ▸ position_fields sources p ▸ term_fields sources value ▸ type_fields tpe
  term_fields sources (undefined_literal p) = byte 30 ▸ position_fields sources p ▸ nothing
  term_fields sources (null_literal p) = byte 31 ▸ position_fields sources p ▸ nothing
  term_fields sources (boolean_literal p value) = byte 32 ▸ position_fields sources p ▸ mark value
  term_fields sources (char_literal p value) = byte 33 ▸ position_fields sources p ▸ number_field 2 value
  term_fields sources (byte_literal p value) = byte 34 ▸ position_fields sources p ▸ signed w8 1 value
  term_fields sources (short_literal p value) = byte 35 ▸ position_fields sources p ▸ signed w16 2 value
  term_fields sources (int_literal p value) = byte 36 ▸ position_fields sources p ▸ signed w32 4 value
  term_fields sources (long_literal p value) = byte 37 ▸ position_fields sources p ▸ signed w64 8 value
  term_fields sources (string_literal p value) = byte 38 ▸ position_fields sources p ▸ string_field value
  term_fields sources (var_ref p name tpe) = byte 39 ▸ position_fields sources p ▸ name_field name ▸ type_fields tpe
  term_fields sources (this_ref p tpe) = byte 40 ▸ position_fields sources p ▸ type_fields tpe
  term_fields sources (log_line p value) = byte 41 ▸ position_fields sources p ▸ term_fields sources value

  -- each tree
  pub each_term : List (List ℕ) → Terms → Fields
  each_term sources no_terms = nothing
  each_term sources (more_terms e es) = term_fields sources e ▸ each_term sources es

  -- each case
  pub each_case : List (List ℕ) → Cases → Fields
  each_case sources no_cases = nothing
  each_case sources (more_cases keys e cs) = (keys_fields keys ▸ term_fields sources e) ▸ each_case sources cs

-- how many trees there are, and the trees
abbrev pub terms_fields : List (List ℕ) → Terms → Fields
terms_fields sources es = count (count_terms es) ▸ each_term sources es

-- how many cases there are, and the cases
abbrev pub cases_fields : List (List ℕ) → Cases → Fields
cases_fields sources cs = count (count_cases cs) ▸ each_case sources cs
