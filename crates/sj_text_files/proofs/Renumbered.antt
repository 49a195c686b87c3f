-- What a listing says of a class doesn't hang on the numbers of source files.
use Rattle.std.proofs.Common.{◌≡◌, ℕ, List, [], ◌∷◌, Option, Some, None, refl, map}
use Rattle.std.specs.Prelude.{option_map}
use Rattle.sj_trees.specs.Erase.{nowhere, erase, erase_all, erase_cases}
use Rattle.sj_trees.specs.Term.{Term, Terms, Cases, no_terms, more_terms, no_cases, more_cases, var_def, skip, block_of, labeled, assign, return_to, if_then, while_loop, do_while, try_catch, try_finally, throw, match_on, new_object, load_module, store_module, select, select_static, apply, apply_statically, apply_static, unary_op, binary_op, new_array, array_value, array_length, array_select, is_instance_of, as_instance_of, undefined_literal, null_literal, boolean_literal, char_literal, byte_literal, short_literal, int_literal, long_literal, string_literal, var_ref, this_ref, log_line}
use Rattle.sj_trees.specs.declared.classes.FieldDef.{FieldDef}
use Rattle.sj_trees.specs.declared.classes.MethodDef.{MethodDef}
use Rattle.sj_trees.specs.declared.classes.ClassDef.{ClassDef}
use Rattle.sj_text_spec.specs.Rules.{bare, bare_field, bare_method}
use Rattle.sj_write_spec.specs.Renumbered.{renumbered, renumbered_all, renumbered_cases, renumbered_field, renumbered_method, renumbered_class}

mutual
  again : (f : ℕ → ℕ) (t : Term) → erase (renumbered f t) ≡ erase t
  again f (var_def p name tpe mutable value) = λ i. var_def nowhere name tpe mutable (again f value i)
  again f (skip p) = refl
  again f (block_of p trees) = λ i. block_of nowhere (again_all f trees i)
  again f (labeled p label tpe body) = λ i. labeled nowhere label tpe (again f body i)
  again f (assign p target value) = λ i. assign nowhere (again f target i) (again f value i)
  again f (return_to p value label) = λ i. return_to nowhere (again f value i) label
  again f (if_then p condition consequent alternative tpe) = λ i. if_then nowhere (again f condition i) (again f consequent i) (again f alternative i) tpe
  again f (while_loop p condition body) = λ i. while_loop nowhere (again f condition i) (again f body i)
  again f (do_while p body condition) = λ i. do_while nowhere (again f body i) (again f condition i)
  again f (try_catch p block name handler tpe) = λ i. try_catch nowhere (again f block i) name (again f handler i) tpe
  again f (try_finally p block finalizer) = λ i. try_finally nowhere (again f block i) (again f finalizer i)
  again f (throw p value) = λ i. throw nowhere (again f value i)
  again f (match_on p selector cases default tpe) = λ i. match_on nowhere (again f selector i) (again_cases f cases i) (again f default i) tpe
  again f (new_object p class method arguments) = λ i. new_object nowhere class method (again_all f arguments i)
  again f (load_module p class) = refl
  again f (store_module p class value) = λ i. store_module nowhere class (again f value i)
  again f (select p qualifier class field tpe) = λ i. select nowhere (again f qualifier i) class field tpe
  again f (select_static p class field tpe) = refl
  again f (apply p receiver method arguments tpe) = λ i. apply nowhere (again f receiver i) method (again_all f arguments i) tpe
  again f (apply_statically p receiver class namespace method arguments tpe) = λ i. apply_statically nowhere (again f receiver i) class namespace method (again_all f arguments i) tpe
  again f (apply_static p class namespace method arguments tpe) = λ i. apply_static nowhere class namespace method (again_all f arguments i) tpe
  again f (unary_op p operator operand) = λ i. unary_op nowhere operator (again f operand i)
  again f (binary_op p operator left right) = λ i. binary_op nowhere operator (again f left i) (again f right i)
  again f (new_array p array length) = λ i. new_array nowhere array (again f length i)
  again f (array_value p array items) = λ i. array_value nowhere array (again_all f items i)
  again f (array_length p array) = λ i. array_length nowhere (again f array i)
  again f (array_select p array index tpe) = λ i. array_select nowhere (again f array i) (again f index i) tpe
  again f (is_instance_of p value tpe) = λ i. is_instance_of nowhere (again f value i) tpe
  again f (as_instance_of p value tpe) = λ i. as_instance_of nowhere (again f value i) tpe
  again f (undefined_literal p) = refl
  again f (null_literal p) = refl
  again f (boolean_literal p value) = refl
  again f (char_literal p value) = refl
  again f (byte_literal p value) = refl
  again f (short_literal p value) = refl
  again f (int_literal p value) = refl
  again f (long_literal p value) = refl
  again f (string_literal p value) = refl
  again f (var_ref p name tpe) = refl
  again f (this_ref p tpe) = refl
  again f (log_line p value) = λ i. log_line nowhere (again f value i)

  again_all : (f : ℕ → ℕ) (ts : Terms) → erase_all (renumbered_all f ts) ≡ erase_all ts
  again_all f no_terms = refl
  again_all f (more_terms t ts) = λ i. more_terms (again f t i) (again_all f ts i)

  again_cases : (f : ℕ → ℕ) (cs : Cases) → erase_cases (renumbered_cases f cs) ≡ erase_cases cs
  again_cases f no_cases = refl
  again_cases f (more_cases keys t cs) = λ i. more_cases keys (again f t i) (again_cases f cs i)

again_body : (f : ℕ → ℕ) (o : Option Term) → option_map erase (option_map (renumbered f) o) ≡ option_map erase o
again_body f None = refl
again_body f (Some t) = λ i. Some (again f t i)

again_fields : (f : ℕ → ℕ) (ds : List FieldDef) → map bare_field (map (renumbered_field f) ds) ≡ map bare_field ds
again_fields f [] = refl
again_fields f (d ∷ ds) = λ i. bare_field d ∷ again_fields f ds i

again_method : (f : ℕ → ℕ) (d : MethodDef) → bare_method (renumbered_method f d) ≡ bare_method d
again_method f d = λ i. record { pos = nowhere; namespace = d.namespace; name = d.name; params = d.params; result = d.result; body = again_body f d.body i; hash = None }

again_methods : (f : ℕ → ℕ) (ds : List MethodDef) → map bare_method (map (renumbered_method f) ds) ≡ map bare_method ds
again_methods f [] = refl
again_methods f (d ∷ ds) = λ i. again_method f d i ∷ again_methods f ds i

pub bare_again : (f : ℕ → ℕ) (files : List (List ℕ)) (c : ClassDef) → bare (renumbered_class f files c) ≡ bare c
bare_again f files c = λ i. record { pos = nowhere; files = [] ∷ []; name = c.name; kind = c.kind; superclass = c.superclass; interfaces = c.interfaces; fields = again_fields f c.fields i; methods = again_methods f c.methods i }
