-- Receivers that are never null, and so have no null check.
use Rattle.std.specs.Prelude.{ℕ, Bool, true, false, not, ◌&&◌, ◌||◌, List, [], ◌∷◌, ◌++◌}
use Rattle.sj_trees.specs.Term.{Term, Terms, no_terms, more_terms, Cases, no_cases, more_cases, var_def, block_of, labeled, assign, return_to, if_then, while_loop, do_while, try_catch, try_finally, throw, match_on, new_object, load_module, store_module, select, apply, apply_statically, apply_static, unary_op, binary_op, new_array, array_value, array_length, array_select, is_instance_of, as_instance_of, null_literal, var_ref, this_ref, log_line}
use Rattle.sj_trees.specs.TypeOf.{type_of_term}
use Rattle.sj_trees.specs.declared.types.IrType.{IrType}
use Rattle.sj_trees.specs.Same.{is_same_text}

-- a primitive type other than null
abbrev pub is_sure_type : IrType → Bool
is_sure_type IrType.Undefined = true
is_sure_type IrType.Boolean = true
is_sure_type IrType.Char = true
is_sure_type IrType.Byte = true
is_sure_type IrType.Short = true
is_sure_type IrType.Int = true
is_sure_type IrType.Long = true
is_sure_type IrType.String = true
is_sure_type _ = false

-- by its form, or by its type; a local by what it was defined as
abbrev pub is_sure : (List ℕ → Bool) → Term → Bool
is_sure sure (this_ref p t) = true
is_sure sure (new_object p c m ts) = true
is_sure sure (new_array p r e) = true
is_sure sure (array_value p r ts) = true
is_sure sure (load_module p c) = true
is_sure sure (var_ref p x t) = sure x || is_sure_type t
is_sure sure t = is_sure_type (type_of_term t)

-- the definition of a local: its name, whether it is mutable, and its right side; what is caught may be null
pub record Definition : Type 0 where
  pub name : List ℕ
  pub is_mutable : Bool
  pub value : Term

abbrev mutual
  -- the definitions in a tree, in their order
  pub definitions : Term → List Definition
  definitions (var_def p x t b e) = definitions e ++ record { name = x; is_mutable = b; value = e } ∷ []
  definitions (block_of p ts) = definitions_in ts
  definitions (labeled p l t e) = definitions e
  definitions (assign p e d) = definitions e ++ definitions d
  definitions (return_to p e l) = definitions e
  definitions (if_then p c a b t) = definitions c ++ definitions a ++ definitions b
  definitions (while_loop p c b) = definitions c ++ definitions b
  definitions (do_while p b c) = definitions b ++ definitions c
  definitions (try_catch p e x d t) = definitions e ++ record { name = x; is_mutable = false; value = null_literal p } ∷ definitions d
  definitions (try_finally p e d) = definitions e ++ definitions d
  definitions (throw p e) = definitions e
  definitions (match_on p e cs d t) = definitions e ++ definitions_of_cases cs ++ definitions d
  definitions (new_object p c m ts) = definitions_in ts
  definitions (store_module p c e) = definitions e
  definitions (select p e c f t) = definitions e
  definitions (apply p e m ts t) = definitions e ++ definitions_in ts
  definitions (apply_statically p e c n m ts t) = definitions e ++ definitions_in ts
  definitions (apply_static p c n m ts t) = definitions_in ts
  definitions (unary_op p o e) = definitions e
  definitions (binary_op p o e d) = definitions e ++ definitions d
  definitions (new_array p r e) = definitions e
  definitions (array_value p r ts) = definitions_in ts
  definitions (array_length p e) = definitions e
  definitions (array_select p e i t) = definitions e ++ definitions i
  definitions (is_instance_of p e t) = definitions e
  definitions (as_instance_of p e t) = definitions e
  definitions (log_line p e) = definitions e
  definitions _ = []

  pub definitions_in : Terms → List Definition
  definitions_in no_terms = []
  definitions_in (more_terms t ts) = definitions t ++ definitions_in ts

  pub definitions_of_cases : Cases → List Definition
  definitions_of_cases no_cases = []
  definitions_of_cases (more_cases ks t cs) = definitions t ++ definitions_of_cases cs

-- the sure locals behind these definitions: the immutable ones whose right sides are sure
abbrev pub sure_behind : (List ℕ → Bool) → List Definition → List ℕ → Bool
sure_behind sure [] x = sure x
sure_behind sure (d ∷ ds) x = sure_behind (λ y. sure y || (is_same_text y d.name && not d.is_mutable && is_sure sure d.value)) ds x

-- the sure locals of a body
abbrev pub sure_locals : Term → List ℕ → Bool
sure_locals body = sure_behind (λ x. false) (definitions body)
