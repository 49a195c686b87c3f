-- The trees of a body, each with its number and the labels around it.
use Rattle.std.specs.Prelude.{ℕ, ◌+◌, List, [], ◌∷◌, ◌++◌}
use Rattle.sj_trees.specs.declared.types.IrType.{IrType}
use Rattle.sj_trees.specs.Term.{Term, Terms, Cases, no_terms, more_terms, no_cases, more_cases, var_def, skip, block_of, labeled, assign, return_to, if_then, while_loop, do_while, try_catch, try_finally, throw, match_on, new_object, load_module, store_module, select, select_static, apply, apply_statically, apply_static, unary_op, binary_op, new_array, array_value, array_length, array_select, is_instance_of, as_instance_of, undefined_literal, null_literal, boolean_literal, char_literal, byte_literal, short_literal, int_literal, long_literal, string_literal, var_ref, this_ref, log_line}
use Rattle.sj_ask.specs.Sizes.{size, size_of_cases}
use Rattle.sj_typing_spec.specs.declared.labels.Label.{Label}

-- a tree where it stands: its number, parents first, from 0; the labels around it, the innermost last
pub record Node : Type 0 where
  pub number : ℕ
  pub labels : List Label
  pub tree : Term

abbrev pub node : ℕ → List Label → Term → Node
node n ls t = record { number = n; labels = ls; tree = t }

-- with a label inside
abbrev pub inside : List ℕ → IrType → List Label → List Label
inside l t ls = ls ++ record { name = l; tpe = t } ∷ []

abbrev mutual
  -- the trees in a tree of this number, children before parents, left to right
  pub below : List Label → ℕ → Term → List Node
  below ls n (var_def p x t m e) = (below ls (n + 1) e ++ node (n + 1) ls e ∷ [])
  below ls n (skip p) = []
  below ls n (block_of p ts) = nodes_of_all ls (n + 1) ts
  below ls n (labeled p l t e) = (below (inside l t ls) (n + 1) e ++ node (n + 1) (inside l t ls) e ∷ [])
  below ls n (assign p e d) = (below ls (n + 1) e ++ node (n + 1) ls e ∷ []) ++ (below ls (n + 1 + size e) d ++ node (n + 1 + size e) ls d ∷ [])
  below ls n (return_to p e l) = (below ls (n + 1) e ++ node (n + 1) ls e ∷ [])
  below ls n (if_then p e d b t) = (below ls (n + 1) e ++ node (n + 1) ls e ∷ []) ++ ((below ls (n + 1 + size e) d ++ node (n + 1 + size e) ls d ∷ []) ++ (below ls (n + 1 + size e + size d) b ++ node (n + 1 + size e + size d) ls b ∷ []))
  below ls n (while_loop p e d) = (below ls (n + 1) e ++ node (n + 1) ls e ∷ []) ++ (below ls (n + 1 + size e) d ++ node (n + 1 + size e) ls d ∷ [])
  below ls n (do_while p e d) = (below ls (n + 1) e ++ node (n + 1) ls e ∷ []) ++ (below ls (n + 1 + size e) d ++ node (n + 1 + size e) ls d ∷ [])
  below ls n (try_catch p e x d t) = (below ls (n + 1) e ++ node (n + 1) ls e ∷ []) ++ (below ls (n + 1 + size e) d ++ node (n + 1 + size e) ls d ∷ [])
  below ls n (try_finally p e d) = (below ls (n + 1) e ++ node (n + 1) ls e ∷ []) ++ (below ls (n + 1 + size e) d ++ node (n + 1 + size e) ls d ∷ [])
  below ls n (throw p e) = (below ls (n + 1) e ++ node (n + 1) ls e ∷ [])
  below ls n (match_on p e cs d t) = (below ls (n + 1) e ++ node (n + 1) ls e ∷ []) ++ (nodes_of_cases ls (n + 1 + size e) cs ++ (below ls (n + 1 + size e + size_of_cases cs) d ++ node (n + 1 + size e + size_of_cases cs) ls d ∷ []))
  below ls n (new_object p c k ts) = nodes_of_all ls (n + 1) ts
  below ls n (load_module p c) = []
  below ls n (store_module p c e) = (below ls (n + 1) e ++ node (n + 1) ls e ∷ [])
  below ls n (select p e c f t) = (below ls (n + 1) e ++ node (n + 1) ls e ∷ [])
  below ls n (select_static p c f t) = []
  below ls n (apply p e k ts t) = (below ls (n + 1) e ++ node (n + 1) ls e ∷ []) ++ (nodes_of_all ls (n + 1 + size e) ts)
  below ls n (apply_statically p e c s k ts t) = (below ls (n + 1) e ++ node (n + 1) ls e ∷ []) ++ (nodes_of_all ls (n + 1 + size e) ts)
  below ls n (apply_static p c s k ts t) = nodes_of_all ls (n + 1) ts
  below ls n (unary_op p o e) = (below ls (n + 1) e ++ node (n + 1) ls e ∷ [])
  below ls n (binary_op p o e d) = (below ls (n + 1) e ++ node (n + 1) ls e ∷ []) ++ (below ls (n + 1 + size e) d ++ node (n + 1 + size e) ls d ∷ [])
  below ls n (new_array p r e) = (below ls (n + 1) e ++ node (n + 1) ls e ∷ [])
  below ls n (array_value p r ts) = nodes_of_all ls (n + 1) ts
  below ls n (array_length p e) = (below ls (n + 1) e ++ node (n + 1) ls e ∷ [])
  below ls n (array_select p e d t) = (below ls (n + 1) e ++ node (n + 1) ls e ∷ []) ++ (below ls (n + 1 + size e) d ++ node (n + 1 + size e) ls d ∷ [])
  below ls n (is_instance_of p e t) = (below ls (n + 1) e ++ node (n + 1) ls e ∷ [])
  below ls n (as_instance_of p e t) = (below ls (n + 1) e ++ node (n + 1) ls e ∷ [])
  below ls n (undefined_literal p) = []
  below ls n (null_literal p) = []
  below ls n (boolean_literal p v) = []
  below ls n (char_literal p v) = []
  below ls n (byte_literal p v) = []
  below ls n (short_literal p v) = []
  below ls n (int_literal p v) = []
  below ls n (long_literal p v) = []
  below ls n (string_literal p u) = []
  below ls n (var_ref p x t) = []
  below ls n (this_ref p t) = []
  below ls n (log_line p e) = (below ls (n + 1) e ++ node (n + 1) ls e ∷ [])

  pub nodes_of_all : List Label → ℕ → Terms → List Node
  nodes_of_all ls n no_terms = []
  nodes_of_all ls n (more_terms t ts) = (below ls n t ++ node n ls t ∷ []) ++ nodes_of_all ls (n + size t) ts

  pub nodes_of_cases : List Label → ℕ → Cases → List Node
  nodes_of_cases ls n no_cases = []
  nodes_of_cases ls n (more_cases keys t cs) = (below ls n t ++ node n ls t ∷ []) ++ nodes_of_cases ls (n + size t) cs

-- a tree of this number, behind those in it
abbrev pub nodes : List Label → ℕ → Term → List Node
nodes ls n t = below ls n t ++ node n ls t ∷ []
