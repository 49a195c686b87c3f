-- The trees of a body, each with what is known where it stands: a tree before those in it, and those from left to right.
use Rattle.std.specs.Prelude.{ℕ, Bool, true, false, List, [], ◌∷◌, ◌++◌}
use Rattle.sj_trees.specs.declared.types.IrType.TheVariants.{Any}
use Rattle.sj_trees.specs.Term.{Term, Terms, Cases, no_terms, more_terms, no_cases, more_cases, var_def, skip, block_of, labeled, assign, return_to, if_then, while_loop, do_while, try_catch, try_finally, throw, match_on, new_object, load_module, store_module, select, select_static, apply, apply_statically, apply_static, unary_op, binary_op, new_array, array_value, array_length, array_select, is_instance_of, as_instance_of, undefined_literal, null_literal, boolean_literal, char_literal, byte_literal, short_literal, int_literal, long_literal, string_literal, var_ref, this_ref, log_line}
use Rattle.sj_local.specs.declared.walks.Local.{Local}

-- where a tree stands: the locals in scope and the labels around it, the innermost last, and whether it stands directly in a block
pub record Context : Type 0 where
  pub scope : List Local
  pub labels : List (List ℕ)
  pub in_block : Bool

pub record Node : Type 0 where
  pub context : Context
  pub tree : Term

abbrev pub node : Context → Term → Node
node x t = record { context = x; tree = t }

-- in a tree
abbrev pub inside : Context → Context
inside x = record { scope = x.scope; labels = x.labels; in_block = false }

-- directly in a block
abbrev pub in_a_block : Context → Context
in_a_block x = record { scope = x.scope; labels = x.labels; in_block = true }

abbrev pub with_local : Local → Context → Context
with_local l x = record { scope = x.scope ++ l ∷ []; labels = x.labels; in_block = x.in_block }

abbrev pub with_label : List ℕ → Context → Context
with_label l x = record { scope = x.scope; labels = x.labels ++ l ∷ []; in_block = x.in_block }

-- what a handler has caught
abbrev pub caught : List ℕ → Local
caught name = record { name = name; tpe = Any; mutable = false }

-- what a statement defines for those behind it
abbrev pub defined : Term → List Local
defined (var_def p name tpe mutable e) = record { name = name; tpe = tpe; mutable = mutable } ∷ []
defined _ = []

-- behind a statement of a block
abbrev pub behind : Term → Context → Context
behind t x = record { scope = x.scope ++ defined t; labels = x.labels; in_block = x.in_block }

abbrev mutual
  -- the trees in a tree, where `x` is what is known in it
  pub below : Context → Term → List Node
  below x (var_def p n t m e) = node x e ∷ below x e
  below x (skip p) = []
  below x (block_of p ts) = statements_below (in_a_block x) ts
  below x (labeled p l t e) = node (with_label l x) e ∷ below (with_label l x) e
  below x (assign p a b) = (node x a ∷ below x a) ++ (node x b ∷ below x b)
  below x (return_to p e l) = node x e ∷ below x e
  below x (if_then p c a b t) = (node x c ∷ below x c) ++ (node x a ∷ below x a) ++ (node x b ∷ below x b)
  below x (while_loop p c b) = (node x c ∷ below x c) ++ (node x b ∷ below x b)
  below x (do_while p b c) = (node x b ∷ below x b) ++ (node x c ∷ below x c)
  below x (try_catch p b n h t) = (node x b ∷ below x b) ++ (node (with_local (caught n) x) h ∷ below (with_local (caught n) x) h)
  below x (try_finally p b f) = (node x b ∷ below x b) ++ (node x f ∷ below x f)
  below x (throw p e) = node x e ∷ below x e
  below x (match_on p s cs d t) = (node x s ∷ below x s) ++ cases_below x cs ++ (node x d ∷ below x d)
  below x (new_object p c m ts) = all_below x ts
  below x (load_module p c) = []
  below x (store_module p c e) = node x e ∷ below x e
  below x (select p e c f t) = node x e ∷ below x e
  below x (select_static p c f t) = []
  below x (apply p e m ts t) = (node x e ∷ below x e) ++ all_below x ts
  below x (apply_statically p e c n m ts t) = (node x e ∷ below x e) ++ all_below x ts
  below x (apply_static p c n m ts t) = all_below x ts
  below x (unary_op p o e) = node x e ∷ below x e
  below x (binary_op p o a b) = (node x a ∷ below x a) ++ (node x b ∷ below x b)
  below x (new_array p r e) = node x e ∷ below x e
  below x (array_value p r ts) = all_below x ts
  below x (array_length p e) = node x e ∷ below x e
  below x (array_select p a i t) = (node x a ∷ below x a) ++ (node x i ∷ below x i)
  below x (is_instance_of p e t) = node x e ∷ below x e
  below x (as_instance_of p e t) = node x e ∷ below x e
  below x (undefined_literal p) = []
  below x (null_literal p) = []
  below x (boolean_literal p b) = []
  below x (char_literal p n) = []
  below x (byte_literal p z) = []
  below x (short_literal p z) = []
  below x (int_literal p z) = []
  below x (long_literal p z) = []
  below x (string_literal p us) = []
  below x (var_ref p n t) = []
  below x (this_ref p t) = []
  below x (log_line p e) = node x e ∷ below x e

  -- the trees of the statements of a block
  pub statements_below : Context → Terms → List Node
  statements_below x no_terms = []
  statements_below x (more_terms t ts) = (node x t ∷ below (inside x) t) ++ statements_below (behind t x) ts

  pub all_below : Context → Terms → List Node
  all_below x no_terms = []
  all_below x (more_terms t ts) = (node x t ∷ below x t) ++ all_below x ts

  pub cases_below : Context → Cases → List Node
  cases_below x no_cases = []
  cases_below x (more_cases ks t cs) = (node x t ∷ below x t) ++ cases_below x cs

-- a tree and the trees in it
abbrev pub nodes : Context → Term → List Node
nodes x t = node x t ∷ below (inside x) t
