-- A tree in which no two definitions have one name and no label stands inside itself, each jump is to a label around it to which the tree may leave, and
-- each try with a finalizer stands where one may.
use Rattle.std.specs.Prelude.{◌≡◌, ℕ, List, ◌∷◌, ◌⊎◌}
use Rattle.agree_early_errors.specs.Locals.{Own, OwnAll, OwnCases}
use Rattle.agree_early_errors.specs.Once.{IsAmong, Apart}
use Rattle.sj_trees.specs.Term.{Term, Terms, no_terms, more_terms, Cases, no_cases, more_cases, var_def, block_of, labeled, assign, return_to, if_then, while_loop, do_while, throw, try_catch, try_finally, match_on, new_object, new_array, array_value, array_length, array_select, select, apply, apply_statically, apply_static, unary_op, binary_op, is_instance_of, as_instance_of, log_line, store_module}

-- those to which a tree may leave, and one more
abbrev pub with_reach : List ℕ → (List ℕ → Type 0) → List ℕ → Type 0
with_reach l to m = (m ≡ l) ⊎ to m

abbrev mutual
  -- with the labels around the tree
  pub Placed : (List ℕ → Type 0) → Type 0 → List (List ℕ) → Term → Type 0
  Placed to may ls (var_def p x t b e) = (Own e x → ⊥) × Placed to may ls e
  Placed to may ls (block_of p ts) = PlacedAll to may ls ts
  Placed to may ls (labeled p l t e) = (IsAmong ls l → ⊥) × Placed (with_reach l to) may (l ∷ ls) e
  Placed to may ls (assign p (select q d c f t) e) = Placed to may ls d × Placed to may ls e × Apart (Own d) (Own e)
  Placed to may ls (assign p (array_select q d i t) e) = Placed to may ls d × Placed to may ls i × Placed to may ls e × Apart (Own d) (λ x. Own i x ⊎ Own e x) × Apart (Own i) (Own e)
  Placed to may ls (assign p d e) = Placed to may ls e
  Placed to may ls (throw p e) = Placed to may ls e
  Placed to may ls (store_module p c e) = Placed to may ls e
  Placed to may ls (return_to p e l) = (IsAmong ls l × to l) × Placed to may ls e
  Placed to may ls (if_then p c a b t) = Placed to may ls c × Placed to may ls a × Placed to may ls b × Apart (Own c) (Own a) × Apart (Own c) (Own b) × Apart (Own a) (Own b)
  Placed to may ls (while_loop p c b) = Placed to may ls c × Placed to may ls b × Apart (Own c) (Own b)
  Placed to may ls (do_while p b c) = Placed to may ls b × Placed to may ls c × Apart (Own b) (Own c)
  Placed to may ls (try_catch p e x d t) = (Own e x → ⊥) × (Own d x → ⊥) × Placed to may ls e × Placed to may ls d × Apart (Own e) (Own d)
  Placed to may ls (try_finally p e d) = may × Placed to may ls e × Placed to may ls d × Apart (Own e) (Own d)
  Placed to may ls (match_on p e cs d t) = Placed to may ls e × PlacedCases to may ls cs × Placed to may ls d × Apart (Own e) (OwnCases cs) × Apart (Own e) (Own d) × Apart (OwnCases cs) (Own d)
  Placed to may ls (new_object p c m ts) = PlacedAll to may ls ts
  Placed to may ls (select p e c f t) = Placed to may ls e
  Placed to may ls (apply p e m ts t) = Placed to may ls e × PlacedAll to may ls ts × Apart (Own e) (OwnAll ts)
  Placed to may ls (apply_statically p e c n m ts t) = Placed to may ls e × PlacedAll to may ls ts × Apart (Own e) (OwnAll ts)
  Placed to may ls (apply_static p c n m ts t) = PlacedAll to may ls ts
  Placed to may ls (unary_op p o e) = Placed to may ls e
  Placed to may ls (new_array p r e) = Placed to may ls e
  Placed to may ls (array_value p r ts) = PlacedAll to may ls ts
  Placed to may ls (array_length p e) = Placed to may ls e
  Placed to may ls (array_select p e i t) = Placed to may ls e × Placed to may ls i × Apart (Own e) (Own i)
  Placed to may ls (is_instance_of p e t) = Placed to may ls e
  Placed to may ls (as_instance_of p e t) = Placed to may ls e
  Placed to may ls (binary_op p o e d) = Placed to may ls e × Placed to may ls d × Apart (Own e) (Own d)
  Placed to may ls (log_line p e) = Placed to may ls e
  Placed to may ls _ = Unit {0}

  pub PlacedAll : (List ℕ → Type 0) → Type 0 → List (List ℕ) → Terms → Type 0
  PlacedAll to may ls no_terms = Unit {0}
  PlacedAll to may ls (more_terms t ts) = Placed to may ls t × PlacedAll to may ls ts × Apart (Own t) (OwnAll ts)

  pub PlacedCases : (List ℕ → Type 0) → Type 0 → List (List ℕ) → Cases → Type 0
  PlacedCases to may ls no_cases = Unit {0}
  PlacedCases to may ls (more_cases ns t cs) = Placed to may ls t × PlacedCases to may ls cs × Apart (Own t) (OwnCases cs)
