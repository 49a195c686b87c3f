-- No two definitions of a tree have one name, no label stands inside itself, and each jump is to a label around it.
use Rattle.std.specs.Prelude.{◌≡◌, ℕ, List, [], ◌∷◌, ◌⊎◌}
use Rattle.agree_body_rules.specs.Desugar.{names_of}
use Rattle.sj_trees.specs.declared.classes.MethodDef.{MethodDef}
use Rattle.sj_trees.specs.Term.{Term, Terms, no_terms, more_terms, Cases, no_cases, more_cases, var_def, block_of, labeled, assign, return_to, if_then, while_loop, do_while, throw, try_catch, try_finally, match_on, new_object, new_array, array_value, array_length, array_select, select, apply, apply_statically, apply_static, unary_op, binary_op, is_instance_of, as_instance_of, log_line, store_module}
use Rattle.agree_body_rules.specs.Locals.{Own, OwnAll, OwnCases, IsParameter}
use Rattle.agree_body_rules.specs.Sure.{Definition, definitions}

abbrev pub IsAmong : List (List ℕ) → List ℕ → Type 0
IsAmong [] x = ⊥
IsAmong (y ∷ ys) x = (x ≡ y) ⊎ IsAmong ys x

-- two sets of names have none in common
abbrev pub Apart : (List ℕ → Type 0) → (List ℕ → Type 0) → Type 0
Apart one other = (x : List ℕ) → one x → other x → ⊥

abbrev mutual
  -- with the labels around the tree
  pub Once : List (List ℕ) → Term → Type 0
  Once ls (var_def p x t b e) = (Own e x → ⊥) × Once ls e
  Once ls (block_of p ts) = OnceAll ls ts
  Once ls (labeled p l t e) = (IsAmong ls l → ⊥) × Once (l ∷ ls) e
  Once ls (assign p (select q d c f t) e) = Once ls d × Once ls e × Apart (Own d) (Own e)
  Once ls (assign p (array_select q d i t) e) = Once ls d × Once ls i × Once ls e × Apart (Own d) (λ x. Own i x ⊎ Own e x) × Apart (Own i) (Own e)
  Once ls (assign p d e) = Once ls e
  Once ls (throw p e) = Once ls e
  Once ls (store_module p c e) = Once ls e
  Once ls (return_to p e l) = IsAmong ls l × Once ls e
  Once ls (if_then p c a b t) = Once ls c × Once ls a × Once ls b × Apart (Own c) (Own a) × Apart (Own c) (Own b) × Apart (Own a) (Own b)
  Once ls (while_loop p c b) = Once ls c × Once ls b × Apart (Own c) (Own b)
  Once ls (do_while p b c) = Once ls b × Once ls c × Apart (Own b) (Own c)
  Once ls (try_catch p e x d t) = (Own e x → ⊥) × (Own d x → ⊥) × Once ls e × Once ls d × Apart (Own e) (Own d)
  Once ls (try_finally p e d) = Once ls e × Once ls d × Apart (Own e) (Own d)
  Once ls (match_on p e cs d t) = Once ls e × OnceCases ls cs × Once ls d × Apart (Own e) (OwnCases cs) × Apart (Own e) (Own d) × Apart (OwnCases cs) (Own d)
  Once ls (new_object p c m ts) = OnceAll ls ts
  Once ls (select p e c f t) = Once ls e
  Once ls (apply p e m ts t) = Once ls e × OnceAll ls ts × Apart (Own e) (OwnAll ts)
  Once ls (apply_statically p e c n m ts t) = Once ls e × OnceAll ls ts × Apart (Own e) (OwnAll ts)
  Once ls (apply_static p c n m ts t) = OnceAll ls ts
  Once ls (unary_op p o e) = Once ls e
  Once ls (new_array p r e) = Once ls e
  Once ls (array_value p r ts) = OnceAll ls ts
  Once ls (array_length p e) = Once ls e
  Once ls (array_select p e i t) = Once ls e × Once ls i × Apart (Own e) (Own i)
  Once ls (is_instance_of p e t) = Once ls e
  Once ls (as_instance_of p e t) = Once ls e
  Once ls (binary_op p o e d) = Once ls e × Once ls d × Apart (Own e) (Own d)
  Once ls (log_line p e) = Once ls e
  Once ls _ = Unit {0}

  pub OnceAll : List (List ℕ) → Terms → Type 0
  OnceAll ls no_terms = Unit {0}
  OnceAll ls (more_terms t ts) = Once ls t × OnceAll ls ts × Apart (Own t) (OwnAll ts)

  pub OnceCases : List (List ℕ) → Cases → Type 0
  OnceCases ls no_cases = Unit {0}
  OnceCases ls (more_cases ns t cs) = Once ls t × OnceCases ls cs × Apart (Own t) (OwnCases cs)

abbrev pub AreDistinct : List (List ℕ) → Type 0
AreDistinct [] = Unit {0}
AreDistinct (x ∷ xs) = (IsAmong xs x → ⊥) × AreDistinct xs

-- each local is defined once, and no parameter again
pub record DefinesOnce (d : MethodDef) (e : Term) : Type 0 where
  pub once : Once [] e
  pub parameters : AreDistinct (names_of d.params)
  pub fresh : (x : List ℕ) → Own e x → IsParameter d.params x → ⊥

-- a name is defined by one of these
abbrev pub Names : List Definition → List ℕ → Type 0
Names [] x = ⊥
Names (d ∷ ds) x = (d.name ≡ x) ⊎ Names ds x

-- no name is defined twice
abbrev pub AreOnce : List Definition → Type 0
AreOnce [] = Unit {0}
AreOnce (d ∷ ds) = (Names ds d.name → ⊥) × AreOnce ds

-- whatever the forms of the body are, no local is defined twice in it, and no parameter again
pub record NamesOnce (d : MethodDef) (e : Term) : Type 0 where
  pub once : AreOnce (definitions e)
  pub fresh : (x : List ℕ) → Names (definitions e) x → IsParameter d.params x → ⊥
