-- What a finalizer may write of the variables around its try, and what is written around it.
use Rattle.std.specs.Prelude.{ℕ, suc, Bool, true, false, ◌||◌, ◌==◌, List, [], ◌∷◌, ◌++◌, None, nat_eq, if◌then◌else◌}
use Rattle.std.specs.Cmp.Lexicographic.{pointwise}
use Rattle.std.specs.List.{flat_map, list_any}
use Rattle.sj_core.specs.Term.{Term, Terms, no_terms, more_terms, Cases, no_cases, more_cases, var_def, block_of, labeled, assign, return_to, if_then, while_loop, do_while, try_catch, try_finally, throw, match_on, new_object, store_module, select, apply, apply_statically, apply_static, unary_op, binary_op, new_array, array_value, array_length, array_select, is_instance_of, as_instance_of, log_line}
use Rattle.sj_core.specs.Terms.{Variable, named, numbered, receiver, variable_use, constant_of, assign_to}
use Rattle.sj_desugar_spec.specs.Plain.{is_among}
use Rattle.sj_desugar_spec.specs.Spill.{Destination, discard, to_variable, to_result, Code, no_code, put_first, then_code}

abbrev mutual
  -- the tree is a try with a finalizer, or holds one
  pub holds_finally : Term → Bool
  holds_finally (try_finally p e d) = true
  holds_finally (var_def p x t b e) = holds_finally e
  holds_finally (block_of p es) = hold_finally es
  holds_finally (labeled p l t e) = holds_finally e
  holds_finally (assign p e d) = holds_finally e || holds_finally d
  holds_finally (return_to p e l) = holds_finally e
  holds_finally (if_then p c e d t) = holds_finally c || holds_finally e || holds_finally d
  holds_finally (while_loop p c e) = holds_finally c || holds_finally e
  holds_finally (do_while p e c) = holds_finally e || holds_finally c
  holds_finally (try_catch p e x d t) = holds_finally e || holds_finally d
  holds_finally (throw p e) = holds_finally e
  holds_finally (match_on p e cs d t) = holds_finally e || cases_hold_finally cs || holds_finally d
  holds_finally (new_object p c m es) = hold_finally es
  holds_finally (store_module p c e) = holds_finally e
  holds_finally (select p e c f t) = holds_finally e
  holds_finally (apply p e m es t) = holds_finally e || hold_finally es
  holds_finally (apply_statically p e c n m es t) = holds_finally e || hold_finally es
  holds_finally (apply_static p c n m es t) = hold_finally es
  holds_finally (unary_op p o e) = holds_finally e
  holds_finally (binary_op p o e d) = holds_finally e || holds_finally d
  holds_finally (new_array p r e) = holds_finally e
  holds_finally (array_value p r es) = hold_finally es
  holds_finally (array_length p e) = holds_finally e
  holds_finally (array_select p e i t) = holds_finally e || holds_finally i
  holds_finally (is_instance_of p e t) = holds_finally e
  holds_finally (as_instance_of p e t) = holds_finally e
  holds_finally (log_line p e) = holds_finally e
  holds_finally _ = false

  pub hold_finally : Terms → Bool
  hold_finally no_terms = false
  hold_finally (more_terms e es) = holds_finally e || hold_finally es

  pub cases_hold_finally : Cases → Bool
  cases_hold_finally no_cases = false
  cases_hold_finally (more_cases ks e cs) = holds_finally e || cases_hold_finally cs

-- a label in front of others, where it isn't one of those inside
abbrev pub if_outside : List (List ℕ) → List ℕ → List (List ℕ) → List (List ℕ)
if_outside inner l ls = if is_among inner l then ls else (l ∷ ls)

abbrev mutual
  -- the labels outside the tree to which a Return in it goes, a tree before those in it and those from left to right; the first are the labels
  -- inside the tree around what is looked at
  pub left_labels : List (List ℕ) → Term → List (List ℕ)
  left_labels inner (return_to p e l) = if_outside inner l (left_labels inner e)
  left_labels inner (labeled p l t e) = left_labels (l ∷ inner) e
  left_labels inner (var_def p x t b e) = left_labels inner e
  left_labels inner (block_of p es) = all_left_labels inner es
  left_labels inner (assign p e d) = left_labels inner e ++ left_labels inner d
  left_labels inner (if_then p c e d t) = left_labels inner c ++ left_labels inner e ++ left_labels inner d
  left_labels inner (while_loop p c e) = left_labels inner c ++ left_labels inner e
  left_labels inner (do_while p e c) = left_labels inner e ++ left_labels inner c
  left_labels inner (try_catch p e x d t) = left_labels inner e ++ left_labels inner d
  left_labels inner (try_finally p e d) = left_labels inner e ++ left_labels inner d
  left_labels inner (throw p e) = left_labels inner e
  left_labels inner (match_on p e cs d t) = left_labels inner e ++ cases_left_labels inner cs ++ left_labels inner d
  left_labels inner (new_object p c m es) = all_left_labels inner es
  left_labels inner (store_module p c e) = left_labels inner e
  left_labels inner (select p e c f t) = left_labels inner e
  left_labels inner (apply p e m es t) = left_labels inner e ++ all_left_labels inner es
  left_labels inner (apply_statically p e c n m es t) = left_labels inner e ++ all_left_labels inner es
  left_labels inner (apply_static p c n m es t) = all_left_labels inner es
  left_labels inner (unary_op p o e) = left_labels inner e
  left_labels inner (binary_op p o e d) = left_labels inner e ++ left_labels inner d
  left_labels inner (new_array p r e) = left_labels inner e
  left_labels inner (array_value p r es) = all_left_labels inner es
  left_labels inner (array_length p e) = left_labels inner e
  left_labels inner (array_select p e i t) = left_labels inner e ++ left_labels inner i
  left_labels inner (is_instance_of p e t) = left_labels inner e
  left_labels inner (as_instance_of p e t) = left_labels inner e
  left_labels inner (log_line p e) = left_labels inner e
  left_labels inner _ = []

  pub all_left_labels : List (List ℕ) → Terms → List (List ℕ)
  all_left_labels inner no_terms = []
  all_left_labels inner (more_terms e es) = left_labels inner e ++ all_left_labels inner es

  pub cases_left_labels : List (List ℕ) → Cases → List (List ℕ)
  cases_left_labels inner no_cases = []
  cases_left_labels inner (more_cases ks e cs) = left_labels inner e ++ cases_left_labels inner cs

abbrev pub is_same_variable : Variable → Variable → Bool
is_same_variable (named x) (named y) = pointwise nat_eq x y
is_same_variable (numbered i) (numbered j) = i == j
is_same_variable receiver receiver = true
is_same_variable _ _ = false

-- the variable of a destination, where it is one
abbrev pub variables_in : Destination → List Variable
variables_in (to_variable x t) = x ∷ []
variables_in discard = []
variables_in (to_result t) = []

-- each variable once, where it comes first, but for those that are there already
abbrev pub each_once : List Variable → List Variable → List Variable
each_once seen [] = []
each_once seen (x ∷ xs) = if list_any (is_same_variable x) seen then each_once seen xs else (x ∷ each_once (x ∷ seen) xs)

-- what a finalizer keeps, where the values that leave to labels go there: where it holds a try with a finalizer, each variable to which a value goes
-- that a Return in it brings
abbrev pub kept : (List ℕ → Destination) → Term → List Variable
kept goes_to f = if holds_finally f then each_once [] (flat_map (λ l. variables_in (goes_to l)) (left_labels [] f)) else []

-- `const $k = x;` for each, from this number on
abbrev pub keep_all : List Variable → ℕ → Code
keep_all [] j = no_code j
keep_all (x ∷ xs) j = put_first (constant_of None (numbered j) (variable_use x)) (keep_all xs (suc j))

-- `x = $k;` for each, from this number on, where the next variable has the last number
abbrev pub give_all_back : List Variable → ℕ → ℕ → Code
give_all_back [] j next = no_code next
give_all_back (x ∷ xs) j next = put_first (assign_to None x (variable_use (numbered j))) (give_all_back xs (suc j) next)

-- the statements of a finalizer, between those that keep variables and those that give them back
abbrev pub finalizer_code : (List ℕ → Destination) → Term → ℕ → (ℕ → Code) → Code
finalizer_code goes_to f j body = then_code (then_code (keep_all (kept goes_to f) j) body) (give_all_back (kept goes_to f) j)
