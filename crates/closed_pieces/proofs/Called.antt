-- Each call on a receiver in what is written for a built body is of a member that a hijacked class decides on, or of a method that is looked up.
use Rattle.std.proofs.Common.{◌≡◌, Bool, true, List, [], ◌∷◌, ◌++◌, ◌&&◌}
use Rattle.std.specs.List.{All}
use Rattle.std.proofs.lemmas.Bool.{and_parts}
use Rattle.std.proofs.lemmas.List.Elements.{All-nil, All-cons, All-head, All-tail}
use Rattle.linked_folders.proofs.Direct.{Calls, is_called}
use Rattle.linked_folders.proofs.Uses.{combine}
use Rattle.linked_folders.specs.Built.{Usable, can_call, stands, is_built, are_built, are_built_cases}
use Rattle.linked_folders.proofs.WrittenTrees.{written, written_below, all_written, cases_written}
use Rattle.sj_desugar_spec.specs.Desugar.{callee_of}
use Rattle.sj_names.proofs.Same.{impossible}
use Rattle.sj_trees.specs.Term.{Term, Terms, no_terms, more_terms, Cases, no_cases, more_cases, var_def, block_of, labeled, assign, return_to, if_then, while_loop, do_while, try_catch, try_finally, match_on, throw, new_object, new_array, array_value, array_length, array_select, store_module, select, select_static, apply, apply_statically, apply_static, unary_op, binary_op, is_instance_of, as_instance_of, var_ref, log_line}
use Rattle.sj_trees.specs.TypeOf.{type_of_term}

abbrev pub Called : Usable → Term → Type 0
Called has (apply p e m ts t) = Calls has (type_of_term e) m
Called has _ = Unit {0}

module _ (has : Usable) (checked : Term → Bool) where
  abbrev Own : Term → Type 0
  Own = Called has

  abbrev built : Term → Bool
  built = is_built has checked

  abbrev all_built : Terms → Bool
  all_built = are_built has checked

  abbrev own : Term → Bool
  own = stands has checked

  top : (t : Term) → Own t → All Own (written_below t) → All Own (written t)
  top t h k = All-cons Own t (written_below t) h k

  pair : (xs ys : List Term) → All Own xs → All Own ys → All Own (xs ++ ys)
  pair = combine Own

  mutual
    pub each_called : (t : Term) → built t ≡ true → All Own (written t)
    each_called (var_def p x t b e) h = top (var_def p x t b e) tt (each_called e h)
    each_called (block_of p ts) h = top (block_of p ts) tt (all_called ts h)
    each_called (labeled p l t e) h = top (labeled p l t e) tt (each_called e h)
    each_called (assign p (var_ref q x t) e) h = top (assign p (var_ref q x t) e) tt (pair (written (var_ref q x t)) (written e) (top (var_ref q x t) tt (All-nil Own)) (each_called e h))
    each_called (assign p (select q d c f t) e) h =
        let inside = and_parts (built d) (built e) (and_parts (own (assign p (select q d c f t) e)) (built d && built e) h).1 in
        top (assign p (select q d c f t) e) tt (pair (written (select q d c f t)) (written e) (top (select q d c f t) tt (each_called d inside.0)) (each_called e inside.1))
    each_called (assign p (select_static q c f t) e) h = top (assign p (select_static q c f t) e) tt (pair (written (select_static q c f t)) (written e) (top (select_static q c f t) tt (All-nil Own)) (each_called e (and_parts (own (assign p (select_static q c f t) e)) (built e) h).1))
    each_called (assign p (array_select q d i t) e) h =
        let first = and_parts (built d) (built i && built e) (and_parts (own (assign p (array_select q d i t) e)) (built d && (built i && built e)) h).1 in
        let inside = and_parts (built i) (built e) first.1 in
        top (assign p (array_select q d i t) e) tt (pair (written (array_select q d i t)) (written e) (top (array_select q d i t) tt (pair (written d) (written i) (each_called d first.0) (each_called i inside.0))) (each_called e inside.1))
    each_called (return_to p e l) h = top (return_to p e l) tt (each_called e h)
    each_called (if_then p c a b t) h =
        let first = and_parts (built c) (built a && built b) h in
        let second = and_parts (built a) (built b) first.1 in
        top (if_then p c a b t) tt (pair (written c ++ written a) (written b) (pair (written c) (written a) (each_called c first.0) (each_called a second.0)) (each_called b second.1))
    each_called (while_loop p c b) h = let inside = and_parts (built c) (built b) h in top (while_loop p c b) tt (pair (written c) (written b) (each_called c inside.0) (each_called b inside.1))
    each_called (do_while p b c) h = let inside = and_parts (built b) (built c) h in top (do_while p b c) tt (pair (written b) (written c) (each_called b inside.0) (each_called c inside.1))
    each_called (try_catch p e x d t) h = let inside = and_parts (built e) (built d) (and_parts (own (try_catch p e x d t)) (built e && built d) h).1 in top (try_catch p e x d t) tt (pair (written e) (written d) (each_called e inside.0) (each_called d inside.1))
    each_called (try_finally p e d) h = let inside = and_parts (built e) (built d) h in top (try_finally p e d) tt (pair (written e) (written d) (each_called e inside.0) (each_called d inside.1))
    each_called (throw p e) h = top (throw p e) tt (each_called e (and_parts (own (throw p e)) (built e) h).1)
    each_called (match_on p e cs d t) h =
        let first = and_parts (built e) (are_built_cases has checked cs && built d) h in
        let second = and_parts (are_built_cases has checked cs) (built d) first.1 in
        top (match_on p e cs d t) tt (pair (written e ++ cases_written cs) (written d) (pair (written e) (cases_written cs) (each_called e first.0) (cases_called cs second.0)) (each_called d second.1))
    each_called (new_object p c m ts) h = top (new_object p c m ts) tt (all_called ts (and_parts (own (new_object p c m ts)) (all_built ts) h).1)
    each_called (store_module p c e) h = top (store_module p c e) tt (each_called e (and_parts (own (store_module p c e)) (built e) h).1)
    each_called (select p e c f t) h = top (select p e c f t) tt (each_called e (and_parts (own (select p e c f t)) (built e) h).1)
    each_called (apply p e m ts t) h =
        let first = and_parts (own (apply p e m ts t)) (built e && all_built ts) h in
        let inside = and_parts (built e) (all_built ts) first.1 in
        top (apply p e m ts t) (is_called has (type_of_term e) m (and_parts (can_call has (callee_of (type_of_term e) m)) (checked e) first.0).0) (pair (written e) (all_written ts) (each_called e inside.0) (all_called ts inside.1))
    each_called (apply_statically p e c n m ts t) h =
        let inside = and_parts (built e) (all_built ts) (and_parts (own (apply_statically p e c n m ts t)) (built e && all_built ts) h).1 in
        top (apply_statically p e c n m ts t) tt (pair (written e) (all_written ts) (each_called e inside.0) (all_called ts inside.1))
    each_called (apply_static p c n m ts t) h = top (apply_static p c n m ts t) tt (all_called ts (and_parts (own (apply_static p c n m ts t)) (all_built ts) h).1)
    each_called (unary_op p o e) h = top (unary_op p o e) tt (each_called e h)
    each_called (binary_op p o e d) h =
        let inside = and_parts (built e) (built d) (and_parts (own (binary_op p o e d)) (built e && built d) h).1 in
        top (binary_op p o e d) tt (pair (written e) (written d) (each_called e inside.0) (each_called d inside.1))
    each_called (new_array p r e) h = top (new_array p r e) tt (each_called e (and_parts (own (new_array p r e)) (built e) h).1)
    each_called (array_value p r ts) h = top (array_value p r ts) tt (all_called ts (and_parts (own (array_value p r ts)) (all_built ts) h).1)
    each_called (array_length p e) h = top (array_length p e) tt (each_called e (and_parts (own (array_length p e)) (built e) h).1)
    each_called (array_select p e i t) h =
        let inside = and_parts (built e) (built i) (and_parts (own (array_select p e i t)) (built e && built i) h).1 in
        top (array_select p e i t) tt (pair (written e) (written i) (each_called e inside.0) (each_called i inside.1))
    each_called (is_instance_of p e t) h = top (is_instance_of p e t) tt (each_called e (and_parts (own (is_instance_of p e t)) (built e) h).1)
    each_called (as_instance_of p e t) h = top (as_instance_of p e t) tt (each_called e (and_parts (own (as_instance_of p e t)) (built e) h).1)
    each_called (log_line p e) h = top (log_line p e) tt (each_called e h)
    each_called (assign p a e) h = impossible h
    each_called t h = top t tt (All-nil Own)

    all_called : (ts : Terms) → all_built ts ≡ true → All Own (all_written ts)
    all_called no_terms h = All-nil Own
    all_called (more_terms t ts) h = let inside = and_parts (built t) (all_built ts) h in pair (written t) (all_written ts) (each_called t inside.0) (all_called ts inside.1)

    cases_called : (cs : Cases) → are_built_cases has checked cs ≡ true → All Own (cases_written cs)
    cases_called no_cases h = All-nil Own
    cases_called (more_cases [] t cs) h = cases_called cs h
    cases_called (more_cases (n ∷ ns) t cs) h = let inside = and_parts (built t) (are_built_cases has checked cs) h in pair (written t) (cases_written cs) (each_called t inside.0) (cases_called cs inside.1)

-- a law with a premise holds of each tree of which the premise does
pub with_each : (P Q : Term → Type 0) (ts : List Term) → All (λ (t : Term). P t → Q t) ts → All P ts → All Q ts
with_each P Q [] h k = All-nil Q
with_each P Q (t ∷ ts) h k = All-cons Q t ts (All-head (λ (t : Term). P t → Q t) t ts h (All-head P t ts k)) (with_each P Q ts (All-tail (λ (t : Term). P t → Q t) t ts h) (All-tail P t ts k))
