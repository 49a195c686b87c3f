-- The trees of a body for which code is written: those of a case without keys aren't among them.
use Rattle.std.proofs.Common.{List, [], ◌∷◌, ◌++◌}
use Rattle.std.specs.List.{All}
use Rattle.std.proofs.lemmas.List.Elements.{All-nil, All-cons, All-head, All-tail}
use Rattle.body_uses.proofs.Uses.{ahead, after, combine}
use Rattle.sj_infos.specs.Trees.{trees, below, all_below, cases_below}
use Rattle.sj_trees.specs.Term.{Term, Terms, no_terms, more_terms, Cases, no_cases, more_cases, var_def, block_of, labeled, assign, return_to, if_then, while_loop, do_while, try_catch, try_finally, match_on, throw, new_object, new_array, array_value, array_length, array_select, store_module, select, apply, apply_statically, apply_static, unary_op, binary_op, is_instance_of, as_instance_of, log_line}

abbrev mutual
  -- the written trees in a tree
  pub written_below : Term → List Term
  written_below (var_def p x t b e) = e ∷ written_below e
  written_below (block_of p ts) = all_written ts
  written_below (labeled p l t e) = e ∷ written_below e
  written_below (assign p a b) = (a ∷ written_below a) ++ (b ∷ written_below b)
  written_below (return_to p e l) = e ∷ written_below e
  written_below (if_then p a b c t) = (a ∷ written_below a) ++ (b ∷ written_below b) ++ (c ∷ written_below c)
  written_below (while_loop p a b) = (a ∷ written_below a) ++ (b ∷ written_below b)
  written_below (do_while p a b) = (a ∷ written_below a) ++ (b ∷ written_below b)
  written_below (try_catch p a x b t) = (a ∷ written_below a) ++ (b ∷ written_below b)
  written_below (try_finally p a b) = (a ∷ written_below a) ++ (b ∷ written_below b)
  written_below (throw p e) = e ∷ written_below e
  written_below (match_on p e cs d t) = (e ∷ written_below e) ++ cases_written cs ++ (d ∷ written_below d)
  written_below (new_object p c m ts) = all_written ts
  written_below (store_module p c e) = e ∷ written_below e
  written_below (select p e c f t) = e ∷ written_below e
  written_below (apply p e m ts t) = (e ∷ written_below e) ++ all_written ts
  written_below (apply_statically p e c n m ts t) = (e ∷ written_below e) ++ all_written ts
  written_below (apply_static p c n m ts t) = all_written ts
  written_below (unary_op p o e) = e ∷ written_below e
  written_below (binary_op p o a b) = (a ∷ written_below a) ++ (b ∷ written_below b)
  written_below (new_array p r e) = e ∷ written_below e
  written_below (array_value p r ts) = all_written ts
  written_below (array_length p e) = e ∷ written_below e
  written_below (array_select p a b t) = (a ∷ written_below a) ++ (b ∷ written_below b)
  written_below (is_instance_of p e t) = e ∷ written_below e
  written_below (as_instance_of p e t) = e ∷ written_below e
  written_below (log_line p e) = e ∷ written_below e
  written_below _ = []

  pub all_written : Terms → List Term
  all_written no_terms = []
  all_written (more_terms t ts) = (t ∷ written_below t) ++ all_written ts

  pub cases_written : Cases → List Term
  cases_written no_cases = []
  cases_written (more_cases [] t cs) = cases_written cs
  cases_written (more_cases (n ∷ ns) t cs) = (t ∷ written_below t) ++ cases_written cs

-- a tree before those
abbrev pub written : Term → List Term
written t = t ∷ written_below t

-- what holds of each tree holds of those that are written
module _ (P : Term → Type 0) where
  two : (xs ys us vs : List Term) → (All P xs → All P us) → (All P ys → All P vs) → All P (xs ++ ys) → All P (us ++ vs)
  two xs ys us vs f g h = combine P us vs (f (ahead P xs ys h)) (g (after P xs ys h))

  under : (t : Term) → (All P (below t) → All P (written_below t)) → All P (trees t) → All P (written t)
  under t f h = All-cons P t (written_below t) (All-head P t (below t) h) (f (All-tail P t (below t) h))

  mutual
    each_below : (t : Term) → All P (below t) → All P (written_below t)
    each_below (var_def p x t b e) h = under e (each_below e) h
    each_below (block_of p ts) h = each_of_all ts h
    each_below (labeled p l t e) h = under e (each_below e) h
    each_below (assign p a b) h = two (trees a) (trees b) (written a) (written b) (under a (each_below a)) (under b (each_below b)) h
    each_below (return_to p e l) h = under e (each_below e) h
    each_below (if_then p a b c t) h = two (trees a ++ trees b) (trees c) (written a ++ written b) (written c) (two (trees a) (trees b) (written a) (written b) (under a (each_below a)) (under b (each_below b))) (under c (each_below c)) h
    each_below (while_loop p a b) h = two (trees a) (trees b) (written a) (written b) (under a (each_below a)) (under b (each_below b)) h
    each_below (do_while p a b) h = two (trees a) (trees b) (written a) (written b) (under a (each_below a)) (under b (each_below b)) h
    each_below (try_catch p a x b t) h = two (trees a) (trees b) (written a) (written b) (under a (each_below a)) (under b (each_below b)) h
    each_below (try_finally p a b) h = two (trees a) (trees b) (written a) (written b) (under a (each_below a)) (under b (each_below b)) h
    each_below (throw p e) h = under e (each_below e) h
    each_below (match_on p e cs d t) h = two (trees e ++ cases_below cs) (trees d) (written e ++ cases_written cs) (written d) (two (trees e) (cases_below cs) (written e) (cases_written cs) (under e (each_below e)) (each_of_cases cs)) (under d (each_below d)) h
    each_below (new_object p c m ts) h = each_of_all ts h
    each_below (store_module p c e) h = under e (each_below e) h
    each_below (select p e c f t) h = under e (each_below e) h
    each_below (apply p e m ts t) h = two (trees e) (all_below ts) (written e) (all_written ts) (under e (each_below e)) (each_of_all ts) h
    each_below (apply_statically p e c n m ts t) h = two (trees e) (all_below ts) (written e) (all_written ts) (under e (each_below e)) (each_of_all ts) h
    each_below (apply_static p c n m ts t) h = each_of_all ts h
    each_below (unary_op p o e) h = under e (each_below e) h
    each_below (binary_op p o a b) h = two (trees a) (trees b) (written a) (written b) (under a (each_below a)) (under b (each_below b)) h
    each_below (new_array p r e) h = under e (each_below e) h
    each_below (array_value p r ts) h = each_of_all ts h
    each_below (array_length p e) h = under e (each_below e) h
    each_below (array_select p a b t) h = two (trees a) (trees b) (written a) (written b) (under a (each_below a)) (under b (each_below b)) h
    each_below (is_instance_of p e t) h = under e (each_below e) h
    each_below (as_instance_of p e t) h = under e (each_below e) h
    each_below (log_line p e) h = under e (each_below e) h
    each_below _ h = All-nil P

    each_of_all : (ts : Terms) → All P (all_below ts) → All P (all_written ts)
    each_of_all no_terms h = h
    each_of_all (more_terms t ts) h = two (trees t) (all_below ts) (written t) (all_written ts) (under t (each_below t)) (each_of_all ts) h

    each_of_cases : (cs : Cases) → All P (cases_below cs) → All P (cases_written cs)
    each_of_cases no_cases h = h
    each_of_cases (more_cases [] t cs) h = each_of_cases cs (after P (trees t) (cases_below cs) h)
    each_of_cases (more_cases (n ∷ ns) t cs) h = two (trees t) (cases_below cs) (written t) (cases_written cs) (under t (each_below t)) (each_of_cases cs) h

  pub each_written : (t : Term) → All P (trees t) → All P (written t)
  each_written t = under t (each_below t)
