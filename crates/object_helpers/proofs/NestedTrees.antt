-- What holds of each tree of a body holds of each tree in one of them.
use Rattle.std.proofs.Common.{List, ◌++◌}
use Rattle.std.specs.List.{All}
use Rattle.std.proofs.lemmas.List.Elements.{All-nil, All-cons, All-tail}
use Rattle.body_uses.proofs.Uses.{ahead, after, combine}
use Rattle.sj_infos.specs.Trees.{trees, below, all_below, cases_below}
use Rattle.sj_trees.specs.Term.{Term, Terms, no_terms, more_terms, Cases, no_cases, more_cases, var_def, block_of, labeled, assign, return_to, if_then, while_loop, do_while, try_catch, try_finally, match_on, throw, new_object, new_array, array_value, array_length, array_select, store_module, select, apply, apply_statically, apply_static, unary_op, binary_op, is_instance_of, as_instance_of, log_line}

module _ (P : Term → Type 0) where
  abbrev pub Throughout : Term → Type 0
  Throughout t = All P (trees t)

  two : (xs ys : List Term) → (All P xs → All Throughout xs) → (All P ys → All Throughout ys) → All P (xs ++ ys) → All Throughout (xs ++ ys)
  two xs ys f g h = combine Throughout xs ys (f (ahead P xs ys h)) (g (after P xs ys h))

  under : (t : Term) → (All P (below t) → All Throughout (below t)) → All P (trees t) → All Throughout (trees t)
  under t f h = All-cons Throughout t (below t) h (f (All-tail P t (below t) h))

  mutual
    each_below : (t : Term) → All P (below t) → All Throughout (below t)
    each_below (var_def p x t b e) h = under e (each_below e) h
    each_below (block_of p ts) h = each_of_all ts h
    each_below (labeled p l t e) h = under e (each_below e) h
    each_below (assign p a b) h = two (trees a) (trees b) (under a (each_below a)) (under b (each_below b)) h
    each_below (return_to p e l) h = under e (each_below e) h
    each_below (if_then p a b c t) h = two (trees a ++ trees b) (trees c) (two (trees a) (trees b) (under a (each_below a)) (under b (each_below b))) (under c (each_below c)) h
    each_below (while_loop p a b) h = two (trees a) (trees b) (under a (each_below a)) (under b (each_below b)) h
    each_below (do_while p a b) h = two (trees a) (trees b) (under a (each_below a)) (under b (each_below b)) h
    each_below (try_catch p a x b t) h = two (trees a) (trees b) (under a (each_below a)) (under b (each_below b)) h
    each_below (try_finally p a b) h = two (trees a) (trees b) (under a (each_below a)) (under b (each_below b)) h
    each_below (throw p e) h = under e (each_below e) h
    each_below (match_on p e cs d t) h = two (trees e ++ cases_below cs) (trees d) (two (trees e) (cases_below cs) (under e (each_below e)) (each_of_cases cs)) (under d (each_below d)) h
    each_below (new_object p c m ts) h = each_of_all ts h
    each_below (store_module p c e) h = under e (each_below e) h
    each_below (select p e c f t) h = under e (each_below e) h
    each_below (apply p e m ts t) h = two (trees e) (all_below ts) (under e (each_below e)) (each_of_all ts) h
    each_below (apply_statically p e c n m ts t) h = two (trees e) (all_below ts) (under e (each_below e)) (each_of_all ts) h
    each_below (apply_static p c n m ts t) h = each_of_all ts h
    each_below (unary_op p o e) h = under e (each_below e) h
    each_below (binary_op p o a b) h = two (trees a) (trees b) (under a (each_below a)) (under b (each_below b)) h
    each_below (new_array p r e) h = under e (each_below e) h
    each_below (array_value p r ts) h = each_of_all ts h
    each_below (array_length p e) h = under e (each_below e) h
    each_below (array_select p a b t) h = two (trees a) (trees b) (under a (each_below a)) (under b (each_below b)) h
    each_below (is_instance_of p e t) h = under e (each_below e) h
    each_below (as_instance_of p e t) h = under e (each_below e) h
    each_below (log_line p e) h = under e (each_below e) h
    each_below _ h = All-nil Throughout

    each_of_all : (ts : Terms) → All P (all_below ts) → All Throughout (all_below ts)
    each_of_all no_terms h = All-nil Throughout
    each_of_all (more_terms t ts) h = two (trees t) (all_below ts) (under t (each_below t)) (each_of_all ts) h

    each_of_cases : (cs : Cases) → All P (cases_below cs) → All Throughout (cases_below cs)
    each_of_cases no_cases h = All-nil Throughout
    each_of_cases (more_cases keys t cs) h = two (trees t) (cases_below cs) (under t (each_below t)) (each_of_cases cs) h

  pub each_throughout : (t : Term) → All P (trees t) → All Throughout (trees t)
  each_throughout t = under t (each_below t)
