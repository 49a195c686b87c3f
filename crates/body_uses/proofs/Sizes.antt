-- Each tree in a tree is no larger, and what is given to an array is no more than its trees.
use Rattle.std.proofs.Common.{ℕ, ◌≤◌, ◌+◌, ◌++◌, arith, length}
use Rattle.std.specs.List.{All}
use Rattle.std.proofs.lemmas.List.Elements.{All-nil, All-cons}
use Rattle.body_uses.proofs.Uses.{combine}
use Rattle.sj_ask.specs.Sizes.{size, size_of_all, size_of_cases}
use Rattle.sj_desugar_spec.specs.Desugar.{types_of}
use Rattle.sj_infos.specs.Trees.{trees, below, all_below, cases_below}
use Rattle.sj_trees.specs.Term.{Term, Terms, Cases, no_terms, more_terms, no_cases, more_cases, var_def, block_of, labeled, assign, return_to, if_then, while_loop, do_while, try_catch, try_finally, throw, match_on, new_object, store_module, select, apply, apply_statically, apply_static, unary_op, binary_op, new_array, array_value, array_length, array_select, is_instance_of, as_instance_of, log_line}

module _ (n : ℕ) where
  abbrev Small : Term → Type 0
  Small t = size t ≤ n

  top : (t : Term) → Small t → All Small (below t) → All Small (trees t)
  top t h f = All-cons Small t (below t) h f

  mutual
    inside : (t : Term) → Small t → All Small (below t)
    inside (var_def p x t b e) h = let k : Small e = omega (arith, h) in top e k (inside e k)
    inside (block_of p ts) h = all_inside ts (omega (arith, h))
    inside (labeled p l t e) h = let k : Small e = omega (arith, h) in top e k (inside e k)
    inside (assign p e d) h = combine Small (trees e) (trees d) (let k : Small e = omega (arith, h) in top e k (inside e k)) (let k : Small d = omega (arith, h) in top d k (inside d k))
    inside (return_to p e l) h = let k : Small e = omega (arith, h) in top e k (inside e k)
    inside (if_then p c a b t) h = combine Small (trees c ++ trees a) (trees b) (combine Small (trees c) (trees a) (let k : Small c = omega (arith, h) in top c k (inside c k)) (let k : Small a = omega (arith, h) in top a k (inside a k))) (let k : Small b = omega (arith, h) in top b k (inside b k))
    inside (while_loop p c b) h = combine Small (trees c) (trees b) (let k : Small c = omega (arith, h) in top c k (inside c k)) (let k : Small b = omega (arith, h) in top b k (inside b k))
    inside (do_while p b c) h = combine Small (trees b) (trees c) (let k : Small b = omega (arith, h) in top b k (inside b k)) (let k : Small c = omega (arith, h) in top c k (inside c k))
    inside (try_catch p e x d t) h = combine Small (trees e) (trees d) (let k : Small e = omega (arith, h) in top e k (inside e k)) (let k : Small d = omega (arith, h) in top d k (inside d k))
    inside (try_finally p e d) h = combine Small (trees e) (trees d) (let k : Small e = omega (arith, h) in top e k (inside e k)) (let k : Small d = omega (arith, h) in top d k (inside d k))
    inside (throw p e) h = let k : Small e = omega (arith, h) in top e k (inside e k)
    inside (match_on p e cs d t) h = combine Small (trees e ++ cases_below cs) (trees d) (combine Small (trees e) (cases_below cs) (let k : Small e = omega (arith, h) in top e k (inside e k)) (cases_inside cs (omega (arith, h)))) (let k : Small d = omega (arith, h) in top d k (inside d k))
    inside (new_object p c m ts) h = all_inside ts (omega (arith, h))
    inside (store_module p c e) h = let k : Small e = omega (arith, h) in top e k (inside e k)
    inside (select p e c f t) h = let k : Small e = omega (arith, h) in top e k (inside e k)
    inside (apply p e m ts t) h = combine Small (trees e) (all_below ts) (let k : Small e = omega (arith, h) in top e k (inside e k)) (all_inside ts (omega (arith, h)))
    inside (apply_statically p e c k m ts t) h = combine Small (trees e) (all_below ts) (let k : Small e = omega (arith, h) in top e k (inside e k)) (all_inside ts (omega (arith, h)))
    inside (apply_static p c k m ts t) h = all_inside ts (omega (arith, h))
    inside (unary_op p o e) h = let k : Small e = omega (arith, h) in top e k (inside e k)
    inside (binary_op p o e d) h = combine Small (trees e) (trees d) (let k : Small e = omega (arith, h) in top e k (inside e k)) (let k : Small d = omega (arith, h) in top d k (inside d k))
    inside (new_array p r e) h = let k : Small e = omega (arith, h) in top e k (inside e k)
    inside (array_value p r ts) h = all_inside ts (omega (arith, h))
    inside (array_length p e) h = let k : Small e = omega (arith, h) in top e k (inside e k)
    inside (array_select p e i t) h = combine Small (trees e) (trees i) (let k : Small e = omega (arith, h) in top e k (inside e k)) (let k : Small i = omega (arith, h) in top i k (inside i k))
    inside (is_instance_of p e t) h = let k : Small e = omega (arith, h) in top e k (inside e k)
    inside (as_instance_of p e t) h = let k : Small e = omega (arith, h) in top e k (inside e k)
    inside (log_line p e) h = let k : Small e = omega (arith, h) in top e k (inside e k)
    inside _ h = All-nil Small

    all_inside : (ts : Terms) → size_of_all ts ≤ n → All Small (all_below ts)
    all_inside no_terms h = All-nil Small
    all_inside (more_terms t ts) h = combine Small (trees t) (all_below ts) (let k : Small t = omega (arith, h) in top t k (inside t k)) (all_inside ts (omega (arith, h)))

    cases_inside : (cs : Cases) → size_of_cases cs ≤ n → All Small (cases_below cs)
    cases_inside no_cases h = All-nil Small
    cases_inside (more_cases ks t cs) h = combine Small (trees t) (cases_below cs) (let k : Small t = omega (arith, h) in top t k (inside t k)) (cases_inside cs (omega (arith, h)))

  pub parts_small : (t : Term) → Small t → All Small (trees t)
  parts_small t h = top t h (inside t h)

one_at_least : (t : Term) → 1 ≤ size t
one_at_least (var_def p x t b e) = omega arith
one_at_least _ = omega arith

pub items_small : (ts : Terms) → length (types_of ts) ≤ size_of_all ts
items_small no_terms = omega arith
items_small (more_terms t ts) = let one = one_at_least t in let others = items_small ts in omega (arith, one, others)
