-- What is asked of each tree of a body where it stands is asked of each tree in it.
use Rattle.std.proofs.Common.{ℕ, List, [], ◌∷◌, ◌++◌}
use Rattle.std.specs.Prelude.{◌+◌}
use Rattle.std.specs.List.{All}
use Rattle.std.proofs.lemmas.List.Elements.{All-nil, All-cons, All-head}
use Rattle.sj_ask.specs.Sizes.{size, size_of_cases}
use Rattle.sj_infos.specs.Trees.{trees, below, all_below, cases_below}
use Rattle.sj_trees.specs.Term.{Term, Terms, Cases, no_terms, more_terms, no_cases, more_cases, var_def, skip, block_of, labeled, assign, return_to, if_then, while_loop, do_while, try_catch, try_finally, throw, match_on, new_object, load_module, store_module, select, select_static, apply, apply_statically, apply_static, unary_op, binary_op, new_array, array_value, array_length, array_select, is_instance_of, as_instance_of, undefined_literal, null_literal, boolean_literal, char_literal, byte_literal, short_literal, int_literal, long_literal, string_literal, var_ref, this_ref, log_line}
use Rattle.object_folders.specs.Label.{Label}
use Rattle.object_folders.specs.Nodes as standing
use Rattle.object_folders.specs.Nodes.{Node, node, nodes, nodes_of_all, nodes_of_cases, inside}
use Rattle.body_uses.proofs.Uses.{ahead, after, combine}

module _ (P : Node → Type 0) where
  -- the tree stands somewhere, where it is asked for
  pub record Stands (t : Term) : Type 0 where
    pub number : ℕ
    pub labels : List Label
    pub asked : P (node number labels t)

  abbrev Below : Term → Type 0
  Below t = (ls : List Label) (n : ℕ) → All P (standing.below ls n t) → All Stands (below t)

  top : (t : Term) (ls : List Label) (n : ℕ) → Below t → All P (nodes ls n t) → All Stands (trees t)
  top t ls n f h = All-cons Stands t (below t) (record { number = n; labels = ls; asked = All-head P (node n ls t) [] (after P (standing.below ls n t) (node n ls t ∷ []) h) }) (f ls n (ahead P (standing.below ls n t) (node n ls t ∷ []) h))

  both : (a b : Term) (la lb : List Label) (na nb : ℕ) → Below a → Below b → All P (nodes la na a ++ nodes lb nb b) → All Stands (trees a ++ trees b)
  both a b la lb na nb f g h = combine Stands (trees a) (trees b) (top a la na f (ahead P (nodes la na a) (nodes lb nb b) h)) (top b lb nb g (after P (nodes la na a) (nodes lb nb b) h))

  -- a receiver and arguments
  called : (e : Term) (ts : Terms) (ls : List Label) (n : ℕ) → Below e → ((k : ℕ) → All P (nodes_of_all ls k ts) → All Stands (all_below ts)) → All P (nodes ls (n + 1) e ++ nodes_of_all ls (n + 1 + size e) ts) → All Stands (trees e ++ all_below ts)
  called e ts ls n f g h = combine Stands (trees e) (all_below ts) (top e ls (n + 1) f (ahead P (nodes ls (n + 1) e) (nodes_of_all ls (n + 1 + size e) ts) h)) (g (n + 1 + size e) (after P (nodes ls (n + 1) e) (nodes_of_all ls (n + 1 + size e) ts) h))

  mutual
    met : (t : Term) → Below t
    met (var_def p x t m e) ls n h = top e ls (n + 1) (met e) h
    met (skip p) ls n h = All-nil Stands
    met (block_of p ts) ls n h = all_met ts ls (n + 1) h
    met (labeled p l t e) ls n h = top e (inside l t ls) (n + 1) (met e) h
    met (assign p e d) ls n h = both e d ls ls (n + 1) (n + 1 + size e) (met e) (met d) h
    met (return_to p e l) ls n h = top e ls (n + 1) (met e) h
    met (if_then p e d b t) ls n h =
        let first = nodes ls (n + 1) e in
        let rest = nodes ls (n + 1 + size e) d ++ nodes ls (n + 1 + size e + size d) b in
        let own = both d b ls ls (n + 1 + size e) (n + 1 + size e + size d) (met d) (met b) (after P first rest h) in
        combine Stands (trees e ++ trees d) (trees b) (combine Stands (trees e) (trees d) (top e ls (n + 1) (met e) (ahead P first rest h)) (ahead Stands (trees d) (trees b) own)) (after Stands (trees d) (trees b) own)
    met (while_loop p e d) ls n h = both e d ls ls (n + 1) (n + 1 + size e) (met e) (met d) h
    met (do_while p e d) ls n h = both e d ls ls (n + 1) (n + 1 + size e) (met e) (met d) h
    met (try_catch p e x d t) ls n h = both e d ls ls (n + 1) (n + 1 + size e) (met e) (met d) h
    met (try_finally p e d) ls n h = both e d ls ls (n + 1) (n + 1 + size e) (met e) (met d) h
    met (throw p e) ls n h = top e ls (n + 1) (met e) h
    met (match_on p e cs d t) ls n h =
        let first = nodes ls (n + 1) e in
        let middle = nodes_of_cases ls (n + 1 + size e) cs in
        let last = nodes ls (n + 1 + size e + size_of_cases cs) d in
        let rest = after P first (middle ++ last) h in
        combine Stands (trees e ++ cases_below cs) (trees d) (combine Stands (trees e) (cases_below cs) (top e ls (n + 1) (met e) (ahead P first (middle ++ last) h)) (cases_met cs ls (n + 1 + size e) (ahead P middle last rest))) (top d ls (n + 1 + size e + size_of_cases cs) (met d) (after P middle last rest))
    met (new_object p c k ts) ls n h = all_met ts ls (n + 1) h
    met (load_module p c) ls n h = All-nil Stands
    met (store_module p c e) ls n h = top e ls (n + 1) (met e) h
    met (select p e c f t) ls n h = top e ls (n + 1) (met e) h
    met (select_static p c f t) ls n h = All-nil Stands
    met (apply p e k ts t) ls n h = called e ts ls n (met e) (all_met ts ls) h
    met (apply_statically p e c s k ts t) ls n h = called e ts ls n (met e) (all_met ts ls) h
    met (apply_static p c s k ts t) ls n h = all_met ts ls (n + 1) h
    met (unary_op p o e) ls n h = top e ls (n + 1) (met e) h
    met (binary_op p o e d) ls n h = both e d ls ls (n + 1) (n + 1 + size e) (met e) (met d) h
    met (new_array p r e) ls n h = top e ls (n + 1) (met e) h
    met (array_value p r ts) ls n h = all_met ts ls (n + 1) h
    met (array_length p e) ls n h = top e ls (n + 1) (met e) h
    met (array_select p e d t) ls n h = both e d ls ls (n + 1) (n + 1 + size e) (met e) (met d) h
    met (is_instance_of p e t) ls n h = top e ls (n + 1) (met e) h
    met (as_instance_of p e t) ls n h = top e ls (n + 1) (met e) h
    met (undefined_literal p) ls n h = All-nil Stands
    met (null_literal p) ls n h = All-nil Stands
    met (boolean_literal p v) ls n h = All-nil Stands
    met (char_literal p v) ls n h = All-nil Stands
    met (byte_literal p v) ls n h = All-nil Stands
    met (short_literal p v) ls n h = All-nil Stands
    met (int_literal p v) ls n h = All-nil Stands
    met (long_literal p v) ls n h = All-nil Stands
    met (string_literal p u) ls n h = All-nil Stands
    met (var_ref p x t) ls n h = All-nil Stands
    met (this_ref p t) ls n h = All-nil Stands
    met (log_line p e) ls n h = top e ls (n + 1) (met e) h

    all_met : (ts : Terms) (ls : List Label) (n : ℕ) → All P (nodes_of_all ls n ts) → All Stands (all_below ts)
    all_met no_terms ls n h = All-nil Stands
    all_met (more_terms t ts) ls n h = combine Stands (trees t) (all_below ts) (top t ls n (met t) (ahead P (nodes ls n t) (nodes_of_all ls (n + size t) ts) h)) (all_met ts ls (n + size t) (after P (nodes ls n t) (nodes_of_all ls (n + size t) ts) h))

    cases_met : (cs : Cases) (ls : List Label) (n : ℕ) → All P (nodes_of_cases ls n cs) → All Stands (cases_below cs)
    cases_met no_cases ls n h = All-nil Stands
    cases_met (more_cases keys t cs) ls n h = combine Stands (trees t) (cases_below cs) (top t ls n (met t) (ahead P (nodes ls n t) (nodes_of_cases ls (n + size t) cs) h)) (cases_met cs ls (n + size t) (after P (nodes ls n t) (nodes_of_cases ls (n + size t) cs) h))

  pub each_stands : (t : Term) (ls : List Label) (n : ℕ) → All P (nodes ls n t) → All Stands (trees t)
  each_stands t ls n h = top t ls n (met t) h
