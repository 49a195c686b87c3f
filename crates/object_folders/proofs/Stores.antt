-- Where a body stores a module, it is one of the module's own class.
use Rattle.std.proofs.Common.{◌≡◌, ◌⊎◌, ◌++◌, ◌∙◌, not, ◌&&◌, Bool, true, false, List, [], ◌∷◌, Option, Some, inl, inr, map, refl, sym, ap, subst, Contains}
use Rattle.std.proofs.lemmas.Bool.{and_parts}
use Rattle.std.proofs.lemmas.List.{map-append}
use Rattle.linked_entries.proofs.Classes.{none-passes}
use Rattle.linked_entries.specs.Kept.{KeepsTreeRules}
use Rattle.linked_entries.proofs.Lists.{nothing_in, in_front_or_behind, at_front, further_on}
use Rattle.sj_infos.specs.Trees.{trees, below as trees_below, all_below as all_trees_below, cases_below as cases_trees_below}
use Rattle.sj_local.specs.Nodes.{Context, Node, node, nodes, inside, in_a_block, with_local, with_label, caught, behind, below, statements_below, all_below, cases_below}
use Rattle.sj_local.specs.TreeRules.{breaks, breaks_store, breaks_target, is_module_constructor, is_target, is_this, body_nodes, method_nodes, outermost}
use Rattle.sj_local.specs.declared.rules.Rule.TheVariants as rules
use Rattle.sj_names.proofs.Same.{impossible, text-same}
use Rattle.sj_names.specs.Same.{is_same_text}
use Rattle.sj_names.specs.declared.method_names.Namespace.{Namespace}
use Rattle.sj_trees.specs.Term.{Term, Terms, Cases, no_terms, more_terms, no_cases, more_cases, var_def, block_of, labeled, assign, return_to, if_then, while_loop, do_while, try_catch, try_finally, throw, match_on, new_object, store_module, select, apply, apply_statically, apply_static, unary_op, binary_op, new_array, array_value, array_length, array_select, is_instance_of, as_instance_of, log_line}
use Rattle.sj_trees.specs.declared.classes.ClassDef.{ClassDef}
use Rattle.sj_trees.specs.declared.classes.MethodDef.{MethodDef}
use Rattle.sj_trees.specs.declared.positions.Position.{Position}
use Rattle.sj_world.specs.Known.{Name}

abbrev tree_of : Node → Term
tree_of n = n.tree

-- two lists of nodes with these trees, one behind the other
joined : (xs ys : List Node) (ts us : List Term) → map tree_of xs ≡ ts → map tree_of ys ≡ us → map tree_of (xs ++ ys) ≡ ts ++ us
joined xs ys ts us p q = map-append tree_of xs ys ∙ ap (λ (l : List Term). l ++ map tree_of ys) p ∙ ap (λ (l : List Term). ts ++ l) q

-- a tree in front of those in it
under : (x y : Context) (t : Term) → map tree_of (below y t) ≡ trees_below t → map tree_of (node x t ∷ below y t) ≡ trees t
under x y t = ap (λ (l : List Term). t ∷ l)

two : (x y : Context) (a b : Term) → map tree_of (below x a) ≡ trees_below a → map tree_of (below y b) ≡ trees_below b → map tree_of ((node x a ∷ below x a) ++ (node y b ∷ below y b)) ≡ trees a ++ trees b
two x y a b p q = joined (node x a ∷ below x a) (node y b ∷ below y b) (trees a) (trees b) (under x x a p) (under y y b q)

mutual
  -- the nodes in a tree are its trees, wherever it stands
  same_below : (x : Context) (t : Term) → map tree_of (below x t) ≡ trees_below t
  same_below x (var_def p n t m e) = under x x e (same_below x e)
  same_below x (block_of p ts) = same_statements (in_a_block x) ts
  same_below x (labeled p l t e) = under (with_label l x) (with_label l x) e (same_below (with_label l x) e)
  same_below x (assign p a b) = two x x a b (same_below x a) (same_below x b)
  same_below x (return_to p e l) = under x x e (same_below x e)
  same_below x (if_then p c a b t) = joined ((node x c ∷ below x c) ++ (node x a ∷ below x a)) (node x b ∷ below x b) (trees c ++ trees a) (trees b) (two x x c a (same_below x c) (same_below x a)) (under x x b (same_below x b))
  same_below x (while_loop p c b) = two x x c b (same_below x c) (same_below x b)
  same_below x (do_while p b c) = two x x b c (same_below x b) (same_below x c)
  same_below x (try_catch p b n h t) = two x (with_local (caught n) x) b h (same_below x b) (same_below (with_local (caught n) x) h)
  same_below x (try_finally p b f) = two x x b f (same_below x b) (same_below x f)
  same_below x (throw p e) = under x x e (same_below x e)
  same_below x (match_on p s cs d t) = joined ((node x s ∷ below x s) ++ cases_below x cs) (node x d ∷ below x d) (trees s ++ cases_trees_below cs) (trees d) (joined (node x s ∷ below x s) (cases_below x cs) (trees s) (cases_trees_below cs) (under x x s (same_below x s)) (same_cases x cs)) (under x x d (same_below x d))
  same_below x (new_object p c m ts) = same_all x ts
  same_below x (store_module p c e) = under x x e (same_below x e)
  same_below x (select p e c f t) = under x x e (same_below x e)
  same_below x (apply p e m ts t) = joined (node x e ∷ below x e) (all_below x ts) (trees e) (all_trees_below ts) (under x x e (same_below x e)) (same_all x ts)
  same_below x (apply_statically p e c n m ts t) = joined (node x e ∷ below x e) (all_below x ts) (trees e) (all_trees_below ts) (under x x e (same_below x e)) (same_all x ts)
  same_below x (apply_static p c n m ts t) = same_all x ts
  same_below x (unary_op p o e) = under x x e (same_below x e)
  same_below x (binary_op p o a b) = two x x a b (same_below x a) (same_below x b)
  same_below x (new_array p r e) = under x x e (same_below x e)
  same_below x (array_value p r ts) = same_all x ts
  same_below x (array_length p e) = under x x e (same_below x e)
  same_below x (array_select p a i t) = two x x a i (same_below x a) (same_below x i)
  same_below x (is_instance_of p e t) = under x x e (same_below x e)
  same_below x (as_instance_of p e t) = under x x e (same_below x e)
  same_below x (log_line p e) = under x x e (same_below x e)
  same_below x _ = refl

  same_statements : (x : Context) (ts : Terms) → map tree_of (statements_below x ts) ≡ all_trees_below ts
  same_statements x no_terms = refl
  same_statements x (more_terms t ts) = joined (node x t ∷ below (inside x) t) (statements_below (behind t x) ts) (trees t) (all_trees_below ts) (under x (inside x) t (same_below (inside x) t)) (same_statements (behind t x) ts)

  same_all : (x : Context) (ts : Terms) → map tree_of (all_below x ts) ≡ all_trees_below ts
  same_all x no_terms = refl
  same_all x (more_terms t ts) = joined (node x t ∷ below x t) (all_below x ts) (trees t) (all_trees_below ts) (under x x t (same_below x t)) (same_all x ts)

  same_cases : (x : Context) (cs : Cases) → map tree_of (cases_below x cs) ≡ cases_trees_below cs
  same_cases x no_cases = refl
  same_cases x (more_cases ks t cs) = joined (node x t ∷ below x t) (cases_below x cs) (trees t) (cases_trees_below cs) (under x x t (same_below x t)) (same_cases x cs)

-- a node with this tree
record HasNode (xs : List Node) (t : Term) : Type 0 where
  there : Node
  among : Contains xs there
  tree_is : there.tree ≡ t

has_node : (xs : List Node) (t : Term) → Contains (map tree_of xs) t → HasNode xs t
has_node [] t i = nothing_in t i
has_node (x ∷ xs) t i = go (in_front_or_behind (tree_of x) (map tree_of xs) t i) (has_node xs t)
  where
    go : (tree_of x ≡ t) ⊎ Contains (map tree_of xs) t → (Contains (map tree_of xs) t → HasNode xs t) → HasNode (x ∷ xs) t
    go (inl same) later = record { there = x; among = at_front x xs; tree_is = same }
    go (inr i) later = let n = later i in record { there = n.there; among = further_on x xs n.there n.among; tree_is = n.tree_is }

own_name : (c : ClassDef) (space : Namespace) (p : Position) (k : Name) (e t : Term) → t ≡ store_module p k e → breaks_store c space t ≡ false → k ≡ c.name
own_name c space p k e t is h =
    let kept = not_broken (is_module_constructor c space && is_same_text k c.name && is_this e) (subst (λ (u : Term). breaks_store c space u ≡ false) is h) in
    text-same k c.name (and_parts (is_module_constructor c space) (is_same_text k c.name) (and_parts (is_module_constructor c space && is_same_text k c.name) (is_this e) kept).0).1
  where
    not_broken : (b : Bool) → not b ≡ false → b ≡ true
    not_broken true e = refl
    not_broken false e = impossible (sym e)

-- a method that keeps the rules on trees assigns to variables, fields and items alone
pub targets_kept : (c : ClassDef) (d : MethodDef) (t : Term) → d.body ≡ Some t → KeepsTreeRules c d → (p : Position) (a e : Term) → Contains (trees t) (assign p a e) → is_target a ≡ true
targets_kept c d t has kept p a e i =
    let xs = nodes (outermost d) t in
    let among : Contains (map tree_of xs) (assign p a e) = subst (λ (l : List Term). Contains l (assign p a e)) (sym (under (outermost d) (inside (outermost d)) t (same_below (inside (outermost d)) t))) i in
    let found = has_node xs (assign p a e) among in
    is_kept found.there.tree found.tree_is (none-passes (breaks rules.Target c d.namespace) (method_nodes d) kept.target found.there (subst (λ (b : Option Term). Contains (body_nodes d b) found.there) (sym has) found.among))
  where
    not_broken : (b : Bool) → not b ≡ false → b ≡ true
    not_broken true e = refl
    not_broken false e = impossible (sym e)

    is_kept : (u : Term) → u ≡ assign p a e → breaks_target u ≡ false → is_target a ≡ true
    is_kept u is h = not_broken (is_target a) (subst (λ (v : Term). breaks_target v ≡ false) is h)

-- a method that keeps the rules on trees stores no module but that of its class
pub stores_own : (c : ClassDef) (d : MethodDef) (t : Term) → d.body ≡ Some t → KeepsTreeRules c d → (p : Position) (k : Name) (e : Term) → Contains (trees t) (store_module p k e) → k ≡ c.name
stores_own c d t has kept p k e i =
    let xs = nodes (outermost d) t in
    let among : Contains (map tree_of xs) (store_module p k e) = subst (λ (l : List Term). Contains l (store_module p k e)) (sym (under (outermost d) (inside (outermost d)) t (same_below (inside (outermost d)) t))) i in
    let found = has_node xs (store_module p k e) among in
    own_name c d.namespace p k e found.there.tree found.tree_is (none-passes (breaks rules.StoreModule c d.namespace) (method_nodes d) kept.stored found.there (subst (λ (b : Option Term). Contains (body_nodes d b) found.there) (sym has) found.among))
