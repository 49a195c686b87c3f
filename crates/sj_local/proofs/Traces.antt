-- The walk sees the trees of a body in their order.
use Rattle.std.proofs.Common.{◌≡◌, List, [], ◌∷◌, ◌++◌, refl, sym, ap, ◌∙◌, append_assoc, append-nil}
use Rattle.sj_names.specs.declared.method_names.Namespace.{Namespace}
use Rattle.sj_trees.specs.declared.classes.ClassDef.{ClassDef}
use Rattle.sj_trees.specs.Term.{Term, Terms, Cases, no_terms, more_terms, no_cases, more_cases, var_def, skip, block_of, labeled, assign, return_to, if_then, while_loop, do_while, try_catch, try_finally, throw, match_on, new_object, load_module, store_module, select, select_static, apply, apply_statically, apply_static, unary_op, binary_op, new_array, array_value, array_length, array_select, is_instance_of, as_instance_of, undefined_literal, null_literal, boolean_literal, char_literal, byte_literal, short_literal, int_literal, long_literal, string_literal, var_ref, this_ref, log_line}
use Rattle.sj_local.specs.Nodes.{Context, Node, node, inside, in_a_block, with_local, with_label, caught, behind, below, statements_below, all_below, cases_below, nodes}
use Rattle.sj_local.specs.TreeRules.{declared_from, declared_by}
use Rattle.sj_local.specs.WalkParts.{findings_from}
use Rattle.sj_local.specs.WalkParts.{Trace, with_node, after_below, after_statements, after_all, after_cases, after}

-- after trees in a row
abbrev traced : ClassDef → Namespace → List Node → Trace → Trace
traced owner space [] r = r
traced owner space (n ∷ ns) r = traced owner space ns (with_node owner space n r)

traced-append : (owner : ClassDef) (space : Namespace) (xs ys : List Node) (r : Trace) → traced owner space (xs ++ ys) r ≡ traced owner space ys (traced owner space xs r)
traced-append owner space [] ys r = refl
traced-append owner space (x ∷ xs) ys r = traced-append owner space xs ys (with_node owner space x r)

-- a tree and those in it, and others behind
two : (owner : ClassDef) (space : Namespace) (xs ys : List Node) (r q w : Trace) → q ≡ traced owner space xs r → w ≡ traced owner space ys q → w ≡ traced owner space (xs ++ ys) r
two owner space xs ys r q w h k = k ∙ ap (traced owner space ys) h ∙ sym (traced-append owner space xs ys r)

mutual
  below-traced : (owner : ClassDef) (space : Namespace) (x : Context) (t : Term) (r : Trace) → after_below owner space x t r ≡ traced owner space (below x t) r
  below-traced owner space x (var_def p n t m e) r = below-traced owner space x e (with_node owner space (node x e) r)
  below-traced owner space x (skip p) r = refl
  below-traced owner space x (block_of p ts) r = statements-traced owner space (in_a_block x) ts r
  below-traced owner space x (labeled p l t e) r = below-traced owner space (with_label l x) e (with_node owner space (node (with_label l x) e) r)
  below-traced owner space x (assign p a b) r = two owner space (node x a ∷ below x a) (node x b ∷ below x b) r (after_below owner space x a (with_node owner space (node x a) r)) (after_below owner space x b (with_node owner space (node x b) (after_below owner space x a (with_node owner space (node x a) r)))) (below-traced owner space x a (with_node owner space (node x a) r)) (below-traced owner space x b (with_node owner space (node x b) (after_below owner space x a (with_node owner space (node x a) r))))
  below-traced owner space x (return_to p e l) r = below-traced owner space x e (with_node owner space (node x e) r)
  below-traced owner space x (if_then p c a b t) r = two owner space ((node x c ∷ below x c) ++ (node x a ∷ below x a)) (node x b ∷ below x b) r (after_below owner space x a (with_node owner space (node x a) (after_below owner space x c (with_node owner space (node x c) r)))) (after_below owner space x b (with_node owner space (node x b) (after_below owner space x a (with_node owner space (node x a) (after_below owner space x c (with_node owner space (node x c) r)))))) (two owner space (node x c ∷ below x c) (node x a ∷ below x a) r (after_below owner space x c (with_node owner space (node x c) r)) (after_below owner space x a (with_node owner space (node x a) (after_below owner space x c (with_node owner space (node x c) r)))) (below-traced owner space x c (with_node owner space (node x c) r)) (below-traced owner space x a (with_node owner space (node x a) (after_below owner space x c (with_node owner space (node x c) r))))) (below-traced owner space x b (with_node owner space (node x b) (after_below owner space x a (with_node owner space (node x a) (after_below owner space x c (with_node owner space (node x c) r))))))
  below-traced owner space x (while_loop p c b) r = two owner space (node x c ∷ below x c) (node x b ∷ below x b) r (after_below owner space x c (with_node owner space (node x c) r)) (after_below owner space x b (with_node owner space (node x b) (after_below owner space x c (with_node owner space (node x c) r)))) (below-traced owner space x c (with_node owner space (node x c) r)) (below-traced owner space x b (with_node owner space (node x b) (after_below owner space x c (with_node owner space (node x c) r))))
  below-traced owner space x (do_while p b c) r = two owner space (node x b ∷ below x b) (node x c ∷ below x c) r (after_below owner space x b (with_node owner space (node x b) r)) (after_below owner space x c (with_node owner space (node x c) (after_below owner space x b (with_node owner space (node x b) r)))) (below-traced owner space x b (with_node owner space (node x b) r)) (below-traced owner space x c (with_node owner space (node x c) (after_below owner space x b (with_node owner space (node x b) r))))
  below-traced owner space x (try_catch p b n h t) r = two owner space (node x b ∷ below x b) (node (with_local (caught n) x) h ∷ below (with_local (caught n) x) h) r (after_below owner space x b (with_node owner space (node x b) r)) (after_below owner space (with_local (caught n) x) h (with_node owner space (node (with_local (caught n) x) h) (after_below owner space x b (with_node owner space (node x b) r)))) (below-traced owner space x b (with_node owner space (node x b) r)) (below-traced owner space (with_local (caught n) x) h (with_node owner space (node (with_local (caught n) x) h) (after_below owner space x b (with_node owner space (node x b) r))))
  below-traced owner space x (try_finally p b f) r = two owner space (node x b ∷ below x b) (node x f ∷ below x f) r (after_below owner space x b (with_node owner space (node x b) r)) (after_below owner space x f (with_node owner space (node x f) (after_below owner space x b (with_node owner space (node x b) r)))) (below-traced owner space x b (with_node owner space (node x b) r)) (below-traced owner space x f (with_node owner space (node x f) (after_below owner space x b (with_node owner space (node x b) r))))
  below-traced owner space x (throw p e) r = below-traced owner space x e (with_node owner space (node x e) r)
  below-traced owner space x (match_on p s cs d t) r = two owner space ((node x s ∷ below x s) ++ (cases_below x cs)) (node x d ∷ below x d) r (after_cases owner space x cs (after_below owner space x s (with_node owner space (node x s) r))) (after_below owner space x d (with_node owner space (node x d) (after_cases owner space x cs (after_below owner space x s (with_node owner space (node x s) r))))) (two owner space (node x s ∷ below x s) (cases_below x cs) r (after_below owner space x s (with_node owner space (node x s) r)) (after_cases owner space x cs (after_below owner space x s (with_node owner space (node x s) r))) (below-traced owner space x s (with_node owner space (node x s) r)) (cases-traced owner space x cs (after_below owner space x s (with_node owner space (node x s) r)))) (below-traced owner space x d (with_node owner space (node x d) (after_cases owner space x cs (after_below owner space x s (with_node owner space (node x s) r)))))
  below-traced owner space x (new_object p c m ts) r = all-traced owner space x ts r
  below-traced owner space x (load_module p c) r = refl
  below-traced owner space x (store_module p c e) r = below-traced owner space x e (with_node owner space (node x e) r)
  below-traced owner space x (select p e c f t) r = below-traced owner space x e (with_node owner space (node x e) r)
  below-traced owner space x (select_static p c f t) r = refl
  below-traced owner space x (apply p e m ts t) r = two owner space (node x e ∷ below x e) (all_below x ts) r (after_below owner space x e (with_node owner space (node x e) r)) (after_all owner space x ts (after_below owner space x e (with_node owner space (node x e) r))) (below-traced owner space x e (with_node owner space (node x e) r)) (all-traced owner space x ts (after_below owner space x e (with_node owner space (node x e) r)))
  below-traced owner space x (apply_statically p e c n m ts t) r = two owner space (node x e ∷ below x e) (all_below x ts) r (after_below owner space x e (with_node owner space (node x e) r)) (after_all owner space x ts (after_below owner space x e (with_node owner space (node x e) r))) (below-traced owner space x e (with_node owner space (node x e) r)) (all-traced owner space x ts (after_below owner space x e (with_node owner space (node x e) r)))
  below-traced owner space x (apply_static p c n m ts t) r = all-traced owner space x ts r
  below-traced owner space x (unary_op p o e) r = below-traced owner space x e (with_node owner space (node x e) r)
  below-traced owner space x (binary_op p o a b) r = two owner space (node x a ∷ below x a) (node x b ∷ below x b) r (after_below owner space x a (with_node owner space (node x a) r)) (after_below owner space x b (with_node owner space (node x b) (after_below owner space x a (with_node owner space (node x a) r)))) (below-traced owner space x a (with_node owner space (node x a) r)) (below-traced owner space x b (with_node owner space (node x b) (after_below owner space x a (with_node owner space (node x a) r))))
  below-traced owner space x (new_array p array e) r = below-traced owner space x e (with_node owner space (node x e) r)
  below-traced owner space x (array_value p array ts) r = all-traced owner space x ts r
  below-traced owner space x (array_length p e) r = below-traced owner space x e (with_node owner space (node x e) r)
  below-traced owner space x (array_select p a i t) r = two owner space (node x a ∷ below x a) (node x i ∷ below x i) r (after_below owner space x a (with_node owner space (node x a) r)) (after_below owner space x i (with_node owner space (node x i) (after_below owner space x a (with_node owner space (node x a) r)))) (below-traced owner space x a (with_node owner space (node x a) r)) (below-traced owner space x i (with_node owner space (node x i) (after_below owner space x a (with_node owner space (node x a) r))))
  below-traced owner space x (is_instance_of p e t) r = below-traced owner space x e (with_node owner space (node x e) r)
  below-traced owner space x (as_instance_of p e t) r = below-traced owner space x e (with_node owner space (node x e) r)
  below-traced owner space x (undefined_literal p) r = refl
  below-traced owner space x (null_literal p) r = refl
  below-traced owner space x (boolean_literal p b) r = refl
  below-traced owner space x (char_literal p n) r = refl
  below-traced owner space x (byte_literal p z) r = refl
  below-traced owner space x (short_literal p z) r = refl
  below-traced owner space x (int_literal p z) r = refl
  below-traced owner space x (long_literal p z) r = refl
  below-traced owner space x (string_literal p us) r = refl
  below-traced owner space x (var_ref p n t) r = refl
  below-traced owner space x (this_ref p t) r = refl
  below-traced owner space x (log_line p e) r = below-traced owner space x e (with_node owner space (node x e) r)

  statements-traced : (owner : ClassDef) (space : Namespace) (x : Context) (ts : Terms) (r : Trace) → after_statements owner space x ts r ≡ traced owner space (statements_below x ts) r
  statements-traced owner space x no_terms r = refl
  statements-traced owner space x (more_terms t ts) r = two owner space (node x t ∷ below (inside x) t) (statements_below (behind t x) ts) r (after_below owner space (inside x) t (with_node owner space (node x t) r)) (after_statements owner space (behind t x) ts (after_below owner space (inside x) t (with_node owner space (node x t) r))) (below-traced owner space (inside x) t (with_node owner space (node x t) r)) (statements-traced owner space (behind t x) ts (after_below owner space (inside x) t (with_node owner space (node x t) r)))

  all-traced : (owner : ClassDef) (space : Namespace) (x : Context) (ts : Terms) (r : Trace) → after_all owner space x ts r ≡ traced owner space (all_below x ts) r
  all-traced owner space x no_terms r = refl
  all-traced owner space x (more_terms t ts) r = two owner space (node x t ∷ below x t) (all_below x ts) r (after_below owner space x t (with_node owner space (node x t) r)) (after_all owner space x ts (after_below owner space x t (with_node owner space (node x t) r))) (below-traced owner space x t (with_node owner space (node x t) r)) (all-traced owner space x ts (after_below owner space x t (with_node owner space (node x t) r)))

  cases-traced : (owner : ClassDef) (space : Namespace) (x : Context) (cs : Cases) (r : Trace) → after_cases owner space x cs r ≡ traced owner space (cases_below x cs) r
  cases-traced owner space x no_cases r = refl
  cases-traced owner space x (more_cases ks t cs) r = two owner space (node x t ∷ below x t) (cases_below x cs) r (after_below owner space x t (with_node owner space (node x t) r)) (after_cases owner space x cs (after_below owner space x t (with_node owner space (node x t) r))) (below-traced owner space x t (with_node owner space (node x t) r)) (cases-traced owner space x cs (after_below owner space x t (with_node owner space (node x t) r)))

-- the findings of a walk, and what it has declared
traced-findings : (owner : ClassDef) (space : Namespace) (xs : List Node) (r : Trace) → (traced owner space xs r).findings ≡ findings_from owner space r.count xs r.findings
unfolding with_node
traced-findings owner space [] r = refl
traced-findings owner space (x ∷ xs) r = traced-findings owner space xs (with_node owner space x r)

traced-declared : (owner : ClassDef) (space : Namespace) (xs : List Node) (r : Trace) → (traced owner space xs r).declared ≡ r.declared ++ declared_from r.count xs
unfolding with_node
traced-declared owner space [] r = sym (append-nil r.declared)
traced-declared owner space (x ∷ xs) r = traced-declared owner space xs (with_node owner space x r) ∙ append_assoc r.declared (declared_by r.count x.tree) (declared_from (with_node owner space x r).count xs)

pub after-findings : (owner : ClassDef) (space : Namespace) (x : Context) (t : Term) (r : Trace) → (after owner space x t r).findings ≡ findings_from owner space r.count (nodes x t) r.findings
after-findings owner space x t r = ap (λ (q : Trace). q.findings) (below-traced owner space (inside x) t (with_node owner space (node x t) r)) ∙ traced-findings owner space (nodes x t) r

pub after-declared : (owner : ClassDef) (space : Namespace) (x : Context) (t : Term) (r : Trace) → (after owner space x t r).declared ≡ r.declared ++ declared_from r.count (nodes x t)
after-declared owner space x t r = ap (λ (q : Trace). q.declared) (below-traced owner space (inside x) t (with_node owner space (node x t) r)) ∙ traced-declared owner space (nodes x t) r
