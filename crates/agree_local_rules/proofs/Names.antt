-- A method in which nothing is declared twice defines no local twice, whatever its forms are.
use Rattle.std.proofs.Common.{ℕ, refl, List, [], ◌∷◌, ◌++◌, sym, ap, subst, ◌⊎◌, inl, inr, ⊎_elim, false}
use Rattle.agree_local_rules.proofs.Distinct.{Has, declares, Fresh, parts, in-left, in-right}
use Rattle.sj_local.specs.Nodes.{Context, Node, node, inside, in_a_block, with_label, with_local, caught, behind, below, statements_below, all_below, cases_below}
use Rattle.sj_local.specs.declared.walks.Declaration.TheVariants as declaration
use Rattle.agree_early_errors.specs.Once.{Names, AreOnce}
use Rattle.sj_trees.specs.Term.{Term, Terms, no_terms, more_terms, Cases, no_cases, more_cases, var_def, block_of, labeled, assign, return_to, if_then, while_loop, do_while, try_catch, try_finally, throw, match_on, new_object, store_module, select, apply, apply_statically, apply_static, unary_op, binary_op, new_array, array_value, array_length, array_select, is_instance_of, as_instance_of, null_literal, log_line}
use Rattle.sure_receivers.specs.Sure.{Definition, definitions, definitions_in, definitions_of_cases}

names-parts : (xs ys : List Definition) (x : List ℕ) → Names (xs ++ ys) x → Names xs x ⊎ Names ys x
names-parts [] ys x h = inr h
names-parts (d ∷ ds) ys x (inl e) = inl (inl e)
names-parts (d ∷ ds) ys x (inr h) = ⊎_elim (λ i. inl (inr i)) (λ i. inr i) (names-parts ds ys x h)

once-joined : (xs ys : List Definition) → AreOnce xs → AreOnce ys → ((x : List ℕ) → Names xs x → Names ys x → ⊥) → AreOnce (xs ++ ys)
once-joined [] ys h k apart = k
once-joined (d ∷ ds) ys h k apart = ((λ n. ⊎_elim h.0 (apart d.name (inl refl)) (names-parts ds ys d.name n)), once-joined ds ys h.1 k (λ x i j. apart x (inr i) j))

abbrev At : Context → Term → List Node
At x t = node x t ∷ below x t

-- each of these definitions is a declaration of one of these nodes
abbrev Told : List Definition → List Node → Type 0
Told ds ns = (y : List ℕ) → Names ds y → Has (declares ns) (declaration.Local y)

two-told : (xs ys : List Definition) (ns ms : List Node) → Told xs ns → Told ys ms → Told (xs ++ ys) (ns ++ ms)
two-told xs ys ns ms a b y n = ⊎_elim (λ i. in-left ns ms (declaration.Local y) (a y i)) (λ i. in-right ns ms (declaration.Local y) (b y i)) (names-parts xs ys y n)

mutual
  pub told : (t : Term) (x : Context) → Told (definitions t) (At x t)
  told (var_def p v t m e) x y n = ⊎_elim (λ i. inr (told e x y i)) (λ i. ⊎_elim (λ j. inl (ap declaration.Local (sym j))) (λ j. absurd j) i) (names-parts (definitions e) (record { name = v; is_mutable = m; value = e } ∷ []) y n)
  told (block_of p ts) x y n = told_statements ts (in_a_block x) y n
  told (labeled p l t e) x y n = inr (told e (with_label l x) y n)
  told (assign p e d) x y n = two-told (definitions e) (definitions d) (At x e) (At x d) (told e x) (told d x) y n
  told (return_to p e l) x y n = told e x y n
  told (if_then p c a b t) x y n = two-told (definitions c ++ definitions a) (definitions b) (At x c ++ At x a) (At x b) (two-told (definitions c) (definitions a) (At x c) (At x a) (told c x) (told a x)) (told b x) y n
  told (while_loop p c b) x y n = two-told (definitions c) (definitions b) (At x c) (At x b) (told c x) (told b x) y n
  told (do_while p b c) x y n = two-told (definitions b) (definitions c) (At x b) (At x c) (told b x) (told c x) y n
  told (try_catch p e v d t) x y n =
      let h = with_local (caught v) x in
      ⊎_elim (λ i. inr (in-left (At x e) (At h d) (declaration.Local y) (told e x y i)))
      (λ i. ⊎_elim (λ same. inl (ap declaration.Local (sym same))) (λ j. inr (in-right (At x e) (At h d) (declaration.Local y) (told d h y j))) i)
      (names-parts (definitions e) (record { name = v; is_mutable = false; value = null_literal p } ∷ definitions d) y n)
  told (try_finally p e d) x y n = two-told (definitions e) (definitions d) (At x e) (At x d) (told e x) (told d x) y n
  told (throw p e) x y n = told e x y n
  told (match_on p e cs d t) x y n = two-told (definitions e ++ definitions_of_cases cs) (definitions d) (At x e ++ cases_below x cs) (At x d) (two-told (definitions e) (definitions_of_cases cs) (At x e) (cases_below x cs) (told e x) (told_cases cs x)) (told d x) y n
  told (new_object p c m ts) x y n = told_all ts x y n
  told (store_module p c e) x y n = told e x y n
  told (select p e c f t) x y n = told e x y n
  told (apply p e m ts t) x y n = two-told (definitions e) (definitions_in ts) (At x e) (all_below x ts) (told e x) (told_all ts x) y n
  told (apply_statically p e c k m ts t) x y n = two-told (definitions e) (definitions_in ts) (At x e) (all_below x ts) (told e x) (told_all ts x) y n
  told (apply_static p c k m ts t) x y n = told_all ts x y n
  told (unary_op p o e) x y n = told e x y n
  told (binary_op p o e d) x y n = two-told (definitions e) (definitions d) (At x e) (At x d) (told e x) (told d x) y n
  told (new_array p r e) x y n = told e x y n
  told (array_value p r ts) x y n = told_all ts x y n
  told (array_length p e) x y n = told e x y n
  told (array_select p e d t) x y n = two-told (definitions e) (definitions d) (At x e) (At x d) (told e x) (told d x) y n
  told (is_instance_of p e t) x y n = told e x y n
  told (as_instance_of p e t) x y n = told e x y n
  told (log_line p e) x y n = told e x y n
  told _ x y n = absurd n

  told_statements : (ts : Terms) (x : Context) → Told (definitions_in ts) (statements_below x ts)
  told_statements no_terms x y n = n
  told_statements (more_terms t ts) x y n = two-told (definitions t) (definitions_in ts) (At (inside x) t) (statements_below (behind t x) ts) (told t (inside x)) (told_statements ts (behind t x)) y n

  told_all : (ts : Terms) (x : Context) → Told (definitions_in ts) (all_below x ts)
  told_all no_terms x y n = n
  told_all (more_terms t ts) x y n = two-told (definitions t) (definitions_in ts) (At x t) (all_below x ts) (told t x) (told_all ts x) y n

  told_cases : (cs : Cases) (x : Context) → Told (definitions_of_cases cs) (cases_below x cs)
  told_cases no_cases x y n = n
  told_cases (more_cases ks t cs) x y n = two-told (definitions t) (definitions_of_cases cs) (At x t) (cases_below x cs) (told t x) (told_cases cs x) y n

two-once : (xs ys : List Definition) (ns ms : List Node) → Told xs ns → Told ys ms → (Fresh ns → AreOnce xs) → (Fresh ms → AreOnce ys) → Fresh (ns ++ ms) → AreOnce (xs ++ ys)
two-once xs ys ns ms a b o k f = let g = parts ns ms f in once-joined xs ys (o g.0) (k g.1) (λ y i j. g.2 (declaration.Local y) (a y i) (b y j))

mutual
  pub names-once : (t : Term) (x : Context) → Fresh (At x t) → AreOnce (definitions t)
  names-once (var_def p v t m e) x f = once-joined (definitions e) (record { name = v; is_mutable = m; value = e } ∷ []) (names-once e x f.1) ((λ n. n), tt) (λ y i j. ⊎_elim (λ same. f.0 (subst (λ (z : List ℕ). Has (declares (At x e)) (declaration.Local z)) (sym same) (told e x y i))) (λ none. none) j)
  names-once (block_of p ts) x f = once_statements ts (in_a_block x) f
  names-once (labeled p l t e) x f = names-once e (with_label l x) f.1
  names-once (assign p e d) x f = two-once (definitions e) (definitions d) (At x e) (At x d) (told e x) (told d x) (names-once e x) (names-once d x) f
  names-once (return_to p e l) x f = names-once e x f
  names-once (if_then p c a b t) x f = two-once (definitions c ++ definitions a) (definitions b) (At x c ++ At x a) (At x b) (two-told (definitions c) (definitions a) (At x c) (At x a) (told c x) (told a x)) (told b x) (two-once (definitions c) (definitions a) (At x c) (At x a) (told c x) (told a x) (names-once c x) (names-once a x)) (names-once b x) f
  names-once (while_loop p c b) x f = two-once (definitions c) (definitions b) (At x c) (At x b) (told c x) (told b x) (names-once c x) (names-once b x) f
  names-once (do_while p b c) x f = two-once (definitions b) (definitions c) (At x b) (At x c) (told b x) (told c x) (names-once b x) (names-once c x) f
  names-once (try_catch p e v d t) x f =
      let h = with_local (caught v) x in
      let apart = parts (At x e) (At h d) f.1 in
      once-joined (definitions e) (record { name = v; is_mutable = false; value = null_literal p } ∷ definitions d) (names-once e x apart.0)
      ((λ n. f.0 (in-right (At x e) (At h d) (declaration.Local v) (told d h v n))), names-once d h apart.1)
      (λ y i j. ⊎_elim (λ same. f.0 (in-left (At x e) (At h d) (declaration.Local v) (subst (λ (z : List ℕ). Has (declares (At x e)) (declaration.Local z)) (sym same) (told e x y i)))) (λ k. apart.2 (declaration.Local y) (told e x y i) (told d h y k)) j)
  names-once (try_finally p e d) x f = two-once (definitions e) (definitions d) (At x e) (At x d) (told e x) (told d x) (names-once e x) (names-once d x) f
  names-once (throw p e) x f = names-once e x f
  names-once (match_on p e cs d t) x f = two-once (definitions e ++ definitions_of_cases cs) (definitions d) (At x e ++ cases_below x cs) (At x d) (two-told (definitions e) (definitions_of_cases cs) (At x e) (cases_below x cs) (told e x) (told_cases cs x)) (told d x) (two-once (definitions e) (definitions_of_cases cs) (At x e) (cases_below x cs) (told e x) (told_cases cs x) (names-once e x) (once_cases cs x)) (names-once d x) f
  names-once (new_object p c m ts) x f = once_all ts x f
  names-once (store_module p c e) x f = names-once e x f
  names-once (select p e c g t) x f = names-once e x f
  names-once (apply p e m ts t) x f = two-once (definitions e) (definitions_in ts) (At x e) (all_below x ts) (told e x) (told_all ts x) (names-once e x) (once_all ts x) f
  names-once (apply_statically p e c k m ts t) x f = two-once (definitions e) (definitions_in ts) (At x e) (all_below x ts) (told e x) (told_all ts x) (names-once e x) (once_all ts x) f
  names-once (apply_static p c k m ts t) x f = once_all ts x f
  names-once (unary_op p o e) x f = names-once e x f
  names-once (binary_op p o e d) x f = two-once (definitions e) (definitions d) (At x e) (At x d) (told e x) (told d x) (names-once e x) (names-once d x) f
  names-once (new_array p r e) x f = names-once e x f
  names-once (array_value p r ts) x f = once_all ts x f
  names-once (array_length p e) x f = names-once e x f
  names-once (array_select p e d t) x f = two-once (definitions e) (definitions d) (At x e) (At x d) (told e x) (told d x) (names-once e x) (names-once d x) f
  names-once (is_instance_of p e t) x f = names-once e x f
  names-once (as_instance_of p e t) x f = names-once e x f
  names-once (log_line p e) x f = names-once e x f
  names-once _ x f = tt

  once_statements : (ts : Terms) (x : Context) → Fresh (statements_below x ts) → AreOnce (definitions_in ts)
  once_statements no_terms x f = tt
  once_statements (more_terms t ts) x f = two-once (definitions t) (definitions_in ts) (At (inside x) t) (statements_below (behind t x) ts) (told t (inside x)) (told_statements ts (behind t x)) (names-once t (inside x)) (once_statements ts (behind t x)) f

  once_all : (ts : Terms) (x : Context) → Fresh (all_below x ts) → AreOnce (definitions_in ts)
  once_all no_terms x f = tt
  once_all (more_terms t ts) x f = two-once (definitions t) (definitions_in ts) (At x t) (all_below x ts) (told t x) (told_all ts x) (names-once t x) (once_all ts x) f

  once_cases : (cs : Cases) (x : Context) → Fresh (cases_below x cs) → AreOnce (definitions_of_cases cs)
  once_cases no_cases x f = tt
  once_cases (more_cases ks t cs) x f = two-once (definitions t) (definitions_of_cases cs) (At x t) (cases_below x cs) (told t x) (told_cases cs x) (names-once t x) (once_cases cs x) f
