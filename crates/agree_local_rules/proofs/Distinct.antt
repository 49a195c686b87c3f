-- A method in which nothing is declared twice defines each local once, and no label stands inside itself.
use Rattle.std.proofs.Common.{◌≡◌, ℕ, Bool, true, false, ◌||◌, not, List, [], ◌∷◌, ◌++◌, refl, sym, ap, ◌∙◌, subst, ◌⊎◌, inl, inr, ⊎_elim, append_assoc}
use Rattle.std.specs.Prelude.{nat_eq}
use Rattle.std.specs.List.{list_any}
use Rattle.std.specs.Cmp.Lexicographic.{pointwise}
use Rattle.sj_local.specs.declared.walks.Declaration.{Declaration}
use Rattle.sj_local.specs.declared.walks.Declaration.TheVariants as declaration
use Rattle.sj_local.specs.Nodes.{Context, Node, node, inside, in_a_block, with_label, with_local, caught, behind, below, statements_below, all_below, cases_below}
use Rattle.sj_local.specs.TreeRules.{declarations}
use Rattle.sj_names.specs.declared.method_names.Namespace.{Namespace}
use Rattle.sj_trees.specs.Term.{Term, Terms, no_terms, more_terms, Cases, no_cases, more_cases, var_def, skip, block_of, labeled, assign, return_to, if_then, while_loop, do_while, throw, try_catch, try_finally, match_on, new_object, new_array, array_value, array_length, array_select, select, apply, apply_statically, apply_static, unary_op, binary_op, is_instance_of, as_instance_of, log_line, store_module}
use Rattle.agree_early_errors.specs.Locals.{Own, OwnAll, OwnCases}
use Rattle.agree_early_errors.proofs.Equal.{is-equal}
use Rattle.sj_names.proofs.Same.{impossible}
use Rattle.agree_early_errors.specs.Once.{IsAmong, Apart, Once, OnceAll, OnceCases}
use Rattle.agree_local_rules.proofs.Kept.{Keeps, AllKeep, keep-front, keep-behind}

-- what nodes declare
abbrev pub declares : List Node → List Declaration
declares [] = []
declares (x ∷ xs) = declarations x.tree ++ declares xs

-- an element, by where it stands
abbrev pub Has : List Declaration → Declaration → Type 0
Has [] d = ⊥
Has (x ∷ xs) d = (d ≡ x) ⊎ Has xs d

has-left : (xs ys : List Declaration) (d : Declaration) → Has xs d → Has (xs ++ ys) d
has-left [] ys d h = absurd h
has-left (x ∷ xs) ys d (inl e) = inl e
has-left (x ∷ xs) ys d (inr h) = inr (has-left xs ys d h)

pub has-right : (xs ys : List Declaration) (d : Declaration) → Has ys d → Has (xs ++ ys) d
has-right [] ys d h = h
has-right (x ∷ xs) ys d h = inr (has-right xs ys d h)

declares-append : (xs ys : List Node) → declares (xs ++ ys) ≡ declares xs ++ declares ys
declares-append [] ys = refl
declares-append (x ∷ xs) ys = ap (λ ds. declarations x.tree ++ ds) (declares-append xs ys) ∙ sym (append_assoc (declarations x.tree) (declares xs) (declares ys))

-- nothing comes twice
abbrev pub NoRepeat : List Declaration → Type 0
NoRepeat [] = Unit {0}
NoRepeat (x ∷ xs) = (Has xs x → ⊥) × NoRepeat xs

pub repeat-parts : (xs ys : List Declaration) → NoRepeat (xs ++ ys) → NoRepeat xs × NoRepeat ys × ((d : Declaration) → Has xs d → Has ys d → ⊥)
repeat-parts [] ys h = (tt, h, λ d i k. i)
repeat-parts (x ∷ xs) ys h = let r = repeat-parts xs ys h.1 in ((λ i. h.0 (has-left xs ys x i), r.0), r.1, λ d i k. ⊎_elim (λ e. h.0 (has-right xs ys x (subst (Has ys) e k))) (λ j. r.2 d j k) i)

abbrev pub Fresh : List Node → Type 0
Fresh xs = NoRepeat (declares xs)

pub parts : (xs ys : List Node) → Fresh (xs ++ ys) → Fresh xs × Fresh ys × ((d : Declaration) → Has (declares xs) d → Has (declares ys) d → ⊥)
parts xs ys h = repeat-parts (declares xs) (declares ys) (subst NoRepeat (declares-append xs ys) h)

pub in-left : (xs ys : List Node) (d : Declaration) → Has (declares xs) d → Has (declares (xs ++ ys)) d
in-left xs ys d h = subst (λ l. Has l d) (sym (declares-append xs ys)) (has-left (declares xs) (declares ys) d h)

pub in-right : (xs ys : List Node) (d : Declaration) → Has (declares ys) d → Has (declares (xs ++ ys)) d
in-right xs ys d h = subst (λ l. Has l d) (sym (declares-append xs ys)) (has-right (declares xs) (declares ys) d h)

abbrev At : Context → Term → List Node
At x t = node x t ∷ below x t

mutual
  pub own-declares : (t : Term) (x : Context) (y : List ℕ) → Own t y → Has (declares (At x t)) (declaration.Local y)
  own-declares (var_def p n t m e) x y (inl i) = inl (ap declaration.Local (sym i))
  own-declares (var_def p n t m e) x y (inr o) = inr (own-declares e x y o)
  own-declares (block_of p ts) x y o = own-statements ts (in_a_block x) y o
  own-declares (labeled p l t e) x y o = inr (own-declares e (with_label l x) y o)
  own-declares (assign p (select q d c f t) e) x y (inl o) = in-left (At x (select q d c f t)) (At x e) (declaration.Local y) (own-declares d x y o)
  own-declares (assign p (select q d c f t) e) x y (inr o) = in-right (At x (select q d c f t)) (At x e) (declaration.Local y) (own-declares e x y o)
  own-declares (assign p (array_select q d i t) e) x y (inl o) = in-left (At x (array_select q d i t)) (At x e) (declaration.Local y) (in-left (At x d) (At x i) (declaration.Local y) (own-declares d x y o))
  own-declares (assign p (array_select q d i t) e) x y (inr (inl o)) = in-left (At x (array_select q d i t)) (At x e) (declaration.Local y) (in-right (At x d) (At x i) (declaration.Local y) (own-declares i x y o))
  own-declares (assign p (array_select q d i t) e) x y (inr (inr o)) = in-right (At x (array_select q d i t)) (At x e) (declaration.Local y) (own-declares e x y o)
  own-declares (assign p a e) x y o = in-right (At x a) (At x e) (declaration.Local y) (own-declares e x y o)
  own-declares (throw p e) x y o = own-declares e x y o
  own-declares (store_module p c e) x y o = own-declares e x y o
  own-declares (return_to p e l) x y o = own-declares e x y o
  own-declares (if_then p c a b t) x y (inl o) = in-left (At x c ++ At x a) (At x b) (declaration.Local y) (in-left (At x c) (At x a) (declaration.Local y) (own-declares c x y o))
  own-declares (if_then p c a b t) x y (inr (inl o)) = in-left (At x c ++ At x a) (At x b) (declaration.Local y) (in-right (At x c) (At x a) (declaration.Local y) (own-declares a x y o))
  own-declares (if_then p c a b t) x y (inr (inr o)) = in-right (At x c ++ At x a) (At x b) (declaration.Local y) (own-declares b x y o)
  own-declares (while_loop p c b) x y (inl o) = in-left (At x c) (At x b) (declaration.Local y) (own-declares c x y o)
  own-declares (while_loop p c b) x y (inr o) = in-right (At x c) (At x b) (declaration.Local y) (own-declares b x y o)
  own-declares (do_while p b c) x y (inl o) = in-left (At x b) (At x c) (declaration.Local y) (own-declares b x y o)
  own-declares (do_while p b c) x y (inr o) = in-right (At x b) (At x c) (declaration.Local y) (own-declares c x y o)
  own-declares (try_catch p e v d t) x y (inl same) = inl (ap declaration.Local (sym same))
  own-declares (try_catch p e v d t) x y (inr (inl o)) = inr (in-left (At x e) (At (with_local (caught v) x) d) (declaration.Local y) (own-declares e x y o))
  own-declares (try_catch p e v d t) x y (inr (inr o)) = inr (in-right (At x e) (At (with_local (caught v) x) d) (declaration.Local y) (own-declares d (with_local (caught v) x) y o))
  own-declares (try_finally p e d) x y (inl o) = in-left (At x e) (At x d) (declaration.Local y) (own-declares e x y o)
  own-declares (try_finally p e d) x y (inr o) = in-right (At x e) (At x d) (declaration.Local y) (own-declares d x y o)
  own-declares (match_on p e cs d t) x y (inl o) = in-left (At x e ++ cases_below x cs) (At x d) (declaration.Local y) (in-left (At x e) (cases_below x cs) (declaration.Local y) (own-declares e x y o))
  own-declares (match_on p e cs d t) x y (inr (inl o)) = in-left (At x e ++ cases_below x cs) (At x d) (declaration.Local y) (in-right (At x e) (cases_below x cs) (declaration.Local y) (own-cases cs x y o))
  own-declares (match_on p e cs d t) x y (inr (inr o)) = in-right (At x e ++ cases_below x cs) (At x d) (declaration.Local y) (own-declares d x y o)
  own-declares (new_object p c m ts) x y o = own-all ts x y o
  own-declares (select p e c f t) x y o = own-declares e x y o
  own-declares (apply p e m ts t) x y (inl o) = in-left (At x e) (all_below x ts) (declaration.Local y) (own-declares e x y o)
  own-declares (apply_statically p e c n m ts t) x y (inl o) = in-left (At x e) (all_below x ts) (declaration.Local y) (own-declares e x y o)
  own-declares (apply p e m ts t) x y (inr o) = in-right (At x e) (all_below x ts) (declaration.Local y) (own-all ts x y o)
  own-declares (apply_statically p e c n m ts t) x y (inr o) = in-right (At x e) (all_below x ts) (declaration.Local y) (own-all ts x y o)
  own-declares (apply_static p c n m ts t) x y o = own-all ts x y o
  own-declares (unary_op p q e) x y o = own-declares e x y o
  own-declares (new_array p r e) x y o = own-declares e x y o
  own-declares (array_value p r ts) x y o = own-all ts x y o
  own-declares (array_length p e) x y o = own-declares e x y o
  own-declares (array_select p e i t) x y (inl o) = in-left (At x e) (At x i) (declaration.Local y) (own-declares e x y o)
  own-declares (array_select p e i t) x y (inr o) = in-right (At x e) (At x i) (declaration.Local y) (own-declares i x y o)
  own-declares (is_instance_of p e t) x y o = own-declares e x y o
  own-declares (as_instance_of p e t) x y o = own-declares e x y o
  own-declares (binary_op p q e d) x y (inl o) = in-left (At x e) (At x d) (declaration.Local y) (own-declares e x y o)
  own-declares (binary_op p q e d) x y (inr o) = in-right (At x e) (At x d) (declaration.Local y) (own-declares d x y o)
  own-declares (log_line p e) x y o = own-declares e x y o
  own-declares _ x y o = absurd o

  own-statements : (ts : Terms) (x : Context) (y : List ℕ) → OwnAll ts y → Has (declares (statements_below x ts)) (declaration.Local y)
  own-statements no_terms x y o = absurd o
  own-statements (more_terms t ts) x y (inl o) = in-left (At (inside x) t) (statements_below (behind t x) ts) (declaration.Local y) (own-declares t (inside x) y o)
  own-statements (more_terms t ts) x y (inr o) = in-right (At (inside x) t) (statements_below (behind t x) ts) (declaration.Local y) (own-statements ts (behind t x) y o)

  own-all : (ts : Terms) (x : Context) (y : List ℕ) → OwnAll ts y → Has (declares (all_below x ts)) (declaration.Local y)
  own-all no_terms x y o = absurd o
  own-all (more_terms t ts) x y (inl o) = in-left (At x t) (all_below x ts) (declaration.Local y) (own-declares t x y o)
  own-all (more_terms t ts) x y (inr o) = in-right (At x t) (all_below x ts) (declaration.Local y) (own-all ts x y o)

  own-cases : (cs : Cases) (x : Context) (y : List ℕ) → OwnCases cs y → Has (declares (cases_below x cs)) (declaration.Local y)
  own-cases no_cases x y o = absurd o
  own-cases (more_cases ns t cs) x y (inl o) = in-left (At x t) (cases_below x cs) (declaration.Local y) (own-declares t x y o)
  own-cases (more_cases ns t cs) x y (inr o) = in-right (At x t) (cases_below x cs) (declaration.Local y) (own-cases cs x y o)

-- the labels around are those that the rules know, and none is declared here
pub record Around (labels : List (List ℕ)) (around : List (List ℕ)) : Type 0 where
  pub known : (l : List ℕ) → list_any (pointwise nat_eq l) labels ≡ true → IsAmong around l

abbrev pub Out : List (List ℕ) → List Node → Type 0
Out around xs = (l : List ℕ) → IsAmong around l → Has (declares xs) (declaration.Label l) → ⊥

label-behind : (labels : List (List ℕ)) (l m : List ℕ) → list_any (pointwise nat_eq m) (labels ++ l ∷ []) ≡ true → (m ≡ l) ⊎ (list_any (pointwise nat_eq m) labels ≡ true)
label-behind [] l m h = go (pointwise nat_eq m l) refl h
  where
    go : (b : Bool) → pointwise nat_eq m l ≡ b → (b || false) ≡ true → (m ≡ l) ⊎ (list_any (pointwise nat_eq m) [] ≡ true)
    go true e k = inl (is-equal m l e)
    go false e k = impossible k
label-behind (q ∷ qs) l m h = go (pointwise nat_eq m q) h (label-behind qs l m)
  where
    go : (b : Bool) → (b || list_any (pointwise nat_eq m) (qs ++ l ∷ [])) ≡ true → (list_any (pointwise nat_eq m) (qs ++ l ∷ []) ≡ true → (m ≡ l) ⊎ (list_any (pointwise nat_eq m) qs ≡ true)) → (m ≡ l) ⊎ ((b || list_any (pointwise nat_eq m) qs) ≡ true)
    go true k after_it = inr refl
    go false k after_it = after_it k

around-label : (labels around : List (List ℕ)) (l : List ℕ) → Around labels around → Around (labels ++ l ∷ []) (l ∷ around)
around-label labels around l h = record { known = λ m i. ⊎_elim (λ e. inl e) (λ k. inr (h.known m k)) (label-behind labels l m i) }

out-left : (around : List (List ℕ)) (xs ys : List Node) → Out around (xs ++ ys) → Out around xs
out-left around xs ys h l i k = h l i (in-left xs ys (declaration.Label l) k)

out-right : (around : List (List ℕ)) (xs ys : List Node) → Out around (xs ++ ys) → Out around ys
out-right around xs ys h l i k = h l i (in-right xs ys (declaration.Label l) k)

-- two parts define nothing in common
apart : (one other : List ℕ → Type 0) (xs ys : List Node) → ((y : List ℕ) → one y → Has (declares xs) (declaration.Local y)) → ((y : List ℕ) → other y → Has (declares ys) (declaration.Local y)) → ((d : Declaration) → Has (declares xs) d → Has (declares ys) d → ⊥) → Apart one other
apart one other xs ys a b h y i k = h (declaration.Local y) (a y i) (b y k)

not_false : (b : Bool) → not b ≡ false → b ≡ true
not_false true h = refl
not_false false h = impossible (sym h)

module _ (owner : List ℕ) (space : Namespace) where
  -- two trees one behind the other
  two_by : (c b : Term) (x : Context) (around : List (List ℕ)) → (Keeps owner space (node x c) → AllKeep owner space (below x c) → Fresh (At x c) → Out around (At x c) → Once around c) → (Keeps owner space (node x b) → AllKeep owner space (below x b) → Fresh (At x b) → Out around (At x b) → Once around b) → AllKeep owner space (At x c ++ At x b) → Fresh (At x c ++ At x b) → Out around (At x c ++ At x b) → Once around c × Once around b × Apart (Own c) (Own b)
  two_by c b x a first second h f o =
      let g = parts (At x c) (At x b) f in
      let v = keep-front owner space (At x c) (At x b) h in
      let w = keep-behind owner space (At x c) (At x b) h in
      (first v.0 v.1 g.0 (out-left a (At x c) (At x b) o), second w.0 w.1 g.1 (out-right a (At x c) (At x b) o), apart (Own c) (Own b) (At x c) (At x b) (own-declares c x) (own-declares b x) g.2)

  mutual
    pub once : (t : Term) (x y : Context) (around : List (List ℕ)) → y.labels ≡ x.labels → Around x.labels around → Keeps owner space (node y t) → AllKeep owner space (below x t) → Fresh (At x t) → Out around (At x t) → Once around t
    once (var_def p n t m e) x y a z l k h f o = ((λ i. f.0 (own-declares e x n i)), once e x x a refl l h.0 h.1 f.1 (λ q i w. o q i (inr w)))
    once (skip p) x y a z l k h f o = tt
    once (block_of p ts) x y a z l k h f o = once_statements ts (in_a_block x) a l h f o
    once (labeled p q t e) x y a z l k h f o = ((λ i. o q i (inl refl)), once e (with_label q x) (with_label q x) (q ∷ a) refl (around-label x.labels a q l) h.0 h.1 f.1 (λ r i w. ⊎_elim (λ same. f.0 (subst (λ v. Has (declares (At (with_label q x) e)) (declaration.Label v)) same w)) (λ j. o r j (inr w)) i))
    once (assign p (select q d c r t) e) x y a z l k h f o =
        let v = keep-front owner space (At x (select q d c r t)) (At x e) h in
        let m = keep-behind owner space (At x (select q d c r t)) (At x e) h in
        let g = parts (At x (select q d c r t)) (At x e) f in
        (once d x x a refl l v.1.0 v.1.1 g.0 (out-left a (At x (select q d c r t)) (At x e) o), once e x x a refl l m.0 m.1 g.1 (out-right a (At x (select q d c r t)) (At x e) o), apart (Own d) (Own e) (At x (select q d c r t)) (At x e) (own-declares d x) (own-declares e x) g.2)
    once (assign p (array_select q d i t) e) x y a z l k h f o =
        let v = keep-front owner space (At x (array_select q d i t)) (At x e) h in
        let m = keep-behind owner space (At x (array_select q d i t)) (At x e) h in
        let g = parts (At x (array_select q d i t)) (At x e) f in
        let r = out-left a (At x (array_select q d i t)) (At x e) o in
        let w = two_by d i x a (once d x x a refl l) (once i x x a refl l) v.1 g.0 r in (
          w.0,
          w.1,
          once e x x a refl l m.0 m.1 g.1 (out-right a (At x (array_select q d i t)) (At x e) o),
          (λ u j n. ⊎_elim (λ n. w.2 u j n) (λ n. apart (Own d) (Own e) (At x (array_select q d i t)) (At x e) (λ u j. in-left (At x d) (At x i) (declaration.Local u) (own-declares d x u j)) (own-declares e x) g.2 u j n) n),
          apart (Own i) (Own e) (At x (array_select q d i t)) (At x e) (λ u j. in-right (At x d) (At x i) (declaration.Local u) (own-declares i x u j)) (own-declares e x) g.2,
        )
    once (assign p d e) x y a z l k h f o = let m = keep-behind owner space (At x d) (At x e) h in once e x x a refl l m.0 m.1 (parts (At x d) (At x e) f).1 (out-right a (At x d) (At x e) o)
    once (throw p e) x y a z l k h f o = once e x x a refl l h.0 h.1 f o
    once (store_module p c e) x y a z l k h f o = once e x x a refl l h.0 h.1 f o
    once (return_to p e q) x y a z l k h f o = (l.known q (not_false (list_any (pointwise nat_eq q) x.labels) (subst (λ r. not (list_any (pointwise nat_eq q) r) ≡ false) z k.jump)), once e x x a refl l h.0 h.1 f o)
    once (if_then p c d e t) x y a z l k h f o =
        let g = parts (At x c ++ At x d) (At x e) f in
        let i = parts (At x c) (At x d) g.0 in
        let m = keep-front owner space (At x c ++ At x d) (At x e) h in
        let v = keep-front owner space (At x c) (At x d) m in
        let q = keep-behind owner space (At x c) (At x d) m in
        let w = keep-behind owner space (At x c ++ At x d) (At x e) h in
        let r = out-left a (At x c ++ At x d) (At x e) o in (
          once c x x a refl l v.0 v.1 i.0 (out-left a (At x c) (At x d) r),
          once d x x a refl l q.0 q.1 i.1 (out-right a (At x c) (At x d) r),
          once e x x a refl l w.0 w.1 g.1 (out-right a (At x c ++ At x d) (At x e) o),
          apart (Own c) (Own d) (At x c) (At x d) (own-declares c x) (own-declares d x) i.2,
          apart (Own c) (Own e) (At x c ++ At x d) (At x e) (λ y j. in-left (At x c) (At x d) (declaration.Local y) (own-declares c x y j)) (own-declares e x) g.2,
          apart (Own d) (Own e) (At x c ++ At x d) (At x e) (λ y j. in-right (At x c) (At x d) (declaration.Local y) (own-declares d x y j)) (own-declares e x) g.2,
        )
    once (while_loop p c b) x y a z l k h f o = two_by c b x a (once c x x a refl l) (once b x x a refl l) h f o
    once (do_while p b c) x y a z l k h f o = two_by b c x a (once b x x a refl l) (once c x x a refl l) h f o
    once (try_catch p e v d t) x y a z l k h f o =
        let c = with_local (caught v) x in
        let g = parts (At x e) (At c d) f.1 in
        let m = keep-front owner space (At x e) (At c d) h in
        let w = keep-behind owner space (At x e) (At c d) h in
        let r : Out a (At x e ++ At c d) = λ q i j. o q i (inr j) in (
          (λ i. f.0 (in-left (At x e) (At c d) (declaration.Local v) (own-declares e x v i))),
          (λ i. f.0 (in-right (At x e) (At c d) (declaration.Local v) (own-declares d c v i))),
          once e x x a refl l m.0 m.1 g.0 (out-left a (At x e) (At c d) r),
          once d c c a refl l w.0 w.1 g.1 (out-right a (At x e) (At c d) r),
          apart (Own e) (Own d) (At x e) (At c d) (own-declares e x) (own-declares d c) g.2,
        )
    once (try_finally p e d) x y a z l k h f o = two_by e d x a (once e x x a refl l) (once d x x a refl l) h f o
    once (match_on p e cs d t) x y a z l k h f o =
        let g = parts (At x e ++ cases_below x cs) (At x d) f in
        let i = parts (At x e) (cases_below x cs) g.0 in
        let m = keep-front owner space (At x e ++ cases_below x cs) (At x d) h in
        let v = keep-front owner space (At x e) (cases_below x cs) m in
        let w = keep-behind owner space (At x e ++ cases_below x cs) (At x d) h in
        let r = out-left a (At x e ++ cases_below x cs) (At x d) o in (
          once e x x a refl l v.0 v.1 i.0 (out-left a (At x e) (cases_below x cs) r),
          once_cases cs x a l (keep-behind owner space (At x e) (cases_below x cs) m) i.1 (out-right a (At x e) (cases_below x cs) r),
          once d x x a refl l w.0 w.1 g.1 (out-right a (At x e ++ cases_below x cs) (At x d) o),
          apart (Own e) (OwnCases cs) (At x e) (cases_below x cs) (own-declares e x) (own-cases cs x) i.2,
          apart (Own e) (Own d) (At x e ++ cases_below x cs) (At x d) (λ y j. in-left (At x e) (cases_below x cs) (declaration.Local y) (own-declares e x y j)) (own-declares d x) g.2,
          apart (OwnCases cs) (Own d) (At x e ++ cases_below x cs) (At x d) (λ y j. in-right (At x e) (cases_below x cs) (declaration.Local y) (own-cases cs x y j)) (own-declares d x) g.2,
        )
    once (new_object p c m ts) x y a z l k h f o = once_all ts x a l h f o
    once (select p e c q t) x y a z l k h f o = once e x x a refl l h.0 h.1 f o
    once (new_array p r e) x y a z l k h f o = once e x x a refl l h.0 h.1 f o
    once (array_value p r ts) x y a z l k h f o = once_all ts x a l h f o
    once (array_length p e) x y a z l k h f o = once e x x a refl l h.0 h.1 f o
    once (array_select p e i t) x y a z l k h f o = two_by e i x a (once e x x a refl l) (once i x x a refl l) h f o
    once (apply p e m ts t) x y a z l k h f o =
        let g = parts (At x e) (all_below x ts) f in
        let v = keep-front owner space (At x e) (all_below x ts) h in
        (once e x x a refl l v.0 v.1 g.0 (out-left a (At x e) (all_below x ts) o), once_all ts x a l (keep-behind owner space (At x e) (all_below x ts) h) g.1 (out-right a (At x e) (all_below x ts) o), apart (Own e) (OwnAll ts) (At x e) (all_below x ts) (own-declares e x) (own-all ts x) g.2)
    once (apply_statically p e c n m ts t) x y a z l k h f o =
        let g = parts (At x e) (all_below x ts) f in
        let v = keep-front owner space (At x e) (all_below x ts) h in
        (once e x x a refl l v.0 v.1 g.0 (out-left a (At x e) (all_below x ts) o), once_all ts x a l (keep-behind owner space (At x e) (all_below x ts) h) g.1 (out-right a (At x e) (all_below x ts) o), apart (Own e) (OwnAll ts) (At x e) (all_below x ts) (own-declares e x) (own-all ts x) g.2)
    once (apply_static p c n m ts t) x y a z l k h f o = once_all ts x a l h f o
    once (unary_op p q e) x y a z l k h f o = once e x x a refl l h.0 h.1 f o
    once (is_instance_of p e t) x y a z l k h f o = once e x x a refl l h.0 h.1 f o
    once (as_instance_of p e t) x y a z l k h f o = once e x x a refl l h.0 h.1 f o
    once (binary_op p q e d) x y a z l k h f o = two_by e d x a (once e x x a refl l) (once d x x a refl l) h f o
    once (log_line p e) x y a z l k h f o = once e x x a refl l h.0 h.1 f o
    once _ x y a z l k h f o = tt

    once_statements : (ts : Terms) (x : Context) (around : List (List ℕ)) → Around x.labels around → AllKeep owner space (statements_below x ts) → Fresh (statements_below x ts) → Out around (statements_below x ts) → OnceAll around ts
    once_statements no_terms x a l h f o = tt
    once_statements (more_terms t ts) x a l h f o =
        let g = parts (At (inside x) t) (statements_below (behind t x) ts) f in
        (once t (inside x) x a refl l h.0 (keep-front owner space (below (inside x) t) (statements_below (behind t x) ts) h.1) g.0 (out-left a (At (inside x) t) (statements_below (behind t x) ts) o), once_statements ts (behind t x) a l (keep-behind owner space (below (inside x) t) (statements_below (behind t x) ts) h.1) g.1 (out-right a (At (inside x) t) (statements_below (behind t x) ts) o), apart (Own t) (OwnAll ts) (At (inside x) t) (statements_below (behind t x) ts) (own-declares t (inside x)) (own-statements ts (behind t x)) g.2)

    once_all : (ts : Terms) (x : Context) (around : List (List ℕ)) → Around x.labels around → AllKeep owner space (all_below x ts) → Fresh (all_below x ts) → Out around (all_below x ts) → OnceAll around ts
    once_all no_terms x a l h f o = tt
    once_all (more_terms t ts) x a l h f o =
        let g = parts (At x t) (all_below x ts) f in
        (once t x x a refl l h.0 (keep-front owner space (below x t) (all_below x ts) h.1) g.0 (out-left a (At x t) (all_below x ts) o), once_all ts x a l (keep-behind owner space (below x t) (all_below x ts) h.1) g.1 (out-right a (At x t) (all_below x ts) o), apart (Own t) (OwnAll ts) (At x t) (all_below x ts) (own-declares t x) (own-all ts x) g.2)

    once_cases : (cs : Cases) (x : Context) (around : List (List ℕ)) → Around x.labels around → AllKeep owner space (cases_below x cs) → Fresh (cases_below x cs) → Out around (cases_below x cs) → OnceCases around cs
    once_cases no_cases x a l h f o = tt
    once_cases (more_cases ns t cs) x a l h f o =
        let g = parts (At x t) (cases_below x cs) f in
        (once t x x a refl l h.0 (keep-front owner space (below x t) (cases_below x cs) h.1) g.0 (out-left a (At x t) (cases_below x cs) o), once_cases cs x a l (keep-behind owner space (below x t) (cases_below x cs) h.1) g.1 (out-right a (At x t) (cases_below x cs) o), apart (Own t) (OwnCases cs) (At x t) (cases_below x cs) (own-declares t x) (own-cases cs x) g.2)
