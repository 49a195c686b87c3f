-- The mutable locals that a tree defines are among those that desugaring takes for mutable.
use Rattle.std.proofs.Common.{◌≡◌, ℕ, Bool, true, false, List, [], ◌∷◌, ◌++◌, ◌||◌, refl, sym, ap, ◌∙◌, subst, append_assoc}
use Rattle.std.specs.Prelude.{Some, nat_eq, if◌then◌else◌}
use Rattle.std.specs.Cmp.Lexicographic.{pointwise}
use Rattle.sj_emit_expr_spec.specs.Desugar.{is_mutable_in}
use Rattle.sj_emit_expr_spec.specs.Plain.{is_among, if_mutable, mutable_in, mutable_in_all, mutable_in_cases, mutable_params}
use Rattle.sj_trees.specs.Term.{Term, Terms, no_terms, more_terms, Cases, no_cases, more_cases, var_def, block_of, labeled, assign, return_to, if_then, while_loop, do_while, try_catch, try_finally, throw, match_on, new_object, store_module, select, apply, apply_statically, apply_static, unary_op, binary_op, new_array, array_value, array_length, array_select, is_instance_of, as_instance_of, log_line}
use Rattle.sj_trees.specs.declared.classes.MethodDef.{MethodDef}
use Rattle.sj_trees.specs.declared.classes.ParamDef.{ParamDef}
use Rattle.agree_body_rules.proofs.Equal.{equals, is-equal}
use Rattle.sj_names.proofs.Same.{impossible}
use Rattle.agree_body_rules.specs.Locals.{Mutable, local_of}

-- names are put in front of those that are handed over, and these stay as they are
abbrev pub PutsInFront : (List (List ℕ) → List (List ℕ)) → Type 0
PutsInFront f = (xs : List (List ℕ)) → f xs ≡ f [] ++ xs

in_turn : (f g : List (List ℕ) → List (List ℕ)) → PutsInFront f → PutsInFront g → PutsInFront (λ xs. f (g xs))
in_turn f g h k xs = h (g xs) ∙ ap (λ ys. f [] ++ ys) (k xs) ∙ sym (append_assoc (f []) (g []) xs) ∙ ap (λ ys. ys ++ xs) (sym (h (g [])))

front_if : (b : Bool) (x : List ℕ) → PutsInFront (if_mutable b x)
front_if true x xs = refl
front_if false x xs = refl

mutual
  pub front : (t : Term) → PutsInFront (mutable_in t)
  front (var_def p x t b e) = in_turn (if_mutable b x) (mutable_in e) (front_if b x) (front e)
  front (block_of p ts) = front_all ts
  front (labeled p l t e) = front e
  front (assign p d e) = in_turn (mutable_in d) (mutable_in e) (front d) (front e)
  front (return_to p e l) = front e
  front (if_then p c a b t) = in_turn (mutable_in c) (λ xs. mutable_in a (mutable_in b xs)) (front c) (in_turn (mutable_in a) (mutable_in b) (front a) (front b))
  front (while_loop p c b) = in_turn (mutable_in c) (mutable_in b) (front c) (front b)
  front (do_while p b c) = in_turn (mutable_in b) (mutable_in c) (front b) (front c)
  front (try_catch p e x d t) = in_turn (mutable_in e) (mutable_in d) (front e) (front d)
  front (try_finally p e d) = in_turn (mutable_in e) (mutable_in d) (front e) (front d)
  front (throw p e) = front e
  front (match_on p e cs d t) = in_turn (mutable_in e) (λ xs. mutable_in_cases cs (mutable_in d xs)) (front e) (in_turn (mutable_in_cases cs) (mutable_in d) (front_cases cs) (front d))
  front (new_object p c m es) = front_all es
  front (store_module p c e) = front e
  front (select p e c f t) = front e
  front (apply p e m es t) = in_turn (mutable_in e) (mutable_in_all es) (front e) (front_all es)
  front (apply_statically p e c n m es t) = in_turn (mutable_in e) (mutable_in_all es) (front e) (front_all es)
  front (apply_static p c n m es t) = front_all es
  front (unary_op p o e) = front e
  front (binary_op p o e d) = in_turn (mutable_in e) (mutable_in d) (front e) (front d)
  front (new_array p r e) = front e
  front (array_value p r es) = front_all es
  front (array_length p e) = front e
  front (array_select p e d t) = in_turn (mutable_in e) (mutable_in d) (front e) (front d)
  front (is_instance_of p e t) = front e
  front (as_instance_of p e t) = front e
  front (log_line p e) = front e
  front _ = λ xs. refl

  pub front_all : (ts : Terms) → PutsInFront (mutable_in_all ts)
  front_all no_terms = λ xs. refl
  front_all (more_terms t ts) = in_turn (mutable_in t) (mutable_in_all ts) (front t) (front_all ts)

  pub front_cases : (cs : Cases) → PutsInFront (mutable_in_cases cs)
  front_cases no_cases = λ xs. refl
  front_cases (more_cases ns t cs) = in_turn (mutable_in t) (mutable_in_cases cs) (front t) (front_cases cs)

behind_one : (a b : Bool) → b ≡ true → (a || b) ≡ true
behind_one true b h = refl
behind_one false b h = h

at_front : (a b : Bool) → a ≡ true → (a || b) ≡ true
at_front true b h = refl
at_front false b h = impossible h

among_first : (xs ys : List (List ℕ)) (y : List ℕ) → is_among xs y ≡ true → is_among (xs ++ ys) y ≡ true
among_first [] ys y h = impossible h
among_first (x ∷ xs) ys y h = go (pointwise nat_eq y x) h (among_first xs ys y)
  where
    go : (b : Bool) → (b || is_among xs y) ≡ true → (is_among xs y ≡ true → is_among (xs ++ ys) y ≡ true) → (b || is_among (xs ++ ys) y) ≡ true
    go true k later = refl
    go false k later = later k

among_later : (xs ys : List (List ℕ)) (y : List ℕ) → is_among ys y ≡ true → is_among (xs ++ ys) y ≡ true
among_later [] ys y h = h
among_later (x ∷ xs) ys y h = behind_one (pointwise nat_eq y x) (is_among (xs ++ ys) y) (among_later xs ys y h)

-- of two that put names in front one after the other
pub of_first : (is_mutable : List ℕ → Bool) (f g : List (List ℕ) → List (List ℕ)) → PutsInFront f → Mutable is_mutable (λ xs. f (g xs)) → Mutable is_mutable f
of_first is_mutable f g h mutable y i = mutable y (subst (λ zs. is_among zs y ≡ true) (sym (h (g []))) (among_first (f []) (g []) y i))

pub of_second : (is_mutable : List ℕ → Bool) (f g : List (List ℕ) → List (List ℕ)) → PutsInFront f → Mutable is_mutable (λ xs. f (g xs)) → Mutable is_mutable g
of_second is_mutable f g h mutable y i = mutable y (subst (λ zs. is_among zs y ≡ true) (sym (h (g []))) (among_later (f []) (g []) y i))

-- the name is among these, also where others stand in front
abbrev Keeps : (List (List ℕ) → List (List ℕ)) → List ℕ → Type 0
Keeps f y = (xs : List (List ℕ)) → is_among xs y ≡ true → is_among (f xs) y ≡ true

if-keeps : (b : Bool) (x y : List ℕ) → Keeps (if_mutable b x) y
if-keeps true x y xs h = behind_one (pointwise nat_eq y x) (is_among xs y) h
if-keeps false x y xs h = h

if-here : (b : Bool) (x y : List ℕ) (xs : List (List ℕ)) → b ≡ true → y ≡ x → is_among (if_mutable b x xs) y ≡ true
if-here true x y xs h e = at_front (pointwise nat_eq y x) (is_among xs y) (ap (pointwise nat_eq y) (sym e) ∙ equals y)
if-here false x y xs h e = impossible h

-- a mutable local that is defined
pub of_definition : (is_mutable : List ℕ → Bool) (b : Bool) (x : List ℕ) (f : List (List ℕ) → List (List ℕ)) → Mutable is_mutable (λ xs. if_mutable b x (f xs)) → b ≡ true → is_mutable x ≡ true
of_definition is_mutable b x f mutable i = mutable x (if-here b x x (f []) i refl)

pub of_value : (is_mutable : List ℕ → Bool) (b : Bool) (x : List ℕ) (f : List (List ℕ) → List (List ℕ)) → Mutable is_mutable (λ xs. if_mutable b x (f xs)) → Mutable is_mutable f
of_value is_mutable b x f mutable = of_second is_mutable (if_mutable b x) f (front_if b x) mutable

params-keep : (ds : List ParamDef) (y : List ℕ) → Keeps (mutable_params ds) y
params-keep [] y xs h = h
params-keep (d ∷ ds) y xs h = if-keeps d.«mutable» d.name y (mutable_params ds xs) (params-keep ds y xs h)

-- a mutable parameter
params-among : (ds : List ParamDef) (y : List ℕ) (d : ParamDef) → local_of ds y ≡ Some d → d.«mutable» ≡ true → (xs : List (List ℕ)) → is_among (mutable_params ds xs) y ≡ true
params-among [] y d e m xs = impossible (cc)
params-among (c ∷ cs) y d e m xs = go (pointwise nat_eq y c.name) refl e (λ k. params-among cs y d k m xs)
  where
    go : (b : Bool) → pointwise nat_eq y c.name ≡ b → (if b then Some c else local_of cs y) ≡ Some d → (local_of cs y ≡ Some d → is_among (mutable_params cs xs) y ≡ true) → is_among (if_mutable c.«mutable» c.name (mutable_params cs xs)) y ≡ true
    go true i k later = let same : c ≡ d = cc in if-here c.«mutable» c.name y (mutable_params cs xs) (ap (λ (a : ParamDef). a.«mutable») same ∙ m) (is-equal y c.name i)
    go false i k later = if-keeps c.«mutable» c.name y (mutable_params cs xs) (later k)

-- what is a mutable local is taken for one
pub mutable-known : (d : MethodDef) (e : Term) → Mutable (is_mutable_in d e) (mutable_in e)
mutable-known d e y i = params-keep d.params y (mutable_in e []) i

pub parameter-known : (d : MethodDef) (e : Term) (y : List ℕ) (p : ParamDef) → local_of d.params y ≡ Some p → p.«mutable» ≡ true → is_mutable_in d e y ≡ true
parameter-known d e y p i m = params-among d.params y p i m (mutable_in e [])
