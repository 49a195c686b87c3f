-- A tree in which each local is defined once and each jump is to a label around it is placed where its jumps and its finalizers may be, and the other way round.
use Rattle.std.proofs.Common.{◌≡◌, ◌∙◌, ℕ, Bool, true, false, ◌||◌, List, [], ◌∷◌, ◌++◌, refl, ap, ◌⊎◌, inl, inr, ⊎_elim, if◌then◌else◌}
use Rattle.std.specs.Prelude.{nat_eq}
use Rattle.std.specs.Cmp.Lexicographic.{pointwise}
use Rattle.sj_names.proofs.Same.{impossible, text-same}
use Rattle.agree_early_errors.proofs.Equal.{equals}
use Rattle.agree_bodies.specs.Placed.{Placed, PlacedAll, PlacedCases, with_reach}
use Rattle.agree_early_errors.specs.Finalizers.{holds_finally, hold_finally, cases_hold_finally, left_labels, all_left_labels, cases_left_labels, if_outside}
use Rattle.agree_early_errors.specs.Once.{Once, OnceAll, OnceCases}
use Rattle.agree_early_errors.specs.Plain.{is_among}
use Rattle.sj_trees.specs.Term.{Term, Terms, no_terms, more_terms, Cases, no_cases, more_cases, var_def, block_of, labeled, assign, return_to, if_then, while_loop, do_while, throw, try_catch, try_finally, match_on, new_object, new_array, array_value, array_length, array_select, select, apply, apply_statically, apply_static, unary_op, binary_op, is_instance_of, as_instance_of, log_line, store_module}

mutual
  pub once_of : (to : List ℕ → Type 0) (may : Type 0) (ls : List (List ℕ)) (t : Term) → Placed to may ls t → Once ls t
  once_of to may ls (var_def p x t b e) h = (h.0, once_of to may ls e h.1)
  once_of to may ls (block_of p ts) h = once_of_all to may ls ts h
  once_of to may ls (labeled p l t e) h = (h.0, once_of (with_reach l to) may (l ∷ ls) e h.1)
  once_of to may ls (assign p (select q d c f t) e) h = (once_of to may ls d h.0, once_of to may ls e h.1, h.2)
  once_of to may ls (assign p (array_select q d i t) e) h = (once_of to may ls d h.0, once_of to may ls i h.1, once_of to may ls e h.2, h.3, h.4)
  once_of to may ls (assign p d e) h = once_of to may ls e h
  once_of to may ls (throw p e) h = once_of to may ls e h
  once_of to may ls (store_module p c e) h = once_of to may ls e h
  once_of to may ls (return_to p e l) h = (h.0.0, once_of to may ls e h.1)
  once_of to may ls (if_then p c a b t) h = (once_of to may ls c h.0, once_of to may ls a h.1, once_of to may ls b h.2, h.3, h.4, h.5)
  once_of to may ls (while_loop p c b) h = (once_of to may ls c h.0, once_of to may ls b h.1, h.2)
  once_of to may ls (do_while p b c) h = (once_of to may ls b h.0, once_of to may ls c h.1, h.2)
  once_of to may ls (try_catch p e x d t) h = (h.0, h.1, once_of to may ls e h.2, once_of to may ls d h.3, h.4)
  once_of to may ls (try_finally p e d) h = (once_of to may ls e h.1, once_of to may ls d h.2, h.3)
  once_of to may ls (match_on p e cs d t) h = (once_of to may ls e h.0, once_of_cases to may ls cs h.1, once_of to may ls d h.2, h.3, h.4, h.5)
  once_of to may ls (new_object p c m ts) h = once_of_all to may ls ts h
  once_of to may ls (select p e c f t) h = once_of to may ls e h
  once_of to may ls (apply p e m ts t) h = (once_of to may ls e h.0, once_of_all to may ls ts h.1, h.2)
  once_of to may ls (apply_statically p e c n m ts t) h = (once_of to may ls e h.0, once_of_all to may ls ts h.1, h.2)
  once_of to may ls (apply_static p c n m ts t) h = once_of_all to may ls ts h
  once_of to may ls (unary_op p o e) h = once_of to may ls e h
  once_of to may ls (new_array p r e) h = once_of to may ls e h
  once_of to may ls (array_value p r ts) h = once_of_all to may ls ts h
  once_of to may ls (array_length p e) h = once_of to may ls e h
  once_of to may ls (array_select p e i t) h = (once_of to may ls e h.0, once_of to may ls i h.1, h.2)
  once_of to may ls (is_instance_of p e t) h = once_of to may ls e h
  once_of to may ls (as_instance_of p e t) h = once_of to may ls e h
  once_of to may ls (binary_op p o e d) h = (once_of to may ls e h.0, once_of to may ls d h.1, h.2)
  once_of to may ls (log_line p e) h = once_of to may ls e h
  once_of to may ls _ h = tt

  pub once_of_all : (to : List ℕ → Type 0) (may : Type 0) (ls : List (List ℕ)) (ts : Terms) → PlacedAll to may ls ts → OnceAll ls ts
  once_of_all to may ls no_terms h = tt
  once_of_all to may ls (more_terms t ts) h = (once_of to may ls t h.0, once_of_all to may ls ts h.1, h.2)

  pub once_of_cases : (to : List ℕ → Type 0) (may : Type 0) (ls : List (List ℕ)) (cs : Cases) → PlacedCases to may ls cs → OnceCases ls cs
  once_of_cases to may ls no_cases h = tt
  once_of_cases to may ls (more_cases ns t cs) h = (once_of to may ls t h.0, once_of_cases to may ls cs h.1, h.2)

pub or_first : (a b : Bool) → a ≡ true → (a || b) ≡ true
or_first a b h = ap (λ (x : Bool). x || b) h

pub or_later : (a b : Bool) → b ≡ true → (a || b) ≡ true
or_later true b h = refl
or_later false b h = h

pub or_onward : (a b c : Bool) → (b ≡ true → c ≡ true) → (a || b) ≡ true → (a || c) ≡ true
or_onward true b c f h = refl
or_onward false b c f h = f h

pub among_front : (xs ys : List (List ℕ)) (m : List ℕ) → is_among xs m ≡ true → is_among (xs ++ ys) m ≡ true
among_front [] ys m h = impossible h
among_front (x ∷ xs) ys m h = or_onward (pointwise nat_eq m x) (is_among xs m) (is_among (xs ++ ys) m) (among_front xs ys m) h

pub among_behind : (xs ys : List (List ℕ)) (m : List ℕ) → is_among ys m ≡ true → is_among (xs ++ ys) m ≡ true
among_behind [] ys m h = h
among_behind (x ∷ xs) ys m h = or_later (pointwise nat_eq m x) (is_among (xs ++ ys) m) (among_behind xs ys m h)

-- a label to which a Return goes is inside, or it is among those to which the tree leaves
inside_or_left : (inner : List (List ℕ)) (l : List ℕ) (ls : List (List ℕ)) → (is_among inner l ≡ true) ⊎ (is_among (if_outside inner l ls) l ≡ true)
inside_or_left inner l ls = go (is_among inner l) refl
  where
    go : (b : Bool) → is_among inner l ≡ b → (is_among inner l ≡ true) ⊎ (is_among (if_outside inner l ls) l ≡ true)
    go true e = inl e
    go false e = inr (ap (λ (b : Bool). is_among (if b then ls else (l ∷ ls)) l) e ∙ or_first (pointwise nat_eq l l) (is_among ls l) (equals l))

left_behind : (inner : List (List ℕ)) (l : List ℕ) (ls : List (List ℕ)) (m : List ℕ) → is_among ls m ≡ true → is_among (if_outside inner l ls) m ≡ true
left_behind inner l ls m h = go (is_among inner l)
  where
    go : (b : Bool) → is_among (if b then ls else (l ∷ ls)) m ≡ true
    go true = h
    go false = or_later (pointwise nat_eq m l) (is_among ls m) h

-- those that may be left to: each label inside, and each to which the tree leaves
abbrev Inside : List (List ℕ) → (List ℕ → Type 0) → Type 0
Inside inner to = (m : List ℕ) → is_among inner m ≡ true → to m

further_inside : (inner : List (List ℕ)) (to : List ℕ → Type 0) (l : List ℕ) → Inside inner to → Inside (l ∷ inner) (with_reach l to)
further_inside inner to l within m h = go (pointwise nat_eq m l) refl h
  where
    go : (b : Bool) → pointwise nat_eq m l ≡ b → (b || is_among inner m) ≡ true → with_reach l to m
    go true e k = inl (text-same m l e)
    go false e k = inr (within m k)

-- of those that may be left to, the ones to which a tree leaves
abbrev Leaving : List (List ℕ) → (List ℕ → Type 0) → (List ℕ → Type 0) → Type 0
Leaving left from to = (m : List ℕ) → is_among left m ≡ true → from m → to m

further_left : (left : List (List ℕ)) (from to : List ℕ → Type 0) (l : List ℕ) → Leaving left from to → Leaving left (with_reach l from) (with_reach l to)
further_left left from to l h m i r = ⊎_elim (λ e. inl e) (λ k. inr (h m i k)) r

mutual
  pub narrowed : (from to : List ℕ → Type 0) (may now : Type 0) (inner ls : List (List ℕ)) (t : Term) → Inside inner to → Leaving (left_labels inner t) from to → (holds_finally t ≡ true → now) → Placed from may ls t → Placed to now ls t
  narrowed from to may now inner ls (var_def p x t b e) within left tries h = (h.0, narrowed from to may now inner ls e within left tries h.1)
  narrowed from to may now inner ls (block_of p ts) within left tries h = narrowed_all from to may now inner ls ts within left tries h
  narrowed from to may now inner ls (labeled p l t e) within left tries h = (h.0, narrowed (with_reach l from) (with_reach l to) may now (l ∷ inner) (l ∷ ls) e (further_inside inner to l within) (further_left (left_labels (l ∷ inner) e) from to l left) tries h.1)
  narrowed from to may now inner ls (assign p (select q d c f t) e) within left tries h = (narrowed from to may now inner ls d within (λ m i. left m (among_front (left_labels inner d) (left_labels inner e) m i)) (λ i. tries (or_first (holds_finally d) (holds_finally e) i)) h.0, narrowed from to may now inner ls e within (λ m i. left m (among_behind (left_labels inner d) (left_labels inner e) m i)) (λ i. tries (or_later (holds_finally d) (holds_finally e) i)) h.1, h.2)
  narrowed from to may now inner ls (assign p (array_select q d i t) e) within left tries h = (
    narrowed from to may now inner ls d within (λ m k. left m (among_front (left_labels inner d ++ left_labels inner i) (left_labels inner e) m (among_front (left_labels inner d) (left_labels inner i) m k))) (λ k. tries (or_first (holds_finally d || holds_finally i) (holds_finally e) (or_first (holds_finally d) (holds_finally i) k))) h.0,
    narrowed from to may now inner ls i within (λ m k. left m (among_front (left_labels inner d ++ left_labels inner i) (left_labels inner e) m (among_behind (left_labels inner d) (left_labels inner i) m k))) (λ k. tries (or_first (holds_finally d || holds_finally i) (holds_finally e) (or_later (holds_finally d) (holds_finally i) k))) h.1,
    narrowed from to may now inner ls e within (λ m k. left m (among_behind (left_labels inner d ++ left_labels inner i) (left_labels inner e) m k)) (λ k. tries (or_later (holds_finally d || holds_finally i) (holds_finally e) k)) h.2,
    h.3,
    h.4,
  )
  narrowed from to may now inner ls (assign p d e) within left tries h = narrowed from to may now inner ls e within (λ m i. left m (among_behind (left_labels inner d) (left_labels inner e) m i)) (λ i. tries (or_later (holds_finally d) (holds_finally e) i)) h
  narrowed from to may now inner ls (throw p e) within left tries h = narrowed from to may now inner ls e within left tries h
  narrowed from to may now inner ls (store_module p c e) within left tries h = narrowed from to may now inner ls e within left tries h
  narrowed from to may now inner ls (return_to p e l) within left tries h = ((h.0.0, ⊎_elim (λ i. within l i) (λ i. left l i h.0.1) (inside_or_left inner l (left_labels inner e))), narrowed from to may now inner ls e within (λ m i. left m (left_behind inner l (left_labels inner e) m i)) tries h.1)
  narrowed from to may now inner ls (if_then p c a b t) within left tries h = (narrowed from to may now inner ls c within (λ m i. left m (among_front (left_labels inner c ++ left_labels inner a) (left_labels inner b) m (among_front (left_labels inner c) (left_labels inner a) m i))) (λ i. tries (or_first (holds_finally c || holds_finally a) (holds_finally b) (or_first (holds_finally c) (holds_finally a) i))) h.0, narrowed from to may now inner ls a within (λ m i. left m (among_front (left_labels inner c ++ left_labels inner a) (left_labels inner b) m (among_behind (left_labels inner c) (left_labels inner a) m i))) (λ i. tries (or_first (holds_finally c || holds_finally a) (holds_finally b) (or_later (holds_finally c) (holds_finally a) i))) h.1, narrowed from to may now inner ls b within (λ m i. left m (among_behind (left_labels inner c ++ left_labels inner a) (left_labels inner b) m i)) (λ i. tries (or_later (holds_finally c || holds_finally a) (holds_finally b) i)) h.2, h.3, h.4, h.5)
  narrowed from to may now inner ls (while_loop p c b) within left tries h = (narrowed from to may now inner ls c within (λ m i. left m (among_front (left_labels inner c) (left_labels inner b) m i)) (λ i. tries (or_first (holds_finally c) (holds_finally b) i)) h.0, narrowed from to may now inner ls b within (λ m i. left m (among_behind (left_labels inner c) (left_labels inner b) m i)) (λ i. tries (or_later (holds_finally c) (holds_finally b) i)) h.1, h.2)
  narrowed from to may now inner ls (do_while p b c) within left tries h = (narrowed from to may now inner ls b within (λ m i. left m (among_front (left_labels inner b) (left_labels inner c) m i)) (λ i. tries (or_first (holds_finally b) (holds_finally c) i)) h.0, narrowed from to may now inner ls c within (λ m i. left m (among_behind (left_labels inner b) (left_labels inner c) m i)) (λ i. tries (or_later (holds_finally b) (holds_finally c) i)) h.1, h.2)
  narrowed from to may now inner ls (try_catch p e x d t) within left tries h = (h.0, h.1, narrowed from to may now inner ls e within (λ m i. left m (among_front (left_labels inner e) (left_labels inner d) m i)) (λ i. tries (or_first (holds_finally e) (holds_finally d) i)) h.2, narrowed from to may now inner ls d within (λ m i. left m (among_behind (left_labels inner e) (left_labels inner d) m i)) (λ i. tries (or_later (holds_finally e) (holds_finally d) i)) h.3, h.4)
  narrowed from to may now inner ls (try_finally p e d) within left tries h = (tries refl, narrowed from to may now inner ls e within (λ m i. left m (among_front (left_labels inner e) (left_labels inner d) m i)) (λ i. tries refl) h.1, narrowed from to may now inner ls d within (λ m i. left m (among_behind (left_labels inner e) (left_labels inner d) m i)) (λ i. tries refl) h.2, h.3)
  narrowed from to may now inner ls (match_on p e cs d t) within left tries h = (narrowed from to may now inner ls e within (λ m i. left m (among_front (left_labels inner e ++ cases_left_labels inner cs) (left_labels inner d) m (among_front (left_labels inner e) (cases_left_labels inner cs) m i))) (λ i. tries (or_first (holds_finally e || cases_hold_finally cs) (holds_finally d) (or_first (holds_finally e) (cases_hold_finally cs) i))) h.0, narrowed_cases from to may now inner ls cs within (λ m i. left m (among_front (left_labels inner e ++ cases_left_labels inner cs) (left_labels inner d) m (among_behind (left_labels inner e) (cases_left_labels inner cs) m i))) (λ i. tries (or_first (holds_finally e || cases_hold_finally cs) (holds_finally d) (or_later (holds_finally e) (cases_hold_finally cs) i))) h.1, narrowed from to may now inner ls d within (λ m i. left m (among_behind (left_labels inner e ++ cases_left_labels inner cs) (left_labels inner d) m i)) (λ i. tries (or_later (holds_finally e || cases_hold_finally cs) (holds_finally d) i)) h.2, h.3, h.4, h.5)
  narrowed from to may now inner ls (new_object p c m ts) within left tries h = narrowed_all from to may now inner ls ts within left tries h
  narrowed from to may now inner ls (select p e c f t) within left tries h = narrowed from to may now inner ls e within left tries h
  narrowed from to may now inner ls (apply p e m ts t) within left tries h = (narrowed from to may now inner ls e within (λ m i. left m (among_front (left_labels inner e) (all_left_labels inner ts) m i)) (λ i. tries (or_first (holds_finally e) (hold_finally ts) i)) h.0, narrowed_all from to may now inner ls ts within (λ m i. left m (among_behind (left_labels inner e) (all_left_labels inner ts) m i)) (λ i. tries (or_later (holds_finally e) (hold_finally ts) i)) h.1, h.2)
  narrowed from to may now inner ls (apply_statically p e c n m ts t) within left tries h = (narrowed from to may now inner ls e within (λ m i. left m (among_front (left_labels inner e) (all_left_labels inner ts) m i)) (λ i. tries (or_first (holds_finally e) (hold_finally ts) i)) h.0, narrowed_all from to may now inner ls ts within (λ m i. left m (among_behind (left_labels inner e) (all_left_labels inner ts) m i)) (λ i. tries (or_later (holds_finally e) (hold_finally ts) i)) h.1, h.2)
  narrowed from to may now inner ls (apply_static p c n m ts t) within left tries h = narrowed_all from to may now inner ls ts within left tries h
  narrowed from to may now inner ls (unary_op p o e) within left tries h = narrowed from to may now inner ls e within left tries h
  narrowed from to may now inner ls (new_array p r e) within left tries h = narrowed from to may now inner ls e within left tries h
  narrowed from to may now inner ls (array_value p r ts) within left tries h = narrowed_all from to may now inner ls ts within left tries h
  narrowed from to may now inner ls (array_length p e) within left tries h = narrowed from to may now inner ls e within left tries h
  narrowed from to may now inner ls (array_select p e i t) within left tries h = (narrowed from to may now inner ls e within (λ m k. left m (among_front (left_labels inner e) (left_labels inner i) m k)) (λ k. tries (or_first (holds_finally e) (holds_finally i) k)) h.0, narrowed from to may now inner ls i within (λ m k. left m (among_behind (left_labels inner e) (left_labels inner i) m k)) (λ k. tries (or_later (holds_finally e) (holds_finally i) k)) h.1, h.2)
  narrowed from to may now inner ls (is_instance_of p e t) within left tries h = narrowed from to may now inner ls e within left tries h
  narrowed from to may now inner ls (as_instance_of p e t) within left tries h = narrowed from to may now inner ls e within left tries h
  narrowed from to may now inner ls (binary_op p o e d) within left tries h = (narrowed from to may now inner ls e within (λ m i. left m (among_front (left_labels inner e) (left_labels inner d) m i)) (λ i. tries (or_first (holds_finally e) (holds_finally d) i)) h.0, narrowed from to may now inner ls d within (λ m i. left m (among_behind (left_labels inner e) (left_labels inner d) m i)) (λ i. tries (or_later (holds_finally e) (holds_finally d) i)) h.1, h.2)
  narrowed from to may now inner ls (log_line p e) within left tries h = narrowed from to may now inner ls e within left tries h
  narrowed from to may now inner ls _ within left tries h = tt

  pub narrowed_all : (from to : List ℕ → Type 0) (may now : Type 0) (inner ls : List (List ℕ)) (ts : Terms) → Inside inner to → Leaving (all_left_labels inner ts) from to → (hold_finally ts ≡ true → now) → PlacedAll from may ls ts → PlacedAll to now ls ts
  narrowed_all from to may now inner ls no_terms within left tries h = tt
  narrowed_all from to may now inner ls (more_terms t ts) within left tries h = (narrowed from to may now inner ls t within (λ m i. left m (among_front (left_labels inner t) (all_left_labels inner ts) m i)) (λ i. tries (or_first (holds_finally t) (hold_finally ts) i)) h.0, narrowed_all from to may now inner ls ts within (λ m i. left m (among_behind (left_labels inner t) (all_left_labels inner ts) m i)) (λ i. tries (or_later (holds_finally t) (hold_finally ts) i)) h.1, h.2)

  pub narrowed_cases : (from to : List ℕ → Type 0) (may now : Type 0) (inner ls : List (List ℕ)) (cs : Cases) → Inside inner to → Leaving (cases_left_labels inner cs) from to → (cases_hold_finally cs ≡ true → now) → PlacedCases from may ls cs → PlacedCases to now ls cs
  narrowed_cases from to may now inner ls no_cases within left tries h = tt
  narrowed_cases from to may now inner ls (more_cases ns t cs) within left tries h = (narrowed from to may now inner ls t within (λ m i. left m (among_front (left_labels inner t) (cases_left_labels inner cs) m i)) (λ i. tries (or_first (holds_finally t) (cases_hold_finally cs) i)) h.0, narrowed_cases from to may now inner ls cs within (λ m i. left m (among_behind (left_labels inner t) (cases_left_labels inner cs) m i)) (λ i. tries (or_later (holds_finally t) (cases_hold_finally cs) i)) h.1, h.2)

-- where any label may be left to, and tries may stand anywhere
mutual
  pub anywhere : (to : List ℕ → Type 0) (may : Type 0) (ls : List (List ℕ)) → ((m : List ℕ) → to m) → may → (t : Term) → Once ls t → Placed to may ls t
  anywhere to may ls any m (var_def p x t b e) h = (h.0, anywhere to may ls any m e h.1)
  anywhere to may ls any m (block_of p ts) h = all_anywhere to may ls any m ts h
  anywhere to may ls any m (labeled p l t e) h = (h.0, anywhere (with_reach l to) may (l ∷ ls) (λ n. inr (any n)) m e h.1)
  anywhere to may ls any m (assign p (select q d c f t) e) h = (anywhere to may ls any m d h.0, anywhere to may ls any m e h.1, h.2)
  anywhere to may ls any m (assign p (array_select q d i t) e) h = (anywhere to may ls any m d h.0, anywhere to may ls any m i h.1, anywhere to may ls any m e h.2, h.3, h.4)
  anywhere to may ls any m (assign p d e) h = anywhere to may ls any m e h
  anywhere to may ls any m (throw p e) h = anywhere to may ls any m e h
  anywhere to may ls any m (store_module p c e) h = anywhere to may ls any m e h
  anywhere to may ls any m (return_to p e l) h = ((h.0, any l), anywhere to may ls any m e h.1)
  anywhere to may ls any m (if_then p c a b t) h = (anywhere to may ls any m c h.0, anywhere to may ls any m a h.1, anywhere to may ls any m b h.2, h.3, h.4, h.5)
  anywhere to may ls any m (while_loop p c b) h = (anywhere to may ls any m c h.0, anywhere to may ls any m b h.1, h.2)
  anywhere to may ls any m (do_while p b c) h = (anywhere to may ls any m b h.0, anywhere to may ls any m c h.1, h.2)
  anywhere to may ls any m (try_catch p e x d t) h = (h.0, h.1, anywhere to may ls any m e h.2, anywhere to may ls any m d h.3, h.4)
  anywhere to may ls any m (try_finally p e d) h = (m, anywhere to may ls any m e h.0, anywhere to may ls any m d h.1, h.2)
  anywhere to may ls any m (match_on p e cs d t) h = (anywhere to may ls any m e h.0, cases_anywhere to may ls any m cs h.1, anywhere to may ls any m d h.2, h.3, h.4, h.5)
  anywhere to may ls any m (new_object p c g ts) h = all_anywhere to may ls any m ts h
  anywhere to may ls any m (select p e c f t) h = anywhere to may ls any m e h
  anywhere to may ls any m (apply p e g ts t) h = (anywhere to may ls any m e h.0, all_anywhere to may ls any m ts h.1, h.2)
  anywhere to may ls any m (apply_statically p e c n g ts t) h = (anywhere to may ls any m e h.0, all_anywhere to may ls any m ts h.1, h.2)
  anywhere to may ls any m (apply_static p c n g ts t) h = all_anywhere to may ls any m ts h
  anywhere to may ls any m (unary_op p o e) h = anywhere to may ls any m e h
  anywhere to may ls any m (new_array p r e) h = anywhere to may ls any m e h
  anywhere to may ls any m (array_value p r ts) h = all_anywhere to may ls any m ts h
  anywhere to may ls any m (array_length p e) h = anywhere to may ls any m e h
  anywhere to may ls any m (array_select p e i t) h = (anywhere to may ls any m e h.0, anywhere to may ls any m i h.1, h.2)
  anywhere to may ls any m (is_instance_of p e t) h = anywhere to may ls any m e h
  anywhere to may ls any m (as_instance_of p e t) h = anywhere to may ls any m e h
  anywhere to may ls any m (binary_op p o e d) h = (anywhere to may ls any m e h.0, anywhere to may ls any m d h.1, h.2)
  anywhere to may ls any m (log_line p e) h = anywhere to may ls any m e h
  anywhere to may ls any m _ h = tt

  pub all_anywhere : (to : List ℕ → Type 0) (may : Type 0) (ls : List (List ℕ)) → ((m : List ℕ) → to m) → may → (ts : Terms) → OnceAll ls ts → PlacedAll to may ls ts
  all_anywhere to may ls any m no_terms h = tt
  all_anywhere to may ls any m (more_terms t ts) h = (anywhere to may ls any m t h.0, all_anywhere to may ls any m ts h.1, h.2)

  pub cases_anywhere : (to : List ℕ → Type 0) (may : Type 0) (ls : List (List ℕ)) → ((m : List ℕ) → to m) → may → (cs : Cases) → OnceCases ls cs → PlacedCases to may ls cs
  cases_anywhere to may ls any m no_cases h = tt
  cases_anywhere to may ls any m (more_cases ns t cs) h = (anywhere to may ls any m t h.0, cases_anywhere to may ls any m cs h.1, h.2)
