-- A tree apart from positions is told by what is written of it, and the other way round.
use Rattle.std.proofs.Common.{◌≡◌, ℕ, ◌+◌, ◌≤◌, suc, zero, List, ◌∷◌, ◌++◌, refl, sym, ap, ◌∙◌, append_assoc, arith}
use Rattle.sj_trees.specs.Term.{Term, Terms, Cases, no_terms, more_terms, no_cases, more_cases, var_def, skip, block_of, labeled, assign, return_to, if_then, while_loop, do_while, try_catch, try_finally, throw, match_on, new_object, load_module, store_module, select, select_static, apply, apply_statically, apply_static, unary_op, binary_op, new_array, array_value, array_length, array_select, is_instance_of, as_instance_of, undefined_literal, null_literal, boolean_literal, char_literal, byte_literal, short_literal, int_literal, long_literal, string_literal, var_ref, this_ref, log_line}
use Rattle.sj_trees.specs.Erase.{erase, erase_all, erase_cases}
use Rattle.tree_parts.specs.Own.{own_of}
use Rattle.tree_parts.specs.Parts.{TermParts, no_part, one_part, two_parts, three_parts, many_parts, one_and_many, part_and_cases, parts_of, erased_parts}
use Rattle.tree_parts.specs.Sizes.{size, size_of_all, size_of_cases, size_of_parts}
use Rattle.tree_parts.proofs.Sameness.{same_term, same_own, same_parts}
use Rattle.sj_canon.specs.Numbers.{signed_bytes, list_bytes}
use Rattle.sj_canon.specs.Own.{own_bytes}
use Rattle.sj_canon.specs.Terms.{term_bytes, terms_bytes, cases_bytes, parts_bytes}
use Rattle.sj_canon.proofs.Exact.{Shows, first_same, rest_same, signed_exact, list_exact}
use Rattle.sj_canon.proofs.OwnExact.{own_exact}

-- a term is written as what it has of its own with its parts
pub term_is : (t : Term) → term_bytes t ≡ own_bytes (own_of t) ++ parts_bytes (parts_of t)
term_is (var_def x0 x1 x2 x3 x4) = refl
term_is (skip x0) = refl
term_is (block_of x0 x1) = refl
term_is (labeled x0 x1 x2 x3) = refl
term_is (assign x0 x1 x2) = refl
term_is (return_to x0 x1 x2) = refl
term_is (if_then x0 x1 x2 x3 x4) = refl
term_is (while_loop x0 x1 x2) = refl
term_is (do_while x0 x1 x2) = refl
term_is (try_catch x0 x1 x2 x3 x4) = refl
term_is (try_finally x0 x1 x2) = refl
term_is (throw x0 x1) = refl
term_is (match_on x0 x1 x2 x3 x4) = refl
term_is (new_object x0 x1 x2 x3) = refl
term_is (load_module x0 x1) = refl
term_is (store_module x0 x1 x2) = refl
term_is (select x0 x1 x2 x3 x4) = refl
term_is (select_static x0 x1 x2 x3) = refl
term_is (apply x0 x1 x2 x3 x4) = refl
term_is (apply_statically x0 x1 x2 x3 x4 x5 x6) = refl
term_is (apply_static x0 x1 x2 x3 x4 x5) = refl
term_is (unary_op x0 x1 x2) = refl
term_is (binary_op x0 x1 x2 x3) = refl
term_is (new_array x0 x1 x2) = refl
term_is (array_value x0 x1 x2) = refl
term_is (array_length x0 x1) = refl
term_is (array_select x0 x1 x2 x3) = refl
term_is (is_instance_of x0 x1 x2) = refl
term_is (as_instance_of x0 x1 x2) = refl
term_is (undefined_literal x0) = refl
term_is (null_literal x0) = refl
term_is (boolean_literal x0 x1) = refl
term_is (char_literal x0 x1) = refl
term_is (byte_literal x0 x1) = refl
term_is (short_literal x0 x1) = refl
term_is (int_literal x0 x1) = refl
term_is (long_literal x0 x1) = refl
term_is (string_literal x0 x1) = refl
term_is (var_ref x0 x1 x2) = refl
term_is (this_ref x0 x1) = refl
term_is (log_line x0 x1) = refl

-- and is more trees than they are
smaller : (t : Term) → size_of_parts (parts_of t) + 1 ≡ size t
smaller (var_def x0 x1 x2 x3 x4) = omega arith
smaller (skip x0) = omega arith
smaller (block_of x0 x1) = omega arith
smaller (labeled x0 x1 x2 x3) = omega arith
smaller (assign x0 x1 x2) = omega arith
smaller (return_to x0 x1 x2) = omega arith
smaller (if_then x0 x1 x2 x3 x4) = omega arith
smaller (while_loop x0 x1 x2) = omega arith
smaller (do_while x0 x1 x2) = omega arith
smaller (try_catch x0 x1 x2 x3 x4) = omega arith
smaller (try_finally x0 x1 x2) = omega arith
smaller (throw x0 x1) = omega arith
smaller (match_on x0 x1 x2 x3 x4) = omega arith
smaller (new_object x0 x1 x2 x3) = omega arith
smaller (load_module x0 x1) = omega arith
smaller (store_module x0 x1 x2) = omega arith
smaller (select x0 x1 x2 x3 x4) = omega arith
smaller (select_static x0 x1 x2 x3) = omega arith
smaller (apply x0 x1 x2 x3 x4) = omega arith
smaller (apply_statically x0 x1 x2 x3 x4 x5 x6) = omega arith
smaller (apply_static x0 x1 x2 x3 x4 x5) = omega arith
smaller (unary_op x0 x1 x2) = omega arith
smaller (binary_op x0 x1 x2 x3) = omega arith
smaller (new_array x0 x1 x2) = omega arith
smaller (array_value x0 x1 x2) = omega arith
smaller (array_length x0 x1) = omega arith
smaller (array_select x0 x1 x2 x3) = omega arith
smaller (is_instance_of x0 x1 x2) = omega arith
smaller (as_instance_of x0 x1 x2) = omega arith
smaller (undefined_literal x0) = omega arith
smaller (null_literal x0) = omega arith
smaller (boolean_literal x0 x1) = omega arith
smaller (char_literal x0 x1) = omega arith
smaller (byte_literal x0 x1) = omega arith
smaller (short_literal x0 x1) = omega arith
smaller (int_literal x0 x1) = omega arith
smaller (long_literal x0 x1) = omega arith
smaller (string_literal x0 x1) = omega arith
smaller (var_ref x0 x1 x2) = omega arith
smaller (this_ref x0 x1) = omega arith
smaller (log_line x0 x1) = omega arith

-- what is shown of the terms of at most n trees
Below : ℕ → Type 0
Below n = (t u : Term) (r s : List ℕ) → size t ≤ n → term_bytes t ++ r ≡ term_bytes u ++ s → (erase t ≡ erase u) × (r ≡ s)

apart : {A : Type 0} (m n : ℕ) (xs ys : List ℕ) → (m ≡ n → ⊥) → m ∷ xs ≡ n ∷ ys → A
apart m n xs ys differ e = absurd (differ (first_same e))

terms_same : (n : ℕ) → Below n → (ts us : Terms) (r s : List ℕ) → size_of_all ts ≤ n → terms_bytes ts ++ r ≡ terms_bytes us ++ s → (erase_all ts ≡ erase_all us) × (r ≡ s)
unfolding Below
terms_same n below no_terms no_terms r s l e = (refl, rest_same e)
terms_same n below no_terms (more_terms u us) r s l e = apart 0 1 _ _ (λ h. omega (arith, h)) e
terms_same n below (more_terms t ts) no_terms r s l e = apart 1 0 _ _ (λ h. omega (arith, h)) e
terms_same n below (more_terms t ts) (more_terms u us) r s l e =
    let m : size t ≤ n = omega (arith, l) in
    let k : size_of_all ts ≤ n = omega (arith, l) in
    let one = below t u (terms_bytes ts ++ r) (terms_bytes us ++ s) m (sym (append_assoc (term_bytes t) (terms_bytes ts) r) ∙ rest_same e ∙ append_assoc (term_bytes u) (terms_bytes us) s) in
    let two = terms_same n below ts us r s k one.1 in
    (λ i. more_terms (one.0 i) (two.0 i), two.1)

cases_same : (n : ℕ) → Below n → (cs ds : Cases) (r s : List ℕ) → size_of_cases cs ≤ n → cases_bytes cs ++ r ≡ cases_bytes ds ++ s → (erase_cases cs ≡ erase_cases ds) × (r ≡ s)
unfolding Below
cases_same n below no_cases no_cases r s l e = (refl, rest_same e)
cases_same n below no_cases (more_cases ks u ds) r s l e = apart 0 1 _ _ (λ h. omega (arith, h)) e
cases_same n below (more_cases ks t cs) no_cases r s l e = apart 1 0 _ _ (λ h. omega (arith, h)) e
cases_same n below (more_cases ks t cs) (more_cases js u ds) r s l e =
    let m : size t ≤ n = omega (arith, l) in
    let k : size_of_cases cs ≤ n = omega (arith, l) in
    let keys = (list_exact signed_bytes signed_exact).same ks js ((term_bytes t ++ cases_bytes cs) ++ r) ((term_bytes u ++ cases_bytes ds) ++ s) (sym (three (list_bytes signed_bytes ks) (term_bytes t) (cases_bytes cs) r) ∙ rest_same e ∙ three (list_bytes signed_bytes js) (term_bytes u) (cases_bytes ds) s) in
    let one = below t u (cases_bytes cs ++ r) (cases_bytes ds ++ s) m (sym (append_assoc (term_bytes t) (cases_bytes cs) r) ∙ keys.1 ∙ append_assoc (term_bytes u) (cases_bytes ds) s) in
    let two = cases_same n below cs ds r s k one.1 in
    (λ i. more_cases (keys.0 i) (one.0 i) (two.0 i), two.1)
  where
    three : (a b c d : List ℕ) → ((a ++ b) ++ c) ++ d ≡ a ++ ((b ++ c) ++ d)
    three a b c d = ap (λ (x : List ℕ). x ++ d) (append_assoc a b c) ∙ append_assoc a (b ++ c) d

-- the diagonal
two_same : (n : ℕ) → Below n → (a b c d : Term) (r s : List ℕ) → size a ≤ n → size b ≤ n → (term_bytes a ++ term_bytes b) ++ r ≡ (term_bytes c ++ term_bytes d) ++ s → (erase a ≡ erase c) × (erase b ≡ erase d) × (r ≡ s)
unfolding Below
two_same n below a b c d r s k l e =
    let one = below a c (term_bytes b ++ r) (term_bytes d ++ s) k (sym (append_assoc (term_bytes a) (term_bytes b) r) ∙ e ∙ append_assoc (term_bytes c) (term_bytes d) s) in
    let two = below b d r s l one.1 in
    (one.0, two.0, two.1)

parts_same : (n : ℕ) → Below n → (p q : TermParts) (r s : List ℕ) → size_of_parts p ≤ n → parts_bytes p ++ r ≡ parts_bytes q ++ s → (erased_parts p ≡ erased_parts q) × (r ≡ s)
unfolding Below
parts_same n below no_part no_part r s l e = (refl, rest_same e)
parts_same n below (one_part a) (one_part b) r s l e =
    let one = below a b r s l (rest_same e) in
    (λ i. one_part (one.0 i), one.1)
parts_same n below (two_parts a b) (two_parts c d) r s l e =
    let k : size a ≤ n = omega (arith, l) in
    let m : size b ≤ n = omega (arith, l) in
    let one = two_same n below a b c d r s k m (rest_same e) in
    (λ i. two_parts (one.0 i) (one.1 i), one.2)
parts_same n below (three_parts a b c) (three_parts d f g) r s l e =
    let k : size a ≤ n = omega (arith, l) in
    let m : size b ≤ n = omega (arith, l) in
    let o : size c ≤ n = omega (arith, l) in
    let one = two_same n below a b d f (term_bytes c ++ r) (term_bytes g ++ s) k m (sym (append_assoc (term_bytes a ++ term_bytes b) (term_bytes c) r) ∙ rest_same e ∙ append_assoc (term_bytes d ++ term_bytes f) (term_bytes g) s) in
    let two = below c g r s o one.2 in
    (λ i. three_parts (one.0 i) (one.1 i) (two.0 i), two.1)
parts_same n below (many_parts ts) (many_parts us) r s l e =
    let one = terms_same n below ts us r s l (rest_same e) in
    (λ i. many_parts (one.0 i), one.1)
parts_same n below (one_and_many a ts) (one_and_many b us) r s l e =
    let k : size a ≤ n = omega (arith, l) in
    let m : size_of_all ts ≤ n = omega (arith, l) in
    let one = below a b (terms_bytes ts ++ r) (terms_bytes us ++ s) k (sym (append_assoc (term_bytes a) (terms_bytes ts) r) ∙ rest_same e ∙ append_assoc (term_bytes b) (terms_bytes us) s) in
    let two = terms_same n below ts us r s m one.1 in
    (λ i. one_and_many (one.0 i) (two.0 i), two.1)
parts_same n below (part_and_cases a cs b) (part_and_cases c ds d) r s l e =
    let k : size a ≤ n = omega (arith, l) in
    let m : size_of_cases cs ≤ n = omega (arith, l) in
    let o : size b ≤ n = omega (arith, l) in
    let one = below a c ((cases_bytes cs ++ term_bytes b) ++ r) ((cases_bytes ds ++ term_bytes d) ++ s) k (sym (three (term_bytes a) (cases_bytes cs) (term_bytes b) r) ∙ rest_same e ∙ three (term_bytes c) (cases_bytes ds) (term_bytes d) s) in
    let two = cases_same n below cs ds (term_bytes b ++ r) (term_bytes d ++ s) m (sym (append_assoc (cases_bytes cs) (term_bytes b) r) ∙ one.1 ∙ append_assoc (cases_bytes ds) (term_bytes d) s) in
    let last = below b d r s o two.1 in
    (λ i. part_and_cases (one.0 i) (two.0 i) (last.0 i), last.1)
  where
    three : (a b c d : List ℕ) → ((a ++ b) ++ c) ++ d ≡ a ++ ((b ++ c) ++ d)
    three a b c d = ap (λ (x : List ℕ). x ++ d) (append_assoc a b c) ∙ append_assoc a (b ++ c) d
parts_same n below p q r s l e = let h = first_same e in absurd (omega (arith, h))

exact_below : (n : ℕ) → Below n
unfolding Below
exact_below zero t u r s l e = absurd (omega (arith, l, smaller t))
exact_below (suc n) t u r s l e =
    let k : size_of_parts (parts_of t) ≤ n = omega (arith, l, smaller t) in
    let whole : (own_bytes (own_of t) ++ parts_bytes (parts_of t)) ++ r ≡ (own_bytes (own_of u) ++ parts_bytes (parts_of u)) ++ s = ap (λ (x : List ℕ). x ++ r) (sym (term_is t)) ∙ e ∙ ap (λ (x : List ℕ). x ++ s) (term_is u) in
    let own = own_exact.same (own_of t) (own_of u) (parts_bytes (parts_of t) ++ r) (parts_bytes (parts_of u) ++ s) (sym (append_assoc (own_bytes (own_of t)) (parts_bytes (parts_of t)) r) ∙ whole ∙ append_assoc (own_bytes (own_of u)) (parts_bytes (parts_of u)) s) in
    let parts = parts_same n (exact_below n) (parts_of t) (parts_of u) r s k own.1 in
    (same_term t u own.0 parts.0, parts.1)

pub term_shows : Shows erase term_bytes
unfolding Below
term_shows = record { same = λ t u r s e. exact_below (size t) t u r s (omega arith) e }

-- the other way round
Alike : ℕ → Type 0
Alike n = (t u : Term) → size t ≤ n → erase t ≡ erase u → term_bytes t ≡ term_bytes u

terms_alike : (n : ℕ) → Alike n → (ts us : Terms) → size_of_all ts ≤ n → erase_all ts ≡ erase_all us → terms_bytes ts ≡ terms_bytes us
unfolding Alike
terms_alike n alike no_terms no_terms l e = refl
terms_alike n alike no_terms (more_terms u us) l e = cc
terms_alike n alike (more_terms t ts) no_terms l e = cc
terms_alike n alike (more_terms t ts) (more_terms u us) l e =
    let one : erase t ≡ erase u = cc in
    let rest : erase_all ts ≡ erase_all us = cc in
    let a = alike t u (omega (arith, l)) one in
    let b = terms_alike n alike ts us (omega (arith, l)) rest in
    λ i. 1 ∷ a i ++ b i

cases_alike : (n : ℕ) → Alike n → (cs ds : Cases) → size_of_cases cs ≤ n → erase_cases cs ≡ erase_cases ds → cases_bytes cs ≡ cases_bytes ds
unfolding Alike
cases_alike n alike no_cases no_cases l e = refl
cases_alike n alike no_cases (more_cases ks u ds) l e = cc
cases_alike n alike (more_cases ks t cs) no_cases l e = cc
cases_alike n alike (more_cases ks t cs) (more_cases js u ds) l e =
    let keys : ks ≡ js = cc in
    let one : erase t ≡ erase u = cc in
    let rest : erase_cases cs ≡ erase_cases ds = cc in
    let a = alike t u (omega (arith, l)) one in
    let b = cases_alike n alike cs ds (omega (arith, l)) rest in
    λ i. 1 ∷ list_bytes signed_bytes (keys i) ++ a i ++ b i

parts_alike : (n : ℕ) → Alike n → (p q : TermParts) → size_of_parts p ≤ n → erased_parts p ≡ erased_parts q → parts_bytes p ≡ parts_bytes q
unfolding Alike
parts_alike n alike no_part no_part l e = refl
parts_alike n alike (one_part a) (one_part b) l e =
    let one : erase a ≡ erase b = cc in
    let x = alike a b l one in
    λ i. 1 ∷ x i
parts_alike n alike (two_parts a b) (two_parts c d) l e =
    let one : erase a ≡ erase c = cc in
    let two : erase b ≡ erase d = cc in
    let x = alike a c (omega (arith, l)) one in
    let y = alike b d (omega (arith, l)) two in
    λ i. 2 ∷ x i ++ y i
parts_alike n alike (three_parts a b c) (three_parts d f g) l e =
    let one : erase a ≡ erase d = cc in
    let two : erase b ≡ erase f = cc in
    let three : erase c ≡ erase g = cc in
    let x = alike a d (omega (arith, l)) one in
    let y = alike b f (omega (arith, l)) two in
    let z = alike c g (omega (arith, l)) three in
    λ i. 3 ∷ x i ++ y i ++ z i
parts_alike n alike (many_parts ts) (many_parts us) l e =
    let one : erase_all ts ≡ erase_all us = cc in
    let x = terms_alike n alike ts us l one in
    λ i. 4 ∷ x i
parts_alike n alike (one_and_many a ts) (one_and_many b us) l e =
    let one : erase a ≡ erase b = cc in
    let two : erase_all ts ≡ erase_all us = cc in
    let x = alike a b (omega (arith, l)) one in
    let y = terms_alike n alike ts us (omega (arith, l)) two in
    λ i. 5 ∷ x i ++ y i
parts_alike n alike (part_and_cases a cs b) (part_and_cases c ds d) l e =
    let one : erase a ≡ erase c = cc in
    let two : erase_cases cs ≡ erase_cases ds = cc in
    let three : erase b ≡ erase d = cc in
    let x = alike a c (omega (arith, l)) one in
    let y = cases_alike n alike cs ds (omega (arith, l)) two in
    let z = alike b d (omega (arith, l)) three in
    λ i. 6 ∷ x i ++ y i ++ z i
parts_alike n alike p q l e = cc

alike_below : (n : ℕ) → Alike n
unfolding Alike
alike_below zero t u l e = absurd (omega (arith, l, smaller t))
alike_below (suc n) t u l e =
    let k : size_of_parts (parts_of t) ≤ n = omega (arith, l, smaller t) in
    let own = same_own t u e in
    let parts = parts_alike n (alike_below n) (parts_of t) (parts_of u) k (same_parts t u e) in
    term_is t ∙ (λ i. own_bytes (own i) ++ parts i) ∙ sym (term_is u)

pub written_alike : (t u : Term) → erase t ≡ erase u → term_bytes t ≡ term_bytes u
unfolding Alike
written_alike t u e = alike_below (size t) t u (omega arith) e
