-- Locals that are never null, behind the definitions of a tree.
use Rattle.std.proofs.Common.{◌≡◌, ◌∙◌, ◌<◌, ◌+◌, ℕ, suc, Bool, true, false, ◌&&◌, ◌||◌, not, List, [], ◌∷◌, ◌++◌, refl, ap, sym, length, get_or, drop, add-one, append_assoc, if◌then◌else◌}
use Rattle.std.proofs.Math.Seq.{drop-cons, drop-length}
use Rattle.sj_desugar_spec.specs.Plain.{is_among}
use Rattle.sj_desugar_facts.specs.Definitions.{with_local, sure_in, sure_in_all, sure_in_cases}
use Rattle.sj_names.specs.Same.{is_same_text}
use Rattle.sj_trees.specs.Term.{Term, Terms, no_terms, more_terms, Cases, no_cases, more_cases, apply, apply_static, apply_statically, array_length, array_select, array_value, as_instance_of, assign, binary_op, block_of, do_while, if_then, is_instance_of, labeled, log_line, match_on, new_array, new_object, return_to, select, store_module, throw, try_catch, try_finally, unary_op, var_def, while_loop, skip, load_module, select_static, undefined_literal, null_literal, boolean_literal, char_literal, byte_literal, short_literal, int_literal, long_literal, string_literal, var_ref, this_ref}
use Rattle.sj_trees.specs.View.{view, terms_view, cases_view, view_case}
use Rattle.sj_trees.specs.declared.trees.MatchCase.{MatchCase}
use Rattle.sj_trees.specs.declared.trees.Tree.{Tree}
use Rattle.sure_receivers.specs.Sure.{Definition, is_sure, definitions, definitions_in, definitions_of_cases, sure_behind, sure_locals}

pub all-end : (ts : List Tree) (xs : List (List ℕ)) → sure_in_all (terms_view (drop (length ts) ts)) xs ≡ xs
all-end ts xs = ap (λ us. sure_in_all (terms_view us) xs) (drop-length ts)

pub all-step : (ts : List Tree) (i : ℕ) (t : Tree) (xs : List (List ℕ)) → i < length ts → t ≡ get_or ts i t → sure_in_all (terms_view (drop i ts)) xs ≡ sure_in_all (terms_view (drop (i + 1) ts)) (sure_in (view t) xs)
all-step ts i t xs h e = ap (λ us. sure_in_all (terms_view us) xs) (drop-cons ts i t h) ∙ ap (λ u. sure_in_all (terms_view (drop (suc i) ts)) (sure_in (view u) xs)) (sym e) ∙ ap (λ n. sure_in_all (terms_view (drop n ts)) (sure_in (view t) xs)) (sym (add-one i))

pub cases-end : (cs : List MatchCase) (xs : List (List ℕ)) → sure_in_cases (cases_view (drop (length cs) cs)) xs ≡ xs
cases-end cs xs = ap (λ us. sure_in_cases (cases_view us) xs) (drop-length cs)

pub cases-step : (cs : List MatchCase) (i : ℕ) (c : MatchCase) (xs : List (List ℕ)) → i < length cs → c ≡ get_or cs i c → sure_in_cases (cases_view (drop i cs)) xs ≡ sure_in_cases (cases_view (drop (i + 1) cs)) (sure_in (view_case c).1 xs)
cases-step cs i c xs h e = ap (λ us. sure_in_cases (cases_view us) xs) (drop-cons cs i c h) ∙ ap (λ u. sure_in_cases (cases_view (drop (suc i) cs)) (sure_in (view_case u).1 xs)) (sym e) ∙ ap (λ n. sure_in_cases (cases_view (drop n cs)) (sure_in (view_case c).1 xs)) (sym (add-one i))

-- the locals behind these definitions, in a list
abbrev sure_list : List (List ℕ) → List Definition → List (List ℕ)
sure_list xs [] = xs
sure_list xs (d ∷ ds) = sure_list (with_local xs d.name d.is_mutable d.value) ds

sure-append : (xs : List (List ℕ)) (ds es : List Definition) → sure_list xs (ds ++ es) ≡ sure_list (sure_list xs ds) es
sure-append xs [] es = refl
sure-append xs (d ∷ ds) es = sure-append (with_local xs d.name d.is_mutable d.value) ds es

three : (xs : List (List ℕ)) (ds es fs : List Definition) → sure_list xs (ds ++ (es ++ fs)) ≡ sure_list xs (ds ++ es ++ fs)
three xs ds es fs = ap (sure_list xs) (sym (append_assoc ds es fs))

mutual
  in_one : (t : Term) (xs : List (List ℕ)) → sure_in t xs ≡ sure_list xs (definitions t)
  in_one (var_def p x t b e) xs = ap (λ ys. with_local ys x b e) (in_one e xs) ∙ sym (sure-append xs (definitions e) (record { name = x; is_mutable = b; value = e } ∷ []))
  in_one (block_of p ts) xs = in_all ts xs
  in_one (labeled p l t e) xs = in_one e xs
  in_one (assign p e d) xs = in_one d (sure_in e xs) ∙ ap (λ ys. sure_list ys (definitions d)) (in_one e xs) ∙ sym (sure-append xs (definitions e) (definitions d))
  in_one (return_to p e l) xs = in_one e xs
  in_one (if_then p c a b t) xs = in_one b (sure_in a (sure_in c xs)) ∙ ap (λ ys. sure_list ys (definitions b)) (in_one a (sure_in c xs) ∙ ap (λ ys. sure_list ys (definitions a)) (in_one c xs)) ∙ sym (sure-append (sure_list xs (definitions c)) (definitions a) (definitions b)) ∙ sym (sure-append xs (definitions c) (definitions a ++ definitions b)) ∙ three xs (definitions c) (definitions a) (definitions b)
  in_one (while_loop p c b) xs = in_one b (sure_in c xs) ∙ ap (λ ys. sure_list ys (definitions b)) (in_one c xs) ∙ sym (sure-append xs (definitions c) (definitions b))
  in_one (do_while p b c) xs = in_one c (sure_in b xs) ∙ ap (λ ys. sure_list ys (definitions c)) (in_one b xs) ∙ sym (sure-append xs (definitions b) (definitions c))
  in_one (try_catch p e x d t) xs = in_one d (sure_in e xs) ∙ ap (λ ys. sure_list ys (definitions d)) (in_one e xs) ∙ sym (sure-append xs (definitions e) (record { name = x; is_mutable = false; value = null_literal p } ∷ definitions d))
  in_one (try_finally p e d) xs = in_one d (sure_in e xs) ∙ ap (λ ys. sure_list ys (definitions d)) (in_one e xs) ∙ sym (sure-append xs (definitions e) (definitions d))
  in_one (throw p e) xs = in_one e xs
  in_one (match_on p e cs d t) xs = in_one d (sure_in_cases cs (sure_in e xs)) ∙ ap (λ ys. sure_list ys (definitions d)) (in_cases cs (sure_in e xs) ∙ ap (λ ys. sure_list ys (definitions_of_cases cs)) (in_one e xs)) ∙ sym (sure-append (sure_list xs (definitions e)) (definitions_of_cases cs) (definitions d)) ∙ sym (sure-append xs (definitions e) (definitions_of_cases cs ++ definitions d)) ∙ three xs (definitions e) (definitions_of_cases cs) (definitions d)
  in_one (new_object p c m ts) xs = in_all ts xs
  in_one (store_module p c e) xs = in_one e xs
  in_one (select p e c f t) xs = in_one e xs
  in_one (apply p e m ts t) xs = in_all ts (sure_in e xs) ∙ ap (λ ys. sure_list ys (definitions_in ts)) (in_one e xs) ∙ sym (sure-append xs (definitions e) (definitions_in ts))
  in_one (apply_statically p e c n m ts t) xs = in_all ts (sure_in e xs) ∙ ap (λ ys. sure_list ys (definitions_in ts)) (in_one e xs) ∙ sym (sure-append xs (definitions e) (definitions_in ts))
  in_one (apply_static p c n m ts t) xs = in_all ts xs
  in_one (unary_op p o e) xs = in_one e xs
  in_one (binary_op p o e d) xs = in_one d (sure_in e xs) ∙ ap (λ ys. sure_list ys (definitions d)) (in_one e xs) ∙ sym (sure-append xs (definitions e) (definitions d))
  in_one (new_array p r e) xs = in_one e xs
  in_one (array_value p r ts) xs = in_all ts xs
  in_one (array_length p e) xs = in_one e xs
  in_one (array_select p e i t) xs = in_one i (sure_in e xs) ∙ ap (λ ys. sure_list ys (definitions i)) (in_one e xs) ∙ sym (sure-append xs (definitions e) (definitions i))
  in_one (is_instance_of p e t) xs = in_one e xs
  in_one (as_instance_of p e t) xs = in_one e xs
  in_one (log_line p e) xs = in_one e xs
  in_one (skip p) xs = refl
  in_one (load_module p c) xs = refl
  in_one (select_static p c f t) xs = refl
  in_one (undefined_literal p) xs = refl
  in_one (null_literal p) xs = refl
  in_one (boolean_literal p b) xs = refl
  in_one (char_literal p v) xs = refl
  in_one (byte_literal p v) xs = refl
  in_one (short_literal p v) xs = refl
  in_one (int_literal p v) xs = refl
  in_one (long_literal p v) xs = refl
  in_one (string_literal p u) xs = refl
  in_one (var_ref p x t) xs = refl
  in_one (this_ref p t) xs = refl

  in_all : (ts : Terms) (xs : List (List ℕ)) → sure_in_all ts xs ≡ sure_list xs (definitions_in ts)
  in_all no_terms xs = refl
  in_all (more_terms t ts) xs = in_all ts (sure_in t xs) ∙ ap (λ ys. sure_list ys (definitions_in ts)) (in_one t xs) ∙ sym (sure-append xs (definitions t) (definitions_in ts))

  in_cases : (cs : Cases) (xs : List (List ℕ)) → sure_in_cases cs xs ≡ sure_list xs (definitions_of_cases cs)
  in_cases no_cases xs = refl
  in_cases (more_cases ks t cs) xs = in_cases cs (sure_in t xs) ∙ ap (λ ys. sure_list ys (definitions_of_cases cs)) (in_one t xs) ∙ sym (sure-append xs (definitions t) (definitions_of_cases cs))

either-false : (b : Bool) → (b || false) ≡ b
either-false true = refl
either-false false = refl

among-push : (xs : List (List ℕ)) (n x : List ℕ) → is_among (xs ++ n ∷ []) x ≡ (is_among xs x || is_same_text x n)
among-push [] n x = either-false (is_same_text x n)
among-push (y ∷ xs) n x = head (is_same_text x y) _ _ (among-push xs n x)
  where
    head : (b c d : Bool) → c ≡ (d || is_same_text x n) → (b || c) ≡ ((b || d) || is_same_text x n)
    head true c d e = refl
    head false c d e = e

-- a local is among those in the list where it is sure
one-local : (xs : List (List ℕ)) (d : Definition) (x : List ℕ) → is_among (with_local xs d.name d.is_mutable d.value) x ≡ (is_among xs x || (is_same_text x d.name && not d.is_mutable && is_sure (is_among xs) d.value))
one-local xs d x = go (not d.is_mutable) (is_sure (is_among xs) d.value)
  where
    kept : (a b : Bool) → a ≡ (a || (b && false))
    kept true b = refl
    kept false true = refl
    kept false false = refl

    true-behind : (a : Bool) → a ≡ (a && true && true)
    true-behind true = refl
    true-behind false = refl

    false-behind : (a : Bool) → (a && false) ≡ (a && true && false)
    false-behind true = refl
    false-behind false = refl

    no-more : (a b : Bool) → (a && false) ≡ (a && false && b)
    no-more true b = refl
    no-more false b = refl

    go : (b c : Bool) → is_among (if (b && c) then (xs ++ d.name ∷ []) else xs) x ≡ (is_among xs x || (is_same_text x d.name && b && c))
    go true true = among-push xs d.name x ∙ ap (λ y. is_among xs x || y) (true-behind (is_same_text x d.name))
    go true false = kept (is_among xs x) (is_same_text x d.name) ∙ ap (λ y. is_among xs x || y) (false-behind (is_same_text x d.name))
    go false c = kept (is_among xs x) (is_same_text x d.name) ∙ ap (λ y. is_among xs x || y) (no-more (is_same_text x d.name) c)

listed : (xs : List (List ℕ)) (ds : List Definition) → is_among (sure_list xs ds) ≡ sure_behind (is_among xs) ds
listed xs [] = refl
listed xs (d ∷ ds) = listed (with_local xs d.name d.is_mutable d.value) ds ∙ ap (λ s. sure_behind s ds) (λ i x. one-local xs d x i)

pub sure-listed : (t : Term) → is_among (sure_in t []) ≡ sure_locals t
sure-listed t = ap is_among (in_one t []) ∙ listed [] (definitions t)

pub ruleset rows = (all-end, all-step, cases-end, cases-step)
