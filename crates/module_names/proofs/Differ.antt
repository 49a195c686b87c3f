-- The names of different keys differ.
use Rattle.std.proofs.Common.{◌≡◌, ℕ, zero, suc, ◌+◌, ◌-◌, ◌<◌, ◌≤◌, Bool, true, false, List, [], ◌∷◌, ◌++◌, refl, sym, ap, ◌∙◌, subst, length, take, drop, get_or, arith, inl, inr}
use Rattle.std.specs.Prelude.{◌⊎◌, count_by, nat_eq}
use Rattle.std.specs.Cmp.Lexicographic.{pointwise}
use Rattle.std.proofs.lemmas.Bool.{cases_lt}
use Rattle.std.proofs.lemmas.List.{append_assoc, append-nil}
use Rattle.std.proofs.lemmas.List.Sums.{count_by_more_yes, count_by_more_no}
use Rattle.std.proofs.lemmas.Slice.Eq.{bytes_eq-Decides}
use Rattle.std.proofs.Math.Seq.{take-append_seam, drop-append_seam}
use Rattle.sj_mangling.proofs.Numerals.{numerals_differ}
use Rattle.module_names.specs.Names.{Key, Digest, mark, internal_name, count_with, names_behind, names_of}
use Rattle.module_names.specs.Laws.{NamesDiffer}

one_more : (p : Key → Bool) (keys : List Key) (i : ℕ) → i < length keys → count_by p (take i keys) ≤ count_by p (take (i + 1) keys)
one_more p keys i within = go (p (get_or keys i [])) refl
  where
    go : (b : Bool) → p (get_or keys i []) ≡ b → count_by p (take i keys) ≤ count_by p (take (i + 1) keys)
    go true e = omega (arith, count_by_more_yes p keys i [] within e)
    go false e = omega (arith, count_by_more_no p keys i [] within e)

grows : (p : Key → Bool) (keys : List Key) (i n : ℕ) → i + n ≤ length keys → count_by p (take i keys) ≤ count_by p (take (i + n) keys)
grows p keys i zero h = let e : i + 0 ≡ i = omega arith in subst (λ m. count_by p (take i keys) ≤ count_by p (take m keys)) (sym e) (omega arith)
grows p keys i (suc n) h =
    let so_far : count_by p (take i keys) ≤ count_by p (take (i + n) keys) = grows p keys i n (omega arith) in
    let more : count_by p (take (i + n) keys) ≤ count_by p (take (i + n + 1) keys) = one_more p keys (i + n) (omega arith) in
    let e : i + n + 1 ≡ i + suc n = omega arith in
    subst (λ m. count_by p (take i keys) ≤ count_by p (take m keys)) e (omega (arith, so_far, more))

counts_apart : (p : Key → Bool) (keys : List Key) (i j : ℕ) → i < j → j ≤ length keys → p (get_or keys i []) ≡ true → count_by p (take i keys) < count_by p (take j keys)
counts_apart p keys i j before within passes =
    let here : count_by p (take (i + 1) keys) ≡ count_by p (take i keys) + 1 = count_by_more_yes p keys i [] (omega arith) passes in
    let later : count_by p (take (i + 1) keys) ≤ count_by p (take (i + 1 + (j - (i + 1))) keys) = grows p keys (i + 1) (j - (i + 1)) (omega arith) in
    let e : i + 1 + (j - (i + 1)) ≡ j = omega arith in
    let whole : count_by p (take (i + 1) keys) ≤ count_by p (take j keys) = subst (λ m. count_by p (take (i + 1) keys) ≤ count_by p (take m keys)) e later in
    omega (arith, here, whole)

name_behind : (digest_of : Key → Digest) (earlier keys : List Key) (i : ℕ) → i < length keys → get_or (names_behind digest_of earlier keys) i [] ≡ internal_name (digest_of (get_or keys i [])) (count_with digest_of (earlier ++ take i keys) (digest_of (get_or keys i [])))
name_behind digest_of earlier [] i within = absurd (omega arith)
name_behind digest_of earlier (key ∷ keys) zero within = ap (λ l. internal_name (digest_of key) (count_with digest_of l (digest_of key))) (sym (append-nil earlier))
name_behind digest_of earlier (key ∷ keys) (suc i) within = name_behind digest_of (earlier ++ key ∷ []) keys i (omega arith) ∙ ap (λ l. internal_name (digest_of (get_or keys i [])) (count_with digest_of l (digest_of (get_or keys i [])))) (append_assoc earlier (key ∷ []) (take i keys))

name_at : (digest_of : Key → Digest) (keys : List Key) (i : ℕ) → i < length keys → get_or (names_of digest_of keys) i [] ≡ internal_name (digest_of (get_or keys i [])) (count_with digest_of (take i keys) (digest_of (get_or keys i [])))
name_at digest_of keys i within = name_behind digest_of [] keys i within

marks_apart : (m n : ℕ) → mark m ≡ mark n → m ≡ n
marks_apart zero zero e = refl
marks_apart zero (suc n) e = cc
marks_apart (suc m) zero e = cc
marks_apart (suc m) (suc n) e = numerals_differ (suc m) (suc n) (ap (λ l. drop 1 l) e)

-- the digest and the mark of a name
digest_in : (a b : Digest) (m n : ℕ) → length a ≡ length b → internal_name a m ≡ internal_name b n → a ≡ b
digest_in a b m n same e =
    let rest : a ++ mark m ≡ b ++ mark n = ap (λ l. drop 9 l) e in
    sym (take-append_seam a (mark m)) ∙ ap (λ l. take (length a) l) rest ∙ ap (λ k. take k (b ++ mark n)) same ∙ take-append_seam b (mark n)

mark_in : (a b : Digest) (m n : ℕ) → a ≡ b → internal_name a m ≡ internal_name b n → mark m ≡ mark n
mark_in a b m n same e =
    let rest : a ++ mark m ≡ a ++ mark n = ap (λ l. drop 9 l) e ∙ ap (λ d. d ++ mark n) (sym same) in
    sym (drop-append_seam a (mark m)) ∙ ap (λ l. drop (length a) l) rest ∙ drop-append_seam a (mark n)

not_before : (digest_of : Key → Digest) (size : ℕ) → ((key : Key) → length (digest_of key) ≡ size) → (keys : List Key) → (i j : ℕ) → i < j → j < length keys → get_or (names_of digest_of keys) i [] ≡ get_or (names_of digest_of keys) j [] → ⊥
not_before digest_of size sized keys i j before within e =
    let a : Digest = digest_of (get_or keys i []) in
    let b : Digest = digest_of (get_or keys j []) in
    let m : ℕ = count_with digest_of (take i keys) a in
    let n : ℕ = count_with digest_of (take j keys) b in
    let names : internal_name a m ≡ internal_name b n = sym (name_at digest_of keys i (omega arith)) ∙ e ∙ name_at digest_of keys j within in
    let same : a ≡ b = digest_in a b m n (sized (get_or keys i []) ∙ sym (sized (get_or keys j []))) names in
    let equal : m ≡ n = marks_apart m n (mark_in a b m n same names) in
    let itself : pointwise nat_eq a a ≡ true = (bytes_eq-Decides a a).1 refl in
    let less : m < count_with digest_of (take j keys) a = counts_apart (λ key. pointwise nat_eq (digest_of key) a) keys i j before (omega arith) itself in
    let turned : count_with digest_of (take j keys) a ≡ n = ap (λ d. count_with digest_of (take j keys) d) same in
    omega (arith, less, turned, equal)

pub names_differ : NamesDiffer
names_differ digest_of size sized keys i j p q e = go (cases_lt i j) (cases_lt j i)
  where
    go : (i < j) ⊎ (j ≤ i) → (j < i) ⊎ (i ≤ j) → i ≡ j
    go (inl before) other = absurd (not_before digest_of size sized keys i j before q e)
    go (inr low) (inl before) = absurd (not_before digest_of size sized keys j i before p (sym e))
    go (inr low) (inr high) = omega arith
