-- Names with keywords, words of a table, and digits are tokens.
use Rattle.std.proofs.Common.{◌≡◌, ℕ, ◌+◌, ◌-◌, ◌<◌, Bool, true, false, not, ◌&&◌, ◌||◌, eqb, ltb, List, [], ◌∷◌, ◌++◌, Option, Some, None, refl, subst, ap₂, append-nil, ◌⊎◌, inl, inr}
use Rattle.std.proofs.lemmas.Bool.{eqb-true, eq-eqb, lt-ltb}
use Rattle.exact_place.specs.Grammar.{IsRun}
use Rattle.exact_place.specs.Place.{Begins}
use Rattle.exact_place.specs.Tokens.{IsToken, AreNames, word_of, is_front, is_text, Entry, begins_entry, entry_of, ends_before, word_ends, each_ends, is_digit, one_more, digits_value, digits_below, is_nil, begins_number, number_of}
use Rattle.exact_place.proofs.Steps.{cases, went}

pub none_some : {A : Type 0} (x : A) → ◌≡◌ {A = Option A} None (Some x) → ⊥
none_some x e = cc

pub both : (a b : Bool) → (a && b) ≡ true → (a ≡ true) × (b ≡ true)
both true b e = (refl, e)
both false b e = absurd cc

or_either : (a b : Bool) → (a || b) ≡ true → (a ≡ true) ⊎ (b ≡ true)
or_either true b e = inl refl
or_either false b e = inr e

or_left : (a b : Bool) → a ≡ true → (a || b) ≡ true
or_left a b e = rw e refl

or_right : (a b : Bool) → b ≡ true → (a || b) ≡ true
or_right true b e = refl
or_right false b e = e

true_false : (b : Bool) → b ≡ true → b ≡ false → ⊥
true_false b t f = cc

-- ---- names

pub word_token : {A : Type 0} {alive name : List ℕ → Bool} {stop : ℕ → Bool} (of : List ℕ → A) (keyword : List ℕ → Option A) → AreNames alive name stop
    → ((text : List ℕ) (x : A) → keyword text ≡ Some x → alive text ≡ true) → IsToken alive (word_of name of keyword) stop
word_token {A} {alive} {name} {stop} of keyword names keywords = record {
  nothing = names.nothing;
  closed = names.closed;
  accepts = accepts;
  live = live;
  ends = λ text x c e s. names.ends text c s;
}
  where
    accepts : (text : List ℕ) (x : A) → word_of name of keyword text ≡ Some x → alive text ≡ true
    accepts text x e = elim (went (name text) (Some (of text)) (keyword text) (Some x) e) [ inl k ↦ names.names text k.0 | inr k ↦ keywords text x k.1 ]

    live : (front : List ℕ) → alive front ≡ true → Begins (IsRun (word_of name of keyword)) front
    live front a = let g = names.grows front a in record { value = of (front ++ g.0); more = g.0; spelled = record { is = rw g.1 refl } }

-- ---- tables

front_closed : (front : List ℕ) (c : ℕ) (more e : List ℕ) → is_front (front ++ c ∷ more) e ≡ true → is_front (front ++ c ∷ []) e ≡ true
front_closed [] c more [] h = absurd cc
front_closed [] c more (d ∷ e) h = rw (both (eqb c d) (is_front more e) h).0 refl
front_closed (b ∷ front) c more [] h = absurd cc
front_closed (b ∷ front) c more (d ∷ e) h =
    let k = both (eqb b d) (is_front (front ++ c ∷ more) e) h in
    rw (k.0, front_closed front c more e k.1) refl

text_front : (u e : List ℕ) → is_text u e ≡ true → is_front u e ≡ true
text_front [] e h = refl
text_front (c ∷ u) [] h = absurd cc
text_front (c ∷ u) (d ∷ e) h = let k = both (eqb c d) (is_text u e) h in rw (k.0, text_front u e k.1) refl

pub text_is : (u e : List ℕ) → is_text u e ≡ true → u ≡ e
text_is [] [] h = refl
text_is [] (d ∷ e) h = absurd cc
text_is (c ∷ u) [] h = absurd cc
text_is (c ∷ u) (d ∷ e) h = let k = both (eqb c d) (is_text u e) h in rw (eqb-true c d k.0, text_is u e k.1) refl

pub text_same : (u : List ℕ) → is_text u u ≡ true
text_same [] = refl
text_same (c ∷ u) = rw (eq-eqb c c refl, text_same u) refl

-- the rest of a word that a front begins
front_rest : (u e : List ℕ) → is_front u e ≡ true → (more : List ℕ) × (u ++ more ≡ e)
front_rest [] e h = (e, refl)
front_rest (c ∷ u) [] h = absurd cc
front_rest (c ∷ u) (d ∷ e) h =
    let k = both (eqb c d) (is_front u e) h in
    let r = front_rest u e k.1 in
    let same : c ≡ d = eqb-true c d k.0 in
    (r.0, ap₂ (λ (a : ℕ) (t : List ℕ). a ∷ t) same r.1)

ends_here : (stop : ℕ → Bool) (u e : List ℕ) (c : ℕ) → ends_before stop u e ≡ true → stop c ≡ true → is_front (u ++ c ∷ []) e ≡ false
ends_here stop [] [] c h s = refl
ends_here stop [] (d ∷ e) c h s = elim (cases (eqb c d)) [
  | inl k ↦ let same : c ≡ d = eqb-true c d k in absurd (not_both (stop c) s (rw same h))
  | inr k ↦ rw k refl
]
  where
    not_both : (b : Bool) → b ≡ true → not b ≡ true → ⊥
    not_both true e s = cc
    not_both false e s = cc
ends_here stop (b ∷ u) [] c h s = refl
ends_here stop (b ∷ u) (d ∷ e) c h s = elim (went (eqb b d) (ends_before stop u e) true true h) [
  | inl k ↦ rw (k.0, ends_here stop u e c k.1 s) refl
  | inr k ↦ rw k.0 refl
]

module _ {A : Type 0} (stop : ℕ → Bool) where
  entry_closed : (es : List (Entry A)) (front : List ℕ) (c : ℕ) (more : List ℕ) → begins_entry es (front ++ c ∷ more) ≡ true → begins_entry es (front ++ c ∷ []) ≡ true
  entry_closed [] front c more h = absurd cc
  entry_closed (e ∷ es) front c more h = elim (or_either (is_front (front ++ c ∷ more) e.word) (begins_entry es (front ++ c ∷ more)) h) [
    | inl k ↦ or_left _ _ (front_closed front c more e.word k)
    | inr k ↦ or_right _ _ (entry_closed es front c more k)
  ]

  entry_accepts : (es : List (Entry A)) (text : List ℕ) (x : A) → entry_of es text ≡ Some x → begins_entry es text ≡ true
  entry_accepts [] text x h = absurd (none_some x h)
  entry_accepts (e ∷ es) text x h = elim (went (is_text text e.word) (Some e.value) (entry_of es text) (Some x) h) [
    | inl k ↦ or_left _ _ (text_front text e.word k.0)
    | inr k ↦ or_right _ _ (entry_accepts es text x k.1)
  ]

  -- the word of an entry is accepted, by this entry or an earlier one
  entry_found : (es : List (Entry A)) (front : List ℕ) → begins_entry es front ≡ true → (more : List ℕ) × (x : A) × (entry_of es (front ++ more) ≡ Some x)
  entry_found [] front h = absurd cc
  entry_found (e ∷ es) front h = elim (cases (is_front front e.word)) [
    | inl k ↦ let r = front_rest front e.word k in (r.0, e.value, rw (r.1, text_same e.word) refl)
    | inr k ↦ behind (entry_found es front (rw k at h))
  ]
    where
      behind : (more : List ℕ) × (x : A) × (entry_of es (front ++ more) ≡ Some x) → (more : List ℕ) × (x : A) × (entry_of (e ∷ es) (front ++ more) ≡ Some x)
      behind r = elim (cases (is_text (front ++ r.0) e.word)) [
        | inl k ↦ (r.0, e.value, rw k refl)
        | inr k ↦ (r.0, r.1, rw k r.2)
      ]

  word_over : (u : List ℕ) (c : ℕ) (es : List (Entry A)) → word_ends stop u es ≡ true → stop c ≡ true → begins_entry es (u ++ c ∷ []) ≡ false
  word_over u c [] h s = refl
  word_over u c (e ∷ es) h s = let k = both (ends_before stop u e.word) (word_ends stop u es) h in rw (ends_here stop u e.word c k.0 s, word_over u c es k.1 s) refl

  each_over : (ds es : List (Entry A)) (text : List ℕ) (x : A) (c : ℕ) → each_ends stop ds es ≡ true → entry_of ds text ≡ Some x → stop c ≡ true → begins_entry es (text ++ c ∷ []) ≡ false
  each_over [] es text x c h is s = absurd (none_some x is)
  each_over (d ∷ ds) es text x c h is s =
      let k = both (word_ends stop d.word es) (each_ends stop ds es) h in
      elim (went (is_text text d.word) (Some d.value) (entry_of ds text) (Some x) is) [
        | inl f ↦ rw (text_is text d.word f.0) (word_over d.word c es k.0 s)
        | inr f ↦ each_over ds es text x c k.1 f.1 s
      ]

pub table_token : {A : Type 0} (stop : ℕ → Bool) (es : List (Entry A)) → begins_entry es [] ≡ true → each_ends stop es es ≡ true → IsToken (begins_entry es) (entry_of es) stop
table_token stop es nothing clear = record {
  nothing = nothing;
  closed = entry_closed stop es;
  accepts = entry_accepts stop es;
  live = λ front a. let f = entry_found stop es front a in record { value = f.1; more = f.0; spelled = record { is = f.2 } };
  ends = λ text x c is s. each_over stop es es text x c clear is s;
}

-- ---- digits

below_closed : (limit v : ℕ) (front : List ℕ) (c : ℕ) (more : List ℕ) → digits_below limit v (front ++ c ∷ more) ≡ true → digits_below limit v (front ++ c ∷ []) ≡ true
below_closed limit v [] c more h =
    let k = both (is_digit c) _ h in
    let l = both (ltb (one_more v c) limit) _ k.1 in
    rw (k.0, l.0) refl
below_closed limit v (b ∷ front) c more h =
    let k = both (is_digit b) _ h in
    let l = both (ltb (one_more v b) limit) _ k.1 in
    rw (k.0, l.0) (below_closed limit (one_more v b) front c more l.1)

number_closed : (nought : Bool) (limit : ℕ) (front : List ℕ) (c : ℕ) (more : List ℕ) → begins_number nought limit (front ++ c ∷ more) ≡ true → begins_number nought limit (front ++ c ∷ []) ≡ true
number_closed nought limit [] c more h = elim (went (eqb c 48) (nought && is_nil more) (digits_below limit 0 (c ∷ more)) true h) [
  | inl k ↦ rw (k.0, (both nought (is_nil more) k.1).0) refl
  | inr k ↦ rw k.0 (below_closed limit 0 [] c more k.1)
]
number_closed nought limit (b ∷ front) c more h = elim (went (eqb b 48) (nought && is_nil (front ++ c ∷ more)) (digits_below limit 0 ((b ∷ front) ++ c ∷ more)) true h) [
  | inl k ↦ absurd (not_nil front (both nought (is_nil (front ++ c ∷ more)) k.1).1)
  | inr k ↦ rw k.0 (below_closed limit 0 (b ∷ front) c more k.1)
]
  where
    not_nil : (front : List ℕ) → is_nil (front ++ c ∷ more) ≡ true → ⊥
    not_nil [] e = cc
    not_nil (d ∷ front) e = cc

below_over : (limit v : ℕ) (text : List ℕ) (c : ℕ) → is_digit c ≡ false → digits_below limit v (text ++ c ∷ []) ≡ false
below_over limit v [] c s = rw s refl
below_over limit v (b ∷ text) c s = elim (cases (is_digit b)) [
  | inr k ↦ rw k refl
  | inl k ↦ elim (cases (ltb (one_more v b) limit)) [
    | inr l ↦ rw (k, l) refl
    | inl l ↦ rw (k, l) (below_over limit (one_more v b) text c s)
  ]
]

number_over : (nought : Bool) (limit : ℕ) (text : List ℕ) (c : ℕ) → is_digit c ≡ false → begins_number nought limit (text ++ c ∷ []) ≡ false
number_over nought limit [] c s = elim (cases (eqb c 48)) [
  | inl k ↦ absurd (digit_zero (eqb-true c 48 k))
  | inr k ↦ rw (k, s) refl
]
  where
    digit_zero : c ≡ 48 → ⊥
    digit_zero e = let f : is_digit 48 ≡ false = subst (λ (d : ℕ). is_digit d ≡ false) e s in cc f
number_over nought limit (b ∷ text) c s = elim (cases (eqb b 48)) [
  | inl k ↦ rw (k, not_nil text) (and_false nought)
  | inr k ↦ rw k (below_over limit 0 (b ∷ text) c s)
]
  where
    not_nil : (text : List ℕ) → is_nil (text ++ c ∷ []) ≡ false
    not_nil [] = refl
    not_nil (d ∷ text) = refl

    and_false : (b : Bool) → (b && false) ≡ false
    and_false true = refl
    and_false false = refl

-- The digits of a number below the limit, where 1 is below it, end before what is no digit.
pub digits_token : (nought : Bool) (limit : ℕ) (stop : ℕ → Bool) → ((c : ℕ) → stop c ≡ true → is_digit c ≡ false) → 1 < limit → IsToken (begins_number nought limit) (number_of nought limit) stop
digits_token nought limit stop apart big = record {
  nothing = refl;
  closed = number_closed nought limit;
  accepts = accepts;
  live = live;
  ends = λ text x c is s. number_over nought limit text c (apart c s);
}
  where
    accepts : (text : List ℕ) (x : ℕ) → number_of nought limit text ≡ Some x → begins_number nought limit text ≡ true
    accepts [] x e = refl
    accepts (c ∷ text) x e = elim (cases (begins_number nought limit (c ∷ text))) [
      | inl k ↦ k
      | inr k ↦ absurd (none_some x (rw k at e))
    ]

    live : (front : List ℕ) → begins_number nought limit front ≡ true → Begins (IsRun (number_of nought limit)) front
    live [] a = record { value = 1; more = 49 ∷ []; spelled = record { is = let k : ltb 1 limit ≡ true = lt-ltb 1 limit big in rw k refl } }
    live (c ∷ front) a = record { value = digits_value 0 (c ∷ front); more = []; spelled = record { is = rw (append-nil front, a) refl } }
