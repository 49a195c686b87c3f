-- The digits that a reader of numbers takes are the decimal digits of the number.
use Rattle.std.proofs.Common.{◌≡◌, ℕ, zero, suc, ◌-◌, ◌^◌, ◌<◌, ◌≤◌, Bool, true, false, ◌&&◌, eqb, ltb, leb, List, [], ◌∷◌, length, get_or, Option, Some, None, refl, sym, ap, subst, ap₂, ◌∙◌, arith, ◌⊎◌, inl, inr, decimal}
use Rattle.std.specs.List.{list_all}
use Rattle.std.specs.Int.{IsInRange}
use Rattle.std.proofs.lemmas.Bool.{eqb-true, eqb-false, lt-ltb, ltb-true, le-leb, leb-true}
use Rattle.std.proofs.lemmas.Fmt.{decimal_digit, decimal-digits_value, first_decimal, digits_decimal, digits_value-decimal, decimal_nonempty}
use Rattle.std.proofs.lemmas.Str.Parse.{IsDigitsTest, FoldsDigits, IsNumeralModel, numerals_by_fold}
use Rattle.exact_place.specs.Tokens.{Entry, entry_of, each_word, is_text, is_digit, one_more, digits_value, digits_below, is_nil, begins_number, number_of}
use Rattle.exact_place.proofs.Steps.{cases, went}
use Rattle.exact_place.proofs.Words.{both, none_some, text_is}

all_digits : List ℕ → Type 0
all_digits ds = list_all is_digit ds ≡ true

in_range : (c : ℕ) → is_digit c ≡ true → IsInRange 48 57 c
in_range c e = let k = both (leb 48 c) (leb c 57) e in (leb-true 48 c k.0, leb-true c 57 k.1)

from_range : (c : ℕ) → IsInRange 48 57 c → is_digit c ≡ true
from_range c r = rw (le-leb 48 c r.0, le-leb c 57 r.1) refl

tells : IsDigitsTest (λ ds. list_all is_digit ds ≡ true)
tells = record {
  empty = refl;
  parts = λ c cs p. let k = both (is_digit c) (list_all is_digit cs) p in (in_range c k.0, k.1);
  more = λ c cs r p. rw (from_range c r, p) refl;
}

folds : FoldsDigits digits_value
folds = record { empty = λ n. refl; more = λ n c cs r. refl }

pub own : IsNumeralModel (λ ds. list_all is_digit ds ≡ true) (digits_value 0)
own = numerals_by_fold (λ ds. list_all is_digit ds ≡ true) tells digits_value folds

grows : (v : ℕ) (ds : List ℕ) → v ≤ digits_value v ds
grows v [] = omega arith
grows v (c ∷ cs) = omega (arith, grows (one_more v c) cs)

below_to : (limit v : ℕ) (ds : List ℕ) → v < limit → digits_below limit v ds ≡ true → (list_all is_digit ds ≡ true) × (digits_value v ds < limit)
below_to limit v [] lt e = (refl, lt)
below_to limit v (c ∷ cs) lt e =
    let k = both (is_digit c) _ e in
    let l = both (ltb (one_more v c) limit) _ k.1 in
    let r = below_to limit (one_more v c) cs (ltb-true (one_more v c) limit l.0) l.1 in
    (rw (k.0, r.0) refl, r.1)

below_from : (limit v : ℕ) (ds : List ℕ) → list_all is_digit ds ≡ true → digits_value v ds < limit → digits_below limit v ds ≡ true
below_from limit v [] d lt = refl
below_from limit v (c ∷ cs) d lt =
    let k = both (is_digit c) (list_all is_digit cs) d in
    let small : one_more v c < limit = omega (arith, grows (one_more v c) cs, lt) in
    rw (k.0, lt-ltb (one_more v c) limit small) (below_from limit (one_more v c) cs k.1 lt)

-- a number that is read
pub record IsRead (nought : Bool) (limit v : ℕ) (text : List ℕ) : Type 0 where
  pub is : text ≡ decimal v
  pub below : v < limit
  pub some : nought ≡ false → 0 < v

decimal_some : (v : ℕ) (text : List ℕ) → text ≡ decimal v → (c : ℕ) (cs : List ℕ) → text ≡ c ∷ cs → (c ≡ 48 → ⊥) → 0 < v
decimal_some zero text is c cs e n = absurd (n (head (sym e ∙ is ∙ decimal_digit 0 (omega arith))))
  where
    head : c ∷ cs ≡ 48 ∷ [] → c ≡ 48
    head h = cc h
decimal_some (suc v) text is c cs e n = omega arith

pub number_is : (nought : Bool) (limit v : ℕ) (text : List ℕ) → 0 < limit → limit ≤ 2 ^ 64 → number_of nought limit text ≡ Some v → IsRead nought limit v text
number_is nought limit v [] some small e = absurd (none_some v e)
number_is nought limit v (c ∷ cs) some small e = elim (went (begins_number nought limit (c ∷ cs)) (Some (digits_value 0 (c ∷ cs))) None (Some v) e) [
  | inr k ↦ absurd (none_some v k.1)
  | inl k ↦ elim (went (eqb c 48) (nought && is_nil cs) (digits_below limit 0 (c ∷ cs)) true k.0) [
    | inl z ↦ alone (eqb-true c 48 z.0) (both nought (is_nil cs) z.1) k.1
    | inr z ↦ long (eqb-false c 48 z.0) (below_to limit 0 (c ∷ cs) some z.1) k.1
  ]
]
  where
    nil_is : (cs : List ℕ) → is_nil cs ≡ true → cs ≡ []
    nil_is [] e = refl
    nil_is (d ∷ cs) e = absurd cc

    alone : c ≡ 48 → (nought ≡ true) × (is_nil cs ≡ true) → ◌≡◌ {A = Option ℕ} (Some (digits_value 0 (c ∷ cs))) (Some v) → IsRead nought limit v (c ∷ cs)
    alone is ns e =
        let text_is : c ∷ cs ≡ 48 ∷ [] = ap₂ (λ (a : ℕ) (t : List ℕ). a ∷ t) is (nil_is cs ns.1) in
        let v_is : digits_value 0 (c ∷ cs) ≡ v = cc e in
        let zero_is : v ≡ 0 = sym v_is ∙ ap (λ (t : List ℕ). digits_value 0 t) text_is in
        record {
          is = text_is ∙ sym (decimal_digit 0 (omega arith)) ∙ ap decimal (sym zero_is);
          below = omega (arith, zero_is, some);
          some = λ no_zero. absurd (let t : true ≡ false = sym ns.0 ∙ no_zero in cc t);
        }

    long : (c ≡ 48 → ⊥) → (list_all is_digit (c ∷ cs) ≡ true) × (digits_value 0 (c ∷ cs) < limit) → ◌≡◌ {A = Option ℕ} (Some (digits_value 0 (c ∷ cs))) (Some v) → IsRead nought limit v (c ∷ cs)
    long n d e =
        let v_is : digits_value 0 (c ∷ cs) ≡ v = cc e in
        let spelled : decimal (digits_value 0 (c ∷ cs)) ≡ c ∷ cs = decimal-digits_value own (c ∷ cs) d.0 (omega arith) (λ h. absurd (n h)) (omega (arith, d.1, small)) in
        let is : c ∷ cs ≡ decimal v = sym spelled ∙ ap decimal v_is in
        record { is = is; below = omega (arith, v_is, d.1); some = λ no_zero. decimal_some v (c ∷ cs) is c cs refl n }

pub number_from : (nought : Bool) (limit v : ℕ) (text : List ℕ) → limit ≤ 2 ^ 64 → IsRead nought limit v text → number_of nought limit text ≡ Some v
number_from nought limit v text small r = by_text text r.is
  where
    zero_case : (nought : Bool) → (nought ≡ false → ⊥) → number_of nought limit (48 ∷ []) ≡ Some 0
    zero_case true n = refl
    zero_case false n = absurd (n refl)

    value_is : (text : List ℕ) → text ≡ decimal v → digits_value 0 text ≡ v
    value_is text is = rw is (digits_value-decimal own v (omega (arith, r.below, small)))

    digits_are : (text : List ℕ) → text ≡ decimal v → list_all is_digit text ≡ true
    digits_are text is = rw is (digits_decimal own v (omega (arith, r.below, small)))

    long : (c : ℕ) (cs : List ℕ) → c ∷ cs ≡ decimal v → 0 < v → number_of nought limit (c ∷ cs) ≡ Some v
    long c cs is some =
        let first : 48 < get_or (c ∷ cs) 0 0 = subst (λ (t : List ℕ). 48 < get_or t 0 0) (sym is) (first_decimal v some (omega (arith, r.below, small))) in
        let apart : eqb c 48 ≡ false = not_same c first in
        let value : digits_value 0 (c ∷ cs) ≡ v = value_is (c ∷ cs) is in
        let go : digits_below limit 0 (c ∷ cs) ≡ true = below_from limit 0 (c ∷ cs) (digits_are (c ∷ cs) is) (omega (arith, value, r.below)) in
        rw (apart, go) (ap Some value)
      where
        not_same : (c : ℕ) → 48 < c → eqb c 48 ≡ false
        not_same c lt = elim (cases (eqb c 48)) [ inl e ↦ absurd (let same : c ≡ 48 = eqb-true c 48 e in omega arith) | inr e ↦ e ]

    by_text : (text : List ℕ) → text ≡ decimal v → number_of nought limit text ≡ Some v
    by_text [] is = absurd (let k : length {A = ℕ} [] ≡ length (decimal v) = ap (λ (t : List ℕ). length t) is in omega (arith, decimal_nonempty v (omega (arith, r.below, small)), k))
    by_text (c ∷ cs) is = elim (zero_or v refl) [
      | inl z ↦ nothing z
      | inr p ↦ long c cs is p
    ]
      where
        zero_or : (w : ℕ) → w ≡ v → (v ≡ 0) ⊎ (0 < v)
        zero_or zero e = inl (sym e)
        zero_or (suc w) e = inr (omega (arith, e))

        nothing : v ≡ 0 → number_of nought limit (c ∷ cs) ≡ Some v
        nothing z =
            let text_is : c ∷ cs ≡ 48 ∷ [] = is ∙ ap decimal z ∙ decimal_digit 0 (omega arith) in
            ap (λ (t : List ℕ). number_of nought limit t) text_is ∙ zero_case nought (λ f. let k : 0 < v = r.some f in omega arith) ∙ ap Some (sym z)

pub table_keywords : {A : Type 0} (test : List ℕ → Bool) (es : List (Entry A)) → each_word test es ≡ true → (text : List ℕ) (x : A) → entry_of es text ≡ Some x → test text ≡ true
table_keywords test [] h text x e = absurd (none_some x e)
table_keywords test (d ∷ ds) h text x e =
    let k = both (test d.word) (each_word test ds) h in
    elim (went _ (Some d.value) (entry_of ds text) (Some x) e) [
      | inl f ↦ rw (text_is text d.word f.0) k.0
      | inr f ↦ table_keywords test ds k.1 text x f.1
    ]

-- each entry of the table is of the relation
abbrev pub AllEntries : {A : Type 0} → (A → List ℕ → Type 0) → List (Entry A) → Type 0
AllEntries R [] = Unit {0}
AllEntries R (e ∷ es) = R e.value e.word × AllEntries R es

pub table_is : {A : Type 0} (R : A → List ℕ → Type 0) (es : List (Entry A)) → AllEntries R es → (text : List ℕ) (x : A) → entry_of es text ≡ Some x → R x text
table_is R [] h text x e = absurd (none_some x e)
table_is {A} R (d ∷ ds) h text x e = elim (went _ (Some d.value) (entry_of ds text) (Some x) e) [
  | inl f ↦ here f.0 f.1
  | inr f ↦ table_is R ds h.1 text x f.1
]
  where
    value_is : (a b : A) → Some a ≡ Some b → a ≡ b
    value_is a b e = cc e

    here : is_text text d.word ≡ true → ◌≡◌ {A = Option A} (Some d.value) (Some x) → R x text
    here t v = rw (text_is text d.word t, ← value_is d.value x v) h.0
