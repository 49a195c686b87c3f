-- The escapes of characters in names: each that stands for a character in a name, and no other.
use Rattle.std.proofs.Common.{◌≡◌, ℕ, ◌+◌, ◌-◌, ◌*◌, ◌/◌, ◌%◌, ◌<◌, ◌≤◌, Bool, true, false, cond, not, ◌&&◌, ◌||◌, eqb, ltb, leb, List, [], ◌∷◌, ◌++◌, Option, Some, None, refl, sym, ap, subst, ap₂, ◌∙◌, append-nil, arith, ◌⊎◌, inl, inr, codes}
use Rattle.std.specs.Char.{IsScalar}
use Rattle.std.specs.Char.Utf16.{surrogate_pair_char}
use Rattle.std.proofs.lemmas.Bool.{lt-ltb, ltb-true, ltb-false, le-ltb, leb-true, leb-false, le-leb, eqb-true, eqb-false}
use Rattle.js_tree.specs.Words.{hex_digit, unit_escape, unit_text}
use Rattle.exact_place.specs.Grammar.{Spelling, ◌then◌, Leads, Either, first, second, IsOne, IsValue, chosen}
use Rattle.exact_place.specs.Place.{Law, Stops}
use Rattle.exact_place.proofs.Steps.{cases, went}
use Rattle.exact_place.proofs.Words.{both, none_some}
use Rattle.exact_place.proofs.Basic.{law_value, law_one, law_same}
use Rattle.exact_place.proofs.Sequence.{Starts, law_after, law_lead, law_either, law_chosen}
use Rattle.exact_place.proofs.First.{apart, starts_leads, follows_starts}
use Rattle.js_read_spec.specs.Tokens.{hex_of}
use Rattle.sj_text_spec.specs.Spelling.{character_text}
use Rattle.sj_text_spec.specs.Names.{second_digit, second_of, third_digit, third_of, last_digit, digit_of, low_digit, low_of, unit_at, low_at, is_high, pair_at, simple_escape, escape_at}
use Rattle.sj_text_spec.proofs.Fields.{anything}

some_is : {A : Type 0} (a b : A) → Some a ≡ Some b → a ≡ b
some_is a b e = cc e

differs : (a b : ℕ) → (a ≡ b → ⊥) → eqb a b ≡ false
differs a b n = elim (cases (eqb a b)) [ inl e ↦ absurd (n (eqb-true a b e)) | inr e ↦ e ]

not_le : (a b : ℕ) → b < a → leb a b ≡ false
not_le a b lt = elim (cases (leb a b)) [ inl e ↦ absurd (let le : a ≤ b = leb-true a b e in omega arith) | inr e ↦ e ]

clash : {b : Bool} → b ≡ true → b ≡ false → ⊥
clash t f = let k : true ≡ false = sym t ∙ f in cc k

-- ---- hexadecimal digits

record IsHex (c d : ℕ) : Type 0 where
  below : d < 16
  is : c ≡ hex_digit d

hex_is : (c d : ℕ) → hex_of c ≡ Some d → IsHex c d
hex_is c d e = elim (went (leb 48 c && leb c 57) (Some (c - 48)) (cond (leb 97 c && leb c 102) (Some (c - 87)) None) (Some d) e) [
  | inl k ↦ digit (both (leb 48 c) (leb c 57) k.0) (some_is (c - 48) d k.1)
  | inr k ↦ elim (went (leb 97 c && leb c 102) (Some (c - 87)) None (Some d) k.1) [
    | inl l ↦ letter (both (leb 97 c) (leb c 102) l.0) (some_is (c - 87) d l.1)
    | inr l ↦ absurd (none_some d l.1)
  ]
]
  where
    digit : (leb 48 c ≡ true) × (leb c 57 ≡ true) → c - 48 ≡ d → IsHex c d
    digit r is =
        let low : 48 ≤ c = leb-true 48 c r.0 in
        let high : c ≤ 57 = leb-true c 57 r.1 in
        let small : ltb d 10 ≡ true = lt-ltb d 10 (omega arith) in
        record { below = omega arith; is = rw small (omega arith) }

    letter : (leb 97 c ≡ true) × (leb c 102 ≡ true) → c - 87 ≡ d → IsHex c d
    letter r is =
        let low : 97 ≤ c = leb-true 97 c r.0 in
        let high : c ≤ 102 = leb-true c 102 r.1 in
        let big : ltb d 10 ≡ false = le-ltb d 10 (omega arith) in
        record { below = omega arith; is = rw big (omega arith) }

hex_from : (d : ℕ) → d < 16 → hex_of (hex_digit d) ≡ Some d
hex_from d lt = elim (cases (ltb d 10)) [
  | inl k ↦ rw k (digit (ltb-true d 10 k))
  | inr k ↦ rw k (letter (ltb-false d 10 k))
]
  where
    digit : d < 10 → hex_of (48 + d) ≡ Some d
    digit s = rw (le-leb 48 (48 + d) (omega arith), le-leb (48 + d) 57 (omega arith)) (ap Some (omega arith))

    off : (a b : Bool) → b ≡ false → (a && b) ≡ false
    off true b e = e
    off false b e = refl

    letter : 10 ≤ d → hex_of (87 + d) ≡ Some d
    letter s =
        let no_digit : (leb 48 (87 + d) && leb (87 + d) 57) ≡ false = off (leb 48 (87 + d)) (leb (87 + d) 57) (not_le (87 + d) 57 (omega arith)) in
        rw (no_digit, le-leb 97 (87 + d) (omega arith), le-leb (87 + d) 102 (omega arith)) (ap Some (omega arith))

-- a digit that isn't given up, behind those before it
record IsNext (high c v : ℕ) (off : ℕ → Bool) : Type 0 where
  digit : ℕ
  below : digit < 16
  is : c ≡ hex_digit digit
  value : v ≡ high * 16 + digit
  on : off digit ≡ false

next_by : (high c v : ℕ) (off : ℕ → Bool) (o : Option ℕ) → hex_of c ≡ o → ((d : ℕ) → o ≡ Some d → cond (off d) None (Some (high * 16 + d)) ≡ Some v) → (o ≡ None → ⊥) → IsNext high c v off
next_by high c v off None is h n = absurd (n refl)
next_by high c v off (Some d) is h n = elim (went (off d) None (Some (high * 16 + d)) (Some v) (h d refl)) [
  | inl k ↦ absurd (none_some v k.1)
  | inr k ↦ let x = hex_is c d is in record { digit = d; below = x.below; is = x.is; value = sym (some_is (high * 16 + d) v k.1); on = k.0 }
]

second_is : (high c v : ℕ) → second_of high c ≡ Some v → IsNext high c v (λ d. eqb high 13 && leb 12 d)
second_is high c v e = next_by high c v (λ d. eqb high 13 && leb 12 d) (hex_of c) refl (λ d is. ap (second_digit high) (sym is) ∙ e) (λ is. none_some v (ap (second_digit high) (sym is) ∙ e))

third_is : (high c v : ℕ) → third_of high c ≡ Some v → IsNext high c v (λ d. eqb high 0 && ltb d 8)
third_is high c v e = next_by high c v (λ d. eqb high 0 && ltb d 8) (hex_of c) refl (λ d is. ap (third_digit high) (sym is) ∙ e) (λ is. none_some v (ap (third_digit high) (sym is) ∙ e))

last_is : (high c v : ℕ) → digit_of high c ≡ Some v → IsNext high c v (λ d. false)
last_is high c v e = next_by high c v (λ d. false) (hex_of c) refl (λ d is. ap (last_digit high) (sym is) ∙ e) (λ is. none_some v (ap (last_digit high) (sym is) ∙ e))

low_is : (c v : ℕ) → low_of c ≡ Some v → IsNext 13 c v (λ d. not (leb 12 d))
low_is c v e = next_by 13 c v (λ d. not (leb 12 d)) (hex_of c) refl (λ d is. turn (leb 12 d) d ∙ ap low_digit (sym is) ∙ e) (λ is. none_some v (ap low_digit (sym is) ∙ e))
  where
    turn : (b : Bool) (d : ℕ) → cond (not b) None (Some (13 * 16 + d)) ≡ cond b (Some (208 + d)) None
    turn true d = refl
    turn false d = refl

second_from : (high d : ℕ) → d < 16 → (eqb high 13 && leb 12 d) ≡ false → second_of high (hex_digit d) ≡ Some (high * 16 + d)
second_from high d lt on = ap (second_digit high) (hex_from d lt) ∙ rw on refl

third_from : (high d : ℕ) → d < 16 → (eqb high 0 && ltb d 8) ≡ false → third_of high (hex_digit d) ≡ Some (high * 16 + d)
third_from high d lt on = ap (third_digit high) (hex_from d lt) ∙ rw on refl

last_from : (high d : ℕ) → d < 16 → digit_of high (hex_digit d) ≡ Some (high * 16 + d)
last_from high d lt = ap (last_digit high) (hex_from d lt)

low_from : (d : ℕ) → d < 16 → 12 ≤ d → low_of (hex_digit d) ≡ Some (208 + d)
low_from d lt le = ap low_digit (hex_from d lt) ∙ rw (le-leb 12 d le) refl

off_both : (a b : Bool) → (a ≡ true → b ≡ true → ⊥) → (a && b) ≡ false
off_both true true n = absurd (n refl refl)
off_both true false n = refl
off_both false b n = refl

on_both : (a b : Bool) → (a && b) ≡ false → a ≡ true → b ≡ true → ⊥
on_both a b e x y = clash (rw (x, y) refl) e

-- ---- units

escape_is : (u a b c d : ℕ) → a < 16 → b < 16 → c < 16 → d < 16 → u ≡ ((a * 16 + b) * 16 + c) * 16 + d → unit_escape u ≡ 92 ∷ 117 ∷ hex_digit a ∷ hex_digit b ∷ hex_digit c ∷ hex_digit d ∷ []
escape_is u a b c d al bl cl dl is =
    let one : u / 4096 ≡ a = omega arith in
    let two : u / 256 % 16 ≡ b = omega arith in
    let three : u / 16 % 16 ≡ c = omega arith in
    let four : u % 16 ≡ d = omega arith in
    rw (one, two, three, four) refl

escaped_text : (u : ℕ) → 126 < u → unit_text u ≡ unit_escape u
escaped_text u gt = rw (differs u 34 (λ e. omega arith), differs u 92 (λ e. omega arith), le-leb 32 u (omega arith), not_le u 126 gt) refl

-- a unit outside ASCII that isn't the second of a pair, behind `\u`
record IsFar (u : ℕ) (text : List ℕ) : Type 0 where
  far : 128 ≤ u
  small : u < 65536
  lone : (u < 0xdc00) ⊎ (0xe000 ≤ u)
  is : 92 ∷ 117 ∷ text ≡ unit_escape u

abbrev Unit_form : Spelling ℕ
Unit_form = IsOne hex_of then λ a. IsOne (second_of a) then λ v. IsOne (third_of v) then λ w. IsOne (digit_of w)

far_to : (u : ℕ) (text : List ℕ) → Unit_form u text → IsFar u text
far_to u text p =
    let q = p.second in
    let r = q.second in
    let one = hex_is p.first.byte p.value p.first.is in
    let two = second_is p.value q.first.byte q.value q.first.is in
    let three = third_is q.value r.first.byte r.value r.first.is in
    let four = last_is r.value r.second.byte u r.second.is in
    let whole : text ≡ p.first.byte ∷ q.first.byte ∷ r.first.byte ∷ r.second.byte ∷ [] =
    p.parts ∙ ap₂ (λ (x y : List ℕ). x ++ y) p.first.parts (q.parts ∙ ap₂ (λ (x y : List ℕ). x ++ y) q.first.parts (r.parts ∙ ap₂ (λ (x y : List ℕ). x ++ y) r.first.parts r.second.parts)) in
    let spelled : p.first.byte ∷ q.first.byte ∷ r.first.byte ∷ r.second.byte ∷ [] ≡ hex_digit p.value ∷ hex_digit two.digit ∷ hex_digit three.digit ∷ hex_digit four.digit ∷ [] =
    ap (λ (x : ℕ). x ∷ q.first.byte ∷ r.first.byte ∷ r.second.byte ∷ []) one.is ∙ ap (λ (x : ℕ). hex_digit p.value ∷ x ∷ r.first.byte ∷ r.second.byte ∷ []) two.is
    ∙ ap (λ (x : ℕ). hex_digit p.value ∷ hex_digit two.digit ∷ x ∷ r.second.byte ∷ []) three.is ∙ ap (λ (x : ℕ). hex_digit p.value ∷ hex_digit two.digit ∷ hex_digit three.digit ∷ x ∷ []) four.is in
    let value : u ≡ ((p.value * 16 + two.digit) * 16 + three.digit) * 16 + four.digit = omega (arith, two.value, three.value, four.value) in
    by u p.value two.digit three.digit four.digit one.below two.below three.below four.below value
    (on_both (eqb p.value 13) (leb 12 two.digit) two.on) (on_both (eqb q.value 0) (ltb three.digit 8) three.on) two.value
    (ap (λ (t : List ℕ). 92 ∷ 117 ∷ t) (whole ∙ spelled) ∙ sym (escape_is u p.value two.digit three.digit four.digit one.below two.below three.below four.below value))
  where
    by : (u a b c d : ℕ) → a < 16 → b < 16 → c < 16 → d < 16 → u ≡ ((a * 16 + b) * 16 + c) * 16 + d → {v : ℕ}
        → (eqb a 13 ≡ true → leb 12 b ≡ true → ⊥) → (eqb v 0 ≡ true → ltb c 8 ≡ true → ⊥) → v ≡ a * 16 + b → {text : List ℕ} → 92 ∷ 117 ∷ text ≡ unit_escape u → IsFar u text
    by u a b c d al bl cl dl is {v} off_two off_three v_is spelled = record { far = far; small = omega arith; lone = lone; is = spelled }
      where
        far : 128 ≤ u
        far = elim (cases (eqb v 0)) [
          | inr k ↦ (let n : v ≡ 0 → ⊥ = eqb-false v 0 k in omega arith)
          | inl k ↦ elim (cases (ltb c 8)) [
            | inl l ↦ absurd (off_three k l)
            | inr l ↦ (let zero_is : v ≡ 0 = eqb-true v 0 k in let big : 8 ≤ c = ltb-false c 8 l in omega arith)
          ]
        ]

        lone : (u < 0xdc00) ⊎ (0xe000 ≤ u)
        lone = elim (cases (eqb a 13)) [
          | inr k ↦ elim (cases (ltb a 13)) [
            | inl l ↦ inl (let lt : a < 13 = ltb-true a 13 l in omega arith)
            | inr l ↦ inr (let ge : 13 ≤ a = ltb-false a 13 l in let n : a ≡ 13 → ⊥ = eqb-false a 13 k in omega arith)
          ]
          | inl k ↦ elim (cases (leb 12 b)) [
            | inl l ↦ absurd (off_two k l)
            | inr l ↦ inl (let same : a ≡ 13 = eqb-true a 13 k in let lt : b < 12 = leb-false 12 b l in omega arith)
          ]
        ]

far_from : (u : ℕ) (text : List ℕ) → IsFar u text → Unit_form u text
far_from u text p =
    let a : ℕ = u / 4096 in
    let b : ℕ = u / 256 % 16 in
    let c : ℕ = u / 16 % 16 in
    let d : ℕ = u % 16 in
    let v : ℕ = u / 4096 * 16 + u / 256 % 16 in
    let small : u < 65536 = p.small in
    let far : 128 ≤ u = p.far in
    let off_two : (eqb a 13 && leb 12 b) ≡ false = off_both (eqb a 13) (leb 12 b) (λ x y. pair p.lone (eqb-true a 13 x) (leb-true 12 b y)) in
    let off_three : (eqb v 0 && ltb c 8) ≡ false = off_both (eqb v 0) (ltb c 8) (λ x y. near far (eqb-true v 0 x) (ltb-true c 8 y)) in
    let value : (v * 16 + c) * 16 + d ≡ u = omega arith in
    let whole : text ≡ hex_digit a ∷ hex_digit b ∷ hex_digit c ∷ hex_digit d ∷ [] = tail (tail p.is) in
    record {
      value = a;
      front = hex_digit a ∷ [];
      back = hex_digit b ∷ hex_digit c ∷ hex_digit d ∷ [];
      first = record { byte = hex_digit a; is = hex_from a (omega arith); parts = refl };
      second = record {
        value = v;
        front = hex_digit b ∷ [];
        back = hex_digit c ∷ hex_digit d ∷ [];
        first = record { byte = hex_digit b; is = second_from a b (omega arith) off_two; parts = refl };
        second = record {
          value = v * 16 + c;
          front = hex_digit c ∷ [];
          back = hex_digit d ∷ [];
          first = record { byte = hex_digit c; is = third_from v c (omega arith) off_three; parts = refl };
          second = record { byte = hex_digit d; is = last_from (v * 16 + c) d (omega arith) ∙ ap Some value; parts = refl };
          parts = refl;
        };
        parts = refl;
      };
      parts = whole;
    }
  where
    tail : {x y : ℕ} {s t : List ℕ} → x ∷ s ≡ y ∷ t → s ≡ t
    tail e = cc e

    pair : (u < 0xdc00) ⊎ (0xe000 ≤ u) → u / 4096 ≡ 13 → 12 ≤ u / 256 % 16 → ⊥
    pair (inl lt) x y = omega arith
    pair (inr ge) x y = omega arith

    near : 128 ≤ u → u / 4096 * 16 + u / 256 % 16 ≡ 0 → u / 16 % 16 < 8 → ⊥
    near far x y = omega arith

-- ---- the second unit of a pair, behind `\ud`

record IsLow (u : ℕ) (text : List ℕ) : Type 0 where
  low : 0xdc00 ≤ u
  high : u < 0xe000
  is : 92 ∷ 117 ∷ 100 ∷ text ≡ unit_escape u

abbrev Low_form : Spelling ℕ
Low_form = IsOne low_of then λ v. IsOne (digit_of v) then λ w. IsOne (digit_of w)

low_to : (u : ℕ) (text : List ℕ) → Low_form u text → IsLow u text
low_to u text p =
    let q = p.second in
    let two = low_is p.first.byte p.value p.first.is in
    let three = last_is p.value q.first.byte q.value q.first.is in
    let four = last_is q.value q.second.byte u q.second.is in
    let whole : text ≡ p.first.byte ∷ q.first.byte ∷ q.second.byte ∷ [] = p.parts ∙ ap₂ (λ (x y : List ℕ). x ++ y) p.first.parts (q.parts ∙ ap₂ (λ (x y : List ℕ). x ++ y) q.first.parts q.second.parts) in
    let spelled : p.first.byte ∷ q.first.byte ∷ q.second.byte ∷ [] ≡ hex_digit two.digit ∷ hex_digit three.digit ∷ hex_digit four.digit ∷ [] =
    ap (λ (x : ℕ). x ∷ q.first.byte ∷ q.second.byte ∷ []) two.is ∙ ap (λ (x : ℕ). hex_digit two.digit ∷ x ∷ q.second.byte ∷ []) three.is ∙ ap (λ (x : ℕ). hex_digit two.digit ∷ hex_digit three.digit ∷ x ∷ []) four.is in
    let value : u ≡ ((13 * 16 + two.digit) * 16 + three.digit) * 16 + four.digit = omega (arith, two.value, three.value, four.value) in
    let ge : 12 ≤ two.digit = leb-true 12 two.digit (turned (leb 12 two.digit) two.on) in
    record {
      low = omega (arith, value, ge);
      high = omega (arith, value, two.below, three.below, four.below);
      is = ap (λ (t : List ℕ). 92 ∷ 117 ∷ 100 ∷ t) (whole ∙ spelled) ∙ sym (escape_is u 13 two.digit three.digit four.digit (omega arith) two.below three.below four.below value);
    }
  where
    turned : (b : Bool) → not b ≡ false → b ≡ true
    turned true e = refl
    turned false e = absurd cc

low_from_text : (u : ℕ) (text : List ℕ) → IsLow u text → Low_form u text
low_from_text u text p =
    let b : ℕ = u / 256 % 16 in
    let c : ℕ = u / 16 % 16 in
    let d : ℕ = u % 16 in
    let low : 0xdc00 ≤ u = p.low in
    let high : u < 0xe000 = p.high in
    let value : ((208 + b) * 16 + c) * 16 + d ≡ u = omega arith in
    let whole : text ≡ hex_digit b ∷ hex_digit c ∷ hex_digit d ∷ [] = tail (tail (tail p.is)) in
    record {
      value = 208 + b;
      front = hex_digit b ∷ [];
      back = hex_digit c ∷ hex_digit d ∷ [];
      first = record { byte = hex_digit b; is = low_from b (omega arith) (omega arith); parts = refl };
      second = record {
        value = (208 + b) * 16 + c;
        front = hex_digit c ∷ [];
        back = hex_digit d ∷ [];
        first = record { byte = hex_digit c; is = last_from (208 + b) c (omega arith); parts = refl };
        second = record { byte = hex_digit d; is = last_from ((208 + b) * 16 + c) d (omega arith) ∙ ap Some value; parts = refl };
        parts = refl;
      };
      parts = whole;
    }
  where
    tail : {x y : ℕ} {s t : List ℕ} → x ∷ s ≡ y ∷ t → s ≡ t
    tail e = cc e

-- ---- laws of the digits

open_end : (bytes : List ℕ) → Stops anything bytes
open_end [] = tt
open_end (c ∷ rest) = refl

law_digits : {n : ℕ} → Law n anything unit_at unit_at IsFar
unfolding unit_at
law_digits {n} = law_same far_to far_from (law_after n n _ _ (λ x text p. omega arith) (λ x y back rest q s. open_end (back ++ rest)) (law_one hex_of 0 48 refl) (λ a text p.
    law_after n n _ _ (λ x text p. omega arith) (λ x y back rest q s. open_end (back ++ rest)) (law_one (second_of a) (a * 16 + 0) 48 (zero_digit a (eqb a 13))) (λ v text p.
    law_after n n _ _ (λ x text p. omega arith) (λ x y back rest q s. open_end (back ++ rest)) (law_one (third_of v) (v * 16 + 15) 102 (last_third v (eqb v 0))) (λ w text p.
    law_one (digit_of w) (w * 16 + 0) 48 refl))))
  where
    zero_digit : (a : ℕ) (b : Bool) → cond (b && false) None (Some (a * 16 + 0)) ≡ Some (a * 16 + 0)
    zero_digit a true = refl
    zero_digit a false = refl

    last_third : (v : ℕ) (b : Bool) → cond (b && false) None (Some (v * 16 + 15)) ≡ Some (v * 16 + 15)
    last_third v true = refl
    last_third v false = refl

law_low : {n : ℕ} → Law n anything low_at low_at IsLow
unfolding low_at
law_low {n} = law_same low_to low_from_text (law_after n n _ _ (λ x text p. omega arith) (λ x y back rest q s. open_end (back ++ rest)) (law_one low_of 220 99 refl) (λ v text p.
    law_after n n _ _ (λ x text p. omega arith) (λ x y back rest q s. open_end (back ++ rest)) (law_one (digit_of v) (v * 16 + 0) 48 refl) (λ w text p. law_one (digit_of w) (w * 16 + 0) 48 refl)))

-- ---- characters behind a backslash

-- a character that has an escape in names
pub data HasEscape (c : ℕ) : Type 0 where
  quote : c ≡ 34 → HasEscape c
  backslash : c ≡ 92 → HasEscape c
  outside : 128 ≤ c → HasEscape c

pub record IsEscape (c : ℕ) (text : List ℕ) : Type 0 where
  pub far : HasEscape c
  pub scalar : IsScalar c
  pub is : codes "\\" ++ text ≡ character_text c

abbrev Pair_form : ℕ → Spelling ℕ
Pair_form u = chosen (is_high u) (Leads (codes "\\ud") (IsLow then λ v. IsValue (surrogate_pair_char u v))) (IsValue u)

abbrev Escape_form : Spelling ℕ
Escape_form = Either (Leads (codes "u") (IsFar then Pair_form)) (IsOne simple_escape)

scalar_low : (c : ℕ) → c < 55296 → IsScalar c
scalar_low c lt = rw (lt-ltb c 55296 lt) refl

scalar_high : (c : ℕ) → 57344 ≤ c → c < 1114112 → IsScalar c
scalar_high c ge lt = rw (le-ltb c 55296 (omega arith), le-leb 57344 c ge, lt-ltb c 1114112 lt) refl

scalar_is : (c : ℕ) → IsScalar c → (c < 55296) ⊎ ((57344 ≤ c) × (c < 1114112))
scalar_is c e = elim (went (ltb c 55296) true (leb 57344 c && ltb c 1114112) true e) [
  | inl k ↦ inl (ltb-true c 55296 k.0)
  | inr k ↦ inr (let b = both (leb 57344 c) (ltb c 1114112) k.1 in (leb-true 57344 c b.0, ltb-true c 1114112 b.1))
]

one_unit : (c : ℕ) → c < 65536 → character_text c ≡ unit_text c
one_unit c lt = rw (lt-ltb c 65536 lt) (append-nil (unit_text c))

two_units : (c u v : ℕ) → 65536 ≤ c → 0xd800 + (c - 65536) / 0x400 ≡ u → 0xdc00 + (c - 65536) % 0x400 ≡ v → character_text c ≡ unit_text u ++ unit_text v
two_units c u v ge high low = rw (le-ltb c 65536 ge, high, low) (ap (λ (t : List ℕ). unit_text u ++ t) (append-nil (unit_text v)))

high_is : (u : ℕ) → is_high u ≡ true → (0xd800 ≤ u) × (u < 0xdc00)
high_is u e = let b = both (leb 0xd800 u) (ltb u 0xdc00) e in (leb-true 0xd800 u b.0, ltb-true u 0xdc00 b.1)

high_from : (u : ℕ) → 0xd800 ≤ u → u < 0xdc00 → is_high u ≡ true
high_from u ge lt = rw (le-leb 0xd800 u ge, lt-ltb u 0xdc00 lt) refl

escape_to : (c : ℕ) (text : List ℕ) → Escape_form c text → IsEscape c text
escape_to c text (second p) = elim (went (eqb p.byte 34 || eqb p.byte 92) (Some p.byte) None (Some c) p.is) [
  | inr k ↦ absurd (none_some c k.1)
  | inl k ↦ elim (cases (eqb p.byte 34)) [
    | inl l ↦ simple 34 (sym (some_is p.byte c k.1) ∙ eqb-true p.byte 34 l) quote refl refl
    | inr l ↦ simple 92 (sym (some_is p.byte c k.1) ∙ eqb-true p.byte 92 (rw l at k.0)) backslash refl refl
  ]
]
  where
    simple : (d : ℕ) → c ≡ d → (c ≡ d → HasEscape c) → IsScalar d → codes "\\" ++ (d ∷ []) ≡ character_text d → IsEscape c text
    simple d is has scalar spelled =
        let byte_is : p.byte ≡ d = byte d is in
        record { far = has is; scalar = subst IsScalar (sym is) scalar; is = ap (λ (t : List ℕ). codes "\\" ++ t) (p.parts ∙ ap (λ (x : ℕ). x ∷ []) byte_is) ∙ spelled ∙ ap character_text (sym is) }
      where
        byte : (d : ℕ) → c ≡ d → p.byte ≡ d
        byte d is = elim (went (eqb p.byte 34 || eqb p.byte 92) (Some p.byte) None (Some c) p.is) [ inl k ↦ some_is p.byte c k.1 ∙ is | inr k ↦ absurd (none_some c k.1) ]
escape_to c text (first p) = by (is_high q.value) refl q.second
  where
    q : (IsFar then Pair_form) c p.back
    q = p.second

    by : (b : Bool) → is_high q.value ≡ b → chosen b (Leads (codes "\\ud") (IsLow then λ v. IsValue (surrogate_pair_char q.value v))) (IsValue q.value) c q.back → IsEscape c text
    by false off r =
        let u : ℕ = q.value in
        let far : 128 ≤ q.value = q.first.far in
        let lone : (q.value < 0xd800) ⊎ (0xe000 ≤ q.value) = outside_pairs (q.value) q.first.lone off in
        let small : q.value < 65536 = q.first.small in
        let scalar : IsScalar q.value = elim lone [ inl lt ↦ scalar_low q.value lt | inr ge ↦ scalar_high q.value ge (omega arith) ] in
        let spelled : 92 ∷ 117 ∷ q.front ≡ unit_text q.value = q.first.is ∙ sym (escaped_text q.value (omega arith)) in
        let whole : codes "\\" ++ text ≡ 92 ∷ 117 ∷ q.front = ap (λ (t : List ℕ). codes "\\" ++ t) (p.parts ∙ ap (λ (t : List ℕ). codes "u" ++ t) (q.parts ∙ ap (λ (t : List ℕ). q.front ++ t) r.empty ∙ append-nil q.front)) in
        subst (λ (x : ℕ). IsEscape x text) (sym r.same) (record { far = outside far; scalar = scalar; is = whole ∙ spelled ∙ sym (one_unit q.value small) })
      where
        outside_pairs : (u : ℕ) → (u < 0xdc00) ⊎ (0xe000 ≤ u) → is_high u ≡ false → (u < 0xd800) ⊎ (0xe000 ≤ u)
        outside_pairs u (inr ge) off = inr ge
        outside_pairs u (inl lt) off = elim (cases (ltb u 0xd800)) [
          | inl k ↦ inl (ltb-true u 0xd800 k)
          | inr k ↦ absurd (clash (high_from u (ltb-false u 0xd800 k) lt) off)
        ]
    by true on r =
        let h = high_is q.value on in
        let u : ℕ = q.value in
        let s = r.second in
        let v : ℕ = s.value in
        let l = s.first in
        let c_is : c ≡ surrogate_pair_char q.value s.value = s.second.same in
        let facts : (65536 ≤ c) × (c < 1114112) × (0xd800 + (c - 65536) / 0x400 ≡ q.value) × (0xdc00 + (c - 65536) % 0x400 ≡ s.value) = numbers c q.value s.value c_is h.0 h.1 l.low l.high in
        let one : 92 ∷ 117 ∷ q.front ≡ unit_text q.value = q.first.is ∙ sym (escaped_text q.value (omega (arith, h.0))) in
        let two : 92 ∷ 117 ∷ 100 ∷ s.front ≡ unit_text s.value = l.is ∙ sym (escaped_text s.value (omega (arith, l.low))) in
        let back_is : q.back ≡ 92 ∷ 117 ∷ 100 ∷ s.front = r.parts ∙ ap (λ (t : List ℕ). codes "\\ud" ++ t) (s.parts ∙ ap (λ (t : List ℕ). s.front ++ t) s.second.empty ∙ append-nil s.front) in
        let whole : codes "\\" ++ text ≡ (92 ∷ 117 ∷ q.front) ++ (92 ∷ 117 ∷ 100 ∷ s.front) = ap (λ (t : List ℕ). codes "\\" ++ t) (p.parts ∙ ap (λ (t : List ℕ). codes "u" ++ t) (q.parts ∙ ap (λ (t : List ℕ). q.front ++ t) back_is)) in
        record {
          far = outside (omega (arith, facts.0));
          scalar = scalar_high c (omega (arith, facts.0)) facts.1;
          is = whole ∙ ap₂ (λ (x y : List ℕ). x ++ y) one two ∙ sym (two_units c q.value s.value facts.0 facts.2 facts.3);
        }
      where
        numbers : (c u v : ℕ) → c ≡ 0x10000 + (u - 0xd800) * 0x400 + (v - 0xdc00) → 0xd800 ≤ u → u < 0xdc00 → 0xdc00 ≤ v → v < 0xe000
            → (65536 ≤ c) × (c < 1114112) × (0xd800 + (c - 65536) / 0x400 ≡ u) × (0xdc00 + (c - 65536) % 0x400 ≡ v)
        numbers c u v is a b d e = (omega arith, omega arith, omega arith, omega arith)

escape_from : (c : ℕ) (text : List ℕ) → IsEscape c text → Escape_form c text
escape_from c text p = by p.far
  where
    tail : {x y : ℕ} {s t : List ℕ} → x ∷ s ≡ y ∷ t → s ≡ t
    tail e = cc e

    known : (d : ℕ) → c ≡ d → simple_escape d ≡ Some d → character_text d ≡ 92 ∷ d ∷ [] → Escape_form c text
    known d is ok spelled = second (record { byte = d; is = ok ∙ ap Some (sym is); parts = tail (p.is ∙ ap character_text is ∙ spelled) })

    no_high : (u : ℕ) → (u < 55296) ⊎ ((57344 ≤ u) × (u < 1114112)) → is_high u ≡ false
    no_high u (inl lt) = off_both (leb 0xd800 u) (ltb u 0xdc00) (λ x y. let ge : 0xd800 ≤ u = leb-true 0xd800 u x in omega arith)
    no_high u (inr k) = off_both (leb 0xd800 u) (ltb u 0xdc00) (λ x y. let lt : u < 0xdc00 = ltb-true u 0xdc00 y in omega (arith, k.0))

    single : 128 ≤ c → c < 65536 → Escape_form c text
    single far small =
        let text_is : 92 ∷ text ≡ unit_escape c = p.is ∙ one_unit c small ∙ escaped_text c (omega arith) in
        let digits : List ℕ = hex_digit (c / 4096) ∷ hex_digit (c / 256 % 16) ∷ hex_digit (c / 16 % 16) ∷ hex_digit (c % 16) ∷ [] in
        let tail_is : text ≡ 117 ∷ hex_digit (c / 4096) ∷ hex_digit (c / 256 % 16) ∷ hex_digit (c / 16 % 16) ∷ hex_digit (c % 16) ∷ [] = tail text_is in
        first (record {
          back = hex_digit (c / 4096) ∷ hex_digit (c / 256 % 16) ∷ hex_digit (c / 16 % 16) ∷ hex_digit (c % 16) ∷ [];
          second = record {
            value = c;
            front = hex_digit (c / 4096) ∷ hex_digit (c / 256 % 16) ∷ hex_digit (c / 16 % 16) ∷ hex_digit (c % 16) ∷ [];
            back = [];
            first = record { far = far; small = small; lone = lone (scalar_is c p.scalar); is = refl };
            second = rw (no_high c (scalar_is c p.scalar)) (record { same = refl; empty = refl });
            parts = refl;
          };
          parts = tail_is;
        })
      where
        lone : (c < 55296) ⊎ ((57344 ≤ c) × (c < 1114112)) → (c < 0xdc00) ⊎ (0xe000 ≤ c)
        lone (inl lt) = inl (omega arith)
        lone (inr k) = inr k.0

    double : 65536 ≤ c → Escape_form c text
    double ge =
        let u : ℕ = 0xd800 + (c - 65536) / 0x400 in
        let v : ℕ = 0xdc00 + (c - 65536) % 0x400 in
        let top : c < 1114112 = highest (scalar_is c p.scalar) in
        let u_low : 0xd800 ≤ u = omega arith in
        let u_high : u < 0xdc00 = omega arith in
        let v_low : 0xdc00 ≤ v = omega arith in
        let v_high : v < 0xe000 = omega arith in
        let c_is : c ≡ surrogate_pair_char u v = omega arith in
        pairs u v u_low u_high v_low v_high c_is (p.is ∙ two_units c u v ge refl refl ∙ ap₂ (λ (x y : List ℕ). x ++ y) (escaped_text u (omega arith)) (escaped_text v (omega arith)))
      where
        highest : (c < 55296) ⊎ ((57344 ≤ c) × (c < 1114112)) → c < 1114112
        highest (inl lt) = omega arith
        highest (inr k) = k.1

        pairs : (u v : ℕ) → 0xd800 ≤ u → u < 0xdc00 → 0xdc00 ≤ v → v < 0xe000 → c ≡ surrogate_pair_char u v → codes "\\" ++ text ≡ unit_escape u ++ unit_escape v → Escape_form c text
        pairs u v ul uh vl vh c_is whole =
            let low : unit_escape v ≡ 92 ∷ 117 ∷ 100 ∷ hex_digit (v / 256 % 16) ∷ hex_digit (v / 16 % 16) ∷ hex_digit (v % 16) ∷ [] = first_digit v vl vh in
            let one : List ℕ = hex_digit (u / 4096) ∷ hex_digit (u / 256 % 16) ∷ hex_digit (u / 16 % 16) ∷ hex_digit (u % 16) ∷ [] in
            let two : List ℕ = hex_digit (v / 256 % 16) ∷ hex_digit (v / 16 % 16) ∷ hex_digit (v % 16) ∷ [] in
            let tail_is : text ≡ 117 ∷ (one ++ (92 ∷ 117 ∷ 100 ∷ two)) = tail (whole ∙ ap (λ (t : List ℕ). unit_escape u ++ t) low) in
            first (record {
              back = one ++ (92 ∷ 117 ∷ 100 ∷ two);
              second = record {
                value = u;
                front = one;
                back = 92 ∷ 117 ∷ 100 ∷ two;
                first = record { far = omega arith; small = omega arith; lone = inl uh; is = refl };
                second = rw (high_from u ul uh) (record { back = two; second = record { value = v; front = two; back = []; first = record { low = vl; high = vh; is = sym low }; second = record { same = c_is; empty = refl }; parts = sym (append-nil two) }; parts = refl });
                parts = refl;
              };
              parts = tail_is;
            })
          where
            first_digit : (v : ℕ) → 0xdc00 ≤ v → v < 0xe000 → unit_escape v ≡ 92 ∷ 117 ∷ 100 ∷ hex_digit (v / 256 % 16) ∷ hex_digit (v / 16 % 16) ∷ hex_digit (v % 16) ∷ []
            first_digit v a b = let top : v / 4096 ≡ 13 = omega arith in rw top refl

    by : HasEscape c → Escape_form c text
    by (quote is) = known 34 is refl refl
    by (backslash is) = known 92 is refl refl
    by (outside far) = elim (cases (ltb c 65536)) [
      | inl k ↦ single far (ltb-true c 65536 k)
      | inr k ↦ double (ltb-false c 65536 k)
    ]

law_pair : {n : ℕ} (u : ℕ) → Law n anything (pair_at u) (pair_at u) (Pair_form u)
unfolding pair_at
law_pair {n} u = law_chosen (is_high u) (law_lead (codes "\\ud") (law_after n n _ _ (λ x text p. omega arith) (λ x y back rest q s. open_end (back ++ rest)) law_low (λ v text p. law_value (surrogate_pair_char u v)))) (law_value u)

pub law_escape : {n : ℕ} → Law n anything escape_at escape_at IsEscape
unfolding escape_at
law_escape {n} = law_same escape_to escape_from (law_either (λ c. eqb c 117) (starts_leads _ 117 _ _ refl) (follows_starts _ _ simple_byte _ (λ c e. apart simple_byte 117 refl c e) simple_starts)
    (law_lead (codes "u") (law_after n n _ _ (λ x text p. omega arith) (λ x y back rest q s. open_end (back ++ rest)) law_digits (λ u text p. law_pair u)))
    (law_one simple_escape 34 34 refl))
  where
    simple_byte : ℕ → Bool
    simple_byte c = eqb c 34 || eqb c 92

    simple_starts : Starts simple_byte (IsOne simple_escape)
    simple_starts u text p = rw p.parts (elim (went (eqb p.byte 34 || eqb p.byte 92) (Some p.byte) None (Some u) p.is) [ inl k ↦ k.0 | inr k ↦ absurd (none_some u k.1) ])

-- the text of such a character begins with a backslash
pub escape_text : (c : ℕ) → HasEscape c → IsScalar c → (back : List ℕ) × (character_text c ≡ 92 ∷ back)
escape_text c (quote is) k = (34 ∷ [], ap character_text is)
escape_text c (backslash is) k = (92 ∷ [], ap character_text is)
escape_text c (outside ge) k = elim (cases (ltb c 65536)) [
  | inl l ↦ (_, one_unit c (ltb-true c 65536 l) ∙ escaped_text c (omega arith))
  | inr l ↦ (_, two_units c (0xd800 + (c - 65536) / 0x400) (0xdc00 + (c - 65536) % 0x400) (ltb-false c 65536 l) refl refl ∙ ap (λ (t : List ℕ). t ++ unit_text (0xdc00 + (c - 65536) % 0x400)) (escaped_text (0xd800 + (c - 65536) / 0x400) (omega arith)))
]
