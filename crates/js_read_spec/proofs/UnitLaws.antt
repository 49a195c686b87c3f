-- Units of strings, and strings.
use Rattle.std.proofs.Common.{◌≡◌, ℕ, ◌+◌, ◌-◌, ◌*◌, ◌/◌, ◌%◌, ◌^◌, ◌<◌, ◌≤◌, Bool, true, false, cond, not, ◌&&◌, ◌||◌, eqb, ltb, leb, List, [], ◌∷◌, ◌++◌, Option, Some, None, refl, sym, ap, subst, ap₂, ◌∙◌, arith, ◌⊎◌, inl, inr, codes}
use Rattle.std.proofs.lemmas.Bool.{lt-ltb, ltb-true, ltb-false, le-ltb, leb-true, leb-false, le-leb, eqb-true, eqb-false, eq-eqb}
use Rattle.js_tree.specs.Words.{hex_digit, unit_escape, unit_text}
use Rattle.js_tree.specs.Written.{Is, Where}
use Rattle.js_tree.specs.Spelling.{SpellsUnit}
use Rattle.exact_place.specs.Grammar.{Spelling, ◌then◌, Leads, Either, first, second, IsOne}
use Rattle.exact_place.specs.Place.{Law, Stops}
use Rattle.exact_place.specs.Reading.{one_at, passes}
use Rattle.exact_place.proofs.Steps.{cases, went}
use Rattle.exact_place.proofs.Words.{both, none_some}
use Rattle.exact_place.proofs.Basic.{law_one, law_same}
use Rattle.exact_place.proofs.Sequence.{Starts, law_after, law_lead, law_either}
use Rattle.exact_place.proofs.First.{apart, starts_leads, follows_starts}
use Rattle.js_read_spec.specs.Tokens.{plain_unit, hex_of, third_digit, third_of, fourth_digit, fourth_of, hex_at, escape_at, unit_at}

-- ---- hexadecimal digits

some_is : {A : Type 0} (a b : A) → Some a ≡ Some b → a ≡ b
some_is a b e = cc e

record IsHex (c d : ℕ) : Type 0 where
  below : d < 16
  is : c ≡ hex_digit d

hex_is : (c d : ℕ) → hex_of c ≡ Some d → IsHex c d
hex_is c d e = elim (went (leb 48 c && leb c 57) (Some (c - 48)) (cond (leb 97 c && leb c 102) (Some (c - 87)) None) (Some d) e) [
  | inl k ↦ digit (both (leb 48 c) (leb c 57) k.0) (some_is (c - 48) d k.1)
  | inr k ↦ elim (went (leb 97 c && leb c 102) (Some (c - 87)) None (Some d) k.1) [
    | inl l ↦ letter (both (leb 97 c) (leb c 102) l.0) (some_is (c - 87) d l.1)
    | inr l ↦ absurd (none_some d l.1)
  ]
]
  where
    digit : (leb 48 c ≡ true) × (leb c 57 ≡ true) → c - 48 ≡ d → IsHex c d
    digit r is =
        let low : 48 ≤ c = leb-true 48 c r.0 in
        let high : c ≤ 57 = leb-true c 57 r.1 in
        let small : ltb d 10 ≡ true = lt-ltb d 10 (omega arith) in
        record { below = omega arith; is = rw small (omega arith) }

    letter : (leb 97 c ≡ true) × (leb c 102 ≡ true) → c - 87 ≡ d → IsHex c d
    letter r is =
        let low : 97 ≤ c = leb-true 97 c r.0 in
        let high : c ≤ 102 = leb-true c 102 r.1 in
        let big : ltb d 10 ≡ false = le-ltb d 10 (omega arith) in
        record { below = omega arith; is = rw big (omega arith) }

hex_from : (d : ℕ) → d < 16 → hex_of (hex_digit d) ≡ Some d
hex_from d lt = elim (cases (ltb d 10)) [
  | inl k ↦ rw k (digit (ltb-true d 10 k))
  | inr k ↦ rw k (letter (ltb-false d 10 k))
]
  where
    digit : d < 10 → hex_of (48 + d) ≡ Some d
    digit s = rw (le-leb 48 (48 + d) (omega arith), le-leb (48 + d) 57 (omega arith)) (ap Some (omega arith))

    off : (a : Bool) (b : Bool) → b ≡ false → (a && b) ≡ false
    off true b e = e
    off false b e = refl

    letter : 10 ≤ d → hex_of (87 + d) ≡ Some d
    letter s =
        let over : leb (87 + d) 57 ≡ false = not_le (87 + d) 57 (omega arith) in
        let no_digit : (leb 48 (87 + d) && leb (87 + d) 57) ≡ false = off (leb 48 (87 + d)) (leb (87 + d) 57) over in
        rw (no_digit, le-leb 97 (87 + d) (omega arith), le-leb (87 + d) 102 (omega arith)) (ap Some (omega arith))
      where
        not_le : (a b : ℕ) → b < a → leb a b ≡ false
        not_le a b lt = elim (cases (leb a b)) [ inl e ↦ absurd (let le : a ≤ b = leb-true a b e in omega arith) | inr e ↦ e ]

record IsThird (high c v : ℕ) : Type 0 where
  digit : ℕ
  below : digit < 16
  is : c ≡ hex_digit digit
  value : v ≡ high * 16 + digit
  apart : high ≡ 0 → 2 ≤ digit → digit ≤ 6 → ⊥

third_is : (high c v : ℕ) → third_of high c ≡ Some v → IsThird high c v
third_is high c v e = by (hex_of c) refl e
  where
    by : (o : Option ℕ) → hex_of c ≡ o → third_digit high o ≡ Some v → IsThird high c v
    by None is e = absurd (none_some v e)
    by (Some d) is e = elim (went ((leb 2 d && leb d 6) && eqb high 0) None (Some (high * 16 + d)) (Some v) e) [
      | inl k ↦ absurd (none_some v k.1)
      | inr k ↦
          let h = hex_is c d is in
          record { digit = d; below = h.below; is = h.is; value = sym (some_is (high * 16 + d) v k.1); apart = λ z low up. off d low up z k.0 }
    ]
      where
        off : (d : ℕ) → 2 ≤ d → d ≤ 6 → high ≡ 0 → ((leb 2 d && leb d 6) && eqb high 0) ≡ false → ⊥
        off d low up z f =
            let on : ((leb 2 d && leb d 6) && eqb high 0) ≡ true = rw (le-leb 2 d low, le-leb d 6 up, eq-eqb high 0 z) refl in
            let both : true ≡ false = sym on ∙ f in
            cc both

record IsFourth (high c v : ℕ) : Type 0 where
  digit : ℕ
  below : digit < 16
  is : c ≡ hex_digit digit
  value : v ≡ high * 16 + digit
  last : high ≡ 7 → digit ≡ 15

fourth_is : (high c v : ℕ) → fourth_of high c ≡ Some v → IsFourth high c v
fourth_is high c v e = by (hex_of c) refl e
  where
    by : (o : Option ℕ) → hex_of c ≡ o → fourth_digit high o ≡ Some v → IsFourth high c v
    by None is e = absurd (none_some v e)
    by (Some d) is e = elim (went (not (eqb d 15) && eqb high 7) None (Some (high * 16 + d)) (Some v) e) [
      | inl k ↦ absurd (none_some v k.1)
      | inr k ↦
          let h = hex_is c d is in
          record { digit = d; below = h.below; is = h.is; value = sym (some_is (high * 16 + d) v k.1); last = λ z. on d z k.0 }
    ]
      where
        on : (d : ℕ) → high ≡ 7 → (not (eqb d 15) && eqb high 7) ≡ false → d ≡ 15
        on d z f = elim (cases (eqb d 15)) [
          | inl k ↦ eqb-true d 15 k
          | inr k ↦
              let go : (not (eqb d 15) && eqb high 7) ≡ true = rw (k, eq-eqb high 7 z) refl in
              let both : true ≡ false = sym go ∙ f in
              absurd (cc both)
        ]

third_from : (high d : ℕ) → d < 16 → (high ≡ 0 → 2 ≤ d → d ≤ 6 → ⊥) → third_of high (hex_digit d) ≡ Some (high * 16 + d)
third_from high d lt n = ap (third_digit high) (hex_from d lt) ∙ (by ((leb 2 d && leb d 6) && eqb high 0) refl)
  where
    by : (b : Bool) → ((leb 2 d && leb d 6) && eqb high 0) ≡ b → cond b None (Some (high * 16 + d)) ≡ Some (high * 16 + d)
    by false e = refl
    by true e =
        let k = both (leb 2 d && leb d 6) (eqb high 0) e in
        let l = both (leb 2 d) (leb d 6) k.0 in
        absurd (n (eqb-true high 0 k.1) (leb-true 2 d l.0) (leb-true d 6 l.1))

fourth_from : (high d : ℕ) → d < 16 → (high ≡ 7 → d ≡ 15) → fourth_of high (hex_digit d) ≡ Some (high * 16 + d)
fourth_from high d lt n = ap (fourth_digit high) (hex_from d lt) ∙ (by (not (eqb d 15) && eqb high 7) refl)
  where
    by : (b : Bool) → (not (eqb d 15) && eqb high 7) ≡ b → cond b None (Some (high * 16 + d)) ≡ Some (high * 16 + d)
    by false e = refl
    by true e =
        let k = both (not (eqb d 15)) (eqb high 7) e in
        let same : eqb d 15 ≡ true = eq-eqb d 15 (n (eqb-true high 7 k.1)) in
        let off : not true ≡ true = subst (λ (b : Bool). not b ≡ true) same k.0 in
        absurd (cc off)

-- ---- units

-- what has an escape by its digits
Escaped : ℕ → Type 0
Escaped u = (u < 32) ⊎ (126 < u)

escaped_text : (u : ℕ) → Escaped u → unit_text u ≡ unit_escape u
unfolding Escaped
escaped_text u e = elim e [
  | inl lt ↦ rw (differs u 34 (omega arith), differs u 92 (omega arith), not_le 32 u lt) refl
  | inr gt ↦ rw (differs u 34 (omega arith), differs u 92 (omega arith), le-leb 32 u (omega arith), not_le u 126 gt) refl
]
  where
    differs : (a b : ℕ) → (a ≡ b → ⊥) → eqb a b ≡ false
    differs a b n = elim (cases (eqb a b)) [ inl e ↦ absurd (n (eqb-true a b e)) | inr e ↦ e ]

    not_le : (a b : ℕ) → b < a → leb a b ≡ false
    not_le a b lt = elim (cases (leb a b)) [ inl e ↦ absurd (let le : a ≤ b = leb-true a b e in omega arith) | inr e ↦ e ]

abbrev Hex : Spelling ℕ
Hex = IsOne hex_of then λ a. IsOne hex_of then λ b. IsOne (third_of (a * 16 + b)) then λ v. IsOne (fourth_of v)

abbrev simple_unit : ℕ → Option ℕ
simple_unit c = cond (eqb c 34 || eqb c 92) (Some c) None

abbrev Unit_text : Spelling ℕ
Unit_text = Either (Leads (codes "\\") (Either (Leads (codes "u") Hex) (IsOne simple_unit))) (IsOne plain_unit)

-- the four digits and the number that they give
record Digits (u : ℕ) (text : List ℕ) : Type 0 where
  a : ℕ
  b : ℕ
  c : ℕ
  d : ℕ
  a_below : a < 16
  b_below : b < 16
  c_below : c < 16
  d_below : d < 16
  value : u ≡ ((a * 16 + b) * 16 + c) * 16 + d
  escaped : Escaped u
  is : text ≡ hex_digit a ∷ hex_digit b ∷ hex_digit c ∷ hex_digit d ∷ []

hex_digits : (u : ℕ) (text : List ℕ) → Hex u text → Digits u text
unfolding Escaped
hex_digits u text p =
    let q = p.second in
    let r = q.second in
    let one = hex_is p.first.byte p.value p.first.is in
    let two = hex_is q.first.byte q.value q.first.is in
    let three = third_is (p.value * 16 + q.value) r.first.byte r.value r.first.is in
    let four = fourth_is r.value r.second.byte u r.second.is in
    let whole : text ≡ p.first.byte ∷ q.first.byte ∷ r.first.byte ∷ r.second.byte ∷ [] =
    p.parts ∙ ap₂ (λ (x y : List ℕ). x ++ y) p.first.parts (q.parts ∙ ap₂ (λ (x y : List ℕ). x ++ y) q.first.parts (r.parts ∙ ap₂ (λ (x y : List ℕ). x ++ y) r.first.parts r.second.parts)) in
    let spelled : p.first.byte ∷ q.first.byte ∷ r.first.byte ∷ r.second.byte ∷ [] ≡ hex_digit p.value ∷ hex_digit q.value ∷ hex_digit three.digit ∷ hex_digit four.digit ∷ [] =
    ap (λ (x : ℕ). x ∷ q.first.byte ∷ r.first.byte ∷ r.second.byte ∷ []) one.is ∙ ap (λ (x : ℕ). hex_digit p.value ∷ x ∷ r.first.byte ∷ r.second.byte ∷ []) two.is
    ∙ ap (λ (x : ℕ). hex_digit p.value ∷ hex_digit q.value ∷ x ∷ r.second.byte ∷ []) three.is ∙ ap (λ (x : ℕ). hex_digit p.value ∷ hex_digit q.value ∷ hex_digit three.digit ∷ x ∷ []) four.is in
    record {
      a = p.value;
      b = q.value;
      c = three.digit;
      d = four.digit;
      a_below = one.below;
      b_below = two.below;
      c_below = three.below;
      d_below = four.below;
      value = omega (arith, four.value, three.value);
      escaped = far u p.value q.value r.value three.digit four.digit three.below four.below three.value four.value three.apart four.last;
      is = whole ∙ spelled;
    }
  where
    far : (u a b v c d : ℕ) → c < 16 → d < 16 → v ≡ (a * 16 + b) * 16 + c → u ≡ v * 16 + d → (a * 16 + b ≡ 0 → 2 ≤ c → c ≤ 6 → ⊥) → (v ≡ 7 → d ≡ 15) → Escaped u
    far u a b v c d c_lt d_lt v_is u_is apart last = elim (cases (eqb (a * 16 + b) 0)) [
      | inr k ↦ inr (let n : a * 16 + b ≡ 0 → ⊥ = eqb-false (a * 16 + b) 0 k in omega arith)
      | inl k ↦ low (eqb-true (a * 16 + b) 0 k)
    ]
      where
        low : a * 16 + b ≡ 0 → Escaped u
        low z = elim (cases (ltb c 2)) [
          | inl k ↦ inl (let lt : c < 2 = ltb-true c 2 k in omega arith)
          | inr k ↦ elim (cases (leb c 6)) [
            | inl l ↦ absurd (apart z (ltb-false c 2 k) (leb-true c 6 l))
            | inr l ↦ elim (cases (eqb c 7)) [
              | inl m ↦ inr (let same : c ≡ 7 = eqb-true c 7 m in let end : d ≡ 15 = last (omega arith) in omega arith)
              | inr m ↦ inr (let n : c ≡ 7 → ⊥ = eqb-false c 7 m in let over : 6 < c = leb-false c 6 l in omega arith)
            ]
          ]
        ]

escape_is : (u a b c d : ℕ) → a < 16 → b < 16 → c < 16 → d < 16 → u ≡ ((a * 16 + b) * 16 + c) * 16 + d → unit_escape u ≡ 92 ∷ 117 ∷ hex_digit a ∷ hex_digit b ∷ hex_digit c ∷ hex_digit d ∷ []
escape_is u a b c d al bl cl dl is =
    let one : u / 4096 ≡ a = omega arith in
    let two : u / 256 % 16 ≡ b = omega arith in
    let three : u / 16 % 16 ≡ c = omega arith in
    let four : u % 16 ≡ d = omega arith in
    rw (one, two, three, four) refl

unit_to : (u : ℕ) (text : List ℕ) → Unit_text u text → SpellsUnit u text
unfolding SpellsUnit
unit_to u text (first p) = elim p.second [
  | first q ↦ by_digits (hex_digits u q.back q.second) (p.parts ∙ ap (λ (x : List ℕ). codes "\\" ++ x) q.parts)
  | second q ↦ simple q.byte q.is (p.parts ∙ ap (λ (x : List ℕ). codes "\\" ++ x) q.parts)
]
  where
    by_digits : {back : List ℕ} → Digits u back → text ≡ codes "\\" ++ (codes "u" ++ back) → Where (ltb u (2 ^ 16)) (Is (unit_text u)) text
    by_digits {back} g parts =
        let small : u < 2 ^ 16 = omega (arith, g.value, g.a_below, g.b_below, g.c_below, g.d_below) in
        record { holds = lt-ltb u (2 ^ 16) small; spelled = record { same = parts ∙ ap (λ (x : List ℕ). codes "\\" ++ (codes "u" ++ x)) g.is ∙ sym (escape_is u g.a g.b g.c g.d g.a_below g.b_below g.c_below g.d_below g.value) ∙ sym (escaped_text u g.escaped) } }

    known : (c v : ℕ) → c ≡ v → c ≡ u → text ≡ codes "\\" ++ (c ∷ []) → ltb v (2 ^ 16) ≡ true → unit_text v ≡ 92 ∷ v ∷ [] → Where (ltb u (2 ^ 16)) (Is (unit_text u)) text
    known c v is same parts small spelled =
        let v_is : v ≡ u = sym is ∙ same in
        subst (λ (w : ℕ). Where (ltb w (2 ^ 16)) (Is (unit_text w)) text) v_is (record { holds = small; spelled = record { same = parts ∙ ap (λ (x : ℕ). 92 ∷ x ∷ []) is ∙ sym spelled } })

    simple : (c : ℕ) → simple_unit c ≡ Some u → text ≡ codes "\\" ++ (c ∷ []) → Where (ltb u (2 ^ 16)) (Is (unit_text u)) text
    simple c e parts = elim (went (eqb c 34 || eqb c 92) (Some c) None (Some u) e) [
      | inr k ↦ absurd (none_some u k.1)
      | inl k ↦ elim (cases (eqb c 34)) [
        | inl l ↦ known c 34 (eqb-true c 34 l) (some_is c u k.1) parts refl refl
        | inr l ↦ known c 92 (eqb-true c 92 (rw l at k.0)) (some_is c u k.1) parts refl refl
      ]
    ]
unit_to u text (second p) = elim (went ((leb 32 p.byte && leb p.byte 126) && (not (eqb p.byte 34) && not (eqb p.byte 92))) (Some p.byte) None (Some u) p.is) [
  | inr k ↦ absurd (none_some u k.1)
  | inl k ↦ plain (some_is p.byte u k.1) (both (leb 32 p.byte && leb p.byte 126) _ k.0)
]
  where
    turned : (b : Bool) → not b ≡ true → b ≡ false
    turned true e = absurd cc
    turned false e = refl

    plain : p.byte ≡ u → ((leb 32 p.byte && leb p.byte 126) ≡ true) × ((not (eqb p.byte 34) && not (eqb p.byte 92)) ≡ true) → Where (ltb u (2 ^ 16)) (Is (unit_text u)) text
    plain is r =
        let quotes = both (not (eqb p.byte 34)) (not (eqb p.byte 92)) r.1 in
        let range = both (leb 32 p.byte) (leb p.byte 126) r.0 in
        let spelled : unit_text p.byte ≡ p.byte ∷ [] = rw (turned (eqb p.byte 34) quotes.0, turned (eqb p.byte 92) quotes.1, r.0) refl in
        let small : ltb p.byte (2 ^ 16) ≡ true = lt-ltb p.byte (2 ^ 16) (omega (arith, leb-true p.byte 126 range.1)) in
        subst (λ (w : ℕ). Where (ltb w (2 ^ 16)) (Is (unit_text w)) text) is (record { holds = small; spelled = record { same = p.parts ∙ sym spelled } })

unit_from : (u : ℕ) (text : List ℕ) → SpellsUnit u text → Unit_text u text
unfolding SpellsUnit Escaped
unit_from u text p = elim (cases (eqb u 34)) [
  | inl k ↦ known 34 (eqb-true u 34 k) refl refl
  | inr k ↦ elim (cases (eqb u 92)) [
    | inl l ↦ known 92 (eqb-true u 92 l) refl refl
    | inr l ↦ elim (cases (leb 32 u && leb u 126)) [
      | inl m ↦ second (record { byte = u; is = rw (m, k, l) refl; parts = p.spelled.same ∙ rw (k, l, m) refl })
      | inr m ↦ digits (far m)
    ]
  ]
]
  where
    far : (leb 32 u && leb u 126) ≡ false → Escaped u
    far m = elim (cases (leb 32 u)) [
      | inr n ↦ inl (leb-false 32 u n)
      | inl n ↦ inr (leb-false u 126 (rw n at m))
    ]

    known : (v : ℕ) → u ≡ v → simple_unit v ≡ Some v → unit_text v ≡ 92 ∷ v ∷ [] → Unit_text u text
    known v is ok spelled =
        let whole : text ≡ 92 ∷ v ∷ [] = p.spelled.same ∙ ap unit_text is ∙ spelled in
        first (record { back = v ∷ []; second = second (record { byte = v; is = ok ∙ ap Some (sym is); parts = refl }); parts = whole })

    digits : Escaped u → Unit_text u text
    digits far =
        let small : u < 2 ^ 16 = ltb-true u (2 ^ 16) p.holds in
        let a : ℕ = u / 4096 in
        let b : ℕ = u / 256 % 16 in
        let c : ℕ = u / 16 % 16 in
        let d : ℕ = u % 16 in
        let high : ℕ = u / 4096 * 16 + u / 256 % 16 in
        let third : high * 16 + c ≡ u / 16 = omega arith in
        let value : (high * 16 + c) * 16 + d ≡ u = omega arith in
        let hex : Hex u (hex_digit a ∷ hex_digit b ∷ hex_digit c ∷ hex_digit d ∷ []) = record {
          value = a;
          front = hex_digit a ∷ [];
          back = hex_digit b ∷ hex_digit c ∷ hex_digit d ∷ [];
          first = record { byte = hex_digit a; is = hex_from a (omega arith); parts = refl };
          second = record {
            value = b;
            front = hex_digit b ∷ [];
            back = hex_digit c ∷ hex_digit d ∷ [];
            first = record { byte = hex_digit b; is = hex_from b (omega arith); parts = refl };
            second = record {
              value = high * 16 + c;
              front = hex_digit c ∷ [];
              back = hex_digit d ∷ [];
              first = record { byte = hex_digit c; is = third_from high c (omega arith) (λ z low up. near far z low up); parts = refl };
              second = record { byte = hex_digit d; is = fourth_from (high * 16 + c) d (omega arith) (λ z. last far (sym third ∙ z)) ∙ ap Some value; parts = refl };
              parts = refl;
            };
            parts = refl;
          };
          parts = refl;
        } in
        let whole : text ≡ 92 ∷ 117 ∷ hex_digit a ∷ hex_digit b ∷ hex_digit c ∷ hex_digit d ∷ [] = p.spelled.same ∙ escaped_text u far in
        first (record { back = 117 ∷ hex_digit a ∷ hex_digit b ∷ hex_digit c ∷ hex_digit d ∷ []; second = first (record { back = hex_digit a ∷ hex_digit b ∷ hex_digit c ∷ hex_digit d ∷ []; second = hex; parts = refl }); parts = whole })
      where
        near : Escaped u → u / 4096 * 16 + u / 256 % 16 ≡ 0 → 2 ≤ u / 16 % 16 → u / 16 % 16 ≤ 6 → ⊥
        near e z low up = elim e [ inl lt ↦ omega arith | inr gt ↦ omega arith ]

        last : Escaped u → u / 16 ≡ 7 → u % 16 ≡ 15
        last e z = elim e [ inl lt ↦ omega arith | inr gt ↦ omega arith ]

-- ---- laws

law_hex : {n : ℕ} → Law n (λ c. true) hex_at hex_at Hex
unfolding hex_at
law_hex {n} = law_after n n _ _ (λ x text p. omega arith) (λ x y back rest q s. open_end (back ++ rest)) one (λ a text p.
    law_after n n _ _ (λ x text p. omega arith) (λ x y back rest q s. open_end (back ++ rest)) one (λ b text p.
    law_after n n _ _ (λ x text p. omega arith) (λ x y back rest q s. open_end (back ++ rest)) (law_one (third_of (a * 16 + b)) ((a * 16 + b) * 16 + 0) 48 refl) (λ v text p.
    law_one (fourth_of v) (v * 16 + 15) 102 refl)))
  where
    open_end : (bytes : List ℕ) → Stops (λ c. true) bytes
    open_end [] = tt
    open_end (c ∷ rest) = refl

    one : Law n (λ c. true) (one_at hex_of) (one_at hex_of) (IsOne hex_of)
    one = law_one hex_of 0 48 refl

pub law_unit : {n : ℕ} → Law n (λ c. true) unit_at unit_at SpellsUnit
unfolding unit_at escape_at
law_unit = law_same unit_to unit_from
    (law_either (λ c. eqb c 92) (starts_leads _ 92 _ _ refl) (follows_starts _ _ plain_byte _ plain_apart plain_starts)
    (law_lead (codes "\\") (law_either (λ c. eqb c 117) (starts_leads _ 117 _ _ refl) (follows_starts _ _ simple_byte _ (λ c e. apart simple_byte 117 refl c e) simple_starts) (law_lead (codes "u") law_hex) (law_one simple_unit 34 34 refl)))
    (law_one plain_unit 65 65 refl))
  where
    simple_byte : ℕ → Bool
    simple_byte c = eqb c 34 || eqb c 92

    plain_byte : ℕ → Bool
    plain_byte c = (leb 32 c && leb c 126) && (not (eqb c 34) && not (eqb c 92))

    simple_starts : Starts simple_byte (IsOne simple_unit)
    simple_starts u text p = rw p.parts (elim (went (eqb p.byte 34 || eqb p.byte 92) (Some p.byte) None (Some u) p.is) [ inl k ↦ k.0 | inr k ↦ absurd (none_some u k.1) ])

    plain_starts : Starts plain_byte (IsOne plain_unit)
    plain_starts u text p = rw p.parts (elim (went (plain_byte p.byte) (Some p.byte) None (Some u) p.is) [ inl k ↦ k.0 | inr k ↦ absurd (none_some u k.1) ])

    plain_apart : (c : ℕ) → plain_byte c ≡ true → not (eqb c 92) ≡ true
    plain_apart c e = (both (not (eqb c 34)) (not (eqb c 92)) (both (leb 32 c && leb c 126) _ e).1).1

pub starts_unit : Starts (λ c. not (eqb c 34)) SpellsUnit
starts_unit u text s = by (unit_from u text s)
  where
    by : Unit_text u text → passes (λ c. not (eqb c 34)) text ≡ true
    by (first p) = rw p.parts refl
    by (second p) = elim (went ((leb 32 p.byte && leb p.byte 126) && (not (eqb p.byte 34) && not (eqb p.byte 92))) (Some p.byte) None (Some u) p.is) [
      | inr k ↦ absurd (none_some u k.1)
      | inl k ↦ rw p.parts (both (not (eqb p.byte 34)) (not (eqb p.byte 92)) (both (leb 32 p.byte && leb p.byte 126) _ k.0).1).0
    ]
