-- Numbers and BigInts.
use Rattle.std.proofs.Common.{◌≡◌, ℕ, ◌+◌, ◌-◌, ◌^◌, ◌<◌, ◌≤◌, ℤ, pos, negsuc, Bool, true, false, not, ◌&&◌, eqb, ltb, List, [], ◌∷◌, ◌++◌, length, refl, sym, ap, subst, ◌∙◌, append-nil, arith, codes, decimal}
use Rattle.std.specs.List.{list_all}
use Rattle.std.proofs.lemmas.Fmt.{decimal_nonempty, digits_decimal}
use Rattle.std.proofs.lemmas.Bool.{lt-ltb, ltb-true}
use Rattle.js_tree.specs.Terms.{Expression, number_literal, big_literal}
use Rattle.js_tree.specs.Written.{Is, ◌●◌}
use Rattle.js_tree.specs.Spelling.{SpellsInteger, SpellsNumber, SpellsBig}
use Rattle.exact_place.specs.Grammar.{Spelling, ◌then◌, Leads, Either, first, second, IsValue, IsMapped, chosen}
use Rattle.exact_place.specs.Place.{Law, Stops}
use Rattle.exact_place.specs.Reading.{run_at}
use Rattle.exact_place.specs.Tokens.{is_digit, begins_number, number_of}
use Rattle.exact_place.proofs.Basic.{law_value, law_map, law_same}
use Rattle.exact_place.proofs.Sequence.{Follows, law_after, law_lead, law_either, law_chosen}
use Rattle.exact_place.proofs.First.{apart, starts_leads, follows_leads, follows_value, follows_either}
use Rattle.exact_place.proofs.Tokens.{law_run}
use Rattle.exact_place.proofs.Words.{both, digits_token}
use Rattle.exact_place.proofs.Numbers.{number_is, number_from, own}
use Rattle.js_read_spec.specs.Tokens.{digits_at, below_digits_at, number_end_at, number_at, below_end_at, below_at, key_digits_at, below_key_digits_at, key_at}

-- ---- digits

-- the decimal digits of a number below the limit
pub record IsDecimal (nought : Bool) (limit v : ℕ) (text : List ℕ) : Type 0 where
  pub is : text ≡ decimal v
  pub below : v < limit
  pub some : nought ≡ false → 0 < v

abbrev pub no_digit : ℕ → Bool
no_digit c = not (is_digit c)

no_digit_is : (c : ℕ) → no_digit c ≡ true → is_digit c ≡ false
no_digit_is c e = turned (is_digit c) e
  where
    turned : (b : Bool) → not b ≡ true → b ≡ false
    turned true e = absurd cc
    turned false e = refl

law_digits_below : {n : ℕ} (nought : Bool) (limit : ℕ) → 1 < limit → limit ≤ 2 ^ 64 → Law n no_digit (λ bytes. run_at (begins_number nought limit) (number_of nought limit) [] bytes) (λ bytes. run_at (begins_number nought limit) (number_of nought limit) [] bytes) (IsDecimal nought limit)
law_digits_below nought limit big small =
    law_same (λ v text p. let r = number_is nought limit v text (omega arith) small p.is in record { is = r.is; below = r.below; some = r.some })
    (λ v text p. record { is = number_from nought limit v text small (record { is = p.is; below = p.below; some = p.some }) })
    (law_run no_digit (digits_token nought limit no_digit no_digit_is big))

law_digits : {n : ℕ} → Law n no_digit digits_at digits_at (IsDecimal true (2 ^ 63))
unfolding digits_at
law_digits = law_digits_below true (2 ^ 63) (omega arith) (omega arith)

law_below_digits : {n : ℕ} → Law n no_digit below_digits_at below_digits_at (IsDecimal false (2 ^ 63 + 1))
unfolding below_digits_at
law_below_digits = law_digits_below false (2 ^ 63 + 1) (omega arith) (omega arith)

law_key_digits : {n : ℕ} → Law n no_digit key_digits_at key_digits_at (IsDecimal true (2 ^ 31))
unfolding key_digits_at
law_key_digits = law_digits_below true (2 ^ 31) (omega arith) (omega arith)

law_below_key_digits : {n : ℕ} → Law n no_digit below_key_digits_at below_key_digits_at (IsDecimal false (2 ^ 31 + 1))
unfolding below_key_digits_at
law_below_key_digits = law_digits_below false (2 ^ 31 + 1) (omega arith) (omega arith)

-- ---- a number that stands without parentheses

pub data IsPlain : Expression → List ℕ → Type 0 where
  plain_number : {v : ℕ} {text : List ℕ} → SpellsNumber (pos v) text → IsPlain (number_literal (pos v)) text
  plain_big : {v : ℕ} {text : List ℕ} → SpellsBig (pos v) text → IsPlain (big_literal (pos v)) text

abbrev End : ℕ → Spelling Expression
End v = chosen (ltb v (2 ^ 31)) (Either (Leads (codes "n") (IsValue (big_literal (pos v)))) (IsValue (number_literal (pos v)))) (Leads (codes "n") (IsValue (big_literal (pos v))))

plain_big_is : (v : ℕ) (front back : List ℕ) (e : Expression) → IsDecimal true (2 ^ 63) v front → Leads (codes "n") (IsValue (big_literal (pos v))) e back → IsPlain e (front ++ back)
unfolding SpellsBig SpellsInteger
plain_big_is v front back e d q = rw (q.second.same, q.parts, q.second.empty) (plain_big (record { holds = lt-ltb v (2 ^ 63) d.below; spelled = record { front = front; back = codes "n"; first = record { same = d.is }; second = record { same = refl }; parts = refl } }))

plain_number_is : (v : ℕ) (front back : List ℕ) (e : Expression) → IsDecimal true (2 ^ 63) v front → ltb v (2 ^ 31) ≡ true → IsValue (number_literal (pos v)) e back → IsPlain e (front ++ back)
unfolding SpellsNumber SpellsInteger
plain_number_is v front back e d lt q = rw (q.same, q.empty) (plain_number (record { holds = lt; spelled = record { front = front; back = []; first = record { same = d.is }; second = record { same = refl }; parts = refl } }))

plain_to : (e : Expression) (text : List ℕ) → (IsDecimal true (2 ^ 63) then End) e text → IsPlain e text
plain_to e text p = rw p.parts (by (ltb p.value (2 ^ 31)) refl p.second)
  where
    by : (b : Bool) → ltb p.value (2 ^ 31) ≡ b → chosen b (Either (Leads (codes "n") (IsValue (big_literal (pos p.value)))) (IsValue (number_literal (pos p.value)))) (Leads (codes "n") (IsValue (big_literal (pos p.value)))) e p.back → IsPlain e (p.front ++ p.back)
    by true lt (first q) = plain_big_is p.value p.front p.back e p.first q
    by true lt (second q) = plain_number_is p.value p.front p.back e p.first lt q
    by false lt q = plain_big_is p.value p.front p.back e p.first q

plain_from : {e : Expression} {text : List ℕ} → IsPlain e text → (IsDecimal true (2 ^ 63) then End) e text
unfolding SpellsNumber SpellsBig SpellsInteger
plain_from (plain_number {v = v} p) = record {
  value = v;
  front = p.spelled.front;
  back = p.spelled.back;
  first = record { is = p.spelled.first.same; below = omega (arith, ltb-true v (2 ^ 31) p.holds); some = λ n. absurd cc };
  second = rw p.holds (second (record { same = refl; empty = p.spelled.second.same }));
  parts = p.spelled.parts;
}
plain_from (plain_big {v = v} p) = record {
  value = v;
  front = p.spelled.front;
  back = p.spelled.back;
  first = record { is = p.spelled.first.same; below = ltb-true v (2 ^ 63) p.holds; some = λ n. absurd cc };
  second = by (ltb v (2 ^ 31));
  parts = p.spelled.parts;
}
  where
    end : Leads (codes "n") (IsValue (big_literal (pos v))) (big_literal (pos v)) p.spelled.back
    end = record { back = []; second = record { same = refl; empty = refl }; parts = p.spelled.second.same }

    by : (b : Bool) → chosen b (Either (Leads (codes "n") (IsValue (big_literal (pos v)))) (IsValue (number_literal (pos v)))) (Leads (codes "n") (IsValue (big_literal (pos v)))) (big_literal (pos v)) p.spelled.back
    by true = first end
    by false = end

-- what may follow a number
abbrev pub after_number : ℕ → Bool
after_number c = not (is_digit c) && not (eqb c 110)

digits_end : (c : ℕ) → after_number c ≡ true → no_digit c ≡ true
digits_end c e = front (no_digit c) (not (eqb c 110)) e
  where
    front : (a b : Bool) → (a && b) ≡ true → a ≡ true
    front true b e = refl
    front false b e = absurd cc

no_n : (c : ℕ) → after_number c ≡ true → not (eqb c 110) ≡ true
no_n c e = back (no_digit c) (not (eqb c 110)) e
  where
    back : (a b : Bool) → (a && b) ≡ true → b ≡ true
    back true b e = e
    back false b e = absurd cc

end_follows : (v : ℕ) → Follows no_digit (End v) after_number
end_follows v = by (ltb v (2 ^ 31))
  where
    by : (b : Bool) → Follows no_digit (chosen b (Either (Leads (codes "n") (IsValue (big_literal (pos v)))) (IsValue (number_literal (pos v)))) (Leads (codes "n") (IsValue (big_literal (pos v))))) after_number
    by true = follows_either no_digit _ _ after_number (follows_leads no_digit 110 [] _ after_number refl) (follows_value no_digit _ after_number digits_end)
    by false = follows_leads no_digit 110 [] _ after_number refl

law_end_at : {n : ℕ} (v : ℕ) → Law n after_number (number_end_at v) (number_end_at v) (End v)
unfolding number_end_at
law_end_at v = law_chosen (ltb v (2 ^ 31))
    (law_either (λ c. eqb c 110) (starts_leads _ 110 [] _ refl) (follows_value _ _ after_number no_n) (law_lead (codes "n") (law_value (big_literal (pos v)))) (law_value (number_literal (pos v))))
    (law_lead (codes "n") (law_value (big_literal (pos v))))

pub law_number : {n : ℕ} → Law n after_number number_at number_at IsPlain
unfolding number_at
law_number {n} = law_same plain_to (λ e text p. plain_from p) (law_after n n no_digit after_number (λ v text p. omega arith) end_follows law_digits (λ v text p. law_end_at v))

-- ---- a negative number, behind `(-`

pub data IsBelowZero : Expression → List ℕ → Type 0 where
  below_number : {v : ℕ} {text : List ℕ} → SpellsNumber (negsuc v) (codes "(-" ++ text) → IsBelowZero (number_literal (negsuc v)) text
  below_big : {v : ℕ} {text : List ℕ} → SpellsBig (negsuc v) (codes "(-" ++ text) → IsBelowZero (big_literal (negsuc v)) text

abbrev BelowEnd : ℕ → Spelling Expression
BelowEnd v = chosen (ltb v (2 ^ 31 + 1)) (Either (Leads (codes "n)") (IsValue (big_literal (negsuc (v - 1))))) (Leads (codes ")") (IsValue (number_literal (negsuc (v - 1)))))) (Leads (codes "n)") (IsValue (big_literal (negsuc (v - 1)))))

integer_is : (limit v : ℕ) (suffix front : List ℕ) → v < limit + 1 → 0 < v → front ≡ decimal v → SpellsInteger limit suffix (negsuc (v - 1)) (codes "(-" ++ (front ++ (suffix ++ codes ")")))
unfolding SpellsInteger
integer_is limit v suffix front lt some is =
    let back : v - 1 + 1 ≡ v = omega arith in
    record {
      holds = lt-ltb (v - 1) limit (omega arith);
      spelled = record {
        front = codes "(-";
        back = front ++ (suffix ++ codes ")");
        first = record { same = refl };
        second = record {
          front = front;
          back = suffix ++ codes ")";
          first = record { same = is ∙ ap decimal (sym back) };
          second = record { front = suffix; back = codes ")"; first = record { same = refl }; second = record { same = refl }; parts = refl };
          parts = refl;
        };
        parts = refl;
      };
    }

below_big_is : (v : ℕ) (front back : List ℕ) (e : Expression) → IsDecimal false (2 ^ 63 + 1) v front → Leads (codes "n)") (IsValue (big_literal (negsuc (v - 1)))) e back → IsBelowZero e (front ++ back)
unfolding SpellsBig
below_big_is v front back e d q = rw (q.second.same, q.parts, q.second.empty) (below_big (integer_is (2 ^ 63) v (codes "n") front d.below (d.some refl) d.is))

below_number_is : (v : ℕ) (front back : List ℕ) (e : Expression) → IsDecimal false (2 ^ 63 + 1) v front → ltb v (2 ^ 31 + 1) ≡ true → Leads (codes ")") (IsValue (number_literal (negsuc (v - 1)))) e back → IsBelowZero e (front ++ back)
unfolding SpellsNumber
below_number_is v front back e d lt q = rw (q.second.same, q.parts, q.second.empty) (below_number (integer_is (2 ^ 31) v [] front (ltb-true v (2 ^ 31 + 1) lt) (d.some refl) d.is))

below_to : (e : Expression) (text : List ℕ) → (IsDecimal false (2 ^ 63 + 1) then BelowEnd) e text → IsBelowZero e text
below_to e text p = rw p.parts (by (ltb p.value (2 ^ 31 + 1)) refl p.second)
  where
    by : (b : Bool) → ltb p.value (2 ^ 31 + 1) ≡ b → chosen b (Either (Leads (codes "n)") (IsValue (big_literal (negsuc (p.value - 1))))) (Leads (codes ")") (IsValue (number_literal (negsuc (p.value - 1)))))) (Leads (codes "n)") (IsValue (big_literal (negsuc (p.value - 1))))) e p.back → IsBelowZero e (p.front ++ p.back)
    by true lt (first q) = below_big_is p.value p.front p.back e p.first q
    by true lt (second q) = below_number_is p.value p.front p.back e p.first lt q
    by false lt q = below_big_is p.value p.front p.back e p.first q

-- the digits and what is behind them
record Negative (limit v : ℕ) (suffix text : List ℕ) : Type 0 where
  front : List ℕ
  is : front ≡ decimal (v + 1)
  below : v < limit
  parts : text ≡ front ++ (suffix ++ codes ")")

negative_of : (limit v : ℕ) (suffix text : List ℕ) → SpellsInteger limit suffix (negsuc v) (codes "(-" ++ text) → Negative limit v suffix text
unfolding SpellsInteger
negative_of limit v suffix text p =
    let s = p.spelled in
    let t = s.second in
    let u = t.second in
    let whole : codes "(-" ++ text ≡ codes "(-" ++ (t.front ++ (suffix ++ codes ")")) =
    s.parts ∙ ap (λ (x : List ℕ). x ++ s.back) s.first.same ∙ ap (λ (x : List ℕ). codes "(-" ++ x) (t.parts ∙ ap (λ (x : List ℕ). t.front ++ x) (u.parts ∙ ap (λ (x : List ℕ). x ++ u.back) u.first.same ∙ ap (λ (x : List ℕ). suffix ++ x) u.second.same)) in
    let tail : text ≡ t.front ++ (suffix ++ codes ")") = cc whole in
    record { front = t.front; is = t.first.same; below = ltb-true v limit p.holds; parts = tail }

below_from : {e : Expression} {text : List ℕ} → IsBelowZero e text → (IsDecimal false (2 ^ 63 + 1) then BelowEnd) e text
unfolding SpellsNumber SpellsBig
below_from (below_number {v = v} {text = text} p) =
    let n = negative_of (2 ^ 31) v [] text p in
    let small : ltb (v + 1) (2 ^ 31 + 1) ≡ true = lt-ltb (v + 1) (2 ^ 31 + 1) (omega (arith, n.below)) in
    let back : v + 1 - 1 ≡ v = omega arith in
    record {
      value = v + 1;
      front = n.front;
      back = codes ")";
      first = record { is = n.is; below = omega (arith, n.below); some = λ f. omega arith };
      second = rw small (second (record { back = []; second = record { same = ap (λ (k : ℕ). number_literal (negsuc k)) (sym back); empty = refl }; parts = refl }));
      parts = n.parts;
    }
below_from (below_big {v = v} {text = text} p) =
    let n = negative_of (2 ^ 63) v (codes "n") text p in
    record {
      value = v + 1;
      front = n.front;
      back = codes "n)";
      first = record { is = n.is; below = omega (arith, n.below); some = λ f. omega arith };
      second = by (ltb (v + 1) (2 ^ 31 + 1));
      parts = n.parts;
    }
  where
    end : Leads (codes "n)") (IsValue (big_literal (negsuc (v + 1 - 1)))) (big_literal (negsuc v)) (codes "n)")
    end = let back : v + 1 - 1 ≡ v = omega arith in record { back = []; second = record { same = ap (λ (k : ℕ). big_literal (negsuc k)) (sym back); empty = refl }; parts = refl }

    by : (b : Bool) → chosen b (Either (Leads (codes "n)") (IsValue (big_literal (negsuc (v + 1 - 1))))) (Leads (codes ")") (IsValue (number_literal (negsuc (v + 1 - 1)))))) (Leads (codes "n)") (IsValue (big_literal (negsuc (v + 1 - 1))))) (big_literal (negsuc v)) (codes "n)")
    by true = first end
    by false = end

below_follows : (v : ℕ) → Follows no_digit (BelowEnd v) (λ c. true)
below_follows v = by (ltb v (2 ^ 31 + 1))
  where
    by : (b : Bool) → Follows no_digit (chosen b (Either (Leads (codes "n)") (IsValue (big_literal (negsuc (v - 1))))) (Leads (codes ")") (IsValue (number_literal (negsuc (v - 1)))))) (Leads (codes "n)") (IsValue (big_literal (negsuc (v - 1)))))) (λ c. true)
    by true = follows_either no_digit _ _ _ (follows_leads no_digit 110 _ _ _ refl) (follows_leads no_digit 41 _ _ _ refl)
    by false = follows_leads no_digit 110 _ _ _ refl

law_below_end : {n : ℕ} (v : ℕ) → Law n (λ c. true) (below_end_at v) (below_end_at v) (BelowEnd v)
unfolding below_end_at
law_below_end v = law_chosen (ltb v (2 ^ 31 + 1))
    (law_either (λ c. eqb c 110) (starts_leads _ 110 _ _ refl) (follows_leads _ 41 _ _ _ refl) (law_lead (codes "n)") (law_value (big_literal (negsuc (v - 1))))) (law_lead (codes ")") (law_value (number_literal (negsuc (v - 1))))))
    (law_lead (codes "n)") (law_value (big_literal (negsuc (v - 1)))))

pub law_below : {n : ℕ} → Law n (λ c. true) below_at below_at IsBelowZero
unfolding below_at
law_below {n} = law_same below_to (λ e text p. below_from p) (law_after n n no_digit (λ c. true) (λ v text p. omega arith) below_follows law_below_digits (λ v text p. law_below_end v))

-- ---- the key of a case

abbrev Key : Spelling ℤ
Key = Either (Leads (codes "(-") (IsDecimal false (2 ^ 31 + 1) then λ v. Leads (codes ")") (IsValue (negsuc (v - 1))))) (IsMapped (λ v. pos v) (IsDecimal true (2 ^ 31)))

plain_integer : (v : ℕ) (text : List ℕ) → IsDecimal true (2 ^ 31) v text → SpellsInteger (2 ^ 31) [] (pos v) text
unfolding SpellsInteger
plain_integer v text d = record { holds = lt-ltb v (2 ^ 31) d.below; spelled = record { front = text; back = []; first = record { same = d.is }; second = record { same = refl }; parts = sym (append-nil text) } }

key_to : (z : ℤ) (text : List ℕ) → Key z text → SpellsNumber z text
unfolding SpellsNumber
key_to z text (first p) =
    let s = p.second in
    let t = s.second in
    let whole : text ≡ codes "(-" ++ (s.front ++ codes ")") = p.parts ∙ ap (λ (x : List ℕ). codes "(-" ++ x) (s.parts ∙ ap (λ (x : List ℕ). s.front ++ x) (t.parts ∙ ap (λ (x : List ℕ). codes ")" ++ x) t.second.empty)) in
    rw (t.second.same, whole) (integer_is (2 ^ 31) s.value [] s.front s.first.below (s.first.some refl) s.first.is)
key_to z text (second p) = positive z p.value p.is p.first
  where
    unfolded : (v : ℕ) → IsDecimal true (2 ^ 31) v text → SpellsInteger (2 ^ 31) [] (pos v) text
    unfolded v d = plain_integer v text d

    positive : (z : ℤ) (v : ℕ) → z ≡ pos v → IsDecimal true (2 ^ 31) v text → SpellsInteger (2 ^ 31) [] z text
    positive z v is d = rw is (unfolded v d)

key_from : (z : ℤ) (text : List ℕ) → SpellsNumber z text → Key z text
unfolding SpellsNumber SpellsInteger
key_from (pos v) text p =
    let text_is : text ≡ p.spelled.front = p.spelled.parts ∙ ap (λ (x : List ℕ). p.spelled.front ++ x) p.spelled.second.same ∙ append-nil p.spelled.front in
    second (record { value = v; first = record { is = text_is ∙ p.spelled.first.same; below = ltb-true v (2 ^ 31) p.holds; some = λ n. absurd cc }; is = refl })
key_from (negsuc v) text p = negative v text (record { front = p.spelled.front; back = p.spelled.back; first = p.spelled.first; second = p.spelled.second; parts = p.spelled.parts }) p.holds
  where
    negative : (v : ℕ) (text : List ℕ) → (Is (codes "(-") ● Is (decimal (v + 1)) ● Is [] ● Is (codes ")")) text → ltb v (2 ^ 31) ≡ true → Key (negsuc v) text
    negative v text s lt =
        let t = s.second in
        let u = t.second in
        let back : v + 1 - 1 ≡ v = omega arith in
        let head : text ≡ codes "(-" ++ s.back = s.parts ∙ ap (λ (x : List ℕ). x ++ s.back) s.first.same in
        let end : u.front ++ u.back ≡ codes ")" = ap (λ (x : List ℕ). x ++ u.back) u.first.same ∙ u.second.same in
        first (record {
          back = s.back;
          second = record {
            value = v + 1;
            front = t.front;
            back = t.back;
            first = record { is = t.first.same; below = omega (arith, ltb-true v (2 ^ 31) lt); some = λ n. omega arith };
            second = record { back = []; second = record { same = ap (λ (k : ℕ). negsuc k) (sym back); empty = refl }; parts = u.parts ∙ end };
            parts = t.parts;
          };
          parts = head;
        })

digit_start : (v : ℕ) (text : List ℕ) → IsDecimal true (2 ^ 31) v text → (rest : List ℕ) → Stops no_digit rest → Stops (λ c. not (eqb c 40)) (text ++ rest)
digit_start v [] d rest st = absurd (let k : length {A = ℕ} [] ≡ length (decimal v) = ap (λ (t : List ℕ). length t) d.is in omega (arith, decimal_nonempty v (omega (arith, d.below)), k))
digit_start v (c ∷ text) d rest st = apart is_digit 40 refl c (first_digit c text (let t : list_all is_digit (c ∷ text) ≡ true = subst (λ (ds : List ℕ). list_all is_digit ds ≡ true) (sym d.is) (digits_decimal own v (omega (arith, d.below))) in t))
  where
    first_digit : (c : ℕ) (text : List ℕ) → list_all is_digit (c ∷ text) ≡ true → is_digit c ≡ true
    first_digit c text e = (both (is_digit c) (list_all is_digit text) e).0

pub law_key : {n : ℕ} → Law n no_digit key_at key_at SpellsNumber
unfolding key_at
law_key {n} = law_same key_to key_from (law_either (λ c. eqb c 40) (starts_leads _ 40 _ _ refl) (λ z back rest q st. digit_start q.value back q.first rest st)
    (law_lead (codes "(-") (law_after n n no_digit no_digit (λ v text p. omega arith) (λ v. follows_leads _ 41 _ _ _ refl) law_below_key_digits (λ v text p. law_lead (codes ")") (law_value (negsuc (v - 1))))))
    (law_map (λ v. pos v) law_key_digits))
