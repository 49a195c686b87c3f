-- The longest run of digits is what the reader on lists reads.
use Rattle.std.proofs.Common.{◌≡◌, ℕ, ◌+◌, ◌<◌, ◌≤◌, Bool, true, false, cond, ◌&&◌, eqb, ltb, List, [], ◌∷◌, ◌++◌, length, drop, get_or, ◌≢◌, Some, Ok, Err, refl, sym, ap, subst, ◌∙◌, arith, drop-cons, drop_of_length-le, add-one, inl, inr}
use Rattle.std.proofs.lemmas.Bool.{eqb-true, lt-ltb, le-ltb, leb-true}
use Rattle.exact_place.specs.Reading.{passes, run_at}
use Rattle.exact_place.specs.Tokens.{is_digit, one_more, digits_value, digits_below, begins_number, number_of}
use Rattle.exact_place.proofs.Steps.{cases}
use Rattle.exact_place.proofs.Words.{both}
use Rattle.text_scan.specs.Runs.{number_run}

-- the digits so far: some, no zero in front, and together v
record SoFar (limit v : ℕ) (front : List ℕ) : Type 0 where
  head : ℕ
  tail : List ℕ
  is : front ≡ head ∷ tail
  apart : eqb head 48 ≡ false
  below : digits_below limit 0 front ≡ true
  value : digits_value 0 front ≡ v

below_more : (limit w : ℕ) (front : List ℕ) (c : ℕ) → digits_below limit w front ≡ true → digits_below limit w (front ++ c ∷ []) ≡ (is_digit c && ltb (one_more (digits_value w front) c) limit)
below_more limit w [] c h = by (is_digit c) (ltb (one_more w c) limit)
  where
    by : (a b : Bool) → (a && (b && true)) ≡ (a && b)
    by true true = refl
    by true false = refl
    by false b = refl
below_more limit w (b ∷ front) c h =
    let k = both (is_digit b) _ h in
    let l = both (ltb (one_more w b) limit) _ k.1 in
    rw (k.0, l.0) (below_more limit (one_more w b) front c l.1)

value_more : (w : ℕ) (front : List ℕ) (c : ℕ) → digits_value w (front ++ c ∷ []) ≡ one_more (digits_value w front) c
value_more w [] c = refl
value_more w (b ∷ front) c = value_more (one_more w b) front c

module _ (nought : Bool) (limit : ℕ) where
  begins_more : (v : ℕ) (front : List ℕ) (c : ℕ) → SoFar limit v front → begins_number nought limit (front ++ c ∷ []) ≡ (is_digit c && ltb (one_more v c) limit)
  begins_more v front c s =
      let whole : front ++ c ∷ [] ≡ s.head ∷ (s.tail ++ c ∷ []) = ap (λ (t : List ℕ). t ++ c ∷ []) s.is in
      let go : begins_number nought limit (s.head ∷ (s.tail ++ c ∷ [])) ≡ digits_below limit 0 (s.head ∷ (s.tail ++ c ∷ [])) = rw s.apart refl in
      ap (λ (t : List ℕ). begins_number nought limit t) whole ∙ go ∙ ap (λ (t : List ℕ). digits_below limit 0 t) (sym whole) ∙ below_more limit 0 front c s.below ∙ ap (λ (k : ℕ). is_digit c && ltb (one_more k c) limit) s.value

  number_here : (v : ℕ) (front : List ℕ) → SoFar limit v front → number_of nought limit front ≡ Some v
  number_here v front s = ap (λ (t : List ℕ). number_of nought limit t) s.is ∙ here
    where
      below : digits_below limit 0 (s.head ∷ s.tail) ≡ true
      below = subst (λ (t : List ℕ). digits_below limit 0 t ≡ true) s.is s.below

      value : digits_value 0 (s.head ∷ s.tail) ≡ v
      value = subst (λ (t : List ℕ). digits_value 0 t ≡ v) s.is s.value

      here : number_of nought limit (s.head ∷ s.tail) ≡ Some v
      here = rw (s.apart, below) (ap Some value)

  run_on : (v : ℕ) (front rest : List ℕ) → SoFar limit v front → run_at (begins_number nought limit) (number_of nought limit) front rest ≡ Ok (number_run limit v rest)
  unfolding run_at number_run
  run_on v front [] s = rw (number_here v front s) refl
  run_on v front (c ∷ rest) s = elim (cases (is_digit c && ltb (one_more v c) limit)) [
    | inr k ↦ let off : begins_number nought limit (front ++ c ∷ []) ≡ false = begins_more v front c s ∙ k in rw (off, number_here v front s, k) refl
    | inl k ↦
        let on : begins_number nought limit (front ++ c ∷ []) ≡ true = begins_more v front c s ∙ k in
        let next : SoFar limit (one_more v c) (front ++ c ∷ []) = record { head = s.head; tail = s.tail ++ c ∷ []; is = ap (λ (t : List ℕ). t ++ c ∷ []) s.is; apart = s.apart; below = below_more limit 0 front c s.below ∙ ap (λ (w : ℕ). is_digit c && ltb (one_more w c) limit) s.value ∙ k; value = value_more 0 front c ∙ ap (λ (w : ℕ). one_more w c) s.value } in
        rw (on, k) (run_on (one_more v c) (front ++ c ∷ []) rest next)
  ]

-- one digit after the other, as a loop does
pub number_stops : (limit v i : ℕ) (bytes : List ℕ) (total : ℕ × List ℕ) → i < length bytes → (is_digit (get_or bytes i 0) && ltb (one_more v (get_or bytes i 0)) limit) ≡ false → number_run limit v (drop i bytes) ≡ total → total ≡ (v, drop i bytes)
unfolding number_run
number_stops limit v i bytes total lt off so_far = sym so_far ∙ (ap (λ (t : List ℕ). number_run limit v t) (drop-cons bytes i 0 lt) ∙ rw off (ap (λ (t : List ℕ). (v, t)) (sym (drop-cons bytes i 0 lt))))

pub number_goes : (limit v i : ℕ) (bytes : List ℕ) (total : ℕ × List ℕ) → i < length bytes → (is_digit (get_or bytes i 0) && ltb (one_more v (get_or bytes i 0)) limit) ≡ true → number_run limit v (drop i bytes) ≡ total → number_run limit (one_more v (get_or bytes i 0)) (drop (i + 1) bytes) ≡ total
unfolding number_run
number_goes limit v i bytes total lt on so_far = sym (ap (λ (t : List ℕ). number_run limit v t) (drop-cons bytes i 0 lt) ∙ rw on (ap (λ (k : ℕ). number_run limit (one_more v (get_or bytes i 0)) (drop k bytes)) (sym (add-one i)))) ∙ so_far

pub number_done : (limit v i : ℕ) (bytes : List ℕ) (total : ℕ × List ℕ) → length bytes ≤ i → number_run limit v (drop i bytes) ≡ total → total ≡ (v, drop i bytes)
unfolding number_run
number_done limit v i bytes total le so_far = sym so_far ∙ (ap (λ (t : List ℕ). number_run limit v t) (drop_of_length-le bytes le) ∙ ap (λ (t : List ℕ). (v, t)) (sym (drop_of_length-le bytes le)))

pub number_end : (limit v i : ℕ) (bytes : List ℕ) (total : ℕ × List ℕ) → length bytes ≤ i → number_run limit v (drop i bytes) ≡ total → total ≡ (v, drop (length bytes) bytes)
number_end limit v i bytes total le so_far = number_done limit v i bytes total le so_far ∙ ap (λ (t : List ℕ). (v, t)) (drop_of_length-le bytes le ∙ sym (drop_of_length-le bytes (omega arith)))

-- the number so far and one digit more, as the code computes it
pub number_next : (limit v w i : ℕ) (bytes : List ℕ) (total : ℕ × List ℕ) → w ≡ one_more v (get_or bytes i 0) → number_run limit (one_more v (get_or bytes i 0)) (drop (i + 1) bytes) ≡ total → number_run limit w (drop (i + 1) bytes) ≡ total
number_next limit v w i bytes total e so_far = rw e so_far

pub digit_and : (d : Bool) (v c limit : ℕ) → d ≡ true → one_more v c < limit → (d && ltb (one_more v c) limit) ≡ true
digit_and d v c limit e lt = rw (e, lt-ltb (one_more v c) limit lt) refl

pub digit_over : (d : Bool) (v c limit : ℕ) → d ≡ true → limit ≤ one_more v c → (d && ltb (one_more v c) limit) ≡ false
digit_over d v c limit e le = rw (e, le-ltb (one_more v c) limit le) refl

pub digit_off : (d : Bool) (v c limit : ℕ) → d ≡ false → (d && ltb (one_more v c) limit) ≡ false
digit_off d v c limit e = rw e refl

-- ---- a number whole

zero_first : (nought : Bool) (limit : ℕ) (bytes : List ℕ) → passes (λ c. eqb c 48) bytes ≡ true → run_at (begins_number nought limit) (number_of nought limit) [] bytes ≡ cond nought (Ok (0, drop 1 bytes)) (Err (length bytes))
unfolding run_at
zero_first nought limit [] e = absurd cc
zero_first nought limit (c ∷ bytes) e = let is : c ≡ 48 = eqb-true c 48 e in rw is (by nought bytes)
  where
    by : (nought : Bool) (bytes : List ℕ) → run_at (begins_number nought limit) (number_of nought limit) [] (48 ∷ bytes) ≡ cond nought (Ok (0, bytes)) (Err (length (48 ∷ bytes)))
    by false bytes = refl
    by true [] = refl
    by true (d ∷ bytes) = refl

pub zero_read : (limit : ℕ) (bytes : List ℕ) → passes (λ c. eqb c 48) bytes ≡ true → run_at (begins_number true limit) (number_of true limit) [] bytes ≡ Ok (0, drop 1 bytes)
zero_read limit bytes e = zero_first true limit bytes e

pub zero_missed : (limit : ℕ) (bytes : List ℕ) → passes (λ c. eqb c 48) bytes ≡ true → run_at (begins_number false limit) (number_of false limit) [] bytes ≡ Err (length bytes)
zero_missed limit bytes e = zero_first false limit bytes e

pub digits_read : (nought : Bool) (limit : ℕ) (bytes : List ℕ) → 9 < limit → passes (λ c. eqb c 48) bytes ≡ false → passes is_digit bytes ≡ true → run_at (begins_number nought limit) (number_of nought limit) [] bytes ≡ Ok (number_run limit 0 bytes)
unfolding run_at number_run
digits_read nought limit [] big z d = absurd cc
digits_read nought limit (c ∷ bytes) big z d =
    let range = both _ _ d in
    let small : one_more 0 c < limit = omega (arith, leb-true c 57 range.1) in
    let on : (is_digit c && (ltb (one_more 0 c) limit && true)) ≡ true = rw (d, lt-ltb (one_more 0 c) limit small) refl in
    let here : (is_digit c && ltb (one_more 0 c) limit) ≡ true = rw (d, lt-ltb (one_more 0 c) limit small) refl in
    rw (z, on, here) (run_on nought limit (one_more 0 c) (c ∷ []) bytes (record { head = c; tail = []; is = refl; apart = z; below = on; value = refl }))

pub digits_missed : (nought : Bool) (limit : ℕ) (bytes : List ℕ) → passes (λ c. eqb c 48) bytes ≡ false → passes is_digit bytes ≡ false → run_at (begins_number nought limit) (number_of nought limit) [] bytes ≡ Err (length bytes)
unfolding run_at
digits_missed nought limit [] z d = refl
digits_missed nought limit (c ∷ bytes) z d = rw (z, d) refl

run_grows : (limit v : ℕ) (bytes : List ℕ) → 0 < v → 0 < (number_run limit v bytes).0
unfolding number_run
run_grows limit v [] some = some
run_grows limit v (c ∷ bytes) some = by (is_digit c && ltb (one_more v c) limit) (run_grows limit (one_more v c) bytes (omega arith))
  where
    by : (b : Bool) → 0 < (number_run limit (one_more v c) bytes).0 → 0 < (cond b (number_run limit (one_more v c) bytes) (v, c ∷ bytes)).0
    by true more = more
    by false more = some

-- a number that begins with no zero is none
pub run_some : (limit v : ℕ) (bytes rest : List ℕ) → 9 < limit → passes (λ c. eqb c 48) bytes ≡ false → passes is_digit bytes ≡ true → number_run limit 0 bytes ≡ (v, rest) → 0 < v
unfolding number_run
run_some limit v [] rest big z d is = absurd (cc d)
run_some limit v (c ∷ bytes) rest big z d is =
    let range = both _ _ d in
    let low : 48 ≤ c = leb-true 48 c range.0 in
    let high : c ≤ 57 = leb-true c 57 range.1 in
    let other : c ≢ 48 = λ e. absurd (true_false (rw e at z)) in
    let small : one_more 0 c < limit = omega arith in
    let here : (is_digit c && ltb (one_more 0 c) limit) ≡ true = rw (d, lt-ltb (one_more 0 c) limit small) refl in
    let grown : 0 < (number_run limit (one_more 0 c) bytes).0 = run_grows limit (one_more 0 c) bytes (omega arith) in
    let one : number_run limit 0 (c ∷ bytes) ≡ number_run limit (one_more 0 c) bytes = rw here refl in
    let value : (number_run limit (one_more 0 c) bytes).0 ≡ v = ap (λ (r : ℕ × List ℕ). r.0) (sym one ∙ is) in
    subst (λ (n : ℕ). 0 < n) value grown
  where
    true_false : ◌≡◌ {A = Bool} true false → ⊥
    true_false e = cc e
