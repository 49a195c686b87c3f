-- What the laws of a reader at every fuel give for whole texts.
use Rattle.std.proofs.Common.{◌≡◌, ℕ, suc, ◌+◌, ◌-◌, ◌<◌, ◌≤◌, false, List, [], ◌∷◌, ◌++◌, length, take, Ok, Err, refl, sym, ap, subst, ◌∙◌, append-nil, arith, length-append, take_at}
use Rattle.exact_place.specs.Reading.{Reading}
use Rattle.exact_place.specs.Grammar.{Spelling}
use Rattle.exact_place.specs.Place.{Begins, Place, Dead, Halts, Law}
use Rattle.exact_place.proofs.Steps.{good_is, cons_assoc}

ok_err : {A : Type 0} (x : A × List ℕ) (k : ℕ) → ◌≡◌ {A = Reading A} (Ok x) (Err k) → ⊥
ok_err x k e = cc

split_same : (a b c d : List ℕ) → a ++ b ≡ c ++ d → length b ≡ length d → (a ≡ c) × (b ≡ d)
split_same [] b [] d e len = (refl, e)
split_same [] b (x ∷ c) d e len = absurd (let k : length b ≡ length ((x ∷ c) ++ d) = ap (λ (t : List ℕ). length t) e in omega (arith, k, length-append c d))
split_same (x ∷ a) b [] d e len = absurd (let k : length ((x ∷ a) ++ b) ≡ length d = ap (λ (t : List ℕ). length t) e in omega (arith, k, length-append a b))
split_same (x ∷ a) b (y ∷ c) d e len =
    let head : x ≡ y = cc e in
    let tail : a ++ b ≡ c ++ d = cc e in
    let s = split_same a b c d tail len in
    (rw (head, s.0) refl, s.1)

take_front : (bytes front back : List ℕ) → bytes ≡ front ++ back → take (length front) bytes ≡ front
take_front bytes front back parts = rw parts (take_at front back (length front) refl)

module _ {A : Type 0} (P : Spelling A) (read : ℕ → List ℕ → Reading A) (laws : (n m : ℕ) → n ≤ m → Law n (λ c. false) (read n) (read m) P) where
  pub whole_reads : (x : A) (text : List ℕ) (n : ℕ) → length text < n → P x text → read n text ≡ Ok (x, [])
  whole_reads x text n lt p =
      let e : read n (text ++ []) ≡ Ok (x, []) = (laws n n (omega arith)).reads x text [] lt p tt in
      rw append-nil at e

  pub whole_takes : (x : A) (bytes : List ℕ) (n : ℕ) → read n bytes ≡ Ok (x, []) → P x bytes
  whole_takes x bytes n e =
      let t = (laws n n (omega arith)).takes bytes x [] e in
      let whole : bytes ≡ t.text = t.parts ∙ append-nil t.text in
      subst (λ (u : List ℕ). P x u) (sym whole) t.spelled

  dead_parts : (n m : ℕ) (bytes front back : List ℕ) (left : ℕ) → Halts n (read m) P bytes left → bytes ≡ front ++ back → left ≡ length back → length front < n → Dead (read m) front back
  dead_parts n m bytes front back left h parts is lt =
      let same = split_same h.front h.back front back (sym h.parts ∙ parts) (sym h.left_is ∙ is) in
      let short : length h.front < n = omega (arith, ap (λ (t : List ℕ). length t) same.0) in
      subst (λ (t : List ℕ). Dead (read m) front t) same.1 (subst (λ (t : List ℕ). Dead (read m) t h.back) same.0 (h.dead short))

  dead_there : (n m : ℕ) → n ≤ m → (front back : List ℕ) (left : ℕ) → read n (front ++ back) ≡ Err left → left ≡ length back → length front < n → Dead (read m) front back
  dead_there n m le front back left e is lt = dead_parts n m (front ++ back) front back left ((laws n m le).halts (front ++ back) left e) refl is lt

  -- no text of the grammar begins with what reading stopped behind and the byte that it stopped at
  no_longer : (n : ℕ) (front : List ℕ) (c : ℕ) (back : List ℕ) (left : ℕ) → read n (front ++ c ∷ back) ≡ Err left → left ≡ length (c ∷ back) → length front < n → Begins P (front ++ c ∷ []) → ⊥
  no_longer n front c back left e is lt b =
      let text : List ℕ = front ++ c ∷ b.more in
      let m : ℕ = n + suc (length text) in
      let regroup : (front ++ c ∷ []) ++ b.more ≡ front ++ c ∷ b.more = cons_assoc front b.more c in
      let spelled : P b.value (front ++ c ∷ b.more) = subst (λ (u : List ℕ). P b.value u) regroup b.spelled in
      let good_one : read m (front ++ c ∷ b.more) ≡ Ok (b.value, []) = whole_reads b.value (front ++ c ∷ b.more) m (omega arith) spelled in
      let d : Dead (read m) front (c ∷ back) = dead_there n m (omega arith) front (c ∷ back) left e is lt in
      let bad_one : read m (front ++ c ∷ b.more) ≡ Err (length (c ∷ b.more)) = d b.more in
      ok_err (b.value, []) (length (c ∷ b.more)) (sym good_one ∙ bad_one)

  pub whole_place : (bytes : List ℕ) (n left : ℕ) → length bytes < n → read n bytes ≡ Err left → (place : ℕ) × (place + left ≡ length bytes) × Place P bytes place
  whole_place bytes n left lt e =
      let h = (laws n n (omega arith)).halts bytes left e in
      let len : length bytes ≡ length h.front + length h.back = ap (λ (t : List ℕ). length t) h.parts ∙ length-append h.front h.back in
      let short : length h.front < n = omega (arith, len) in
      let front_is : take (length h.front) bytes ≡ h.front = take_front bytes h.front h.back h.parts in (
        length h.front,
        omega (arith, len, h.left_is),
        record {
          within = omega (arith, len);
          begins = subst (λ (u : List ℕ). Begins P u) (sym front_is) (h.begins short);
          longest = λ inside b. longer bytes n left e h.front h.back h.parts h.left_is short inside b;
        },
      )
    where
      longer : (bytes : List ℕ) (n left : ℕ) → read n bytes ≡ Err left → (front back : List ℕ) → bytes ≡ front ++ back → left ≡ length back → length front < n → length front < length bytes → Begins P (take (length front + 1) bytes) → ⊥
      longer bytes n left e front [] parts is short inside b = let k : length bytes ≡ length front = ap (λ (t : List ℕ). length t) (parts ∙ append-nil front) in omega (arith, k)
      longer bytes n left e front (c ∷ back) parts is short inside b =
          let e' : read n (front ++ c ∷ back) ≡ Err left = rw (← parts) e in
          let len : length (front ++ c ∷ []) ≡ length front + 1 = length-append front (c ∷ []) in
          let grown : bytes ≡ (front ++ c ∷ []) ++ back = parts ∙ sym (cons_assoc front back c) in
          let front_is : take (length front + 1) bytes ≡ front ++ c ∷ [] = rw grown (take_at (front ++ c ∷ []) back (length front + 1) len) in
          no_longer n front c back left e' is short (subst (λ (u : List ℕ). Begins P u) front_is b)

  pub one_value : (x y : A) (text : List ℕ) → P x text → P y text → x ≡ y
  one_value x y text p q =
      let n : ℕ = suc (length text) in
      let a : read n text ≡ Ok (x, []) = whole_reads x text n (omega arith) p in
      let b : read n text ≡ Ok (y, []) = whole_reads y text n (omega arith) q in
      (good_is x y [] [] (sym a ∙ b)).value
