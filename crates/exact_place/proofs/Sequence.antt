use Rattle.std.proofs.Common.{◌≡◌, ℕ, suc, ◌+◌, ◌<◌, ◌≤◌, Bool, true, false, cond, not, List, [], ◌∷◌, ◌++◌, length, Ok, Err, refl, sym, ap, subst, ◌∙◌, append_assoc, arith, length-append, inl, inr}
use Rattle.exact_place.specs.Reading.{Reading, passes, after_at, lead_at, either_at}
use Rattle.exact_place.specs.Grammar.{Spelling, ◌then◌, Leads, Either, first, second, IsLiteral, chosen}
use Rattle.exact_place.specs.Place.{Begins, Stops, Steady, Dead, Takes, Halts, Law}
use Rattle.exact_place.proofs.Steps.{bind_ok, bind_err, went, steady_on, passes_on, passes_front, stops_not}
use Rattle.exact_place.proofs.Basic.{law_literal, law_same}

-- What follows the whole, or begins Q, may follow what stands before Q.
abbrev pub Follows : {B : Type 0} → (ℕ → Bool) → Spelling B → (ℕ → Bool) → Type 0
Follows {B} before Q stop = (y : B) (back rest : List ℕ) → Q y back → Stops stop rest → Stops before (back ++ rest)

-- Each text of P begins with a byte of the test.
abbrev pub Starts : {A : Type 0} → (ℕ → Bool) → Spelling A → Type 0
Starts {A} test P = (x : A) (text : List ℕ) → P x text → passes test text ≡ true

begins_then : {A B : Type 0} (P : Spelling A) (Q : A → Spelling B) (x : A) (text : List ℕ) → P x text → (front : List ℕ) → Begins (Q x) front → Begins (P then Q) (text ++ front)
begins_then P Q x text p front b = record {
  value = b.value;
  more = b.more;
  spelled = record { value = x; front = text; back = front ++ b.more; first = p; second = b.spelled; parts = append_assoc text front b.more };
}

pub law_after : {A B : Type 0} (n k : ℕ) (before stop : ℕ → Bool) {read again : List ℕ → Reading A} {P : Spelling A} {next next' : A → List ℕ → Reading B} {Q : A → Spelling B}
    → ((x : A) (text : List ℕ) → P x text → n ≤ k + length text)
    → ((x : A) → Follows before (Q x) stop)
    → Law n before read again P
    → ((x : A) (text : List ℕ) → P x text → Law k stop (next x) (next' x) (Q x))
    → Law n stop (after_at read next) (after_at again next') (P then Q)
law_after {A} {B} n k before stop {read} {again} {P} {next} {next'} {Q} bound follows law laws = record {
  takes = takes;
  reads = reads;
  halts = halts;
  some = begin law.some;
}
  where
    -- what begins P begins the whole
    begin : {front : List ℕ} → Begins P front → Begins (P then Q) front
    begin {front} b =
        let s = (laws b.value (front ++ b.more) b.spelled).some in
        record {
          value = s.value;
          more = b.more ++ s.more;
          spelled = record { value = b.value; front = front ++ b.more; back = s.more; first = b.spelled; second = s.spelled; parts = sym (append_assoc front b.more s.more) };
        }

    steady : (x : A) (y : B) (one two mid rest : List ℕ) → mid ≡ two ++ rest → Steady again one x mid → Steady (next' x) two y rest → Steady (after_at again next') (one ++ two) y rest
    steady x y one two mid [] parts s t = tt
    steady x y one two mid (c ∷ rest) parts s t = λ more.
        let s' : Steady again one x (two ++ c ∷ rest) = subst (λ (r : List ℕ). Steady again one x r) parts s in
        let reread : again (one ++ (two ++ c ∷ more)) ≡ Ok (x, two ++ c ∷ more) = steady_on again one x two c rest s' more in
        let regroup : (one ++ two) ++ c ∷ more ≡ one ++ (two ++ c ∷ more) = append_assoc one two (c ∷ more) in
        rw (regroup, reread) (t more)

    takes : (bytes : List ℕ) (y : B) (rest : List ℕ) → after_at read next bytes ≡ Ok (y, rest) → Takes (after_at again next') (P then Q) bytes y rest
    takes bytes y rest e =
        let b = bind_ok (read bytes) (λ x. next x.0 x.1) y rest e in
        let t = law.takes bytes b.0 b.1 b.2 in
        let u = (laws b.0 t.text t.spelled).takes b.1 y rest b.3 in
        record {
          text = t.text ++ u.text;
          spelled = record { value = b.0; front = t.text; back = u.text; first = t.spelled; second = u.spelled; parts = refl };
          parts = t.parts ∙ ap (λ (r : List ℕ). t.text ++ r) u.parts ∙ sym (append_assoc t.text u.text rest);
          steady = steady b.0 y t.text u.text b.1 rest u.parts t.steady u.steady;
        }

    reads : (y : B) (text rest : List ℕ) → length text < n → (P then Q) y text → Stops stop rest → after_at again next' (text ++ rest) ≡ Ok (y, rest)
    reads y text rest lt p s =
        let whole : text ≡ p.front ++ p.back = p.parts in
        let len : length text ≡ length p.front + length p.back = ap (λ (t : List ℕ). length t) whole ∙ length-append p.front p.back in
        let enough : n ≤ k + length p.front = bound p.value p.front p.first in
        let regroup : text ++ rest ≡ p.front ++ (p.back ++ rest) = ap (λ (t : List ℕ). t ++ rest) whole ∙ append_assoc p.front p.back rest in
        let one : again (p.front ++ (p.back ++ rest)) ≡ Ok (p.value, p.back ++ rest) = law.reads p.value p.front (p.back ++ rest) (omega arith) p.first (follows p.value y p.back rest p.second s) in
        let two : next' p.value (p.back ++ rest) ≡ Ok (y, rest) = (laws p.value p.front p.first).reads y p.back rest (omega arith) p.second s in
        rw (regroup, one) two

    dead_first : (front back : List ℕ) → Dead again front back → Dead (after_at again next') front back
    dead_first front [] d = tt
    dead_first front (c ∷ back) d = λ more. rw (d more) refl

    dead_second : (x : A) (one two mid back : List ℕ) → mid ≡ two ++ back → Steady again one x mid → Dead (next' x) two back → Dead (after_at again next') (one ++ two) back
    dead_second x one two mid [] parts s d = tt
    dead_second x one two mid (c ∷ back) parts s d = λ more.
        let s' : Steady again one x (two ++ c ∷ back) = subst (λ (r : List ℕ). Steady again one x r) parts s in
        let reread : again (one ++ (two ++ c ∷ more)) ≡ Ok (x, two ++ c ∷ more) = steady_on again one x two c back s' more in
        let regroup : (one ++ two) ++ c ∷ more ≡ one ++ (two ++ c ∷ more) = append_assoc one two (c ∷ more) in
        rw (regroup, reread) (d more)

    halts : (bytes : List ℕ) (left : ℕ) → after_at read next bytes ≡ Err left → Halts n (after_at again next') (P then Q) bytes left
    halts bytes left e = elim (bind_err (read bytes) (λ x. next x.0 x.1) left e) [
      | inl f ↦ let h = law.halts bytes left f in record { front = h.front; back = h.back; parts = h.parts; left_is = h.left_is; begins = λ lt. begin (h.begins lt); dead = λ lt. dead_first h.front h.back (h.dead lt) }
      | inr f ↦
          let t = law.takes bytes f.0 f.1 f.2 in
          let h = (laws f.0 t.text t.spelled).halts f.1 left f.3 in
          let enough : n ≤ k + length t.text = bound f.0 t.text t.spelled in
          let len : length (t.text ++ h.front) ≡ length t.text + length h.front = length-append t.text h.front in
          record {
            front = t.text ++ h.front;
            back = h.back;
            parts = t.parts ∙ ap (λ (r : List ℕ). t.text ++ r) h.parts ∙ sym (append_assoc t.text h.front h.back);
            left_is = h.left_is;
            begins = λ lt. begins_then P Q f.0 t.text t.spelled h.front (h.begins (omega arith));
            dead = λ lt. dead_second f.0 t.text h.front f.1 h.back h.parts t.steady (h.dead (omega arith));
          }
    ]

-- ---- a literal first

pub law_lead : {B : Type 0} {n : ℕ} {stop : ℕ → Bool} {next next' : List ℕ → Reading B} {Q : Spelling B} (ws : List ℕ)
    → Law n stop next next' Q → Law n stop (lead_at ws next) (lead_at ws next') (Leads ws Q)
law_lead {B} {n} {stop} {next} {next'} {Q} ws law =
    law_same to from (law_after n n (λ c. true) stop {P = IsLiteral ws} {next = λ u. next} {next' = λ u. next'} {Q = λ u. Q} (λ u text p. omega arith) (λ u y back rest q s. any (back ++ rest)) (law_literal ws) (λ u text p. law))
  where
    any : (bytes : List ℕ) → Stops (λ c. true) bytes
    any [] = tt
    any (c ∷ rest) = refl

    to : (y : B) (text : List ℕ) → (IsLiteral ws then λ u. Q) y text → Leads ws Q y text
    to y text p = record { back = p.back; second = p.second; parts = p.parts ∙ ap (λ (t : List ℕ). t ++ p.back) p.first.is }

    from : (y : B) (text : List ℕ) → Leads ws Q y text → (IsLiteral ws then λ u. Q) y text
    from y text p = record { value = tt; front = ws; back = p.back; first = record { is = refl }; second = p.second; parts = p.parts }

-- a literal that isn't empty first, and one fuel less behind it
pub law_behind : {B : Type 0} {n : ℕ} {stop : ℕ → Bool} {next next' : List ℕ → Reading B} {Q : Spelling B} (w : ℕ) (ws : List ℕ)
    → Law n stop next next' Q → Law (suc n) stop (lead_at (w ∷ ws) next) (lead_at (w ∷ ws) next') (Leads (w ∷ ws) Q)
law_behind {B} {n} {stop} {next} {next'} {Q} w ws law =
    law_same to from (law_after (suc n) n (λ c. true) stop {P = IsLiteral (w ∷ ws)} {next = λ u. next} {next' = λ u. next'} {Q = λ u. Q} (λ u text p. long text p.is) (λ u y back rest q s. any (back ++ rest)) (law_literal (w ∷ ws)) (λ u text p. law))
  where
    any : (bytes : List ℕ) → Stops (λ c. true) bytes
    any [] = tt
    any (c ∷ rest) = refl

    long : (text : List ℕ) → text ≡ w ∷ ws → suc n ≤ n + length text
    long text e = rw e (omega arith)

    to : (y : B) (text : List ℕ) → (IsLiteral (w ∷ ws) then λ u. Q) y text → Leads (w ∷ ws) Q y text
    to y text p = record { back = p.back; second = p.second; parts = p.parts ∙ ap (λ (t : List ℕ). t ++ p.back) p.first.is }

    from : (y : B) (text : List ℕ) → Leads (w ∷ ws) Q y text → (IsLiteral (w ∷ ws) then λ u. Q) y text
    from y text p = record { value = tt; front = w ∷ ws; back = p.back; first = record { is = refl }; second = p.second; parts = p.parts }

-- ---- by the next byte

pub law_either : {A : Type 0} {n : ℕ} {stop : ℕ → Bool} {one one' two two' : List ℕ → Reading A} {P Q : Spelling A} (test : ℕ → Bool)
    → Starts test P → Follows (λ c. not (test c)) Q stop
    → Law n stop one one' P → Law n stop two two' Q
    → Law n stop (either_at test one two) (either_at test one' two') (Either P Q)
law_either {A} {n} {stop} {one} {one'} {two} {two'} {P} {Q} test starts follows law_one law_two = record {
  takes = takes;
  reads = reads;
  halts = halts;
  some = begin_first [] law_one.some;
}
  where
    begin_first : (front : List ℕ) → Begins P front → Begins (Either P Q) front
    begin_first front b = record { value = b.value; more = b.more; spelled = first b.spelled }

    begin_second : (front : List ℕ) → Begins Q front → Begins (Either P Q) front
    begin_second front b = record { value = b.value; more = b.more; spelled = second b.spelled }

    steady_first : (bytes text : List ℕ) (x : A) (rest : List ℕ) → passes test bytes ≡ true → bytes ≡ text ++ rest → Steady one' text x rest → Steady (either_at test one' two') text x rest
    steady_first bytes text x [] go parts s = tt
    steady_first bytes text x (c ∷ rest) go parts s = λ more. rw (passes_on test text c more rest, ← parts, go) (s more)

    steady_second : (bytes text : List ℕ) (x : A) (rest : List ℕ) → passes test bytes ≡ false → bytes ≡ text ++ rest → Steady two' text x rest → Steady (either_at test one' two') text x rest
    steady_second bytes text x [] go parts s = tt
    steady_second bytes text x (c ∷ rest) go parts s = λ more. rw (passes_on test text c more rest, ← parts, go) (s more)

    takes : (bytes : List ℕ) (x : A) (rest : List ℕ) → either_at test one two bytes ≡ Ok (x, rest) → Takes (either_at test one' two') (Either P Q) bytes x rest
    takes bytes x rest e = elim (went (passes test bytes) (one bytes) (two bytes) (Ok (x, rest)) e) [
      | inl k ↦ let t = law_one.takes bytes x rest k.1 in record { text = t.text; spelled = first t.spelled; parts = t.parts; steady = steady_first bytes t.text x rest k.0 t.parts t.steady }
      | inr k ↦ let t = law_two.takes bytes x rest k.1 in record { text = t.text; spelled = second t.spelled; parts = t.parts; steady = steady_second bytes t.text x rest k.0 t.parts t.steady }
    ]

    reads : (x : A) (text rest : List ℕ) → length text < n → Either P Q x text → Stops stop rest → either_at test one' two' (text ++ rest) ≡ Ok (x, rest)
    reads x text rest lt (first p) s =
        let go : passes test (text ++ rest) ≡ true = passes_front test text rest (starts x text p) in
        rw go (law_one.reads x text rest lt p s)
    reads x text rest lt (second q) s =
        let go : passes test (text ++ rest) ≡ false = stops_not test (text ++ rest) (follows x text rest q s) in
        rw go (law_two.reads x text rest lt q s)

    dead_first : (bytes front back : List ℕ) → passes test bytes ≡ true → bytes ≡ front ++ back → Dead one' front back → Dead (either_at test one' two') front back
    dead_first bytes front [] go parts d = tt
    dead_first bytes front (c ∷ back) go parts d = λ more. rw (passes_on test front c more back, ← parts, go) (d more)

    dead_second : (bytes front back : List ℕ) → passes test bytes ≡ false → bytes ≡ front ++ back → Dead two' front back → Dead (either_at test one' two') front back
    dead_second bytes front [] go parts d = tt
    dead_second bytes front (c ∷ back) go parts d = λ more. rw (passes_on test front c more back, ← parts, go) (d more)

    halts : (bytes : List ℕ) (left : ℕ) → either_at test one two bytes ≡ Err left → Halts n (either_at test one' two') (Either P Q) bytes left
    halts bytes left e = elim (went (passes test bytes) (one bytes) (two bytes) (Err left) e) [
      | inl k ↦ let h = law_one.halts bytes left k.1 in record { front = h.front; back = h.back; parts = h.parts; left_is = h.left_is; begins = λ lt. begin_first h.front (h.begins lt); dead = λ lt. dead_first bytes h.front h.back k.0 h.parts (h.dead lt) }
      | inr k ↦ let h = law_two.halts bytes left k.1 in record { front = h.front; back = h.back; parts = h.parts; left_is = h.left_is; begins = λ lt. begin_second h.front (h.begins lt); dead = λ lt. dead_second bytes h.front h.back k.0 h.parts (h.dead lt) }
    ]

-- by a test of what was read before
pub law_chosen : {A : Type 0} {n : ℕ} {stop : ℕ → Bool} {one one' two two' : List ℕ → Reading A} {P Q : Spelling A} (b : Bool)
    → Law n stop one one' P → Law n stop two two' Q
    → Law n stop (λ bytes. cond b (one bytes) (two bytes)) (λ bytes. cond b (one' bytes) (two' bytes)) (chosen b P Q)
law_chosen true law_one law_two = law_one
law_chosen false law_one law_two = law_two
