-- Tokens: runs of bytes that go on as long as some word begins so.
use Rattle.std.proofs.Common.{◌≡◌, ℕ, ◌+◌, Bool, true, false, List, [], ◌∷◌, ◌++◌, length, Option, Some, None, Ok, Err, refl, sym, ap, subst, ◌∙◌, append-nil, inl, inr}
use Rattle.exact_place.specs.Reading.{found_at, run_at}
use Rattle.exact_place.specs.Grammar.{IsRun}
use Rattle.exact_place.specs.Place.{Stops, Steady, Dead, Law}
use Rattle.exact_place.specs.Tokens.{IsToken}
use Rattle.exact_place.proofs.Steps.{good_is, bad_is, went, cons_assoc}

module _ {A : Type 0} (alive : List ℕ → Bool) (accept : List ℕ → Option A) where
  -- the end of a run: behind front, nothing of it goes on
  record Ended (front : List ℕ) (rest : List ℕ) : Type 0 where
    over : (c : ℕ) (back : List ℕ) → rest ≡ c ∷ back → alive (front ++ c ∷ []) ≡ false

  record Ran (front bytes : List ℕ) (x : A) (rest : List ℕ) : Type 0 where
    text : List ℕ
    parts : bytes ≡ text ++ rest
    is : accept (front ++ text) ≡ Some x
    steady : (c : ℕ) (back : List ℕ) → rest ≡ c ∷ back → (more : List ℕ) → run_at alive accept front (text ++ c ∷ more) ≡ Ok (x, c ∷ more)

  found_good : (o : Option A) (bytes rest : List ℕ) (x : A) (after : List ℕ) → found_at o bytes rest ≡ Ok (x, after) → (o ≡ Some x) × (rest ≡ after)
  found_good None bytes rest x after e = absurd cc
  found_good (Some y) bytes rest x after e = let same = good_is y x rest after e in (ap Some same.value, same.rest)

  found_bad : (o : Option A) (bytes rest : List ℕ) (left : ℕ) → found_at o bytes rest ≡ Err left → (o ≡ None) × (left ≡ length bytes)
  found_bad None bytes rest left e = (refl, sym (bad_is _ _ e))
  found_bad (Some y) bytes rest left e = absurd cc

  run_takes : (front bytes : List ℕ) (x : A) (rest : List ℕ) → run_at alive accept front bytes ≡ Ok (x, rest) → Ran front bytes x rest
  unfolding run_at
  run_takes front [] x rest e =
      let f = found_good (accept front) [] [] x rest e in
      record { text = []; parts = f.1; is = rw (append-nil front) f.0; steady = λ c back r more. absurd (let k : [] ≡ c ∷ back = f.1 ∙ r in cc k) }
  run_takes front (c ∷ bytes) x rest e = elim (went (alive (front ++ c ∷ [])) (run_at alive accept (front ++ c ∷ []) bytes) (found_at (accept front) (c ∷ bytes) (c ∷ bytes)) (Ok (x, rest)) e) [
    | inl k ↦ let r = run_takes (front ++ c ∷ []) bytes x rest k.1 in record {
      text = c ∷ r.text;
      parts = ap (λ (t : List ℕ). c ∷ t) r.parts;
      is = rw (← cons_assoc front r.text c) r.is;
      steady = λ d back is more. rw k.0 (r.steady d back is more);
    }
    | inr k ↦ let f = found_good (accept front) (c ∷ bytes) (c ∷ bytes) x rest k.1 in record {
      text = [];
      parts = f.1;
      is = rw (append-nil front) f.0;
      steady = λ d back is more. let same : c ∷ bytes ≡ d ∷ back = f.1 ∙ is in let head : c ≡ d = cc same in rw (← head, k.0, f.0) refl;
    }
  ]

  record Halted (front bytes : List ℕ) (left : ℕ) : Type 0 where
    text : List ℕ
    back : List ℕ
    parts : bytes ≡ text ++ back
    left_is : left ≡ length back
    live : alive (front ++ text) ≡ true
    dead : (c : ℕ) (rest : List ℕ) → back ≡ c ∷ rest → (more : List ℕ) → run_at alive accept front (text ++ c ∷ more) ≡ Err (length (c ∷ more))

  run_halts : (front bytes : List ℕ) (left : ℕ) → alive front ≡ true → run_at alive accept front bytes ≡ Err left → Halted front bytes left
  unfolding run_at
  run_halts front [] left a e =
      let f = found_bad (accept front) [] [] left e in
      record { text = []; back = []; parts = refl; left_is = f.1; live = rw (append-nil front) a; dead = λ c rest is more. absurd (cc is) }
  run_halts front (c ∷ bytes) left a e = elim (went (alive (front ++ c ∷ [])) (run_at alive accept (front ++ c ∷ []) bytes) (found_at (accept front) (c ∷ bytes) (c ∷ bytes)) (Err left) e) [
    | inl k ↦ let r = run_halts (front ++ c ∷ []) bytes left k.0 k.1 in record {
      text = c ∷ r.text;
      back = r.back;
      parts = ap (λ (t : List ℕ). c ∷ t) r.parts;
      left_is = r.left_is;
      live = rw (← cons_assoc front r.text c) r.live;
      dead = λ d rest is more. rw k.0 (r.dead d rest is more);
    }
    | inr k ↦ let f = found_bad (accept front) (c ∷ bytes) (c ∷ bytes) left k.1 in record {
      text = [];
      back = c ∷ bytes;
      parts = refl;
      left_is = f.1;
      live = rw (append-nil front) a;
      dead = λ d rest is more. let head : c ≡ d = cc is in rw (← head, k.0, f.0) refl;
    }
  ]

  run_reads : (closed : (front : List ℕ) (c : ℕ) (more : List ℕ) → alive (front ++ c ∷ more) ≡ true → alive (front ++ c ∷ []) ≡ true)
      (front text : List ℕ) (x : A) (rest : List ℕ) → alive (front ++ text) ≡ true → accept (front ++ text) ≡ Some x
      → ((c : ℕ) (back : List ℕ) → rest ≡ c ∷ back → alive ((front ++ text) ++ c ∷ []) ≡ false) → run_at alive accept front (text ++ rest) ≡ Ok (x, rest)
  unfolding run_at
  run_reads closed front [] x [] a is over = rw (← append-nil front, is) refl
  run_reads closed front [] x (c ∷ rest) a is over =
      let off : alive (front ++ c ∷ []) ≡ false = rw append-nil at (over c rest refl) in
      let now : accept front ≡ Some x = rw append-nil at is in
      rw (off, now) refl
  run_reads closed front (c ∷ text) x rest a is over =
      let on : alive (front ++ c ∷ []) ≡ true = closed front c text a in
      let regroup : (front ++ c ∷ []) ++ text ≡ front ++ c ∷ text = cons_assoc front text c in
      rw on (run_reads closed (front ++ c ∷ []) text x rest (rw regroup a) (rw regroup is) (λ d back e. rw regroup (over d back e)))

pub law_run : {A : Type 0} {n : ℕ} {alive : List ℕ → Bool} {accept : List ℕ → Option A} (stop : ℕ → Bool) → IsToken alive accept stop → Law n stop (run_at alive accept []) (run_at alive accept []) (IsRun accept)
law_run {A} {n} {alive} {accept} stop token = record {
  takes = λ bytes x rest e. let r = run_takes alive accept [] bytes x rest e in record { text = r.text; spelled = record { is = r.is }; parts = r.parts; steady = steady r.text x rest r.steady };
  reads = λ x text rest lt p s. run_reads alive accept token.closed [] text x rest (token.accepts text x p.is) p.is (λ c back e. token.ends text x c p.is (next rest s c back e));
  halts = λ bytes left e. let h = run_halts alive accept [] bytes left token.nothing e in record { front = h.text; back = h.back; parts = h.parts; left_is = h.left_is; begins = λ lt. token.live h.text h.live; dead = λ lt. dead h.text h.back h.dead };
  some = token.live [] token.nothing;
}
  where
    steady : (text : List ℕ) (x : A) (rest : List ℕ) → ((c : ℕ) (back : List ℕ) → rest ≡ c ∷ back → (more : List ℕ) → run_at alive accept [] (text ++ c ∷ more) ≡ Ok (x, c ∷ more)) → Steady (run_at alive accept []) text x rest
    steady text x [] h = tt
    steady text x (c ∷ rest) h = λ more. h c rest refl more

    dead : (text back : List ℕ) → ((c : ℕ) (rest : List ℕ) → back ≡ c ∷ rest → (more : List ℕ) → run_at alive accept [] (text ++ c ∷ more) ≡ Err (length (c ∷ more))) → Dead (run_at alive accept []) text back
    dead text [] h = tt
    dead text (c ∷ back) h = λ more. h c back refl more

    next : (rest : List ℕ) → Stops stop rest → (c : ℕ) (back : List ℕ) → rest ≡ c ∷ back → stop c ≡ true
    next rest s c back e = let t : Stops stop (c ∷ back) = subst (λ (r : List ℕ). Stops stop r) e s in t
