-- The laws of what has no parts: a value, a byte, a literal, the end; and of the same grammar in other words.
use Rattle.std.proofs.Common.{◌≡◌, ℕ, ◌+◌, ◌≤◌, Bool, true, false, eqb, List, [], ◌∷◌, ◌++◌, length, Option, Some, None, Ok, Err, refl, sym, ap, subst, ◌∙◌, arith, inl, inr}
use Rattle.std.proofs.lemmas.Bool.{eqb-true, eq-eqb}
use Rattle.exact_place.specs.Reading.{Reading, stopped, found_at, value_at, one_at, literal_at, map_at, end_at}
use Rattle.exact_place.specs.Grammar.{Spelling, IsValue, IsLiteral, IsOne, IsMapped}
use Rattle.exact_place.specs.Place.{Begins, Stops, Steady, Dead, Takes, Halts, Law}
use Rattle.exact_place.proofs.Steps.{good_is, bad_is, bind_ok, bind_err, went, stops_narrow}

pub law_zero : {A : Type 0} {stop : ℕ → Bool} {again : List ℕ → Reading A} {P : Spelling A} → Begins P [] → Law 0 stop (λ bytes. stopped bytes) again P
law_zero some = record {
  takes = λ bytes x rest e. absurd cc;
  reads = λ x text rest lt p s. absurd (omega arith);
  halts = λ bytes left e. record { front = []; back = bytes; parts = refl; left_is = sym (bad_is _ _ e); begins = λ lt. absurd (omega arith); dead = λ lt. absurd (omega arith) };
  some = some;
}

pub law_value : {A : Type 0} {n : ℕ} {stop : ℕ → Bool} (x : A) → Law n stop (value_at x) (value_at x) (IsValue x)
law_value {A} x = record {
  takes = λ bytes y rest e. take_value bytes y rest e;
  reads = λ y text rest lt p s. rw (p.same, p.empty) refl;
  halts = λ bytes left e. absurd cc;
  some = record { value = x; more = []; spelled = record { same = refl; empty = refl } };
}
  where
    steady : (rest : List ℕ) → Steady (value_at x) [] x rest
    steady [] = tt
    steady (c ∷ rest) = λ more. refl

    take_value : (bytes : List ℕ) (y : A) (rest : List ℕ) → value_at x bytes ≡ Ok (y, rest) → Takes (value_at x) (IsValue x) bytes y rest
    take_value bytes y rest e =
        let same = good_is x y bytes rest e in
        record { text = []; spelled = record { same = sym same.value; empty = refl }; parts = same.rest; steady = subst (λ (z : A). Steady (value_at x) [] z rest) same.value (steady rest) }

pub law_one : {A : Type 0} {n : ℕ} {stop : ℕ → Bool} (accept : ℕ → Option A) (x : A) (byte : ℕ) → accept byte ≡ Some x → Law n stop (one_at accept) (one_at accept) (IsOne accept)
law_one {A} {n} accept x byte is = record {
  takes = takes;
  reads = λ y text rest lt p s. rw (p.parts, p.is) refl;
  halts = halts;
  some = begin;
}
  where
    begin : Begins (IsOne accept) []
    begin = record { value = x; more = byte ∷ []; spelled = record { byte = byte; is = is; parts = refl } }

    steady : (c : ℕ) (y : A) → accept c ≡ Some y → (rest : List ℕ) → Steady (one_at accept) (c ∷ []) y rest
    steady c y e [] = tt
    steady c y e (d ∷ rest) = λ more. rw e refl

    found : (o : Option A) (c : ℕ) (rest : List ℕ) (y : A) (after : List ℕ) → accept c ≡ o → found_at o (c ∷ rest) rest ≡ Ok (y, after) → Takes (one_at accept) (IsOne accept) (c ∷ rest) y after
    found None c rest y after is e = absurd cc
    found (Some z) c rest y after is e =
        let same = good_is z y rest after e in
        let now : accept c ≡ Some y = is ∙ ap Some same.value in
        record { text = c ∷ []; spelled = record { byte = c; is = now; parts = refl }; parts = ap (λ (t : List ℕ). c ∷ t) same.rest; steady = steady c y now after }

    takes : (bytes : List ℕ) (y : A) (rest : List ℕ) → one_at accept bytes ≡ Ok (y, rest) → Takes (one_at accept) (IsOne accept) bytes y rest
    takes [] y rest e = absurd cc
    takes (c ∷ bytes) y rest e = found (accept c) c bytes y rest refl e

    missed : (o : Option A) (c : ℕ) (rest : List ℕ) (left : ℕ) → accept c ≡ o → found_at o (c ∷ rest) rest ≡ Err left → Halts n (one_at accept) (IsOne accept) (c ∷ rest) left
    missed None c rest left is e = record { front = []; back = c ∷ rest; parts = refl; left_is = sym (bad_is _ _ e); begins = λ lt. begin; dead = λ lt more. rw is refl }
    missed (Some z) c rest left is e = absurd cc

    halts : (bytes : List ℕ) (left : ℕ) → one_at accept bytes ≡ Err left → Halts n (one_at accept) (IsOne accept) bytes left
    halts [] left e = record { front = []; back = []; parts = refl; left_is = sym (bad_is _ _ e); begins = λ lt. begin; dead = λ lt. tt }
    halts (c ∷ bytes) left e = missed (accept c) c bytes left refl e

-- ---- literals

literal_takes : (want bytes rest : List ℕ) (u : Unit {0}) → literal_at want bytes ≡ Ok (u, rest) → bytes ≡ want ++ rest
unfolding literal_at
literal_takes [] bytes rest u e = (good_is tt u bytes rest e).rest
literal_takes (w ∷ ws) [] rest u e = absurd cc
literal_takes (w ∷ ws) (c ∷ bytes) rest u e = elim (went (eqb c w) (literal_at ws bytes) (stopped (c ∷ bytes)) (Ok (u, rest)) e) [
  | inl k ↦ rw (eqb-true c w k.0, literal_takes ws bytes rest u k.1) refl
  | inr k ↦ absurd (not_good c bytes u rest k.1)
]
  where
    not_good : (c : ℕ) (bytes : List ℕ) (u : Unit {0}) (rest : List ℕ) → ◌≡◌ {A = Reading (Unit {0})} (stopped (c ∷ bytes)) (Ok (u, rest)) → ⊥
    not_good c bytes u rest e = cc

literal_reads : (want rest : List ℕ) → literal_at want (want ++ rest) ≡ Ok (tt, rest)
unfolding literal_at
literal_reads [] rest = refl
literal_reads (w ∷ ws) rest = rw (eq-eqb w w refl) (literal_reads ws rest)

record Short (want bytes : List ℕ) (left : ℕ) : Type 0 where
  front : List ℕ
  more : List ℕ
  back : List ℕ
  parts : bytes ≡ front ++ back
  left_is : left ≡ length back
  want_is : want ≡ front ++ more
  dead : Dead (literal_at want) front back

literal_halts : (want bytes : List ℕ) (left : ℕ) → literal_at want bytes ≡ Err left → Short want bytes left
unfolding literal_at
literal_halts [] bytes left e = absurd cc
literal_halts (w ∷ ws) [] left e = record { front = []; more = w ∷ ws; back = []; parts = refl; left_is = sym (bad_is _ _ e); want_is = refl; dead = tt }
literal_halts (w ∷ ws) (c ∷ bytes) left e = elim (went (eqb c w) (literal_at ws bytes) (stopped (c ∷ bytes)) (Err left) e) [
  | inl k ↦ longer c bytes (eqb-true c w k.0) (literal_halts ws bytes left k.1)
  | inr k ↦ record { front = []; more = w ∷ ws; back = c ∷ bytes; parts = refl; left_is = sym (bad_is _ _ k.1); want_is = refl; dead = λ more. rw k.0 refl }
]
  where
    on : (front back : List ℕ) → Dead (literal_at ws) front back → Dead (literal_at (w ∷ ws)) (w ∷ front) back
    on front [] d = tt
    on front (b ∷ back) d = λ more. rw (eq-eqb w w refl) (d more)

    longer : (c : ℕ) (bytes : List ℕ) → c ≡ w → Short ws bytes left → Short (w ∷ ws) (c ∷ bytes) left
    longer c bytes is s = record {
      front = w ∷ s.front;
      more = s.more;
      back = s.back;
      parts = rw (is, s.parts) refl;
      left_is = s.left_is;
      want_is = ap (λ (t : List ℕ). w ∷ t) s.want_is;
      dead = on s.front s.back s.dead;
    }

pub law_literal : {n : ℕ} {stop : ℕ → Bool} (want : List ℕ) → Law n stop (literal_at want) (literal_at want) (IsLiteral want)
law_literal {n} want = record {
  takes = λ bytes u rest e. record { text = want; spelled = record { is = refl }; parts = literal_takes want bytes rest u e; steady = steady rest };
  reads = λ u text rest lt p s. rw p.is (literal_reads want rest);
  halts = λ bytes left e. let s = literal_halts want bytes left e in record { front = s.front; back = s.back; parts = s.parts; left_is = s.left_is; begins = λ lt. record { value = tt; more = s.more; spelled = record { is = sym s.want_is } }; dead = λ lt. s.dead };
  some = record { value = tt; more = want; spelled = record { is = refl } };
}
  where
    steady : (rest : List ℕ) → Steady (literal_at want) want tt rest
    steady [] = tt
    steady (c ∷ rest) = λ more. literal_reads want (c ∷ more)

-- ---- the end

pub law_end : {n : ℕ} → Law n (λ c. false) end_at end_at (IsLiteral [])
law_end {n} = record {
  takes = takes;
  reads = λ u text rest lt p s. rw p.is (reads rest s);
  halts = halts;
  some = begin;
}
  where
    begin : Begins (IsLiteral []) []
    begin = record { value = tt; more = []; spelled = record { is = refl } }

    takes : (bytes : List ℕ) (u : Unit {0}) (rest : List ℕ) → end_at bytes ≡ Ok (u, rest) → Takes end_at (IsLiteral []) bytes u rest
    takes [] u rest e = let same = good_is tt u [] rest e in subst (λ (r : List ℕ). Takes end_at (IsLiteral []) [] u r) same.rest (record { text = []; spelled = record { is = refl }; parts = refl; steady = tt })
    takes (c ∷ bytes) u rest e = absurd cc

    reads : (rest : List ℕ) → Stops (λ c. false) rest → end_at rest ≡ Ok (tt, rest)
    reads [] s = refl
    reads (c ∷ rest) s = absurd cc

    halts : (bytes : List ℕ) (left : ℕ) → end_at bytes ≡ Err left → Halts n end_at (IsLiteral []) bytes left
    halts [] left e = absurd cc
    halts (c ∷ bytes) left e = record { front = []; back = c ∷ bytes; parts = refl; left_is = sym (bad_is _ _ e); begins = λ lt. begin; dead = λ lt more. refl }

-- ---- the same law in other words

pub law_same : {A : Type 0} {n : ℕ} {stop : ℕ → Bool} {read again : List ℕ → Reading A} {P Q : Spelling A}
    → ((x : A) (text : List ℕ) → P x text → Q x text) → ((x : A) (text : List ℕ) → Q x text → P x text) → Law n stop read again P → Law n stop read again Q
law_same {A} {n} {stop} {read} {again} {P} {Q} to from law = record {
  takes = λ bytes x rest e. let t = law.takes bytes x rest e in record { text = t.text; spelled = to x t.text t.spelled; parts = t.parts; steady = t.steady };
  reads = λ x text rest lt q s. law.reads x text rest lt (from x text q) s;
  halts = λ bytes left e. let h = law.halts bytes left e in record { front = h.front; back = h.back; parts = h.parts; left_is = h.left_is; begins = λ lt. begin h.front (h.begins lt); dead = h.dead };
  some = begin [] law.some;
}
  where
    begin : (front : List ℕ) → Begins P front → Begins Q front
    begin front b = record { value = b.value; more = b.more; spelled = to b.value (front ++ b.more) b.spelled }

pub law_narrow : {A : Type 0} {n : ℕ} {wide : ℕ → Bool} {read again : List ℕ → Reading A} {P : Spelling A} (stop : ℕ → Bool)
    → ((c : ℕ) → stop c ≡ true → wide c ≡ true) → Law n wide read again P → Law n stop read again P
law_narrow {wide = wide} stop h law = record {
  takes = law.takes;
  reads = λ x text rest lt p s. law.reads x text rest lt p (stops_narrow stop wide h rest s);
  halts = law.halts;
  some = law.some;
}

pub law_within : {A : Type 0} {m : ℕ} {stop : ℕ → Bool} {read again : List ℕ → Reading A} {P : Spelling A} (n : ℕ) → n ≤ m → Law m stop read again P → Law n stop read again P
law_within n le law = record {
  takes = law.takes;
  reads = λ x text rest lt p s. law.reads x text rest (omega arith) p s;
  halts = λ bytes left e. let h = law.halts bytes left e in record { front = h.front; back = h.back; parts = h.parts; left_is = h.left_is; begins = λ lt. h.begins (omega arith); dead = λ lt. h.dead (omega arith) };
  some = law.some;
}

pub law_map : {A B : Type 0} {n : ℕ} {stop : ℕ → Bool} {read again : List ℕ → Reading A} {P : Spelling A} (f : A → B)
    → Law n stop read again P → Law n stop (map_at f read) (map_at f again) (IsMapped f P)
law_map {A} {B} {n} {stop} {read} {again} {P} f law = record {
  takes = takes;
  reads = λ y text rest lt p s. rw (law.reads p.value text rest lt p.first s, ← p.is) refl;
  halts = halts;
  some = begin [] law.some;
}
  where
    begin : (front : List ℕ) → Begins P front → Begins (IsMapped f P) front
    begin front b = record { value = f b.value; more = b.more; spelled = record { value = b.value; first = b.spelled; is = refl } }

    steady : (text : List ℕ) (x : A) (rest : List ℕ) → Steady again text x rest → Steady (map_at f again) text (f x) rest
    steady text x [] s = tt
    steady text x (c ∷ rest) s = λ more. rw (s more) refl

    dead : (front back : List ℕ) → Dead again front back → Dead (map_at f again) front back
    dead front [] d = tt
    dead front (c ∷ back) d = λ more. rw (d more) refl

    takes : (bytes : List ℕ) (y : B) (rest : List ℕ) → map_at f read bytes ≡ Ok (y, rest) → Takes (map_at f again) (IsMapped f P) bytes y rest
    takes bytes y rest e =
        let b = bind_ok (read bytes) (λ x. Ok (f x.0, x.1)) y rest e in
        let t = law.takes bytes b.0 b.1 b.2 in
        let same = good_is (f b.0) y b.1 rest b.3 in
        let parts : bytes ≡ t.text ++ rest = t.parts ∙ ap (λ (r : List ℕ). t.text ++ r) same.rest in
        let now : Steady (map_at f again) t.text (f b.0) rest = subst (λ (r : List ℕ). Steady (map_at f again) t.text (f b.0) r) same.rest (steady t.text b.0 b.1 t.steady) in
        record { text = t.text; spelled = record { value = b.0; first = t.spelled; is = sym same.value }; parts = parts; steady = subst (λ (z : B). Steady (map_at f again) t.text z rest) same.value now }

    halts : (bytes : List ℕ) (left : ℕ) → map_at f read bytes ≡ Err left → Halts n (map_at f again) (IsMapped f P) bytes left
    halts bytes left e = elim (bind_err (read bytes) (λ x. Ok (f x.0, x.1)) left e) [
      | inl k ↦ let h = law.halts bytes left k in record { front = h.front; back = h.back; parts = h.parts; left_is = h.left_is; begins = λ lt. begin h.front (h.begins lt); dead = λ lt. dead h.front h.back (h.dead lt) }
      | inr k ↦ absurd (never (f k.0) k.1 left k.3)
    ]
      where
        never : (y : B) (mid : List ℕ) (left : ℕ) → ◌≡◌ {A = Reading B} (Ok (y, mid)) (Err left) → ⊥
        never y mid left e = cc
