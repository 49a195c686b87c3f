-- The laws of walks and lists.
use Rattle.std.proofs.Common.{◌≡◌, ℕ, zero, suc, ◌+◌, ◌≤◌, Bool, true, false, cond, not, List, [], ◌∷◌, ◌++◌, length, Ok, refl, ap, subst, append_assoc, arith}
use Rattle.exact_place.specs.Reading.{Reading, ◌>>=◌, passes, value_at, list_at, walk_at}
use Rattle.exact_place.specs.Grammar.{Spelling, ◌then◌, IsValue, IsMapped, Either, first, second, IsList, IsWalk, no_items, an_item, walk_ends, walk_on}
use Rattle.exact_place.specs.Place.{Stops, Law}
use Rattle.exact_place.proofs.Steps.{stops_narrow, passes_front}
use Rattle.exact_place.proofs.Basic.{law_zero, law_value, law_map, law_same, law_within}
use Rattle.exact_place.proofs.Sequence.{Starts, Follows, law_after, law_either}

longer : (n : ℕ) (test : ℕ → Bool) (text : List ℕ) → passes test text ≡ true → suc n ≤ n + length text
longer n test [] e = absurd cc
longer n test (c ∷ text) e = omega arith

stops_off : (test stop : ℕ → Bool) → ((c : ℕ) → stop c ≡ true → test c ≡ false) → (rest : List ℕ) → Stops stop rest → Stops (λ c. not (test c)) rest
stops_off test stop h [] s = tt
stops_off test stop h (c ∷ rest) s = rw (h c s) refl

first_in : (test inside : ℕ → Bool) → ((c : ℕ) → test c ≡ true → inside c ≡ true) → (front more : List ℕ) → passes test front ≡ true → Stops inside (front ++ more)
first_in test inside go [] more e = absurd cc
first_in test inside go (c ∷ front) more e = go c e

-- readers that agree at every input
pub law_alike : {A : Type 0} {n : ℕ} {stop : ℕ → Bool} {read read' again again' : List ℕ → Reading A} {P : Spelling A}
    → ((bytes : List ℕ) → read bytes ≡ read' bytes) → ((bytes : List ℕ) → again bytes ≡ again' bytes) → Law n stop read again P → Law n stop read' again' P
law_alike {A} {n} {stop} {read} {read'} {again} {again'} {P} r a law =
    let one : read ≡ read' = λ i bytes. r bytes i in
    let two : again ≡ again' = λ i bytes. a bytes i in
    subst (λ (f : List ℕ → Reading A). Law n stop read' f P) two (subst (λ (f : List ℕ → Reading A). Law n stop f again P) one law)

-- What may come in one state of a walk: an item, whose texts begin with a byte of the test, or nothing.
pub data Turn {A : Type 0} (n : ℕ) (test inside stop : ℕ → Bool) (read again : List ℕ → Reading A) (P : Spelling A) : Type 0 where
  open_turn : Starts test P → ((c : ℕ) → test c ≡ true → inside c ≡ true) → ((c : ℕ) → stop c ≡ true → test c ≡ false) → Law n inside read again P → Turn n test inside stop read again P
  shut_turn : ((x : A) (text : List ℕ) → P x text → ⊥) → ((c : ℕ) → test c ≡ false) → Turn n test inside stop read again P

module _ {S A : Type 0} (test : S → ℕ → Bool) (P : S → Spelling A) (next : S → A → S) (read again : S → List ℕ → Reading A) (inside stop : ℕ → Bool) (k : ℕ)
    (turn : (s : S) → Turn k (test s) inside stop (read s) (again s) (P s)) (out : (c : ℕ) → stop c ≡ true → inside c ≡ true) where
  -- an item that follows may follow an item, and so may what follows the walk
  follows_walk : {s : S} {xs : List A} {back : List ℕ} (rest : List ℕ) → IsWalk P next s xs back → Stops stop rest → Stops inside (back ++ rest)
  follows_walk rest walk_ends st = stops_narrow stop inside out rest st
  follows_walk rest (walk_on {s = s} {x = x} {front = front} {back = back} p w) st = elim (turn s) [
    | open_turn starts go off law ↦ rw (append_assoc front back rest) (first_in (test s) inside go front (back ++ rest) (starts x front p))
    | shut_turn never off ↦ absurd (never x front p)
  ]

  abbrev Split : S → Spelling (List A)
  Split s = Either (P s then λ x. IsMapped (λ xs. x ∷ xs) (IsWalk P next (next s x))) (IsValue [])

  to_walk : (s : S) (y : List A) (text : List ℕ) → Split s y text → IsWalk P next s y text
  to_walk s y text (first p) = rw (p.second.is, p.parts) (walk_on p.first p.second.first)
  to_walk s y text (second q) = rw (q.same, q.empty) walk_ends

  from_walk : (s : S) {y : List A} {text : List ℕ} → IsWalk P next s y text → Split s y text
  from_walk s walk_ends = second (record { same = refl; empty = refl })
  from_walk s (walk_on {x = x} {xs = xs} {front = front} {back = back} p w) = first (record { value = x; front = front; back = back; first = p; second = record { value = xs; first = w; is = refl }; parts = refl })

  empty : (s : S) → ((c : ℕ) → stop c ≡ true → test s c ≡ false) → Follows (λ c. not (test s c)) (IsValue {A = List A} []) stop
  empty s off y back rest q st = rw q.empty (stops_off (test s) stop off rest st)

  behind : (s : S) (x : A) → Follows inside (IsMapped (λ xs. x ∷ xs) (IsWalk P next (next s x))) stop
  behind s x y back rest q st = follows_walk rest q.first st

  starts_split : (s : S) → Starts (test s) (P s) → Starts (test s) (P s then λ x. IsMapped (λ xs. x ∷ xs) (IsWalk P next (next s x)))
  starts_split s starts y text p = rw p.parts (passes_front (test s) p.front p.back (starts p.value p.front p.first))

  open_walk : (n m : ℕ) → suc n ≤ k → (s : S) → Starts (test s) (P s) → ((c : ℕ) → stop c ≡ true → test s c ≡ false) → Law k inside (read s) (again s) (P s)
      → ((x : A) → Law n stop (walk_at n test read next (next s x)) (walk_at m test again next (next s x)) (IsWalk P next (next s x)))
      → Law (suc n) stop (walk_at (suc n) test read next s) (walk_at (suc m) test again next s) (IsWalk P next s)
  unfolding walk_at
  open_walk n m lk s starts off law inner =
      law_same (to_walk s) (λ y text. from_walk s {y = y} {text = text})
      (law_either (test s) (starts_split s starts) (empty s off)
      (law_after (suc n) n inside stop (λ x text p. longer n (test s) text (starts x text p)) (behind s) (law_within (suc n) lk law) (λ x text p. law_map (λ xs. x ∷ xs) (inner x)))
      (law_value []))

  shut_walk : (n m : ℕ) (s : S) → ((x : A) (text : List ℕ) → P s x text → ⊥) → ((c : ℕ) → test s c ≡ false)
      → Law (suc n) stop (walk_at (suc n) test read next s) (walk_at (suc m) test again next s) (IsWalk P next s)
  unfolding walk_at
  shut_walk n m s never off = law_same to from (law_alike (λ bytes. one n read bytes) (λ bytes. one m again bytes) (law_value []))
    where
      shut : (bytes : List ℕ) → passes (test s) bytes ≡ false
      shut [] = refl
      shut (c ∷ rest) = off c

      one : (n : ℕ) (read : S → List ℕ → Reading A) (bytes : List ℕ) → value_at [] bytes ≡ walk_at (suc n) test read next s bytes
      one n read bytes = rw (shut bytes) refl

      to : (y : List A) (text : List ℕ) → IsValue [] y text → IsWalk P next s y text
      to y text q = rw (q.same, q.empty) walk_ends

      from : (y : List A) (text : List ℕ) → IsWalk P next s y text → IsValue [] y text
      from y text w = elim (from_walk s w) [
        | first p ↦ absurd (never p.value p.front p.first)
        | second q ↦ q
      ]

  pub law_walk : (n m : ℕ) → n ≤ m → n ≤ k → (s : S) → Law n stop (walk_at n test read next s) (walk_at m test again next s) (IsWalk P next s)
  unfolding walk_at
  law_walk zero m le lk s = law_zero (record { value = []; more = []; spelled = walk_ends })
  law_walk (suc n) zero le lk s = absurd (omega arith)
  law_walk (suc n) (suc m) le lk s =
      let inner : (x : A) → Law n stop (walk_at n test read next (next s x)) (walk_at m test again next (next s x)) (IsWalk P next (next s x)) = λ x. law_walk n m (omega arith) (omega arith) (next s x) in
      elim (turn s) [
        | open_turn starts go off law ↦ open_walk n m lk s starts off law inner
        | shut_turn never off ↦ shut_walk n m s never off
      ]

-- ---- lists: a walk with one state

abbrev the_state : Type 0
the_state = Unit {0}

list_is_walk : {A : Type 0} (n : ℕ) (test : ℕ → Bool) (read : List ℕ → Reading A) (bytes : List ℕ) → walk_at n (λ (u : the_state). test) (λ u. read) (λ u x. tt) tt bytes ≡ list_at n test read bytes
unfolding walk_at list_at
list_is_walk zero test read bytes = refl
list_is_walk (suc n) test read bytes = ap (λ (f : List ℕ → Reading (List _)). cond (passes test bytes) (read bytes >>= λ x. f x.1 >>= λ xs. Ok (x.0 ∷ xs.0, xs.1)) (Ok ([], bytes))) (λ i rest. list_is_walk n test read rest i)

list_of_walk : {A : Type 0} {P : Spelling A} {u : the_state} {xs : List A} {text : List ℕ} → IsWalk (λ (v : the_state). P) (λ v x. tt) u xs text → IsList P xs text
list_of_walk walk_ends = no_items
list_of_walk (walk_on p w) = an_item p (list_of_walk w)

walk_of_list : {A : Type 0} {P : Spelling A} {xs : List A} {text : List ℕ} → IsList P xs text → IsWalk (λ (v : the_state). P) (λ v x. tt) tt xs text
walk_of_list no_items = walk_ends
walk_of_list (an_item p w) = walk_on p (walk_of_list w)

pub law_list : {A : Type 0} {n m : ℕ} {read again : List ℕ → Reading A} {P : Spelling A} (test inside stop : ℕ → Bool) → n ≤ m
    → Starts test P → ((c : ℕ) → test c ≡ true → inside c ≡ true) → ((c : ℕ) → stop c ≡ true → test c ≡ false) → ((c : ℕ) → stop c ≡ true → inside c ≡ true)
    → Law n inside read again P → Law n stop (list_at n test read) (list_at m test again) (IsList P)
law_list {A} {n} {m} {read} {again} {P} test inside stop le starts go off out law =
    law_alike (λ bytes. list_is_walk n test read bytes) (λ bytes. list_is_walk m test again bytes)
    (law_same (λ y text w. list_of_walk w) (λ y text w. walk_of_list w)
    (law_walk (λ (u : the_state). test) (λ u. P) (λ u x. tt) (λ u. read) (λ u. again) inside stop n (λ u. open_turn starts go off law) out n m le (omega arith) tt))
