-- Readers: functions from bytes to a value and the bytes that are left, or to the number of bytes that were
-- left where reading stopped. The readers here are put together by the names that the grammar has for the same.
use Rattle.std.specs.Prelude.{ℕ, zero, suc, Bool, false, cond, List, [], ◌∷◌, ◌++◌, length, Option, Some, None, Result, Ok, Err, ◌==◌}

abbrev pub Reading : Type 0 → Type 0
Reading A = Result (A × List ℕ) ℕ

infixl 10 ◌>>=◌
abbrev pub ◌>>=◌ : {A B E : Type 0} → Result A E → (A → Result B E) → Result B E
(Ok x) >>= f = f x
(Err e) >>= f = Err e

-- reading stops here
abbrev pub stopped : {A : Type 0} → List ℕ → Reading A
stopped bytes = Err (length bytes)

-- the next byte passes the test
abbrev pub passes : (ℕ → Bool) → List ℕ → Bool
passes test [] = false
passes test (c ∷ rest) = test c

-- the value, of no bytes
abbrev pub value_at : {A : Type 0} → A → List ℕ → Reading A
value_at x bytes = Ok (x, bytes)

abbrev pub found_at : {A : Type 0} → Option A → List ℕ → List ℕ → Reading A
found_at None bytes rest = stopped bytes
found_at (Some x) bytes rest = Ok (x, rest)

-- one byte of a class, which gives the value
abbrev pub one_at : {A : Type 0} → (ℕ → Option A) → List ℕ → Reading A
one_at accept [] = Err 0
one_at accept (c ∷ rest) = found_at (accept c) (c ∷ rest) rest

-- these bytes
unfoldable pub literal_at : List ℕ → List ℕ → Reading (Unit {0})
literal_at [] bytes = Ok (tt, bytes)
literal_at (w ∷ ws) [] = Err 0
literal_at (w ∷ ws) (c ∷ rest) = cond (c == w) (literal_at ws rest) (stopped (c ∷ rest))

-- the longest run of bytes that is alive, behind those that were read before; the whole run gives the value
unfoldable pub run_at : {A : Type 0} → (List ℕ → Bool) → (List ℕ → Option A) → List ℕ → List ℕ → Reading A
run_at alive accept front [] = found_at (accept front) [] []
run_at alive accept front (c ∷ rest) = cond (alive (front ++ c ∷ [])) (run_at alive accept (front ++ c ∷ []) rest) (found_at (accept front) (c ∷ rest) (c ∷ rest))

-- one reader, then another that may depend on the first value
abbrev pub after_at : {A B : Type 0} → (List ℕ → Reading A) → (A → List ℕ → Reading B) → List ℕ → Reading B
after_at first next bytes = first bytes >>= λ x. next x.0 x.1

abbrev pub lead_at : {B : Type 0} → List ℕ → (List ℕ → Reading B) → List ℕ → Reading B
lead_at ws next bytes = literal_at ws bytes >>= λ x. next x.1

abbrev pub map_at : {A B : Type 0} → (A → B) → (List ℕ → Reading A) → List ℕ → Reading B
map_at f read bytes = read bytes >>= λ x. Ok (f x.0, x.1)

-- by the next byte
abbrev pub either_at : {A : Type 0} → (ℕ → Bool) → (List ℕ → Reading A) → (List ℕ → Reading A) → List ℕ → Reading A
either_at test first second bytes = cond (passes test bytes) (first bytes) (second bytes)

-- items, less than a number of them, while the next byte passes the test
unfoldable pub list_at : {A : Type 0} → ℕ → (ℕ → Bool) → (List ℕ → Reading A) → List ℕ → Reading (List A)
list_at zero test item bytes = stopped bytes
list_at (suc n) test item bytes = cond (passes test bytes) (item bytes >>= λ x. list_at n test item x.1 >>= λ xs. Ok (x.0 ∷ xs.0, xs.1)) (Ok ([], bytes))

-- the same, where what may come depends on what came
unfoldable pub walk_at : {S A : Type 0} → ℕ → (S → ℕ → Bool) → (S → List ℕ → Reading A) → (S → A → S) → S → List ℕ → Reading (List A)
walk_at zero test item next s bytes = stopped bytes
walk_at (suc n) test item next s bytes = cond (passes (test s) bytes) (item s bytes >>= λ x. walk_at n test item next (next s x.0) x.1 >>= λ xs. Ok (x.0 ∷ xs.0, xs.1)) (Ok ([], bytes))

-- nothing behind
abbrev pub end_at : List ℕ → Reading (Unit {0})
end_at [] = Ok (tt, [])
end_at (c ∷ rest) = stopped (c ∷ rest)
