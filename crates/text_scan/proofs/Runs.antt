-- Runs of bytes.
use Rattle.std.proofs.Common.{◌≡◌, ℕ, Bool, true, false, List, [], ◌∷◌, ◌++◌, Option, refl, append-nil}
use Rattle.exact_place.specs.Reading.{found_at, run_at}
use Rattle.exact_place.proofs.Steps.{cons_assoc}
use Rattle.text_scan.specs.Runs.{IsSplit}

-- a run that goes on to its end
run_all : {A : Type 0} (alive : List ℕ → Bool) (accept : List ℕ → Option A) (closed : (front : List ℕ) (c : ℕ) (more : List ℕ) → alive (front ++ c ∷ more) ≡ true → alive (front ++ c ∷ []) ≡ true)
    (front word rest : List ℕ) → alive (front ++ word) ≡ true → ((c : ℕ) (back : List ℕ) → rest ≡ c ∷ back → alive ((front ++ word) ++ c ∷ []) ≡ false)
    → run_at alive accept front (word ++ rest) ≡ found_at (accept (front ++ word)) rest rest
unfolding run_at
run_all alive accept closed front [] [] a over = rw append-nil refl
run_all alive accept closed front [] (c ∷ rest) a over =
    let off : alive (front ++ c ∷ []) ≡ false = rw append-nil at (over c rest refl) in
    rw (off, append-nil) refl
run_all alive accept closed front (c ∷ word) rest a over =
    let on : alive (front ++ c ∷ []) ≡ true = closed front c word a in
    let regroup : (front ++ c ∷ []) ++ word ≡ front ++ c ∷ word = cons_assoc front word c in
    rw (on, ← regroup) (run_all alive accept closed (front ++ c ∷ []) word rest (rw regroup a) (λ d back e. rw regroup (over d back e)))

pub run_split : {A : Type 0} (alive : List ℕ → Bool) (accept : List ℕ → Option A) (closed : (front : List ℕ) (c : ℕ) (more : List ℕ) → alive (front ++ c ∷ more) ≡ true → alive (front ++ c ∷ []) ≡ true)
    (bytes word rest : List ℕ) → IsSplit alive bytes word rest → run_at alive accept [] bytes ≡ found_at (accept word) rest rest
run_split alive accept closed bytes word rest s = rw s.parts (run_all alive accept closed [] word rest s.whole s.over)
