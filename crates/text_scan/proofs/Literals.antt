-- Reading a literal one byte after the other, as a loop does.
use Rattle.std.proofs.Common.{◌≡◌, ℕ, suc, ◌+◌, ◌-◌, ◌<◌, ◌≤◌, true, false, eqb, List, [], ◌∷◌, length, get_or, drop, Ok, Err, refl, sym, ap, ◌∙◌, arith, drop-cons, add-one, drop_of_length-le, take, take_all, length-drop}
use Rattle.exact_place.specs.Reading.{Reading, passes, literal_at}

first_of : (b : ℕ) (ws rest : List ℕ) → passes (λ c. eqb c b) rest ≡ true → literal_at (b ∷ ws) rest ≡ literal_at ws (drop 1 rest)
unfolding literal_at
first_of b ws [] e = absurd cc
first_of b ws (c ∷ rest) e = rw e refl

not_first : (b : ℕ) (ws rest : List ℕ) → passes (λ c. eqb c b) rest ≡ false → literal_at (b ∷ ws) rest ≡ Err (length rest)
unfolding literal_at
not_first b ws [] e = refl
not_first b ws (c ∷ rest) e = rw e refl

pub literal_goes : (want : List ℕ) (i : ℕ) (rest : List ℕ) (total : Reading (Unit {0})) → i < length want → passes (λ c. eqb c (get_or want i 0)) rest ≡ true → literal_at (drop i want) rest ≡ total → literal_at (drop (i + 1) want) (drop 1 rest) ≡ total
literal_goes want i rest total lt e so_far = sym (ap (λ (ws : List ℕ). literal_at ws rest) (drop-cons want i 0 lt) ∙ first_of (get_or want i 0) (drop (suc i) want) rest e ∙ ap (λ (k : ℕ). literal_at (drop k want) (drop 1 rest)) (sym (add-one i))) ∙ so_far

pub literal_fails : (want : List ℕ) (i : ℕ) (rest : List ℕ) (total : Reading (Unit {0})) → i < length want → passes (λ c. eqb c (get_or want i 0)) rest ≡ false → literal_at (drop i want) rest ≡ total → total ≡ Err (length rest)
literal_fails want i rest total lt e so_far = sym so_far ∙ (ap (λ (ws : List ℕ). literal_at ws rest) (drop-cons want i 0 lt) ∙ not_first (get_or want i 0) (drop (suc i) want) rest e)

pub literal_done : (want : List ℕ) (i : ℕ) (rest : List ℕ) (total : Reading (Unit {0})) → length want ≤ i → literal_at (drop i want) rest ≡ total → total ≡ Ok (tt, rest)
unfolding literal_at
literal_done want i rest total le so_far = sym so_far ∙ ap (λ (ws : List ℕ). literal_at ws rest) (drop_of_length-le want le)

-- a slice from a place on
pub rest_of : (n : ℕ) (xs : List ℕ) → take (length xs - n) (drop n xs) ≡ drop n xs
rest_of n xs = take_all (length xs - n) (drop n xs) (omega (arith, length-drop n xs))

pub ruleset literal_steps = (literal_goes, literal_fails, literal_done)
