-- Small steps that every law uses.
use Rattle.std.proofs.Common.{◌≡◌, ℕ, ◌+◌, Bool, true, false, cond, not, List, [], ◌∷◌, ◌++◌, Ok, Err, refl, ap, append_assoc, ◌⊎◌, inl, inr}
use Rattle.exact_place.specs.Reading.{Reading, ◌>>=◌, passes}
use Rattle.exact_place.specs.Place.{Stops, Steady}

abbrev pub good : {A : Type 0} → A → List ℕ → Reading A
good x rest = Ok (x, rest)

pub record Same {A : Type 0} (x y : A) (r s : List ℕ) : Type 0 where
  pub value : x ≡ y
  pub rest : r ≡ s

pair_is : {A : Type 0} (p q : A × List ℕ) → ◌≡◌ {A = Reading A} (Ok p) (Ok q) → p ≡ q
pair_is p q e = cc

pub good_is : {A : Type 0} (x y : A) (r s : List ℕ) → good x r ≡ good y s → Same x y r s
good_is {A} x y r s e =
    let k : ◌≡◌ {A = A × List ℕ} (x, r) (y, s) = pair_is (x, r) (y, s) e in
    record { value = ap (λ (p : A × List ℕ). p.0) k; rest = ap (λ (p : A × List ℕ). p.1) k }

pub bad_is : {A : Type 0} (a b : ℕ) → ◌≡◌ {A = Reading A} (Err a) (Err b) → a ≡ b
bad_is a b e = cc

pub bind_ok : {A B : Type 0} (r : Reading A) (f : A × List ℕ → Reading B) (y : B) (rest : List ℕ) → (r >>= f) ≡ Ok (y, rest) → (x : A) × (mid : List ℕ) × (r ≡ Ok (x, mid)) × (f (x, mid) ≡ Ok (y, rest))
bind_ok (Ok x) f y rest e = (x.0, x.1, refl, e)
bind_ok (Err d) f y rest e = absurd cc

pub bind_err : {A B : Type 0} (r : Reading A) (f : A × List ℕ → Reading B) (left : ℕ) → (r >>= f) ≡ Err left → (r ≡ Err left) ⊎ ((x : A) × (mid : List ℕ) × (r ≡ Ok (x, mid)) × (f (x, mid) ≡ Err left))
bind_err (Ok x) f left e = inr (x.0, x.1, refl, e)
bind_err (Err d) f left e = inl (ap (λ (k : ℕ). Err k) (bad_is d left e))

-- which way a test went
pub went : {A : Type 0} (b : Bool) (x y z : A) → cond b x y ≡ z → ((b ≡ true) × (x ≡ z)) ⊎ ((b ≡ false) × (y ≡ z))
went true x y z e = inl (refl, e)
went false x y z e = inr (refl, e)

pub cases : (b : Bool) → (b ≡ true) ⊎ (b ≡ false)
cases true = inl refl
cases false = inr refl

-- lists
pub cons_assoc : (a b : List ℕ) (c : ℕ) → (a ++ c ∷ []) ++ b ≡ a ++ c ∷ b
cons_assoc a b c = append_assoc a (c ∷ []) b

-- what was read before a byte of the second part is read again
pub steady_on : {A : Type 0} (again : List ℕ → Reading A) (text : List ℕ) (x : A) (t : List ℕ) (c : ℕ) (rest : List ℕ) → Steady again text x (t ++ c ∷ rest) → (more : List ℕ) → again (text ++ (t ++ c ∷ more)) ≡ Ok (x, t ++ c ∷ more)
steady_on again text x [] c rest s more = s more
steady_on again text x (d ∷ t) c rest s more = s (t ++ c ∷ more)

-- the next byte is the same, whatever follows the next byte behind a text
pub passes_on : (test : ℕ → Bool) (t : List ℕ) (c : ℕ) (a b : List ℕ) → passes test (t ++ c ∷ a) ≡ passes test (t ++ c ∷ b)
passes_on test [] c a b = refl
passes_on test (d ∷ t) c a b = refl

pub passes_front : (test : ℕ → Bool) (t rest : List ℕ) → passes test t ≡ true → passes test (t ++ rest) ≡ true
passes_front test [] rest e = absurd cc
passes_front test (d ∷ t) rest e = e

pub stops_not : (test : ℕ → Bool) (bytes : List ℕ) → Stops (λ c. not (test c)) bytes → passes test bytes ≡ false
stops_not test [] s = refl
stops_not test (c ∷ rest) s = elim (cases (test c)) [ inl e ↦ absurd (not_both (test c) e s) | inr e ↦ e ]
  where
    not_both : (b : Bool) → b ≡ true → not b ≡ true → ⊥
    not_both true e s = cc
    not_both false e s = cc

pub stops_narrow : (a b : ℕ → Bool) → ((c : ℕ) → a c ≡ true → b c ≡ true) → (bytes : List ℕ) → Stops a bytes → Stops b bytes
stops_narrow a b h [] s = tt
stops_narrow a b h (c ∷ rest) s = h c s
