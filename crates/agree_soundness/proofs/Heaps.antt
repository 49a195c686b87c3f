-- What stands at an address of a heap that has grown by one object, or of which one was replaced.
use Rattle.std.proofs.Common.{◌≡◌, ℕ, zero, suc, true, List, [], ◌∷◌, ◌++◌, length, set, slice_get, Some, arith, refl, ap, subst}
use Rattle.std.specs.Prelude.{nat_lt, replicate}

pub get-end : {A : Type 0} (xs : List A) (x : A) → slice_get (xs ++ x ∷ []) (length xs) ≡ Some x
get-end [] x = refl
get-end (y ∷ ys) x = get-end ys x

pub get-front : {A : Type 0} (xs ys : List A) (i : ℕ) (x : A) → slice_get xs i ≡ Some x → slice_get (xs ++ ys) i ≡ Some x
get-front [] ys i x h = absurd (cc)
get-front (y ∷ xs) ys zero x h = h
get-front (y ∷ xs) ys (suc i) x h = get-front xs ys i x h

pub not-past : {A : Type 0} (xs : List A) (x : A) → slice_get xs (length xs) ≡ Some x → ⊥
not-past [] x h = cc
not-past (y ∷ ys) x h = not-past ys x h

pub get-set : {A : Type 0} (xs : List A) (i : ℕ) (x y : A) → slice_get xs i ≡ Some x → slice_get (set xs i y) i ≡ Some y
get-set [] i x y e = absurd (cc)
get-set (z ∷ xs) zero x y e = refl
get-set (z ∷ xs) (suc i) x y e = get-set xs i x y e

pub get-set_other : {A : Type 0} (xs : List A) (i j : ℕ) (y : A) → (i ≡ j → ⊥) → slice_get (set xs j y) i ≡ slice_get xs i
get-set_other [] i j y h = refl
get-set_other (z ∷ xs) zero zero y h = absurd (h refl)
get-set_other (z ∷ xs) zero (suc j) y h = refl
get-set_other (z ∷ xs) (suc i) zero y h = refl
get-set_other (z ∷ xs) (suc i) (suc j) y h = get-set_other xs i j y (λ e. h (ap suc e))

-- what is among values, and is there where one of them is replaced
pub set-each : {A : Type 0} (P : A → Type 0) (xs : List A) (n : ℕ) (y : A) → P y → ((m : ℕ) (x : A) → slice_get xs m ≡ Some x → P x) → (m : ℕ) (x : A) → slice_get (set xs n y) m ≡ Some x → P x
set-each P [] n y p h m x e = absurd (cc)
set-each P (z ∷ zs) zero y p h zero x e = let same : y ≡ x = cc in subst P same p
set-each P (z ∷ zs) zero y p h (suc m) x e = h (suc m) x e
set-each P (z ∷ zs) (suc n) y p h zero x e = h zero x e
set-each P (z ∷ zs) (suc n) y p h (suc m) x e = set-each P zs n y p (λ m x e. h (suc m) x e) m x e

pub replicate-each : {A : Type 0} (P : A → Type 0) (n : ℕ) (y : A) → P y → (m : ℕ) (x : A) → slice_get (replicate n y) m ≡ Some x → P x
replicate-each P zero y p m x e = absurd (cc)
replicate-each P (suc n) y p zero x e = let same : y ≡ x = cc in subst P same p
replicate-each P (suc n) y p (suc m) x e = replicate-each P n y p m x e

first-below : (n : ℕ) → nat_lt 0 (suc n) ≡ true
first-below n = grind arith

more-below : (n m : ℕ) → nat_lt n m ≡ true → nat_lt (suc n) (suc m) ≡ true
more-below n m h = grind arith

pub get-below : {A : Type 0} (xs : List A) (n : ℕ) (x : A) → slice_get xs n ≡ Some x → nat_lt n (length xs) ≡ true
get-below [] n x e = absurd (cc)
get-below (z ∷ zs) zero x e = first-below (length zs)
get-below (z ∷ zs) (suc n) x e = more-below n (length zs) (get-below zs n x e)
