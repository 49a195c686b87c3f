-- Names are equal where their comparison says so.
use Rattle.std.proofs.Common.{◌≡◌, ℕ, Bool, true, false, List, refl}
use Rattle.std.specs.Prelude.{nat_eq}
use Rattle.std.specs.Cmp.Lexicographic.{pointwise}
use Rattle.std.proofs.lemmas.Slice.Eq.{bytes_eq-Decides}

pub differs : (a b : List ℕ) → (a ≡ b → ⊥) → pointwise nat_eq a b ≡ false
differs a b h = go (pointwise nat_eq a b) refl
  where
    go : (t : Bool) → pointwise nat_eq a b ≡ t → pointwise nat_eq a b ≡ false
    go true e = absurd (h ((bytes_eq-Decides a b).0 e))
    go false e = e

pub equals : (a : List ℕ) → pointwise nat_eq a a ≡ true
equals a = (bytes_eq-Decides a a).1 refl

pub is-equal : (a b : List ℕ) → pointwise nat_eq a b ≡ true → a ≡ b
is-equal a b = (bytes_eq-Decides a b).0
