-- An element stands in front of a list or in what follows.
use Rattle.std.proofs.Common.{◌≡◌, ◌<◌, Bool, true, false, List, [], ◌∷◌, ◌⊎◌, inl, inr, arith, Contains, cond}
use Rattle.std.specs.List.{filter}
use Rattle.std.proofs.lemmas.List.Elements.{Contains-append_left, Contains-append_right, Contains-append_cases, Contains-push, Contains-push_cases}

pub nothing_in : {A : Type 0} {X : Type 0} (x : X) → Contains [] x → A
nothing_in x h = let p : h.0 < 0 = h.1 in absurd (omega arith)

pub in_front_or_behind : {X : Type 0} (n : X) (ns : List X) (x : X) → Contains (n ∷ ns) x → (n ≡ x) ⊎ Contains ns x
in_front_or_behind {X} n ns x h = elim (Contains-append_cases (n ∷ []) ns x h) [ inl front ↦ at_front (Contains-push_cases [] n x front) | inr later ↦ inr later ]
  where
    at_front : Contains [] x ⊎ (n ≡ x) → (n ≡ x) ⊎ Contains ns x
    at_front (inl none) = nothing_in x none
    at_front (inr e) = inl e

pub at_front : {X : Type 0} (x : X) (xs : List X) → Contains (x ∷ xs) x
at_front x xs = Contains-append_left (x ∷ []) xs x (Contains-push [] x)

pub further_on : {X : Type 0} (y : X) (xs : List X) (x : X) → Contains xs x → Contains (y ∷ xs) x
further_on y xs x h = Contains-append_right (y ∷ []) xs x h

-- what passes a test is among what is tested
pub from_filter : {X : Type 0} (p : X → Bool) (xs : List X) (x : X) → Contains (filter p xs) x → Contains xs x
from_filter p [] x h = h
from_filter {X} p (y ∷ ys) x h = go (p y) h (from_filter p ys x)
  where
    go : (b : Bool) → Contains (cond b (y ∷ filter p ys) (filter p ys)) x → (Contains (filter p ys) x → Contains ys x) → Contains (y ∷ ys) x
    go false k below = further_on y ys x (below k)
    go true k below = elim (Contains-append_cases (y ∷ []) (filter p ys) x k) [ inl first ↦ Contains-append_left (y ∷ []) ys x first | inr rest ↦ further_on y ys x (below rest) ]
