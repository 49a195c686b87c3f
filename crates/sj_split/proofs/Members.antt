-- What lists contain that are mapped and filtered.
use Rattle.std.proofs.Common.{◌≡◌, Bool, true, false, List, [], ◌∷◌, Contains, refl, sym, ap, ◌∙◌, subst, inl, inr, map, cond}
use Rattle.std.specs.Prelude.{◌⊎◌, filter}
use Rattle.std.proofs.lemmas.List.Elements.{Contains-append_left, Contains-append_right, Contains-push, Contains-append_cases}
use Rattle.worklist.proofs.Inserted.{nothing_in, only_one}

pub at_first : {X : Type 0} (x : X) (xs : List X) → Contains (x ∷ xs) x
at_first x xs = Contains-append_left (x ∷ []) xs x (Contains-push [] x)

pub further : {X : Type 0} (y x : X) (xs : List X) → Contains xs x → Contains (y ∷ xs) x
further y x xs h = Contains-append_right (y ∷ []) xs x h

pub cons_cases : {X : Type 0} (y x : X) (xs : List X) → Contains (y ∷ xs) x → (y ≡ x) ⊎ Contains xs x
cons_cases y x xs h = elim (Contains-append_cases (y ∷ []) xs x h) [ inl first ↦ inl (only_one y x first) | inr later ↦ inr later ]

pub into_map : {X Y : Type 0} (f : X → Y) (xs : List X) (x : X) → Contains xs x → Contains (map f xs) (f x)
into_map f [] x h = nothing_in x h
into_map f (y ∷ ys) x h = elim (cons_cases y x ys h) [ inl e ↦ subst (λ z. Contains (map f (y ∷ ys)) (f z)) e (at_first (f y) (map f ys)) | inr later ↦ further (f y) (f x) (map f ys) (into_map f ys x later) ]

-- an item that is mapped to this
pub record Mapped {X Y : Type 0} (f : X → Y) (xs : List X) (y : Y) : Type 0 where
  pub item : X
  pub among : Contains xs item
  pub is : f item ≡ y

pub from_map : {X Y : Type 0} (f : X → Y) (xs : List X) (y : Y) → Contains (map f xs) y → Mapped f xs y
from_map f [] y h = nothing_in y h
from_map f (x ∷ xs) y h = elim (cons_cases (f x) y (map f xs) h) [ inl e ↦ record { item = x; among = at_first x xs; is = e } | inr later ↦ on (from_map f xs y later) ]
  where
    on : Mapped f xs y → Mapped f (x ∷ xs) y
    on m = record { item = m.item; among = further x m.item xs m.among; is = m.is }

pub into_filter : {X : Type 0} (test : X → Bool) (xs : List X) (x : X) → Contains xs x → test x ≡ true → Contains (filter test xs) x
into_filter test [] x h t = nothing_in x h
into_filter test (y ∷ ys) x h t = elim (cons_cases y x ys h) [ inl e ↦ subst (λ l. Contains l x) (sym (ap (λ b. cond b (y ∷ filter test ys) (filter test ys)) (ap test e ∙ t))) (subst (λ z. Contains (z ∷ filter test ys) x) (sym e) (at_first x (filter test ys))) | inr later ↦ put (test y) refl (into_filter test ys x later t) ]
  where
    put : (b : Bool) → test y ≡ b → Contains (filter test ys) x → Contains (filter test (y ∷ ys)) x
    put b e there = subst (λ v. Contains (cond v (y ∷ filter test ys) (filter test ys)) x) (sym e) (either b there)
      where
        either : (v : Bool) → Contains (filter test ys) x → Contains (cond v (y ∷ filter test ys) (filter test ys)) x
        either true h = further y x (filter test ys) h
        either false h = h

-- an item that passes the test
pub record Passed {X : Type 0} (test : X → Bool) (xs : List X) (x : X) : Type 0 where
  pub among : Contains xs x
  pub passes : test x ≡ true

passed_further : {X : Type 0} (test : X → Bool) (y x : X) (ys : List X) → Passed test ys x → Passed test (y ∷ ys) x
passed_further test y x ys p = record { among = further y x ys p.among; passes = p.passes }

passed_first : {X : Type 0} (test : X → Bool) (y x : X) (ys : List X) → test y ≡ true → (y ≡ x) ⊎ Passed test ys x → Passed test (y ∷ ys) x
passed_first {X} test y x ys t (inl e) = record { among = subst (λ z. Contains (z ∷ ys) x) (sym e) (at_first x ys); passes = subst (λ (z : X). test z ≡ true) e t }
passed_first test y x ys t (inr later) = passed_further test y x ys later

passed_by : {X : Type 0} (test : X → Bool) (y x : X) (ys : List X) (b : Bool) → test y ≡ b → (Contains (filter test ys) x → Passed test ys x) → Contains (cond b (y ∷ filter test ys) (filter test ys)) x → Passed test (y ∷ ys) x
passed_by test y x ys true t on h = passed_first test y x ys t (elim (cons_cases y x (filter test ys) h) [ inl e ↦ inl e | inr later ↦ inr (on later) ])
passed_by test y x ys false t on h = passed_further test y x ys (on h)

pub from_filter : {X : Type 0} (test : X → Bool) (xs : List X) (x : X) → Contains (filter test xs) x → Passed test xs x
from_filter test [] x h = nothing_in x h
from_filter test (y ∷ ys) x h = passed_by test y x ys (test y) refl (from_filter test ys x) h
