-- Things that are put, one after the other.
use Rattle.std.proofs.Common.{◌≡◌, ℕ, ◌+◌, ◌≤◌, ◌<◌, Bool, true, List, [], ◌∷◌, Contains, slice_get, Some, refl, sym, ap, ◌∙◌, subst, length, arith, inl, inr}
use Rattle.std.specs.Prelude.{◌⊎◌, ◌↔◌}
use Rattle.std.proofs.lemmas.List.Elements.{Contains-push}
use Rattle.indexmap.specs.IndexSet.{insert_key}
use Rattle.worklist.proofs.Inserted.{nothing_in, only_one, from-insert_all, into-insert_all, each-insert_all}
use Rattle.sj_world.proofs.Searches.{stands_at, contains_at}
use Rattle.sj_baselink.specs.Steps.{Adds, Puts, OfOne}

module _ {S X : Type 0} (Holds : S → X → Type 0) where
  pub adds_none : (Is : X → Type 0) (s : S) → ((x : X) → Is x → ⊥) → Adds Holds Is s s
  adds_none Is s none = record { exact = λ x. (λ h. inl h, λ q. from x q) }
    where
      from : (x : X) → Holds s x ⊎ Is x → Holds s x
      from x (inl h) = h
      from x (inr i) = absurd (none x i)

  pub adds_then : (P Q : X → Type 0) (a b c : S) → Adds Holds P a b → Adds Holds Q b c → Adds Holds (λ x. P x ⊎ Q x) a c
  adds_then P Q a b c f g = record { exact = λ x. (λ h. into x ((g.exact x).0 h), λ q. (g.exact x).1 (from x q)) }
    where
      older : (x : X) → Holds a x ⊎ P x → Holds a x ⊎ (P x ⊎ Q x)
      older x (inl h) = inl h
      older x (inr p) = inr (inl p)

      into : (x : X) → Holds b x ⊎ Q x → Holds a x ⊎ (P x ⊎ Q x)
      into x (inl h) = older x ((f.exact x).0 h)
      into x (inr q) = inr (inr q)

      from : (x : X) → Holds a x ⊎ (P x ⊎ Q x) → Holds b x ⊎ Q x
      from x (inl h) = inl ((f.exact x).1 (inl h))
      from x (inr (inl p)) = inl ((f.exact x).1 (inr p))
      from x (inr (inr q)) = inr q

  pub adds_as : (P Q : X → Type 0) (a b : S) → ((x : X) → P x → Q x) → ((x : X) → Q x → P x) → Adds Holds P a b → Adds Holds Q a b
  adds_as P Q a b f g puts = record { exact = λ x. (λ h. into x ((puts.exact x).0 h), λ q. (puts.exact x).1 (from x q)) }
    where
      into : (x : X) → Holds a x ⊎ P x → Holds a x ⊎ Q x
      into x (inl h) = inl h
      into x (inr p) = inr (f x p)

      from : (x : X) → Holds a x ⊎ Q x → Holds a x ⊎ P x
      from x (inl h) = inl h
      from x (inr q) = inr (g x q)

-- it holds with one of the first of these things
pub record OfFirst {X Y : Type 0} (xs : List X) (n : ℕ) (Of : X → Y → Type 0) (y : Y) : Type 0 where
  pub place : ℕ
  pub early : place < n
  pub thing : X
  pub stands : slice_get xs place ≡ Some thing
  pub holds : Of thing y

module _ {S X Y : Type 0} (Holds : S → Y → Type 0) (Of : X → Y → Type 0) (xs : List X) where
  pub each_begins : (s : S) → Adds Holds (OfFirst xs 0 Of) s s
  each_begins s = adds_none Holds (OfFirst xs 0 Of) s (λ y q. let l : q.place < 0 = q.early in omega arith)

  pub each_goes_on : (n : ℕ) (x : X) (a b c : S) → slice_get xs n ≡ Some x → Adds Holds (OfFirst xs n Of) a b → Adds Holds (Of x) b c → Adds Holds (OfFirst xs (n + 1) Of) a c
  each_goes_on n x a b c at f g = adds_as Holds _ (OfFirst xs (n + 1) Of) a c into from (adds_then Holds (OfFirst xs n Of) (Of x) a b c f g)
    where
      into : (y : Y) → OfFirst xs n Of y ⊎ Of x y → OfFirst xs (n + 1) Of y
      into y (inl q) = record { place = q.place; early = (let l : q.place < n = q.early in omega arith); thing = q.thing; stands = q.stands; holds = q.holds }
      into y (inr q) = record { place = n; early = omega arith; thing = x; stands = at; holds = q }

      here : (y : Y) (z : X) → Some x ≡ Some z → Of z y → Of x y
      here y z e q = let s : z ≡ x = cc in subst (λ (t : X). Of t y) s q

      at_place : (y : Y) (q : OfFirst xs (n + 1) Of y) → ((q.place < n) ⊎ (q.place ≡ n)) → OfFirst xs n Of y ⊎ Of x y
      at_place y q (inl l) = inl (record { place = q.place; early = l; thing = q.thing; stands = q.stands; holds = q.holds })
      at_place y q (inr e) = inr (here y q.thing (sym at ∙ ap (slice_get xs) (sym e) ∙ q.stands) q.holds)

      split : (i : ℕ) → i < n + 1 → (i < n) ⊎ (i ≡ n)
      split i l = grind arith

      from : (y : Y) → OfFirst xs (n + 1) Of y → OfFirst xs n Of y ⊎ Of x y
      from y q = at_place y q (split q.place q.early)

  pub each_ends : (n : ℕ) (a b : S) → length xs ≤ n → Adds Holds (OfFirst xs n Of) a b → Adds Holds (OfOne xs Of) a b
  each_ends n a b over f = adds_as Holds (OfFirst xs n Of) (OfOne xs Of) a b (λ y q. record { thing = q.thing; among = contains_at xs q.place q.thing q.stands; holds = q.holds }) (λ y q. record { place = q.among.0; early = (let l : q.among.0 < length xs = q.among.1 in omega arith); thing = q.thing; stands = stands_at xs q.thing q.among; holds = q.holds }) f

-- a list that begins with nothing
pub begins_empty : {X Y : Type 0} (Of : X → Y → Type 0) (xs : List X) (new : List Y) → new ≡ [] → Puts (OfFirst xs 0 Of) [] new
begins_empty {X} {Y} Of xs new e = subst (λ (l : List Y). Puts (OfFirst xs 0 Of) [] l) (sym e) (each_begins Contains Of xs [])

pub all_put : {Y : Type 0} (Is : Y → Type 0) (none new : List Y) → none ≡ [] → Puts Is none new → (y : Y) → Contains new y ↔ Is y
all_put {Y} Is none new e f y = (λ h. into ((f.exact y).0 h), λ q. (f.exact y).1 (inr q))
  where
    into : Contains none y ⊎ Is y → Is y
    into (inl h) = nothing_in y (subst (λ (l : List Y). Contains l y) e h)
    into (inr q) = q

pub only_these : {X Y : Type 0} (Of : X → Y → Type 0) (xs : List X) (n : ℕ) (new : List Y) → length xs ≤ n → Puts (OfFirst xs n Of) [] new → (y : Y) → Contains new y ↔ OfOne xs Of y
only_these Of xs n new over f = all_put (OfOne xs Of) [] new refl (each_ends Contains Of xs n [] new over f)

-- one of the things themselves
pub one_itself : {X : Type 0} (xs : List X) (x : X) → OfOne xs (λ y z. y ≡ z) x → Contains xs x
one_itself {X} xs x q = subst (λ (z : X). Contains xs z) q.holds q.among

pub itself_one : {X : Type 0} (xs : List X) (x : X) → Contains xs x → OfOne xs (λ y z. y ≡ z) x
itself_one xs x h = record { thing = x; among = h; holds = refl }

-- a key that is put unless it is there
pub puts_key : {K : Type 0} (eq : K → K → Bool) → ((a b : K) → eq a b ≡ true → a ≡ b) → (old new : List K) (item k : K) → item ≡ k → new ≡ insert_key eq old item → Puts (λ x. k ≡ x) old new
puts_key {K} eq decides old new item k same put = record { exact = λ x. (λ h. into x (from-insert_all eq old (item ∷ []) x (subst (λ (l : List K). Contains l x) put h)), λ q. subst (λ (l : List K). Contains l x) (sym put) (from x q)) }
  where
    into : (x : K) → Contains old x ⊎ Contains (item ∷ []) x → Contains old x ⊎ (k ≡ x)
    into x (inl h) = inl h
    into x (inr h) = inr (sym same ∙ only_one item x h)

    from : (x : K) → Contains old x ⊎ (k ≡ x) → Contains (insert_key eq old item) x
    from x (inl h) = into-insert_all eq old (item ∷ []) x h
    from x (inr e) = subst (λ (z : K). Contains (insert_key eq old item) z) (same ∙ e) (each-insert_all eq decides old (item ∷ []) item (Contains-push [] item))
