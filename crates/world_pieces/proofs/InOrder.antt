-- Lists that are sorted and have no two of a name stand in strict order.
use Rattle.std.proofs.Common.{◌≡◌, ◌+◌, ◌<◌, ℕ, suc, Bool, true, false, List, [], ◌∷◌, inl, inr, refl, sym, subst, ◌∙◌, map, Contains, cond, arith}
use Rattle.std.specs.Cmp.{IsStrictWeakOrder, nat_cmp_is}
use Rattle.std.specs.Cmp.Lexicographic.{slice_cmp, nat_list_cmp_total}
use Rattle.std.specs.List.{AllByRecursion, IsDistinct, filter}
use Rattle.std.specs.List.Sorted.{IsSortedBy}
use Rattle.std.specs.Ordering.{nat_cmp, ordering_reverse, is_lt}
use Rattle.std.specs.Prelude.{get_or}
use Rattle.std.specs.declared.cmp.Ordering.{Ordering}
use Rattle.std.specs.declared.cmp.Ordering.TheVariants.{Less, Equal, Greater}
use Rattle.std.proofs.lemmas.List.Sorted.{sorted_far}
use Rattle.std.proofs.lemmas.Map.Keys.{IsDistinct-head, IsDistinct-tail}
use Rattle.std.proofs.lemmas.Slice.Eq.{bytes_eq-Decides}
use Rattle.std.proofs.lemmas.Bool.{cases_order}
use Rattle.linked_pieces.specs.Order.{AreInOrder}
use Rattle.sj_split.proofs.Members.{Mapped, at_first, further, cons_cases, into_map, from_map, from_filter}
use Rattle.sj_split.specs.Orders.{IsBefore}
use Rattle.sj_world.proofs.Orders.{same_name, same_compared}
use Rattle.sj_world.specs.Known.{Name, is_same}
use Rattle.worklist.proofs.Inserted.{nothing_in}

abbrev pub text_cmp : Name → Name → Ordering
text_cmp = slice_cmp nat_cmp

pub less : (a b : ℕ) → nat_cmp a b ≡ Less → a < b
less a b e = elim (cases_order a b) [ inl s ↦ absurd (not_equal (nat_cmp_is a b Equal s)) | inr (inl l) ↦ l | inr (inr l) ↦ absurd (not (nat_cmp_is a b Greater l)) ]
  where
    not : Greater ≡ nat_cmp a b → ⊥
    not h = let w : Greater ≡ Less = h ∙ e in cc

    not_equal : Equal ≡ nat_cmp a b → ⊥
    not_equal h = let w : Equal ≡ Less = h ∙ e in cc

pub equal : (a b : ℕ) → nat_cmp a b ≡ Equal → a ≡ b
equal a b e = elim (cases_order a b) [ inl s ↦ s | inr (inl l) ↦ absurd (not_less (nat_cmp_is a b Less l)) | inr (inr l) ↦ absurd (not (nat_cmp_is a b Greater l)) ]
  where
    not : Greater ≡ nat_cmp a b → ⊥
    not h = let w : Greater ≡ Equal = h ∙ e in cc

    not_less : Less ≡ nat_cmp a b → ⊥
    not_less h = let w : Less ≡ Equal = h ∙ e in cc

pub same_text : (a b : Name) → text_cmp a b ≡ Equal → a ≡ b
same_text a b e = same_name a b (same_compared a b e)

pub not_behind : (o p : Ordering) → o ≡ ordering_reverse p → is_lt p ≡ false → o ≡ Greater → ⊥
not_behind o Less e h g = cc
not_behind o Equal e h g = let w : Equal ≡ Greater = sym e ∙ g in cc
not_behind o Greater e h g = let w : Less ≡ Greater = sym e ∙ g in cc

-- of two names that differ, the second of which isn't less, the first is
pub before_other : (a b : Name) → (a ≡ b → ⊥) → is_lt (text_cmp b a) ≡ false → IsBefore a b
before_other a b differ low = go (text_cmp a b) refl
  where
    go : (o : Ordering) → text_cmp a b ≡ o → text_cmp a b ≡ Less
    go Less e = e
    go Equal e = absurd (differ (same_text a b e))
    go Greater e = absurd (not_behind (text_cmp a b) (text_cmp b a) (nat_list_cmp_total.antisymm a b) low e)

pub not_itself : (o : Ordering) → o ≡ ordering_reverse o → is_lt o ≡ true → ⊥
not_itself Less e h = cc
not_itself Equal e h = cc
not_itself Greater e h = cc

pub lesser_differs : (a b : Name) → is_lt (text_cmp a b) ≡ true → is_same a b ≡ false
lesser_differs a b h = go (is_same a b) refl
  where
    itself : a ≡ b → ⊥
    itself e = not_itself (text_cmp a a) (nat_list_cmp_total.antisymm a a) (subst (λ (n : Name). is_lt (text_cmp a n) ≡ true) (sym e) h)

    go : (t : Bool) → is_same a b ≡ t → is_same a b ≡ false
    go true e = absurd (itself ((bytes_eq-Decides a b).0 e))
    go false e = e

pub not_among : (n : Name) (ns : List Name) → AllByRecursion (λ m. is_same n m ≡ false) ns → Contains ns n → ⊥
not_among n [] each h = nothing_in n h
not_among n (m ∷ ns) each h = elim (cons_cases m n ns h) [ inl e ↦ wrong (is_same n m) ((bytes_eq-Decides n m).1 (sym e)) each.0 | inr later ↦ not_among n ns each.1 later ]
  where
    wrong : (b : Bool) → b ≡ true → b ≡ false → ⊥
    wrong b p q = cc

-- no item behind the first is less
pub first_low : {A : Type 0} (is_less : A → A → Bool) → IsStrictWeakOrder is_less → (x : A) (xs : List A) → IsSortedBy is_less (x ∷ xs) → (y : A) → Contains xs y → is_less y x ≡ false
first_low {A} is_less ranks x xs sorted y h = subst (λ (z : A). is_less z x ≡ false) h.2 (sorted_far is_less ranks (x ∷ xs) sorted 0 (suc h.0) y (omega arith) (omega (arith, h.1)))

pub rest_sorted : {A : Type 0} (is_less : A → A → Bool) (x : A) (xs : List A) → IsSortedBy is_less (x ∷ xs) → IsSortedBy is_less xs
rest_sorted is_less x xs sorted k d low l =
    let next : suc k + 1 ≡ suc (k + 1) = omega arith in
    subst (λ (n : ℕ). is_less (get_or (x ∷ xs) n d) (get_or xs k d) ≡ false) next (sorted (suc k) d (omega arith) (omega (arith, l)))

module _ {A : Type 0} (Before : A → A → Type 0) (is_less : A → A → Bool) (ranks : IsStrictWeakOrder is_less) (name : A → Name) (Is : A → Type 0) (first : (x y : A) → Is x → Is y → (name x ≡ name y → ⊥) → is_less y x ≡ false → Before x y) where
  pub sorted_stand : (xs : List A) → ((x : A) → Contains xs x → Is x) → IsSortedBy is_less xs → IsDistinct is_same (map name xs) → AreInOrder Before xs
  sorted_stand [] each sorted once = tt
  sorted_stand (x ∷ xs) each sorted once = (
    λ y h. first x y (each x (at_first x xs)) (each y (further x y xs h)) (λ e. not_among (name x) (map name xs) (IsDistinct-head is_same (name x) (map name xs) once) (subst (λ (n : Name). Contains (map name xs) n) (sym e) (into_map name xs y h))) (first_low is_less ranks x xs sorted y h),
    sorted_stand xs (λ y h. each y (further x y xs h)) (rest_sorted is_less x xs sorted) (IsDistinct-tail is_same (name x) (map name xs) once),
  )

-- the order of images
pub into_images : {A B : Type 0} (Before : B → B → Type 0) (f : A → B) (xs : List A) → AreInOrder (λ x y. Before (f x) (f y)) xs → AreInOrder Before (map f xs)
into_images Before f [] o = tt
into_images {A} {B} Before f (x ∷ xs) o = (λ y h. to y (from_map f xs y h), into_images Before f xs o.1)
  where
    to : (y : B) → Mapped f xs y → Before (f x) y
    to y m = subst (Before (f x)) m.is (o.0 m.item m.among)

pub from_images : {A B : Type 0} (Before : B → B → Type 0) (f : A → B) (xs : List A) → AreInOrder Before (map f xs) → AreInOrder (λ x y. Before (f x) (f y)) xs
from_images Before f [] o = tt
from_images Before f (x ∷ xs) o = (λ y h. o.0 (f y) (into_map f xs y h), from_images Before f xs o.1)

-- those that pass a test stand in the same order
pub order_passed : {A : Type 0} (Before : A → A → Type 0) (test : A → Bool) (xs : List A) → AreInOrder Before xs → AreInOrder Before (filter test xs)
order_passed Before test [] o = tt
order_passed {A} Before test (x ∷ xs) o = go (test x) refl (order_passed Before test xs o.1)
  where
    go : (b : Bool) → test x ≡ b → AreInOrder Before (filter test xs) → AreInOrder Before (cond b (x ∷ filter test xs) (filter test xs))
    go true e rest = (λ y h. o.0 y (from_filter test xs y h).among, rest)
    go false e rest = rest
