-- Texts that are put in order.
use Rattle.std.proofs.Common.{◌≡◌, Bool, true, false, List, [], ◌∷◌, Contains, inl, inr, refl, sym, ap, subst, ◌∙◌}
use Rattle.std.specs.Prelude.{◌⊎◌, ◌↔◌, if◌then◌else◌}
use Rattle.std.specs.Cmp.Lexicographic.{slice_cmp, nat_list_cmp_total, texts_ties}
use Rattle.std.specs.List.Sorted.{IsStrictlySortedBy}
use Rattle.std.specs.Ordering.{nat_cmp, is_lt, is_eq, ordering_reverse}
use Rattle.std.specs.declared.cmp.Ordering.{Ordering}
use Rattle.std.specs.declared.cmp.Ordering.TheVariants.{Less, Equal, Greater}
use Rattle.std.proofs.lemmas.Slice.Eq.{bytes_eq-Decides}
use Rattle.sj_split.proofs.Least.{lt-less}
use Rattle.sj_split.proofs.Members.{at_first, further, cons_cases}
use Rattle.sj_split.proofs.Tagged.{Below}
use Rattle.sj_split.proofs.Unique.{one_list, first_of_increasing, rest_of_increasing}
use Rattle.sj_split.specs.Orders.{Bytes, is_same, IsBefore, AreIncreasing}
use Rattle.worklist.proofs.Inserted.{nothing_in}
use Rattle.sj_emit_module_spec.specs.Laws.{AreThese}
use Rattle.sj_emit_module_spec.specs.Order.{put_in_order, each_once_in_order}

abbrev compared : Bytes → Bytes → Ordering
compared x y = slice_cmp nat_cmp x y

-- a text that is neither less than another nor the same is behind it
behind : (x y : Bytes) → is_lt (compared x y) ≡ false → is_same x y ≡ false → IsBefore y x
behind x y low apart = go (compared x y) refl
  where
    go : (o : Ordering) → compared x y ≡ o → IsBefore y x
    go Less e = let w : true ≡ false = sym (ap is_lt e) ∙ low in cc
    go Equal e = let w : true ≡ false = sym (texts_ties x y ∙ ap is_eq e) ∙ apart in cc
    go Greater e = nat_list_cmp_total.antisymm y x ∙ ap ordering_reverse e

below_too : (x y : Bytes) (zs : List Bytes) → IsBefore x y → Below y zs → Below x zs
below_too x y [] before below = tt
below_too x y (z ∷ zs) before below = (nat_list_cmp_total.trans x y z before below.0, below_too x y zs before below.1)

below_put : (z x : Bytes) (ys : List Bytes) → IsBefore z x → Below z ys → Below z (put_in_order x ys)
below_put z x [] before below = (before, tt)
below_put z x (y ∷ ys) before below = go (is_lt (compared x y)) (is_same x y) (below_put z x ys before below.1)
  where
    go : (b c : Bool) → Below z (put_in_order x ys) → Below z (if b then x ∷ y ∷ ys else (if c then y ∷ ys else y ∷ put_in_order x ys))
    go true c rest = (before, below)
    go false true rest = below
    go false false rest = (below.0, rest)

in_front : (x : Bytes) (ys : List Bytes) → Below x ys → AreIncreasing ys → AreIncreasing (x ∷ ys)
unfolding IsStrictlySortedBy
in_front x ys below rest = (below, rest)

increasing_put : (x : Bytes) (ys : List Bytes) → AreIncreasing ys → AreIncreasing (put_in_order x ys)
increasing_put x [] inc = in_front x [] tt inc
increasing_put x (y ∷ ys) inc = go (is_lt (compared x y)) (is_same x y) refl refl (increasing_put x ys (rest_of_increasing y ys inc))
  where
    below : Below y ys
    below = first_of_increasing y ys inc

    go : (b c : Bool) → is_lt (compared x y) ≡ b → is_same x y ≡ c → AreIncreasing (put_in_order x ys) → AreIncreasing (if b then x ∷ y ∷ ys else (if c then y ∷ ys else y ∷ put_in_order x ys))
    go true c e f rest = let before : IsBefore x y = lt-less (compared x y) e in in_front x (y ∷ ys) (before, below_too x y ys before below) inc
    go false true e f rest = inc
    go false false e f rest = in_front y (put_in_order x ys) (below_put y x ys (behind x y e f) below) rest

increasing_each : (xs : List Bytes) → AreIncreasing (each_once_in_order xs)
unfolding IsStrictlySortedBy
increasing_each [] = tt
increasing_each (x ∷ xs) = increasing_put x (each_once_in_order xs) (increasing_each xs)

from_put : (x : Bytes) (ys : List Bytes) (t : Bytes) → Contains (put_in_order x ys) t → (x ≡ t) ⊎ Contains ys t
from_put x [] t h = cons_cases x t [] h
from_put x (y ∷ ys) t h = go (is_lt (compared x y)) (is_same x y) (from_put x ys t) h
  where
    later : (x ≡ t) ⊎ Contains ys t → (x ≡ t) ⊎ Contains (y ∷ ys) t
    later (inl e) = inl e
    later (inr i) = inr (further y t ys i)

    go : (b c : Bool) → (Contains (put_in_order x ys) t → (x ≡ t) ⊎ Contains ys t) → Contains (if b then x ∷ y ∷ ys else (if c then y ∷ ys else y ∷ put_in_order x ys)) t → (x ≡ t) ⊎ Contains (y ∷ ys) t
    go true c rest i = cons_cases x t (y ∷ ys) i
    go false true rest i = inr i
    go false false rest i = elim (cons_cases y t (put_in_order x ys) i) [ inl e ↦ inr (subst (Contains (y ∷ ys)) e (at_first y ys)) | inr j ↦ later (rest j) ]

into_put : (x : Bytes) (ys : List Bytes) (t : Bytes) → (x ≡ t) ⊎ Contains ys t → Contains (put_in_order x ys) t
into_put x [] t (inl e) = subst (Contains (x ∷ [])) e (at_first x [])
into_put x [] t (inr i) = nothing_in t i
into_put x (y ∷ ys) t one = go (is_lt (compared x y)) (is_same x y) refl (into_put x ys t) one
  where
    same : is_same x y ≡ true → (x ≡ t) ⊎ Contains (y ∷ ys) t → Contains (y ∷ ys) t
    same e (inl is) = subst (Contains (y ∷ ys)) (sym ((bytes_eq-Decides x y).0 e) ∙ is) (at_first y ys)
    same e (inr i) = i

    later : ((x ≡ t) ⊎ Contains ys t → Contains (put_in_order x ys) t) → (x ≡ t) ⊎ ((y ≡ t) ⊎ Contains ys t) → Contains (y ∷ put_in_order x ys) t
    later rest (inl e) = further y t (put_in_order x ys) (rest (inl e))
    later rest (inr (inl e)) = subst (Contains (y ∷ put_in_order x ys)) e (at_first y (put_in_order x ys))
    later rest (inr (inr i)) = further y t (put_in_order x ys) (rest (inr i))

    split : (x ≡ t) ⊎ Contains (y ∷ ys) t → (x ≡ t) ⊎ ((y ≡ t) ⊎ Contains ys t)
    split (inl e) = inl e
    split (inr i) = inr (cons_cases y t ys i)

    first : (x ≡ t) ⊎ Contains (y ∷ ys) t → Contains (x ∷ y ∷ ys) t
    first (inl e) = subst (Contains (x ∷ y ∷ ys)) e (at_first x (y ∷ ys))
    first (inr i) = further x t (y ∷ ys) i

    go : (b c : Bool) → is_same x y ≡ c → ((x ≡ t) ⊎ Contains ys t → Contains (put_in_order x ys) t) → (x ≡ t) ⊎ Contains (y ∷ ys) t → Contains (if b then x ∷ y ∷ ys else (if c then y ∷ ys else y ∷ put_in_order x ys)) t
    go true c e rest i = first i
    go false true e rest i = same e i
    go false false e rest i = later rest (split i)

pub from_each : (xs : List Bytes) (t : Bytes) → Contains (each_once_in_order xs) t → Contains xs t
from_each [] t h = h
from_each (x ∷ xs) t h = elim (from_put x (each_once_in_order xs) t h) [ inl e ↦ subst (Contains (x ∷ xs)) e (at_first x xs) | inr i ↦ further x t xs (from_each xs t i) ]

pub into_each : (xs : List Bytes) (t : Bytes) → Contains xs t → Contains (each_once_in_order xs) t
into_each [] t h = h
into_each (x ∷ xs) t h = into_put x (each_once_in_order xs) t (elim (cons_cases x t xs h) [ inl e ↦ inl e | inr i ↦ inr (into_each xs t i) ])

-- texts in order with just those of a list are that list in order
pub in_order_is : (xs ys : List Bytes) → AreIncreasing ys → ((t : Bytes) → Contains ys t ↔ Contains xs t) → ys ≡ each_once_in_order xs
in_order_is xs ys inc same = one_list ys (each_once_in_order xs) inc (increasing_each xs) (λ t. (λ h. into_each xs t ((same t).0 h), λ h. (same t).1 (from_each xs t h)))

-- lists with the same texts are one in order
pub same_in_order : (xs ys : List Bytes) → ((t : Bytes) → Contains xs t ↔ Contains ys t) → each_once_in_order xs ≡ each_once_in_order ys
same_in_order xs ys same = in_order_is ys (each_once_in_order xs) (increasing_each xs) (λ t. (λ h. (same t).0 (from_each xs t h), λ h. into_each xs t ((same t).1 h)))

-- what is put in order is just what is listed
pub are_these : (Is : Bytes → Type 0) (xs : List Bytes) → ((t : Bytes) → Contains xs t ↔ Is t) → AreThese Is (each_once_in_order xs)
are_these Is xs same = record { in_order = increasing_each xs; exact = λ t. (λ h. (same t).0 (from_each xs t h), λ i. into_each xs t ((same t).1 i)) }
