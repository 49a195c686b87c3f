-- Modules can be put in the order of their files.
use Rattle.std.proofs.Common.{◌≡◌, ℕ, zero, suc, ◌+◌, ◌<◌, Bool, true, false, List, [], ◌∷◌, inl, inr, refl, sym, ap, ◌∙◌, subst, length, get_or, arith}
use Rattle.std.specs.Prelude.{if◌then◌else◌}
use Rattle.std.specs.Cmp.Lexicographic.{slice_cmp, nat_list_cmp_total}
use Rattle.std.specs.List.Sorted.{IsPermutation, IsSortedByKey}
use Rattle.std.specs.Ordering.{nat_cmp, is_lt, ordering_reverse}
use Rattle.std.proofs.lemmas.List.Sorted.{IsPermutation-refl, IsPermutation-trans, IsPermutation-cons, IsPermutation-middle}
use Rattle.sj_split.proofs.Least.{lt-less}
use Rattle.sj_split.specs.Modules.{file}
use Rattle.sj_split.specs.declared.plans.PlannedModule.{PlannedModule}

-- the file of the one stands before that of the other
abbrev is_first : PlannedModule → PlannedModule → Bool
is_first m n = is_lt (slice_cmp nat_cmp (file m) (file n))

never_both : (m n : PlannedModule) → is_first m n ≡ true → is_first n m ≡ false
never_both m n e = ap is_lt (nat_list_cmp_total.antisymm (file n) (file m) ∙ ap ordering_reverse (lt-less (slice_cmp nat_cmp (file m) (file n)) e))

abbrev put_by : Bool → PlannedModule → PlannedModule → List PlannedModule → List PlannedModule → List PlannedModule
put_by true m n ns rest = n ∷ rest
put_by false m n ns rest = m ∷ n ∷ ns

put : PlannedModule → List PlannedModule → List PlannedModule
put m [] = m ∷ []
put m (n ∷ ns) = put_by (is_first n m) m n ns (put m ns)

sort : List PlannedModule → List PlannedModule
sort [] = []
sort (m ∷ ms) = put m (sort ms)

-- none stands before the one in front of it
abbrev Begins : PlannedModule → List PlannedModule → Type 0
Begins m [] = Unit {0}
Begins m (n ∷ ns) = is_first n m ≡ false

abbrev Ascends : List PlannedModule → Type 0
Ascends [] = Unit {0}
Ascends (m ∷ ms) = Begins m ms × Ascends ms

begins_put : (n m : PlannedModule) (ns : List PlannedModule) → is_first n m ≡ true → Begins n ns → Begins n (put m ns)
unfolding put
begins_put n m [] before rest = never_both n m before
begins_put n m (p ∷ ps) before rest = go (is_first p m)
  where
    go : (b : Bool) → Begins n (put_by b m p ps (put m ps))
    go true = rest
    go false = never_both n m before

ascends_put : (m : PlannedModule) (ns : List PlannedModule) → Ascends ns → Ascends (put m ns)
unfolding put
ascends_put m [] a = (tt, tt)
ascends_put m (n ∷ ns) a = go (is_first n m) refl (ascends_put m ns a.1)
  where
    go : (b : Bool) → is_first n m ≡ b → Ascends (put m ns) → Ascends (put_by b m n ns (put m ns))
    go true e rest = (begins_put n m ns e a.0, rest)
    go false e rest = (e, a)

ascends_sort : (ms : List PlannedModule) → Ascends (sort ms)
unfolding sort
ascends_sort [] = tt
ascends_sort (m ∷ ms) = ascends_put m (sort ms) (ascends_sort ms)

ascending : (ms : List PlannedModule) → Ascends ms → (k : ℕ) (d : PlannedModule) → k + 1 < length ms → is_first (get_or ms (k + 1) d) (get_or ms k d) ≡ false
ascending [] a k d within = absurd (omega arith)
ascending (m ∷ []) a k d within = absurd (omega arith)
ascending (m ∷ n ∷ ns) a zero d within = a.0
ascending (m ∷ n ∷ ns) a (suc k) d within =
    let e : suc k + 1 ≡ suc (k + 1) = omega arith in
    subst (λ i. is_first (get_or (m ∷ n ∷ ns) i d) (get_or (n ∷ ns) k d) ≡ false) (sym e) (ascending (n ∷ ns) a.1 k d (omega (arith, within)))

moved_put : (m : PlannedModule) (ns : List PlannedModule) → IsPermutation (m ∷ ns) (put m ns)
unfolding put
moved_put m [] = IsPermutation-refl (m ∷ [])
moved_put m (n ∷ ns) = go (is_first n m) (moved_put m ns)
  where
    go : (b : Bool) → IsPermutation (m ∷ ns) (put m ns) → IsPermutation (m ∷ n ∷ ns) (put_by b m n ns (put m ns))
    go true rest = IsPermutation-trans (m ∷ n ∷ ns) (n ∷ m ∷ ns) (n ∷ put m ns) (IsPermutation-middle (m ∷ []) n ns) (IsPermutation-cons n (m ∷ ns) (put m ns) rest)
    go false rest = IsPermutation-refl (m ∷ n ∷ ns)

moved_sort : (ms : List PlannedModule) → IsPermutation ms (sort ms)
unfolding sort
moved_sort [] = IsPermutation-refl []
moved_sort (m ∷ ms) = IsPermutation-trans (m ∷ ms) (m ∷ sort ms) (put m (sort ms)) (IsPermutation-cons m ms (sort ms) (moved_sort ms)) (moved_put m (sort ms))

-- these modules in the order of their files
pub record IsSorted (ms sorted : List PlannedModule) : Type 0 where
  pub moved : IsPermutation ms sorted
  pub in_order : IsSortedByKey file (slice_cmp nat_cmp) sorted

pub sorted_there : (ms : List PlannedModule) → (sorted : List PlannedModule) × IsSorted ms sorted
sorted_there ms = (sort ms, record { moved = moved_sort ms; in_order = λ k d low within. ascending (sort ms) (ascends_sort ms) k d within })
