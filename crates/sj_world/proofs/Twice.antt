-- The least name that comes twice among classes in order.
use Rattle.std.proofs.Common.{◌≡◌, ℕ, zero, suc, ◌+◌, ◌-◌, ◌<◌, ◌≤◌, Bool, true, false, length, slice_get, get_or, Some, sym, subst, arith, inl, inr}
use Rattle.std.specs.Prelude.{◌⊎◌, count_by}
use Rattle.std.specs.Cmp.Lexicographic.{nat_list_cmp_total}
use Rattle.std.specs.List.Sorted.{IsSortedBy, IsPermutation}
use Rattle.std.proofs.lemmas.List.Sorted.{sorted_far, ranks_by, sum_by-IsPermutation}
use Rattle.std.proofs.lemmas.Option.{slice_get_within, get_or_from_slice_get, slice_get-get_or}
use Rattle.sj_trees.specs.declared.classes.ClassDef.{ClassDef}
use Rattle.sj_world.specs.Known.{Name, Classes, is_same}
use Rattle.sj_world.specs.Refusals.{IsInOrder, IsTwice, IsLeastTwice, is_before}
use Rattle.sj_world.proofs.Orders.{same_name, is_same_itself, not_before_itself, before_trans, before_or_not, differs_after}
use Rattle.sj_world.proofs.Counts.{Two, counts_two, two_counted}

abbrev pub is_lower : ClassDef → ClassDef → Bool
is_lower a b = is_before a.name b.name

-- no class stands before one of a lesser name
abbrev pub IsUpward : Classes → Type 0
IsUpward w = IsSortedBy is_lower w

-- among the first classes each stands before one of a greater name
pub record Rising (w : Classes) (n : ℕ) : Type 0 where
  pub rises : (k : ℕ) (a b : ClassDef) → k + 1 < n → slice_get w k ≡ Some a → slice_get w (k + 1) ≡ Some b → is_before a.name b.name ≡ true

rises_far : (w : Classes) (n : ℕ) → Rising w n → (d i : ℕ) (a b : ClassDef) → i + suc d < n → slice_get w i ≡ Some a → slice_get w (i + suc d) ≡ Some b → is_before a.name b.name ≡ true
rises_far w n r zero i a b lt at then = r.rises i a b (omega arith) at (subst (λ (k : ℕ). slice_get w k ≡ Some b) (omega arith) then)
rises_far w n r (suc d) i a b lt at then = before_trans a.name (get_or w (i + suc d) a).name b.name (rises_far w n r d i a (get_or w (i + suc d) a) (omega arith) at middle) (r.rises (i + suc d) (get_or w (i + suc d) a) b (omega arith) middle (subst (λ (k : ℕ). slice_get w k ≡ Some b) (omega arith) then))
  where
    middle : slice_get w (i + suc d) ≡ Some (get_or w (i + suc d) a)
    middle = slice_get-get_or w (i + suc d) a (omega (arith, slice_get_within w (i + suc (suc d)) b then))

pub rising_apart : (w : Classes) (n : ℕ) → Rising w n → (i j : ℕ) (a b : ClassDef) → i < j → j < n → slice_get w i ≡ Some a → slice_get w j ≡ Some b → is_before a.name b.name ≡ true
rising_apart w n r i j a b lt within at then = rises_far w n r (j - suc i) i a b (omega arith) at (subst (λ (k : ℕ). slice_get w k ≡ Some b) (omega arith) then)

pub rising_whole : (w : Classes) (n : ℕ) → Rising w n → length w ≤ n → IsInOrder w
rising_whole w n r all = record { rises = λ i j a b lt at then. rising_apart w n r i j a b lt (omega (arith, slice_get_within w j b then)) at then }

module _ (w : Classes) (up : IsUpward w) (n : ℕ) (r : Rising w (n + 1)) (a b : ClassDef) (at : slice_get w n ≡ Some a) (then : slice_get w (n + 1) ≡ Some b) (same : is_same a.name b.name ≡ true) where
  twice_here : IsTwice w b.name
  twice_here = counts_two (λ (c : ClassDef). is_same c.name b.name) w n (n + 1) a b (omega arith) at then same (is_same_itself b.name)

  -- a lesser name could only stand in front, where none comes twice
  lesser_not : (other : Name) → is_before other b.name ≡ true → Two (λ (c : ClassDef). is_same c.name other) w → ⊥
  lesser_not other low t = in_front (two_places t.later n)
    where
      two_places : (i j : ℕ) → (i ≤ j) ⊎ (j < i)
      two_places i j = grind arith

      first_is : t.item.name ≡ other
      first_is = same_name _ _ t.passes

      second_is : t.other.name ≡ other
      second_is = same_name _ _ t.passes_too

      in_front : (t.later ≤ n) ⊎ (n < t.later) → ⊥
      in_front (inl le) = let e : is_before other other ≡ true = subst (λ (x : Name). is_before other x ≡ true) second_is (subst (λ (x : Name). is_before x t.other.name ≡ true) first_is (rising_apart w (n + 1) r t.place t.later t.item t.other t.after (omega arith) t.at t.there)) in let f = not_before_itself other in cc
      in_front (inr lt) = let far : is_before (get_or w t.later b).name (get_or w (n + 1) b).name ≡ false = sorted_far is_lower (ranks_by nat_list_cmp_total (λ (c : ClassDef). c.name)) w up (n + 1) t.later b (omega arith) (slice_get_within w t.later t.other t.there) in let e : is_before other b.name ≡ false = subst (λ (x : Name). is_before x b.name ≡ false) second_is (subst (λ (x : ClassDef). is_before x.name b.name ≡ false) (get_or_from_slice_get w t.later t.other b t.there) (subst (λ (x : ClassDef). is_before (get_or w t.later b).name x.name ≡ false) (get_or_from_slice_get w (n + 1) b b then) far)) in cc

  pub least_twice : IsLeastTwice w b.name
  least_twice = record { twice = twice_here; least = λ other t. before_or_not other b.name (λ low. lesser_not other low (two_counted (λ (c : ClassDef). is_same c.name other) w t)) }

pub least_twice_at : (w : Classes) → IsUpward w → (n : ℕ) → 0 < n → n < length w → Rising w n → (d e : ClassDef) → is_same (get_or w (n - 1) d).name (get_or w n e).name ≡ true → IsLeastTwice w (get_or w n e).name
least_twice_at w up zero some within r d e same = absurd (omega arith)
least_twice_at w up (suc n) some within r d e same = least_twice w up n (subst (Rising w) (omega arith) r) (get_or w n d) (get_or w (suc n) e) (slice_get-get_or w n d (omega arith)) (subst (λ (k : ℕ). slice_get w k ≡ Some (get_or w (suc n) e)) (omega arith) (slice_get-get_or w (suc n) e within)) (subst (λ (k : ℕ). is_same (get_or w k d).name (get_or w (suc n) e).name ≡ true) (omega arith) same)

pub rising_more_at : (w : Classes) → IsUpward w → (n : ℕ) → 0 < n → n < length w → Rising w n → (d e : ClassDef) → is_same (get_or w (n - 1) d).name (get_or w n e).name ≡ false → Rising w (n + 1)
rising_more_at w up n some within r d e differ = record { rises = λ k a b lt at then. step k a b at then (places k lt) }
  where
    not_lower : (k : ℕ) (a b : ClassDef) → slice_get w k ≡ Some a → slice_get w (k + 1) ≡ Some b → is_before b.name a.name ≡ false
    not_lower k a b at then = subst (λ (x : ClassDef). is_before b.name x.name ≡ false) (get_or_from_slice_get w k a a at) (subst (λ (x : ClassDef). is_before x.name (get_or w k a).name ≡ false) (get_or_from_slice_get w (k + 1) b a then) (up k a (omega arith) (slice_get_within w (k + 1) b then)))

    places : (k : ℕ) → k + 1 < n + 1 → (k + 1 < n) ⊎ (k ≡ n - 1)
    places k lt = grind arith

    step : (k : ℕ) (a b : ClassDef) → slice_get w k ≡ Some a → slice_get w (k + 1) ≡ Some b → (k + 1 < n) ⊎ (k ≡ n - 1) → is_before a.name b.name ≡ true
    step k a b at then (inl lt) = r.rises k a b lt at then
    step k a b at then (inr last) = differs_after a.name b.name (not_lower k a b at then) (subst (λ (x : ClassDef). is_same x.name b.name ≡ false) (get_or_from_slice_get w k a d at) (subst (λ (x : ClassDef). is_same (get_or w k d).name x.name ≡ false) (get_or_from_slice_get w (k + 1) b e then) moved))
      where
        moved : is_same (get_or w k d).name (get_or w (k + 1) e).name ≡ false
        moved = subst (λ (i : ℕ). is_same (get_or w i d).name (get_or w (k + 1) e).name ≡ false) (sym last) (subst (λ (i : ℕ). is_same (get_or w (n - 1) d).name (get_or w i e).name ≡ false) (omega arith) differ)

pub rising_begins : (w : Classes) → Rising w 1
rising_begins w = record { rises = λ k a b lt at then. absurd (omega arith) }

-- as many classes have a name, in whatever order they stand
pub same_count : (given w : Classes) (name : Name) → IsPermutation given w → count_by (λ (c : ClassDef). is_same c.name name) w ≡ count_by (λ (c : ClassDef). is_same c.name name) given
same_count given w name p = sum_by-IsPermutation _ given w p

pub least_twice_given : (given w : Classes) (name : Name) → IsPermutation given w → IsLeastTwice w name → IsLeastTwice given name
least_twice_given given w name p l = record { twice = subst (λ (n : ℕ). 2 ≤ n) (same_count given w name p) l.twice; least = λ other t. l.least other (subst (λ (n : ℕ). 2 ≤ n) (sym (same_count given w other p)) t) }
