-- Classes make one world, or are refused for one reason.
use Rattle.std.proofs.Common.{◌≡◌, ℕ, suc, ◌≤◌, Bool, true, false, [], ◌∷◌, Contains, Some, refl, sym, ap, ◌∙◌, subst, arith, inl, inr}
use Rattle.std.specs.Prelude.{◌⊎◌}
use Rattle.std.proofs.lemmas.List.Sorted.{Contains-permutation, IsPermutation-sym}
use Rattle.std.proofs.lemmas.List.Elements.{Contains-append_left, Contains-append_right, Contains-append_cases, Contains-push}
use Rattle.std.proofs.lemmas.Option.{slice_get-get_or}
use Rattle.sj_trees.specs.declared.classes.ClassDef.{ClassDef}
use Rattle.sj_world.specs.declared.worlds.WorldError.TheVariants.{DuplicateClass, Cycle, NoMemory}
use Rattle.sj_world.specs.Known.{Name, Classes, is_same}
use Rattle.sj_world.specs.Refusals.{IsInOrder, IsSortedFrom, IsTwice, IsLeastOnCycle, is_before}
use Rattle.sj_world.specs.Laws.{OneWorld, OneRefusal, WorldOrRefusal}
use Rattle.sj_world.proofs.Orders.{same_name, not_before_itself, before_not_after, differs_after}
use Rattle.sj_world.proofs.Counts.{Two, two_counted}
use Rattle.sj_world.proofs.Twice.{same_count}
use Rattle.worklist.proofs.Inserted.{nothing_in, only_one}

first_in : (c : ClassDef) (w : Classes) → Contains (c ∷ w) c
first_in c w = Contains-append_left (c ∷ []) w c (Contains-push [] c)

first_or_later : (c : ClassDef) (w : Classes) (x : ClassDef) → Contains (c ∷ w) x → (c ≡ x) ⊎ Contains w x
first_or_later c w x h = go (Contains-append_cases (c ∷ []) w x h)
  where
    go : Contains (c ∷ []) x ⊎ Contains w x → (c ≡ x) ⊎ Contains w x
    go (inl first) = inl (only_one c x first)
    go (inr later) = inr later

module _ (c : ClassDef) (w : Classes) (sorted : IsInOrder (c ∷ w)) where
  rest_sorted : IsInOrder w
  rest_sorted = record { rises = λ i j a b lt at then. sorted.rises (suc i) (suc j) a b (omega arith) at then }

  first_before : (x : ClassDef) → Contains w x → is_before c.name x.name ≡ true
  first_before x h = sorted.rises 0 (suc h.0) c x (omega arith) refl (slice_get-get_or w h.0 x h.1 ∙ ap Some h.2)

  not_again : Contains w c → ⊥
  not_again h = let t : is_before c.name c.name ≡ true = first_before c h in let f = not_before_itself c.name in cc

-- classes in order are the same where they have the same elements
sorted_same : (v w : Classes) → IsInOrder v → IsInOrder w → ((x : ClassDef) → Contains v x → Contains w x) → ((x : ClassDef) → Contains w x → Contains v x) → v ≡ w
sorted_same [] [] sv sw into back = refl
sorted_same [] (b ∷ w) sv sw into back = nothing_in b (back b (first_in b w))
sorted_same (a ∷ v) [] sv sw into back = nothing_in a (into a (first_in a v))
sorted_same (a ∷ v) (b ∷ w) sv sw into back = ap (λ (c : ClassDef). c ∷ v) heads ∙ ap (λ (l : Classes). b ∷ l) (sorted_same v w (rest_sorted a v sv) (rest_sorted b w sw) (λ x h. further x h (first_or_later b w x (into x (Contains-append_right (a ∷ []) v x h)))) (λ x h. back_in x h (first_or_later a v x (back x (Contains-append_right (b ∷ []) w x h)))))
  where
    same_head : (b ≡ a) ⊎ Contains w a → (a ≡ b) ⊎ Contains v b → a ≡ b
    same_head (inl e) other = sym e
    same_head (inr in_w) (inl e) = e
    same_head (inr in_w) (inr in_v) = let p : is_before a.name b.name ≡ true = first_before a v sv b in_v in let q = before_not_after b.name a.name (first_before b w sw a in_w) in cc

    heads : a ≡ b
    heads = same_head (first_or_later b w a (into a (first_in a v))) (first_or_later a v b (back b (first_in b w)))

    further : (x : ClassDef) → Contains v x → (b ≡ x) ⊎ Contains w x → Contains w x
    further x h (inl e) = absurd (not_again a v sv (subst (λ (y : ClassDef). Contains v y) (sym (heads ∙ e)) h))
    further x h (inr later) = later

    back_in : (x : ClassDef) → Contains w x → (a ≡ x) ⊎ Contains v x → Contains v x
    back_in x h (inl e) = absurd (not_again b w sw (subst (λ (y : ClassDef). Contains w y) (sym (sym heads ∙ e)) h))
    back_in x h (inr later) = later

sorted_one : (given v w : Classes) → IsSortedFrom given v → IsSortedFrom given w → v ≡ w
sorted_one given v w p q = sorted_same v w p.in_order q.in_order (λ x h. Contains-permutation given w x q.same (Contains-permutation v given x (IsPermutation-sym given v p.same) h)) (λ x h. Contains-permutation given v x p.same (Contains-permutation w given x (IsPermutation-sym given w q.same) h))

not_twice : (given w : Classes) → IsSortedFrom given w → (name : Name) → IsTwice given name → ⊥
not_twice given w s name t = both (two_counted (λ (c : ClassDef). is_same c.name name) w (subst (λ (n : ℕ). 2 ≤ n) (sym (same_count given w name s.same)) t))
  where
    both : Two (λ (c : ClassDef). is_same c.name name) w → ⊥
    both two = let r : is_before name name ≡ true = subst (λ (n : Name). is_before name n ≡ true) (same_name _ _ two.passes_too) (subst (λ (n : Name). is_before n two.other.name ≡ true) (same_name _ _ two.passes) (s.in_order.rises two.place two.later two.item two.other two.after two.at two.there)) in let f = not_before_itself name in cc

-- two least names are one
least_one : (a b : Name) → is_before b a ≡ false → is_before a b ≡ false → a ≡ b
least_one a b low high = go (is_same a b) refl
  where
    go : (t : Bool) → is_same a b ≡ t → a ≡ b
    go true e = same_name a b e
    go false e = let r = differs_after a b low e in cc

pub one_world : OneWorld
one_world given v w p q = sorted_one given v w p.sorted q.sorted

pub one_refusal : OneRefusal
one_refusal given (DuplicateClass a) (DuplicateClass b) p q memory more = ap DuplicateClass (least_one a b (p.least b q.twice) (q.least a p.twice))
one_refusal given (DuplicateClass a) (Cycle b) p q memory more = absurd (not_twice given q.w q.sorted a p.twice)
one_refusal given (Cycle a) (DuplicateClass b) p q memory more = absurd (not_twice given p.w p.sorted b q.twice)
one_refusal given (Cycle a) (Cycle b) p q memory more = ap Cycle (least_one a b (p.least.least b there.on_cycle) (there.least a p.least.on_cycle))
  where
    there : IsLeastOnCycle p.w b
    there = subst (λ (w : Classes). IsLeastOnCycle w b) (sorted_one given q.w p.w q.sorted p.sorted) q.least
one_refusal given (DuplicateClass a) NoMemory p q memory more = absurd (more refl)
one_refusal given (Cycle a) NoMemory p q memory more = absurd (more refl)
one_refusal given NoMemory f p q memory more = absurd (memory refl)

pub world_or_refusal : WorldOrRefusal
world_or_refusal given w (DuplicateClass a) p q = absurd (not_twice given w p.sorted a q.twice)
world_or_refusal given w (Cycle a) p q = absurd (p.no_cycle.none a (subst (λ (l : Classes). IsLeastOnCycle l a) (sorted_one given q.w w q.sorted p.sorted) q.least).on_cycle)
world_or_refusal given w NoMemory p q = refl
