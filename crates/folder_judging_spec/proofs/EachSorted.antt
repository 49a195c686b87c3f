-- Classes of different names can be put in the order of their names, and have a verdict on their cycles.
use Rattle.std.proofs.Common.{◌≡◌, ℕ, zero, suc, ◌<◌, ◌≤◌, Bool, true, false, List, [], ◌∷◌, Some, None, Contains, slice_get, refl, ap, ◌∙◌, subst, length, arith, inl, inr}
use Rattle.std.specs.Prelude.{◌⊎◌}
use Rattle.std.specs.List.Sorted.{IsPermutation}
use Rattle.std.proofs.lemmas.List.Sorted.{Contains-permutation, IsPermutation-refl, IsPermutation-sym, IsPermutation-trans, IsPermutation-cons, IsPermutation-middle}
use Rattle.std.proofs.lemmas.Option.{slice_get-get_or}
use Rattle.sj_names.specs.declared.entry_points.EntryPoint.{EntryPoint}
use Rattle.sj_trees.specs.declared.classes.ClassDef.{ClassDef}
use Rattle.sj_local.specs.Broken.{FirstBroken}
use Rattle.sj_world.specs.Ancestors.{IsOnCycle}
use Rattle.sj_world.specs.Known.{Name, Classes, is_same}
use Rattle.sj_world.specs.Refusals.{IsInOrder, IsSortedFrom, IsTwice, is_before}
use Rattle.sj_world.proofs.Counts.{two_counted, counts_two}
use Rattle.sj_world.proofs.OnCycles as on_cycles
use Rattle.sj_world.proofs.Orders.{is_same_itself, before_trans, differs_after}
use Rattle.sj_world.proofs.Searches.{contains_at}
use Rattle.folder_judging_spec.specs.Stages.{KeepRules}
use Rattle.folder_judging_spec.specs.Verdicts.{Verdict, ByCycles, cyclic, acyclic}
use Rattle.folder_judging_spec.proofs.EachResolved.{references_are_told}
use Rattle.folder_judging_spec.proofs.Undenied.{Undenied, granted, and_so, FirstPlace, NoneBelow, first_place, first_or_later, here, there, not_so}

cons_in_order : (c : ClassDef) (w : Classes) → IsInOrder w → ((d : ClassDef) → Contains w d → is_before c.name d.name ≡ true) → IsInOrder (c ∷ w)
cons_in_order c w sorted first = record { rises = go }
  where
    go : (i j : ℕ) (a b : ClassDef) → i < j → slice_get (c ∷ w) i ≡ Some a → slice_get (c ∷ w) j ≡ Some b → is_before a.name b.name ≡ true
    go i zero a b l at then = absurd (omega (arith, l))
    go zero (suc j) a b l at then = let same : c ≡ a = cc in subst (λ (x : ClassDef). is_before x.name b.name ≡ true) same (first b (contains_at w j b then))
    go (suc i) (suc j) a b l at then = sorted.rises i j a b (omega (arith, l)) at then

rest_in_order : (c : ClassDef) (w : Classes) → IsInOrder (c ∷ w) → IsInOrder w
rest_in_order c w sorted = record { rises = λ i j a b l at then. sorted.rises (suc i) (suc j) a b (omega (arith, l)) at then }

first_before : (c : ClassDef) (w : Classes) → IsInOrder (c ∷ w) → (d : ClassDef) → Contains w d → is_before c.name d.name ≡ true
first_before c w sorted d h = sorted.rises 0 (suc h.0) c d (omega arith) refl (slice_get-get_or w h.0 d h.1 ∙ ap Some h.2)

-- no class of the list has this name
abbrev LacksName : Classes → Name → Type 0
LacksName w name = (d : ClassDef) → Contains w d → is_same d.name name ≡ true → ⊥

abbrev Sorted : Classes → Type 0
Sorted given = (w : Classes) × IsSortedFrom given w

-- one more class is put at its place
put : (c : ClassDef) (w : Classes) → IsInOrder w → LacksName w c.name → Sorted (c ∷ w)
put c [] sorted lacks = (c ∷ [], record { same = IsPermutation-refl (c ∷ []); in_order = cons_in_order c [] sorted (λ d h. let l : h.0 < 0 = h.1 in absurd (omega (arith, l))) })
put c (d ∷ w) sorted lacks = go (is_before c.name d.name) refl (put c w (rest_in_order d w sorted) (λ x h. lacks x (there d w x h)))
  where
    in_front : is_before c.name d.name ≡ true → (x : ClassDef) → Contains (d ∷ w) x → is_before c.name x.name ≡ true
    in_front e x h = elim (first_or_later d w x h) [
      | inl same ↦ subst (λ (y : ClassDef). is_before c.name y.name ≡ true) same e
      | inr after ↦ before_trans c.name d.name x.name e (first_before d w sorted x after)
    ]

    behind : is_before c.name d.name ≡ false → is_before d.name c.name ≡ true
    behind e = differs_after d.name c.name e (not_so (is_same d.name c.name) (lacks d (here d w)))

    before_all : is_before c.name d.name ≡ false → (v : Classes) → IsPermutation (c ∷ w) v → (x : ClassDef) → Contains v x → is_before d.name x.name ≡ true
    before_all e v same x h = elim (first_or_later c w x (Contains-permutation v (c ∷ w) x (IsPermutation-sym (c ∷ w) v same) h)) [
      | inl first ↦ subst (λ (y : ClassDef). is_before d.name y.name ≡ true) first (behind e)
      | inr after ↦ first_before d w sorted x after
    ]

    go : (b : Bool) → is_before c.name d.name ≡ b → Sorted (c ∷ w) → Sorted (c ∷ d ∷ w)
    go true e rest = (c ∷ d ∷ w, record { same = IsPermutation-refl (c ∷ d ∷ w); in_order = cons_in_order c (d ∷ w) sorted (in_front e) })
    go false e rest = (d ∷ rest.0, record { same = IsPermutation-trans (c ∷ d ∷ w) (d ∷ c ∷ w) (d ∷ rest.0) (IsPermutation-sym (d ∷ c ∷ w) (c ∷ d ∷ w) (IsPermutation-middle (d ∷ []) c w)) (IsPermutation-cons d (c ∷ w) rest.0 rest.1.same); in_order = cons_in_order d rest.0 rest.1.in_order (before_all e rest.0 rest.1.same) })

abbrev has_name : Name → ClassDef → Bool
has_name name c = is_same c.name name

abbrev pub AreApart : Classes → Type 0
AreApart classes = (name : Name) → IsTwice classes name → ⊥

rest_apart : (c : ClassDef) (w : Classes) → AreApart (c ∷ w) → AreApart w
rest_apart c w apart name h = let t = two_counted (has_name name) w h in apart name (counts_two (has_name name) (c ∷ w) (suc t.place) (suc t.later) t.item t.other (omega (arith, t.after)) t.at t.there t.passes t.passes_too)

first_apart : (c : ClassDef) (w : Classes) → AreApart (c ∷ w) → LacksName w c.name
first_apart c w apart d h same = apart c.name (counts_two (has_name c.name) (c ∷ w) 0 (suc h.0) c d (omega arith) refl (slice_get-get_or w h.0 d h.1 ∙ ap Some h.2) (is_same_itself c.name) same)

pub sorted_from : (given : Classes) → AreApart given → Sorted given
sorted_from [] apart = ([], record { same = IsPermutation-refl []; in_order = record { rises = λ i j a b l at then. cc } })
sorted_from (c ∷ rest) apart =
    let s = sorted_from rest (rest_apart c rest apart) in
    let lacks : LacksName s.0 c.name = λ d h. first_apart c rest apart d (Contains-permutation s.0 rest d (IsPermutation-sym rest s.0 s.1.same) h) in
    let p = put c s.0 s.1.in_order lacks in
    (p.0, record { same = IsPermutation-trans (c ∷ rest) (c ∷ s.0) p.0 (IsPermutation-cons c rest s.0 s.1.same) p.1.same; in_order = p.1.in_order })

-- a class on a cycle stands here
abbrev OnCycleAt : Classes → ℕ → Type 0
OnCycleAt w i = (c : ClassDef) × (slice_get w i ≡ Some c) × IsOnCycle w c.name

at_most_itself : (n : ℕ) → n ≤ n
at_most_itself n = omega arith

module _ (entries : List EntryPoint) (classes : Classes) (kept : KeepRules classes) (apart : AreApart classes) where
  abbrev HasVerdict : Type 0
  HasVerdict = (v : Verdict) × ByCycles entries classes v

  keeps : (w : Classes) → IsSortedFrom classes w → (c : ClassDef) → Contains w c → FirstBroken c None
  keeps w s c h = kept c (Contains-permutation w classes c (IsPermutation-sym classes w s.same) h)

  by_first : (w : Classes) → IsSortedFrom classes w → FirstPlace (OnCycleAt w) ⊎ NoneBelow (OnCycleAt w) (length w) → Undenied HasVerdict
  by_first w s (inl f) = granted (_, cyclic f.has.0.name (record { w = w; sorted = s; least = on_cycles.least_on_cycle w s.in_order f.place f.has.0 (record { none = λ i c l at on. f.none_before i l (c, at, on) }) f.has.1 f.has.2 }))
  by_first w s (inr none) = and_so (references_are_told w entries (keeps w s)) (λ r. granted (r.0, acyclic w r.0 (record { sorted = s; no_cycle = on_cycles.none_whole w (length w) (record { none = λ i c l at on. none i l (c, at, on) }) (at_most_itself (length w)) }) r.1))

  -- classes of different names that keep the rules have a verdict on their cycles
  pub cycles_are_told : Undenied HasVerdict
  cycles_are_told = let s = sorted_from classes apart in and_so (first_place (OnCycleAt s.0) (length s.0)) (by_first s.0 s.1)
