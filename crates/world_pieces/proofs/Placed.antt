-- The classes of a world in the order of a module.
use Rattle.std.proofs.Common.{◌≡◌, ◌+◌, ℕ, suc, Bool, true, false, List, [], ◌∷◌, ◌++◌, inl, inr, Some, refl, sym, ap, subst, ◌∙◌, map, take, slice_get, Contains, arith}
use Rattle.std.specs.Cmp.{IsTotalOrder, IsStrictWeakOrder}
use Rattle.std.specs.Cmp.Lexicographic.{nat_list_cmp_total}
use Rattle.std.specs.List.{AllByRecursion, IsDistinct}
use Rattle.std.specs.List.Sorted.{IsPermutation, IsSortedBy}
use Rattle.std.specs.Ordering.{nat_cmp, ordering_then, is_lt}
use Rattle.std.specs.Prelude.{◌⊎◌, ◌↔◌, is_some, ◌||◌, if◌then◌else◌}
use Rattle.std.specs.declared.cmp.Ordering.{Ordering}
use Rattle.std.specs.declared.cmp.Ordering.TheVariants.{Less, Equal, Greater}
use Rattle.std.proofs.lemmas.Cmp.{nat_cmp_total, then_total, on_total}
use Rattle.std.proofs.lemmas.List.{map-append}
use Rattle.std.proofs.lemmas.List.Elements.{Contains-push_cases}
use Rattle.std.proofs.lemmas.List.MinMax.{ranks_by}
use Rattle.std.proofs.lemmas.List.Sorted.{Contains-permutation, IsPermutation-map, IsPermutation-sym}
use Rattle.std.proofs.lemmas.Map.Keys.{IsDistinct-IsPermutation, IsDistinct-cons}
use Rattle.std.proofs.lemmas.Slice.Eq.{bytes_eq-Decides}
use Rattle.std.specs.Cmp.Lexicographic.{nat_list_eq_equiv}
use Rattle.linked_pieces.specs.Order.{StandsBefore, by_ancestors, by_name, AreClasses}
use Rattle.sj_split.proofs.Members.{at_first, further, cons_cases, from_map}
use Rattle.sj_trees.specs.declared.classes.ClassDef.{ClassDef}
use Rattle.sj_world.proofs.Names.{taken_more}
use Rattle.sj_world.proofs.Searches.{stands_at}
use Rattle.sj_world.specs.Known.{Name, Classes, class_of, is_known, is_hijacked, is_same}
use Rattle.sj_world.specs.Refusals.{IsInOrder}
use Rattle.worklist.proofs.Inserted.{nothing_in}
use Rattle.world_pieces.specs.declared.classes.ClassPlace.{ClassPlace}
use Rattle.world_pieces.specs.Places.{HasAncestors, ArePlaces, name_of, class_name, order, is_before}
use Rattle.world_pieces.proofs.InOrder.{text_cmp, less, equal, same_text, not_behind, lesser_differs, sorted_stand, into_images}

-- the classes of a world are known, and no others are in it
pub is_there : (w : Classes) (c : ClassDef) → Contains w c → is_some (class_of w c.name) ≡ true
is_there [] c h = nothing_in c h
is_there (d ∷ w) c h = go (is_same d.name c.name) refl (cons_cases d c w h) (is_there w c)
  where
    go : (b : Bool) → is_same d.name c.name ≡ b → (d ≡ c) ⊎ Contains w c → (Contains w c → is_some (class_of w c.name) ≡ true) → is_some (if b then Some d else class_of w c.name) ≡ true
    go true e i rest = refl
    go false e (inl same) rest = let t : is_same d.name c.name ≡ true = (bytes_eq-Decides d.name c.name).1 (ap class_name same) in let z : true ≡ false = sym t ∙ e in cc
    go false e (inr later) rest = rest later

pub class_known : (w : Classes) (c : ClassDef) → Contains w c → is_known w c.name ≡ true
class_known w c h = ap (λ b. b || is_hijacked c.name) (is_there w c h)

named : (w : Classes) (n : Name) → is_some (class_of w n) ≡ true → Contains (map class_name w) n
named [] n h = let z : false ≡ true = h in cc
named (d ∷ w) n h = go (is_same d.name n) refl h (named w n)
  where
    go : (b : Bool) → is_same d.name n ≡ b → is_some (if b then Some d else class_of w n) ≡ true → (is_some (class_of w n) ≡ true → Contains (map class_name w) n) → Contains (d.name ∷ map class_name w) n
    go true e i rest = subst (λ (x : Name). Contains (d.name ∷ map class_name w) x) ((bytes_eq-Decides d.name n).0 e) (at_first d.name (map class_name w))
    go false e i rest = further d.name n (map class_name w) (rest i)

pub names_exact : (w : Classes) (n : Name) → Contains (map class_name w) n ↔ (is_some (class_of w n) ≡ true)
names_exact w n = (λ h. (let m = from_map class_name w n h in subst (λ (x : Name). is_some (class_of w x) ≡ true) m.is (is_there w m.item m.among)), named w n)

-- no two have a name
rest_in_order : (c : ClassDef) (w : Classes) → IsInOrder (c ∷ w) → IsInOrder w
rest_in_order c w o = record { rises = λ i j a b l p q. o.rises (suc i) (suc j) a b (omega (arith, l)) p q }

others : (c : ClassDef) (w : Classes) → ((d : ClassDef) → Contains w d → is_lt (text_cmp c.name d.name) ≡ true) → AllByRecursion (λ n. is_same c.name n ≡ false) (map class_name w)
others c [] each = tt
others c (d ∷ w) each = (lesser_differs c.name d.name (each d (at_first d w)), others c w (λ e h. each e (further d e w h)))

nothing_distinct : IsDistinct is_same []
unfolding IsDistinct
nothing_distinct = tt

pub names_once : (w : Classes) → IsInOrder w → IsDistinct is_same (map class_name w)
names_once [] o = nothing_distinct
names_once (c ∷ w) o = IsDistinct-cons is_same c.name (map class_name w) (others c w (λ d h. o.rises 0 (suc h.0) c d (omega arith) refl (stands_at w d h))) (names_once w (rest_in_order c w o))

pub once_moved : (ns ms : List Name) → IsPermutation ns ms → IsDistinct is_same ns → IsDistinct is_same ms
once_moved ns ms p once = IsDistinct-IsPermutation is_same nat_list_eq_equiv.symm ns ms p once

-- one more place
pub one_more : (w : Classes) (names : List Name) (i : ℕ) (n : Name) (place : ClassPlace) (old new : List ClassPlace) → slice_get names i ≡ Some n → place.name ≡ n → HasAncestors w n place.ancestors → new ≡ old ++ place ∷ [] → ArePlaces w (take i names) old → ArePlaces w (take (i + 1) names) new
one_more w names i n place old new at is above put are = record {
  names_are = ap (map name_of) put ∙ map-append name_of old (place ∷ []) ∙ (λ t. are.names_are t ++ is t ∷ []) ∙ sym (taken_more names i n at);
  each = λ p h. elim (Contains-push_cases old place p (subst (λ (l : List ClassPlace). Contains l p) put h)) [ inl older ↦ are.each p older | inr e ↦ subst (λ (q : ClassPlace). HasAncestors w q.name q.ancestors) e (subst (λ (x : Name). HasAncestors w x place.ancestors) (sym is) above) ];
}

pub no_places : (w : Classes) (names : List Name) (places : List ClassPlace) → places ≡ [] → ArePlaces w (take 0 names) places
no_places w names places none = record { names_are = ap (map name_of) none; each = λ p h. nothing_in p (subst (λ (l : List ClassPlace). Contains l p) none h) }

-- the order of places
order_total : IsTotalOrder order
order_total = then_total (on_total (λ (p : ClassPlace). p.ancestors) nat_cmp_total) (on_total (λ (p : ClassPlace). p.name) nat_list_cmp_total)

pub ranks : IsStrictWeakOrder is_before
ranks = ranks_by order_total (λ (p : ClassPlace). p)

-- what two comparisons, one behind the other, tell
data Told (a b : Ordering) : Ordering → Type 0 where
  by_first : a ≡ Less → Told a b Less
  by_second : a ≡ Equal → b ≡ Less → Told a b Less
  tied : a ≡ Equal → b ≡ Equal → Told a b Equal
  behind : Told a b Greater

told : (a b : Ordering) → Told a b (ordering_then a b)
told Less b = by_first refl
told Greater b = behind
told Equal Less = by_second refl refl
told Equal Greater = behind
told Equal Equal = tied refl refl

module _ (w : Classes) where
  abbrev Is : ClassPlace → Type 0
  Is p = HasAncestors w p.name p.ancestors

  abbrev Stands : ClassPlace → ClassPlace → Type 0
  Stands x y = StandsBefore w x.name y.name

  stands : (x y : ClassPlace) → Is x → Is y → (x.name ≡ y.name → ⊥) → is_before y x ≡ false → Stands x y
  stands x y d e differ low = go _ refl (told (nat_cmp x.ancestors y.ancestors) (text_cmp x.name y.name))
    where
      go : (o : Ordering) → order x y ≡ o → Told (nat_cmp x.ancestors y.ancestors) (text_cmp x.name y.name) o → StandsBefore w x.name y.name
      go _ is (by_first a) = let l = less x.ancestors y.ancestors a in by_ancestors d.names e.names d.are e.are (omega (arith, l, d.many, e.many))
      go _ is (by_second a b) = let s = equal x.ancestors y.ancestors a in by_name d.names e.names d.are e.are (omega (arith, s, d.many, e.many)) b
      go _ is (tied a b) = absurd (differ (same_text x.name y.name b))
      go _ is behind = absurd (not_behind (order x y) (order y x) (order_total.antisymm x y) low is)

  pub sorted_classes : (before after : List ClassPlace) → ArePlaces w (map class_name w) before → IsDistinct is_same (map name_of before) → IsPermutation before after → IsSortedBy is_before after → AreClasses w (map name_of after)
  sorted_classes before after are once p sorted = record {
    exact = λ c. (λ h. (names_exact w c).0 (subst (λ (l : List Name). Contains l c) are.names_are (Contains-permutation (map name_of after) (map name_of before) c (IsPermutation-sym (map name_of before) (map name_of after) moved) h)), λ h. Contains-permutation (map name_of before) (map name_of after) c moved (subst (λ (l : List Name). Contains l c) (sym are.names_are) ((names_exact w c).1 h)));
    in_order = into_images (StandsBefore w) name_of after (sorted_stand Stands is_before ranks name_of Is stands after (λ x h. are.each x (Contains-permutation after before x (IsPermutation-sym before after p) h)) sorted (once_moved (map name_of before) (map name_of after) moved once));
  }
    where
      moved : IsPermutation (map name_of before) (map name_of after)
      moved = IsPermutation-map name_of before after p
