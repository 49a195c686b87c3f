-- Finding a class by its name among classes in order.
use Rattle.std.proofs.Common.{◌≡◌, ℕ, zero, suc, ◌+◌, ◌<◌, ◌≤◌, [], ◌∷◌, Bool, true, false, slice_get, get_or, Some, None, Result, Ok, Err, MatchResult, refl, sym, ap, ◌∙◌, subst, arith, cond, inl, inr}
use Rattle.std.specs.Prelude.{◌⊎◌}
use Rattle.std.specs.declared.cmp.Ordering.TheVariants.{Less, Equal, Greater}
use Rattle.std.specs.Ordering.{is_lt}
use Rattle.std.specs.Cmp.Lexicographic.{nat_list_cmp_total}
use Rattle.std.specs.List.Sorted.{IsBinarySearchResult, IsSortedBy, IsPartitionPoint}
use Rattle.std.proofs.lemmas.List.Sorted.{searchable_from_sorted}
use Rattle.std.proofs.lemmas.Option.{slice_get_within, get_or_from_slice_get, slice_get-get_or}
use Rattle.sj_trees.specs.declared.classes.ClassDef.{ClassDef}
use Rattle.sj_world.specs.Known.{Name, Classes, is_same, class_of}
use Rattle.sj_world.specs.Refusals.{IsInOrder}
use Rattle.sj_world.proofs.Orders.{compared, before_not_after, same_name, same_compared, before_differs, differs_less, differs_greater}

-- the first of this name is found
pub class_of-at : (w : Classes) (name : Name) (i : ℕ) (x : ClassDef) → slice_get w i ≡ Some x → is_same x.name name ≡ true → ((j : ℕ) (y : ClassDef) → j < i → slice_get w j ≡ Some y → is_same y.name name ≡ false) → class_of w name ≡ Some x
class_of-at [] name i x at same before = cc
class_of-at (c ∷ w) name zero x at same before = let e : c ≡ x = cc in subst (λ (b : Bool). cond b (Some c) (class_of w name) ≡ Some x) (sym (ap (λ (k : ClassDef). is_same k.name name) e ∙ same)) at
class_of-at (c ∷ w) name (suc i) x at same before = subst (λ (b : Bool). cond b (Some c) (class_of w name) ≡ Some x) (sym (before 0 c (omega arith) refl)) (class_of-at w name i x at same (λ j y lt h. before (suc j) y (omega arith) h))

pub class_of-none : (w : Classes) (name : Name) → ((j : ℕ) (y : ClassDef) → slice_get w j ≡ Some y → is_same y.name name ≡ false) → class_of w name ≡ None
class_of-none [] name none = refl
class_of-none (c ∷ w) name none = subst (λ (b : Bool). cond b (Some c) (class_of w name) ≡ None) (sym (none 0 c refl)) (class_of-none w name (λ j y h. none (suc j) y h))

-- what is found stands in the list and has the name
pub record StandsIn (w : Classes) (name : Name) (x : ClassDef) : Type 0 where
  pub place : ℕ
  pub at : slice_get w place ≡ Some x
  pub same : is_same x.name name ≡ true

pub class_of-stands : (w : Classes) (name : Name) (x : ClassDef) → class_of w name ≡ Some x → StandsIn w name x
class_of-stands [] name x e = cc
class_of-stands (c ∷ w) name x e = go (class_of-stands w name x) (is_same c.name name) refl
  where
    go : (class_of w name ≡ Some x → StandsIn w name x) → (b : Bool) → is_same c.name name ≡ b → StandsIn (c ∷ w) name x
    go below true h = let found : Some c ≡ Some x = sym (ap (λ (b : Bool). cond b (Some c) (class_of w name)) h) ∙ e in let s : c ≡ x = cc in record { place = 0; at = found; same = ap (λ (k : ClassDef). is_same k.name name) (sym s) ∙ h }
    go below false h = let p = below (sym (ap (λ (b : Bool). cond b (Some c) (class_of w name)) h) ∙ e) in record { place = suc p.place; at = p.at; same = p.same }

pub name_of_class : (w : Classes) (name : Name) (x : ClassDef) → class_of w name ≡ Some x → x.name ≡ name
name_of_class w name x e = same_name _ _ (class_of-stands w name x e).same

module _ (w : Classes) (sorted : IsInOrder w) where
  others_differ : (name : Name) (i : ℕ) (x : ClassDef) → slice_get w i ≡ Some x → is_same x.name name ≡ true → (j : ℕ) (y : ClassDef) → j < i → slice_get w j ≡ Some y → is_same y.name name ≡ false
  others_differ name i x at same j y lt h = subst (λ (n : Name). is_same y.name n ≡ false) (same_name _ _ same) (before_differs y.name x.name (sorted.rises j i y x lt h at))

  -- each class is found by its name
  pub class_of-place : (i : ℕ) (x : ClassDef) (name : Name) → slice_get w i ≡ Some x → is_same x.name name ≡ true → class_of w name ≡ Some x
  class_of-place i x name at same = class_of-at w name i x at same (others_differ name i x at same)

  names_rise : IsSortedBy (λ (a b : ClassDef). is_lt (compared a.name b.name)) w
  names_rise k d low high = before_not_after (get_or w k d).name (get_or w (k + 1) d).name (sorted.rises k (k + 1) (get_or w k d) (get_or w (k + 1) d) (omega arith) (slice_get-get_or w k d (omega arith)) (slice_get-get_or w (k + 1) d high))

  pub searched : (name : Name) (r : Result ℕ ℕ) → IsBinarySearchResult (λ (c : ClassDef). compared c.name name) w r → MatchResult r (λ i. (x : ClassDef) → slice_get w i ≡ Some x → class_of w name ≡ Some x) (λ _. class_of w name ≡ None)
  searched name (Ok i) equal = λ x at. class_of-place i x name at (same_compared x.name name (subst (λ (k : ClassDef). compared k.name name ≡ Equal) (get_or_from_slice_get w i x x at) (equal x)))
  searched name (Err i) parted = class_of-none w name differs
    where
      rising : IsPartitionPoint (λ (c : ClassDef). compared c.name name ≡ Less) (λ (c : ClassDef). compared c.name name ≡ Greater) w i
      rising = parted (searchable_from_sorted nat_list_cmp_total (λ (c : ClassDef). c.name) w name names_rise)

      at_side : (j : ℕ) (y : ClassDef) → slice_get w j ≡ Some y → (j < i) ⊎ (i ≤ j) → is_same y.name name ≡ false
      at_side j y h (inl lt) = differs_less y.name name (subst (λ (k : ClassDef). compared k.name name ≡ Less) (get_or_from_slice_get w j y y h) (rising.0 j y (omega arith) lt))
      at_side j y h (inr le) = differs_greater y.name name (subst (λ (k : ClassDef). compared k.name name ≡ Greater) (get_or_from_slice_get w j y y h) (rising.1 j y le (slice_get_within w j y h)))

      differs : (j : ℕ) (y : ClassDef) → slice_get w j ≡ Some y → is_same y.name name ≡ false
      differs j y h = at_side j y h (grind arith)

pub name_is : (w : Classes) (name : Name) (x : ClassDef) → Some x ≡ class_of w name → x.name ≡ name
name_is w name x e = name_of_class w name x (sym e)
