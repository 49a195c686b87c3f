-- A path of parents from a class that isn't hijacked ends at `java.lang.Object`, or is one of what is written.
use Rattle.std.proofs.Common.{◌≡◌, ◌⊎◌, Bool, true, false, Contains, Option, Some, None, refl, sym, ap, subst, inl, inr, cond}
use Rattle.accepted_folders.proofs.Lists.{from_filter}
use Rattle.sj_trees.specs.declared.classes.ClassDef.{ClassDef}
use Rattle.sj_world.specs.Known.{Name, Classes, class_of, is_known, is_hijacked, stands_as, object}
use Rattle.sj_world.specs.Paths.{Path, stay, on}
use Rattle.sj_world.specs.Ancestors.{IsParent, IsWritten, written_in, above_in, directly_above, listed, superclass_of_absent}
use Rattle.sj_world.specs.Laws.{IsPlain}
use Rattle.sj_world.proofs.Bodies.{stands_itself}
use Rattle.worklist.proofs.Inserted.{nothing_in, only_one}

module _ (w : Classes) where
  pub parent_cases : (b x : Name) → IsParent w b x → (object ≡ x) ⊎ IsWritten w (stands_as b) x
  parent_cases b x h = go (class_of w (stands_as b)) refl
    where
      above : Contains (above_in (class_of w (stands_as b)) (stands_as b)) x
      above = from_filter (is_known w) (directly_above w (stands_as b)) x h

      absent : (k : Bool) → is_hijacked (stands_as b) ≡ k → Contains (listed (superclass_of_absent (stands_as b))) x → object ≡ x
      absent true e there = only_one object x (subst (λ (o : Option Name). Contains (listed o) x) (ap (λ (k : Bool). cond k (Some object) None) e) there)
      absent false e there = nothing_in x (subst (λ (o : Option Name). Contains (listed o) x) (ap (λ (k : Bool). cond k (Some object) None) e) there)

      go : (o : Option ClassDef) → class_of w (stands_as b) ≡ o → (object ≡ x) ⊎ IsWritten w (stands_as b) x
      go (Some c) e = inr (subst (λ (o : Option ClassDef). Contains (written_in o) x) (sym e) (subst (λ (o : Option ClassDef). Contains (above_in o (stands_as b)) x) e above))
      go None e = inl (absent (is_hijacked (stands_as b)) refl (subst (λ (o : Option ClassDef). Contains (above_in o (stands_as b)) x) e above))

  module _ (plain : IsPlain w) where
    -- a path of parents from a class that isn't hijacked ends at `java.lang.Object`, or is one of what is written
    pub climbs : (d x : Name) → is_hijacked d ≡ false → Path (IsParent w) d x → (object ≡ x) ⊎ (Path (IsWritten w) d x × (is_hijacked x ≡ false))
    climbs d x h stay = inr (stay, h)
    climbs d x h (on b _ path step) = go (climbs d b h path) (parent_cases b x step)
      where
        go : (object ≡ b) ⊎ (Path (IsWritten w) d b × (is_hijacked b ≡ false)) → (object ≡ x) ⊎ IsWritten w (stands_as b) x → (object ≡ x) ⊎ (Path (IsWritten w) d x × (is_hijacked x ≡ false))
        go before (inl top) = inl top
        go (inl top) (inr text) = absurd (plain.topped x (subst (λ (n : Name). IsWritten w (stands_as n) x) (sym top) text))
        go (inr up) (inr text) = let named : IsWritten w b x = subst (λ (n : Name). IsWritten w n x) (stands_itself b up.1) text in inr (on b x up.0 named, plain.apart b x named)
