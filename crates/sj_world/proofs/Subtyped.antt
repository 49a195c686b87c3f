-- Subtypes by the type above, and names that stand among names in order.
use Rattle.std.proofs.Common.{◌≡◌, ℕ, ◌≤◌, ◌<◌, Bool, true, false, List, Contains, Option, Some, Result, Ok, Err, IsTrue, refl, sym, subst, length, get_or, arith, inl, inr}
use Rattle.std.specs.Prelude.{◌⊎◌, ◌↔◌, is_ok, codes}
use Rattle.std.specs.Ordering.{nat_cmp}
use Rattle.std.specs.Cmp.Lexicographic.{slice_cmp, nat_list_cmp_total}
use Rattle.std.specs.declared.cmp.Ordering.TheVariants.{Less, Greater}
use Rattle.std.specs.List.Sorted.{IsSorted, IsSearchInRange, IsBinarySearchResult, IsPartitionPoint}
use Rattle.std.proofs.lemmas.List.Sorted.{searchable_from_sorted}
use Rattle.sj_names.specs.declared.references.ArrayRef.{ArrayRef}
use Rattle.sj_names.specs.declared.references.BaseRef.{BaseRef}
use Rattle.sj_trees.specs.declared.types.IrType.{IrType}
use Rattle.sj_trees.specs.declared.types.IrType.TheVariants.{Any, Nothing, Undefined, Boolean, Char, Byte, Short, Int, Long, String, Null, Class, Array}
use Rattle.sj_world.specs.Known.{Name, Classes, is_same}
use Rattle.sj_world.specs.Ancestors.{IsAncestor}
use Rattle.sj_world.specs.Tables.{AreAncestors}
use Rattle.sj_world.specs.Subtypes.{IsSub, IsSubBase, hijacked_class, equal, from_nothing, to_any, null_to_class, null_to_array, class_to_class, primitive_to_class, arrays_alike, arrays_of_arrays, equal_bases, classes}
use Rattle.sj_world.specs.Under.{IsUnder, IsUnderClass, IsUnderArray, IsAncestorOfAny, IsClassUnder, AreAlike}
use Rattle.sj_world.proofs.Orders.{compared, same_name, same_compared, is_same_itself, differs_less, differs_greater}

differs_not : (a b : Name) → a ≡ b → is_same a b ≡ false → ⊥
differs_not a b e d = let t : is_same a b ≡ true = subst (λ (x : Name). is_same a x ≡ true) e (is_same_itself a) in cc

pub found_in : (names : List Name) (name : Name) (r : Result ℕ ℕ) → IsSorted (slice_cmp nat_cmp) names → IsSearchInRange r (length names) → IsBinarySearchResult (λ (y : Name). compared y name) names r → IsTrue (is_ok r) ↔ Contains names name
found_in names name (Ok i) sorted within at = (λ h. (i, within, same_name (get_or names i name) name (same_compared (get_or names i name) name (at name))), λ c. refl)
found_in names name (Err i) sorted within parted = (λ h. cc, λ c. absurd (none c (places c.0)))
  where
    rising : IsPartitionPoint (λ (y : Name). compared y name ≡ Less) (λ (y : Name). compared y name ≡ Greater) names i
    rising = parted (searchable_from_sorted nat_list_cmp_total (λ (n : Name). n) names name sorted)

    places : (k : ℕ) → (k < i) ⊎ (i ≤ k)
    places k = grind arith

    none : (c : Contains names name) → (c.0 < i) ⊎ (i ≤ c.0) → ⊥
    none c (inl lt) = differs_not (get_or names c.0 name) name c.2 (differs_less (get_or names c.0 name) name (rising.0 c.0 name (omega arith) lt))
    none c (inr le) = differs_not (get_or names c.0 name) name c.2 (differs_greater (get_or names c.0 name) name (rising.1 c.0 name le c.1))

pub ancestor_found : (w : Classes) (below above : Name) (names : List Name) (r : Bool) → AreAncestors w below names → IsTrue r ↔ Contains names above → IsTrue r ↔ IsAncestor w below above
ancestor_found w below above names r table both = (λ h. (table.exact above).0 (both.0 h), λ a. both.1 ((table.exact above).1 a))

-- one of two tests that stand one after the other
pub first_passed : {P Q : Type 0} (r : Bool) → IsTrue r ↔ P → r ≡ true → IsTrue r ↔ (P ⊎ Q)
first_passed r both e = (λ h. inl (both.0 h), λ c. e)

pub first_failed : {P Q : Type 0} (r q : Bool) → IsTrue r ↔ P → IsTrue q ↔ Q → r ≡ false → IsTrue q ↔ (P ⊎ Q)
first_failed {P} {Q} r q both then e = (λ h. inr (then.0 h), back)
  where
    back : P ⊎ Q → IsTrue q
    back (inl p) = let t : r ≡ true = both.1 p in cc
    back (inr k) = then.1 k

pub failed : {P : Type 0} (r : Bool) → IsTrue r ↔ P → r ≡ false → P → ⊥
failed r both e p = let t : r ≡ true = both.1 p in cc

module _ (w : Classes) where
  pub base_tested : (s t : BaseRef) (r : Bool) → IsTrue r ↔ IsClassUnder w s t → (s ≡ t → ⊥) → IsTrue r ↔ IsSubBase w s t
  base_tested s t r both differ = (λ h. forth s t (both.0 h), back)
    where
      forth : (s t : BaseRef) → IsClassUnder w s t → IsSubBase w s t
      forth (BaseRef.Class c) (BaseRef.Class d) a = classes c d refl refl a
      forth _ _ a = absurd a

      back : IsSubBase w s t → IsTrue r
      back (equal_bases e) = absurd (differ e)
      back (classes c d e f a) = both.1 (subst (λ (x : BaseRef). IsClassUnder w x t) (sym e) (subst (λ (x : BaseRef). IsClassUnder w (BaseRef.Class c) x) (sym f) a))

  pub alike_tested : (a b : ArrayRef) (r : Bool) → IsTrue r ↔ IsSubBase w a.base b.base → a.dimensions ≡ b.dimensions → IsTrue r ↔ AreAlike w a b
  alike_tested a b r both e = (λ h. record { dimensions = e; bases = both.0 h }, λ k. both.1 k.bases)

  under_class : (s : IrType) (d : Name) → IsUnderClass w s d → IsSub w s (Class d)
  under_class Null d h = null_to_class d refl refl
  under_class (Class c) d h = class_to_class c d refl refl h
  under_class Undefined d h = primitive_to_class (codes "java.lang.Void") d refl refl h
  under_class Boolean d h = primitive_to_class (codes "java.lang.Boolean") d refl refl h
  under_class Char d h = primitive_to_class (codes "java.lang.Character") d refl refl h
  under_class Byte d h = primitive_to_class (codes "java.lang.Byte") d refl refl h
  under_class Short d h = primitive_to_class (codes "java.lang.Short") d refl refl h
  under_class Int d h = primitive_to_class (codes "java.lang.Integer") d refl refl h
  under_class Long d h = primitive_to_class (codes "java.lang.Long") d refl refl h
  under_class String d h = primitive_to_class (codes "java.lang.String") d refl refl h
  under_class _ d h = absurd h

  under_array : (s : IrType) (b : ArrayRef) → IsUnderArray w s b → IsSub w s (Array b)
  under_array Null b h = null_to_array b refl refl
  under_array (Array a) b (inl k) = arrays_alike a b refl refl k.dimensions k.bases
  under_array (Array a) b (inr k) = arrays_of_arrays a b refl refl k.dimensions k.base
  under_array _ b h = absurd h

  pub under_sub : (s t : IrType) → IsUnder w s t → IsSub w s t
  under_sub s Any h = to_any refl h
  under_sub s (Class d) h = under_class s d h
  under_sub s (Array b) h = under_array s b h
  under_sub s _ h = absurd h

  class_above : (s : IrType) (c d : Name) → hijacked_class s ≡ Some c → IsAncestor w c d → IsUnderClass w s d
  class_above Null c d e a = tt
  class_above Undefined c d e a = subst (λ (o : Option Name). IsAncestorOfAny w o d) (sym e) a
  class_above Boolean c d e a = subst (λ (o : Option Name). IsAncestorOfAny w o d) (sym e) a
  class_above Char c d e a = subst (λ (o : Option Name). IsAncestorOfAny w o d) (sym e) a
  class_above Byte c d e a = subst (λ (o : Option Name). IsAncestorOfAny w o d) (sym e) a
  class_above Short c d e a = subst (λ (o : Option Name). IsAncestorOfAny w o d) (sym e) a
  class_above Int c d e a = subst (λ (o : Option Name). IsAncestorOfAny w o d) (sym e) a
  class_above Long c d e a = subst (λ (o : Option Name). IsAncestorOfAny w o d) (sym e) a
  class_above String c d e a = subst (λ (o : Option Name). IsAncestorOfAny w o d) (sym e) a
  class_above _ c d e a = cc

  -- a subtype is equal, nothing, or below by what is above
  pub parted : (s t : IrType) → IsSub w s t → (s ≡ t) ⊎ ((s ≡ Nothing) ⊎ IsUnder w s t)
  parted s t (equal e) = inl e
  parted s t (from_nothing e) = inr (inl e)
  parted s t (to_any e n) = inr (inr (subst (IsUnder w s) (sym e) n))
  parted s t (null_to_class d e f) = inr (inr (subst (IsUnder w s) (sym f) (subst (λ (x : IrType). IsUnderClass w x d) (sym e) tt)))
  parted s t (null_to_array b e f) = inr (inr (subst (IsUnder w s) (sym f) (subst (λ (x : IrType). IsUnderArray w x b) (sym e) tt)))
  parted s t (class_to_class c d e f a) = inr (inr (subst (IsUnder w s) (sym f) (subst (λ (x : IrType). IsUnderClass w x d) (sym e) a)))
  parted s t (primitive_to_class c d e f a) = inr (inr (subst (IsUnder w s) (sym f) (class_above s c d e a)))
  parted s t (arrays_alike a b e f g h) = inr (inr (subst (IsUnder w s) (sym f) (subst (λ (x : IrType). IsUnderArray w x b) (sym e) (inl (record { dimensions = g; bases = h })))))
  parted s t (arrays_of_arrays a b e f g h) = inr (inr (subst (IsUnder w s) (sym f) (subst (λ (x : IrType). IsUnderArray w x b) (sym e) (inr (record { dimensions = g; base = h })))))

  sub_under : (s t : IrType) → IsSub w s t → (s ≡ t → ⊥) → (s ≡ Nothing → ⊥) → IsUnder w s t
  sub_under s t h differ some = elim (parted s t h) [ inl e ↦ absurd (differ e) | inr (inl e) ↦ absurd (some e) | inr (inr k) ↦ k ]

  pub sub_tested : (s t : IrType) (r : Bool) → IsTrue r ↔ IsUnder w s t → (s ≡ t → ⊥) → (s ≡ Nothing → ⊥) → IsTrue r ↔ IsSub w s t
  sub_tested s t r both differ some = (λ h. under_sub s t (both.0 h), λ k. both.1 (sub_under s t k differ some))
