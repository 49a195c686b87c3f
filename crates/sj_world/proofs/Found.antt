-- What paths of parents lead to, and with `java.lang.Object` the ancestors.
use Rattle.std.proofs.Common.{◌≡◌, true, [], ◌∷◌, Contains, sym, subst, inl, inr}
use Rattle.std.specs.Prelude.{◌↔◌, ◌⊎◌}
use Rattle.std.specs.Ordering.{nat_cmp}
use Rattle.std.specs.Cmp.Lexicographic.{slice_cmp}
use Rattle.std.specs.List.{IsDistinct}
use Rattle.std.specs.List.Sorted.{IsSorted, IsPermutation}
use Rattle.std.proofs.lemmas.List.Sorted.{Contains-permutation, IsPermutation-sym}
use Rattle.std.proofs.lemmas.List.Elements.{Contains-push}
use Rattle.indexmap.specs.IndexSet.{insert_key}
use Rattle.sj_world.specs.Known.{Name, Classes, is_same, is_known, object}
use Rattle.sj_world.specs.Paths.{Path}
use Rattle.sj_world.specs.Ancestors.{IsAncestor, IsParent, Way, by_path, is_object}
use Rattle.sj_world.specs.Tables.{AreAncestors}
use Rattle.sj_world.proofs.Names.{Names}
use Rattle.sj_world.proofs.Orders.{same_name}
use Rattle.worklist.proofs.Inserted.{only_one, from-insert_all, into-insert_all, each-insert_all}

pub ancestors_found : (w : Classes) (name : Name) (keys found : Names) → found ≡ insert_key is_same keys object → is_known w name ≡ true → ((x : Name) → Contains keys x ↔ Path (IsParent w) name x) → (x : Name) → Contains found x ↔ IsAncestor w name x
ancestors_found w name keys found e known paths x = (λ h. record { known = known; way = way (from-insert_all is_same keys (object ∷ []) x (subst (λ (l : Names). Contains l x) e h)) }, λ a. subst (λ (l : Names). Contains l x) (sym e) (among a.way))
  where
    way : Contains keys x ⊎ Contains (object ∷ []) x → Way w name x
    way (inl led) = by_path ((paths x).0 led)
    way (inr last) = is_object (sym (only_one object x last))

    among : Way w name x → Contains (insert_key is_same keys object) x
    among (by_path path) = into-insert_all is_same keys (object ∷ []) x ((paths x).1 path)
    among (is_object e) = each-insert_all is_same same_name keys (object ∷ []) x (subst (λ (n : Name). Contains (object ∷ []) n) (sym e) (Contains-push [] object))

pub ancestors_sorted : (w : Classes) (name : Name) (keys sorted list : Names) → ((x : Name) → Contains keys x ↔ IsAncestor w name x) → IsPermutation keys sorted → IsSorted (slice_cmp nat_cmp) sorted → IsDistinct is_same sorted → list ≡ sorted → AreAncestors w name list
ancestors_sorted w name keys sorted list exact p up once e = subst (AreAncestors w name) (sym e) (record {
  sorted = up;
  once = once;
  exact = λ x. (λ h. (exact x).0 (Contains-permutation sorted keys x (IsPermutation-sym keys sorted p) h), λ a. Contains-permutation keys sorted x p ((exact x).1 a));
})
