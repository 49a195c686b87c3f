-- Texts of which no two are the same.
use Rattle.std.proofs.Common.{◌≡◌, ◌≤◌, Bool, true, false, true≢false, List, [], ◌∷◌, ◌++◌, Contains, refl, sym, ap, ◌∙◌, subst, inl, inr, length}
use Rattle.std.specs.Prelude.{◌⊎◌}
use Rattle.std.specs.List.{IsDistinct, AllByRecursion}
use Rattle.std.specs.List.Sorted.{IsStrictlySortedBy}
use Rattle.std.specs.Ordering.{nat_cmp, is_eq}
use Rattle.std.specs.declared.cmp.Ordering.TheVariants.{Less}
use Rattle.std.specs.Cmp.Lexicographic.{slice_cmp, texts_ties, nat_list_eq_equiv}
use Rattle.std.proofs.lemmas.List.Elements.{Contains-append_cases}
use Rattle.std.proofs.lemmas.Map.Made.{length-le_from_is_member}
use Rattle.std.proofs.lemmas.Map.Views.{list_any-from_Contains}
use Rattle.indexmap.proofs.CallerLemmas.{Contains-list_any}
use Rattle.worklist.proofs.Inserted.{nothing_in}
use Rattle.sj_split.specs.Orders.{Bytes, is_same, AreIncreasing}
use Rattle.sj_split.proofs.Members.{at_first, further, cons_cases}
use Rattle.sj_split.proofs.Walked.{same_name}

pub differ : (a b : Bytes) → (a ≡ b → ⊥) → is_same a b ≡ false
differ a b n = go (is_same a b) refl
  where
    go : (v : Bool) → is_same a b ≡ v → is_same a b ≡ false
    go true e = absurd (n (same_name a b e))
    go false e = e

abbrev pub IsNew : Bytes → List Bytes → Type 0
IsNew text texts = AllByRecursion (λ y. is_same text y ≡ false) texts

pub new_by : (text : Bytes) (texts : List Bytes) → ((other : Bytes) → Contains texts other → text ≡ other → ⊥) → IsNew text texts
new_by text [] n = tt
new_by text (t ∷ ts) n = (differ text t (n t (at_first t ts)), new_by text ts (λ other h. n other (further t other ts h)))

pub new_is_not : (text : Bytes) (texts : List Bytes) (other : Bytes) → IsNew text texts → Contains texts other → text ≡ other → ⊥
new_is_not text [] other a h e = nothing_in other h
new_is_not text (t ∷ ts) other a h e = elim (cons_cases t other ts h) [ inl is ↦ true≢false (sym (ap (λ u. is_same text u) (is ∙ sym e) ∙ nat_list_eq_equiv.refl text) ∙ a.0) | inr later ↦ new_is_not text ts other a.1 later e ]

below_new : (text : Bytes) (texts : List Bytes) → AllByRecursion (λ y. slice_cmp nat_cmp text y ≡ Less) texts → IsNew text texts
below_new text [] b = tt
below_new text (t ∷ ts) b = (texts_ties text t ∙ ap is_eq b.0, below_new text ts b.1)

pub increasing_apart : (texts : List Bytes) → AreIncreasing texts → IsDistinct is_same texts
unfolding IsDistinct IsStrictlySortedBy
increasing_apart [] s = tt
increasing_apart (t ∷ ts) s = (below_new t ts s.0, increasing_apart ts s.1)

pub apart_none : IsDistinct is_same []
unfolding IsDistinct
apart_none = tt

pub apart_cons : (text : Bytes) (texts : List Bytes) → IsNew text texts → IsDistinct is_same texts → IsDistinct is_same (text ∷ texts)
unfolding IsDistinct
apart_cons text texts n d = (n, d)

pub apart_head : (text : Bytes) (texts : List Bytes) → IsDistinct is_same (text ∷ texts) → IsNew text texts
unfolding IsDistinct
apart_head text texts d = d.0

pub apart_tail : (text : Bytes) (texts : List Bytes) → IsDistinct is_same (text ∷ texts) → IsDistinct is_same texts
unfolding IsDistinct
apart_tail text texts d = d.1

pub apart_append : (xs ys : List Bytes) → IsDistinct is_same xs → IsDistinct is_same ys → ((t : Bytes) → Contains xs t → Contains ys t → ⊥) → IsDistinct is_same (xs ++ ys)
apart_append [] ys p q n = q
apart_append (x ∷ xs) ys p q n = apart_cons x (xs ++ ys) (new_by x (xs ++ ys) (λ u h e. by u e (Contains-append_cases xs ys u h))) (apart_append xs ys (apart_tail x xs p) q (λ t h k. n t (further x t xs h) k))
  where
    by : (u : Bytes) → x ≡ u → Contains xs u ⊎ Contains ys u → ⊥
    by u e (inl here) = new_is_not x xs u (apart_head x xs p) here e
    by u e (inr there) = n u (subst (λ z. Contains (x ∷ xs) z) e (at_first x xs)) there

-- texts that are all among others are no more than these
pub no_more : (xs ys : List Bytes) → IsDistinct is_same xs → ((t : Bytes) → Contains xs t → Contains ys t) → length xs ≤ length ys
no_more xs ys d inside = length-le_from_is_member nat_list_eq_equiv xs ys d (λ q m. list_any-from_Contains nat_list_eq_equiv q ys (inside q (Contains-list_any is_same same_name xs q m)))
