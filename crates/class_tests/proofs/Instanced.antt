-- Tests of classes and instances.
use Rattle.std.proofs.Common.{◌≡◌, ℕ, ℤ, Bool, true, false, List, [], ◌∷◌, slice_get, Option, Some, None, refl, sym, ap, ◌∙◌, subst, ◌||◌, inl, inr, ◌++◌, ⊎_elim, ◌⊎◌, Contains, zero, suc}
use Rattle.js_tree.specs.Terms.{Name}
use Rattle.class_code.specs.Known.{Classes, is_hijacked}
use Rattle.class_code.specs.Ancestors.{IsAncestor}
use Rattle.class_code.specs.Calls.{IsInstance, IsSmall}
use Rattle.js_mean.specs.States.{Value, object, ClassLink, State}
use Rattle.class_code.specs.Kind.{Kind}
use Rattle.class_code.specs.KindVariants.{Undefined, Boolean, Char, Byte, Short, Int, Long, Text}
use Rattle.class_code.specs.Words.{kind_class, worded_kinds}
use Rattle.class_code.specs.Classes.{AreInstances}
use Rattle.std.proofs.lemmas.List.Elements.{Contains-push, Contains-push_cases, Contains-append_left}
use Rattle.class_code.proofs.Searches.{contains_at, stands_at}
use Rattle.std.specs.List.{list_all}
use Rattle.std.proofs.lemmas.Bool.{and_parts}
use Rattle.class_tests.proofs.Telling.{nothing_in, one_kind}
use Rattle.class_tests.specs.Kinds.{is_of}
use Rattle.class_tests.specs.Tests.{class_told}
use Rattle.class_tests.specs.Instances.{is_worded, TestsTellInstances}

index : (k : Kind) → is_worded k ≡ true → (i : ℕ) × (slice_get worded_kinds i ≡ Some k)
index Undefined e = (0, refl)
index Boolean e = (1, refl)
index Int e = (2, refl)
index Long e = (3, refl)
index Text e = (4, refl)
index Char e = cc
index Byte e = cc
index Short e = cc

no_object : (s : State) (boxes : List ClassLink) (a : ℕ) (k : Kind) → is_worded k ≡ true → is_of s boxes k (object a) ≡ false
no_object s boxes a Undefined e = refl
no_object s boxes a Boolean e = refl
no_object s boxes a Int e = refl
no_object s boxes a Long e = refl
no_object s boxes a Text e = refl
no_object s boxes a Char e = cc
no_object s boxes a Byte e = cc
no_object s boxes a Short e = cc

-- each worded kind is one of those
worded_at : (ks : List Kind) (i : ℕ) (k : Kind) → list_all is_worded ks ≡ true → slice_get ks i ≡ Some k → is_worded k ≡ true
worded_at [] i k all e = cc
worded_at (j ∷ ks) zero k all e = let same : j ≡ k = cc in subst (λ (z : Kind). is_worded z ≡ true) same (and_parts (is_worded j) (list_all is_worded ks) all).0
worded_at (j ∷ ks) (suc i) k all e = worded_at ks i k (and_parts (is_worded j) (list_all is_worded ks) all).1 e

pub worded_among : (k : Kind) → Contains worded_kinds k → is_worded k ≡ true
worded_among k h = worded_at worded_kinds h.0 k refl (stands_at worded_kinds k h)

module _ (w : Classes) (c : Name) (s : State) (boxes : List ClassLink) where
  told_more : (ts : List Kind) (k : Kind) (v : Value) (b : Bool) → class_told s boxes (ts ++ k ∷ []) v b ≡ class_told s boxes ts v (is_of s boxes k v || b)
  told_more [] k v b = refl
  told_more (t ∷ ts) k v b = ap (λ (z : Bool). is_of s boxes t v || z) (told_more ts k v b)

  on_object : (a : ℕ) (b : Bool) (ks ts : List Kind) → ((k : Kind) → Contains ks k → is_worded k ≡ true) → AreInstances w c ks ts → class_told s boxes ts (object a) b ≡ b
  on_object a b _ _ words AreInstances.none_yet = refl
  on_object a b _ _ words (AreInstances.instance k ks ts h is) = told_more ts k (object a) b ∙ ap (λ (z : Bool). class_told s boxes ts (object a) (z || b)) (no_object s boxes a k (words k (Contains-push ks k))) ∙ on_object a b ks ts (λ j i. words j (Contains-append_left ks (k ∷ []) j i)) h
  on_object a b _ _ words (AreInstances.other k ks ts h not) = on_object a b ks ts (λ j i. words j (Contains-append_left ks (k ∷ []) j i)) h

  told_true : (ts : List Kind) (v : Value) → class_told s boxes ts v true ≡ true
  told_true [] v = refl
  told_true (t ∷ ts) v = ap (λ (z : Bool). is_of s boxes t v || z) (told_true ts v) ∙ either_true (is_of s boxes t v)
    where
      either_true : (a : Bool) → (a || true) ≡ true
      either_true true = refl
      either_true false = refl

  module _ (k : Kind) (v : Value) (of_k : is_of s boxes k v ≡ true) where
    -- where it is told it is an instance
    told_is : (ks ts : List Kind) → AreInstances w c ks ts → (b : Bool) → class_told s boxes ts v b ≡ true → IsAncestor w (kind_class k) c ⊎ (b ≡ true)
    told_is _ _ AreInstances.none_yet b e = inr e
    told_is _ _ (AreInstances.instance j ks ts h is) b e = ⊎_elim (λ a. inl a) (go (is_of s boxes j v) refl) (told_is ks ts h (is_of s boxes j v || b) (sym (told_more ts j v b) ∙ e))
      where
        go : (a : Bool) → is_of s boxes j v ≡ a → (is_of s boxes j v || b) ≡ true → IsAncestor w (kind_class k) c ⊎ (b ≡ true)
        go true f t = inl (subst (λ (z : Kind). IsAncestor w (kind_class z) c) (one_kind s boxes v j k f of_k) is)
        go false f t = inr (sym (ap (λ (z : Bool). z || b) f) ∙ t)
    told_is _ _ (AreInstances.other j ks ts h not) b e = told_is ks ts h b e

    -- and where it is an instance it is told
    is_told_at : (ks ts : List Kind) → AreInstances w c ks ts → Contains ks k → IsAncestor w (kind_class k) c → (b : Bool) → class_told s boxes ts v b ≡ true
    is_told_at _ _ AreInstances.none_yet i a b = nothing_in i
    is_told_at _ _ (AreInstances.instance j ks ts h is) i a b = told_more ts j v b ∙ ⊎_elim (λ l. is_told_at ks ts h l a (is_of s boxes j v || b)) (λ e. ap (λ (z : Bool). class_told s boxes ts v (z || b)) (ap (λ (z : Kind). is_of s boxes z v) e ∙ of_k) ∙ told_true ts v) (Contains-push_cases ks j k i)
    is_told_at _ _ (AreInstances.other j ks ts h not) i a b = ⊎_elim (λ l. is_told_at ks ts h l a b) (λ e. absurd (not (subst (λ (z : Kind). IsAncestor w (kind_class z) c) (sym e) a))) (Contains-push_cases ks j k i)

no_instance : {A : Type 0} → A ⊎ (false ≡ true) → A
no_instance (inl a) = a
no_instance (inr e) = cc

not_small : (c : Name) → is_hijacked c ≡ false → (number : Option ℤ) → IsSmall number c → ⊥
not_small c free None h = h
not_small c free (Some n) (inl b) = let e : true ≡ false = sym (ap is_hijacked b.class_is) ∙ free in cc
not_small c free (Some n) (inr b) = let e : true ≡ false = sym (ap is_hijacked b.class_is) ∙ free in cc

pub tests_tell_instances : TestsTellInstances
tests_tell_instances w c kinds free are = record {
  primitive = λ s boxes k v number word of_k. (λ e. inl (no_instance (told_is w c s boxes k v of_k worded_kinds kinds are false e)), λ h. to s boxes k v number word of_k h);
  object = λ s boxes a b. on_object w c s boxes a b worded_kinds kinds worded_among are;
}
  where
    to : (s : State) (boxes : List ClassLink) (k : Kind) (v : Value) (number : Option ℤ) → is_worded k ≡ true → is_of s boxes k v ≡ true → IsInstance w (kind_class k) number c → class_told s boxes kinds v false ≡ true
    to s boxes k v number word of_k (inl a) = let i = index k word in is_told_at w c s boxes k v of_k worded_kinds kinds are (contains_at worded_kinds i.0 k i.1) a false
    to s boxes k v number word of_k (inr small) = absurd (not_small c free number small)
