-- Which arrays are of which types: by the world, and by the helper.
use Rattle.std.proofs.Common.{◌≡◌, ℕ, arith, Bool, true, false, ◌||◌, ◌&&◌, List, [], refl, sym, ap, ◌∙◌, subst, ◌⊎◌, inl, inr}
use Rattle.std.proofs.lemmas.Bool.{or_cases, or_right}
use Rattle.std.proofs.lemmas.Bool.Decides.{nat_tests}
use Rattle.std.specs.Prelude.{◌==◌, ◌↔◌, nat_lt, is_some}
use Rattle.array_code.proofs.Covered.{cover_cases}
use Rattle.array_code.specs.Covering.{AreConstants, IsElementType, primitive, of_class, covers}
use Rattle.array_code.specs.Words.{object_class}
use Rattle.dispatch_laws.proofs.AncestorsFound.{ancestors_are_worked_out}
use Rattle.dispatch_laws.specs.Ancestors.{IsAncestor}
use Rattle.dispatch_laws.specs.Dispatch.{is_ancestor, is_array_below, is_base_below}
use Rattle.dispatch_laws.specs.States as ir
use Rattle.js_mean.specs.States as js
use Rattle.agree_bodies.proofs.Heaps.{numbers-same, numbers-apart}
use Rattle.agree_bodies.specs.Settings.{Place, SameState, IsConstantsOf, StandsForBase}
use Rattle.agree_bodies.specs.Worlds.{World}
use Rattle.sj_mangling.specs.Bindings.{class_binding}
use Rattle.sj_mangling.specs.declared.bindings.ClassBinding.TheVariants.{Marker}
use Rattle.sj_names.proofs.Same.{text-same}
use Rattle.sj_names.specs.Same.{is_same_base, is_same_text}
use Rattle.sj_names.specs.Bases.{spelled_base}
use Rattle.sj_names.specs.declared.references.ArrayRef.{ArrayRef}
use Rattle.sj_names.specs.declared.references.BaseRef.{BaseRef}
use Rattle.agree_calls.proofs.Sameness.{both_pass}
use Rattle.agree_calls.proofs.Testing.{or_false}

module _ (p : Place) (w : World) (s : ir.State) (u : js.State) (same : SameState p w s u) (known : (c : List ℕ) (x : js.Value) → IsConstantsOf w.owned c x → IsAncestor p.classes c c) (told : (c : List ℕ) (x : js.Value) → IsConstantsOf w.owned c x → is_same_text (class_binding Marker c) (class_binding Marker object_class) ≡ is_same_text c object_class) where
  -- the constants of a class
  there : (c : List ℕ) (x : js.Value) (k : IsConstantsOf w.owned c x) → AreConstants u k.address c k.constants
  there c x k = record { stored = same.heaps.owned k.address (js.plain [] k.constants) k.owned_there; marker_is = k.marked }

  -- the base of a type of arrays, as the helper takes it
  pub element_there : (b : BaseRef) (x : js.Value) → StandsForBase w.owned b x → IsElementType u x
  element_there (BaseRef.Class c) x k = subst (IsElementType u) (sym k.is) (of_class k.address c k.constants (there c x k))
  element_there b x e = subst (IsElementType u) (sym e) (primitive (spelled_base b))

  marked : (c d : List ℕ) (x : js.Value) (k : IsConstantsOf w.owned c x) → is_some (k.constants (class_binding Marker d)) ≡ (is_same_text c d || is_ancestor p.classes c d)
  marked c d x k = both_pass (is_some (k.constants (class_binding Marker d))) (is_same_text c d || is_ancestor p.classes c d) (λ e. or_right (is_same_text c d) (is_ancestor p.classes c d) ((ancestors_are_worked_out p.classes c d).1 (marks.0 e))) (λ e. by (or_cases (is_same_text c d) (is_ancestor p.classes c d) e))
    where
      marks : (is_some (k.constants (class_binding Marker d)) ≡ true) ↔ IsAncestor p.classes c d
      marks = (same.heaps.marked k.address k.constants k.owned_there).above c d k.marked

      by : (is_same_text c d ≡ true) ⊎ (is_ancestor p.classes c d ≡ true) → is_some (k.constants (class_binding Marker d)) ≡ true
      by (inl e) = marks.1 (subst (IsAncestor p.classes c) (text-same c d e) (known c x k))
      by (inr e) = marks.1 ((ancestors_are_worked_out p.classes c d).0 e)

  -- of equal dimensions
  bases : (n : ℕ) (b c : BaseRef) (x y : js.Value) → StandsForBase w.owned b x → StandsForBase w.owned c y → covers u n x n y ≡ is_base_below p.classes b c
  bases n (BaseRef.Class c) (BaseRef.Class d) x y k l = (λ i. covers u n (k.is i) n (l.is i)) ∙ cover_cases.classes u n k.address l.address c d k.constants l.constants (there c x k) (there d y l) ∙ marked c d x k
  bases n (BaseRef.Class c) b x y k l = (λ i. covers u n (k.is i) n (l i)) ∙ cover_cases.class_by_primitive u n k.address (spelled_base b)
  bases n b (BaseRef.Class d) x y k l = (λ i. covers u n (k i) n (l.is i)) ∙ cover_cases.primitive_by_class u n (spelled_base b) l.address
  bases n b c x y k l = (λ i. covers u n (k i) n (l i)) ∙ cover_cases.primitives u n (spelled_base b) (spelled_base c)

  -- of more dimensions
  deeper : (n m : ℕ) (x y : js.Value) (c : BaseRef) → nat_lt m n ≡ true → StandsForBase w.owned c y → covers u n x m y ≡ is_same_base c (BaseRef.Class object_class)
  deeper n m x y (BaseRef.Class d) h l = ap (covers u n x m) l.is ∙ cover_cases.deeper_by_class u n m x l.address d l.constants h (there d y l) ∙ told d y l
  deeper n m x y b h l = ap (covers u n x m) l ∙ cover_cases.deeper_by_primitive u n m x (spelled_base b) h

  pub covers_is : (a b : ArrayRef) (x y : js.Value) → StandsForBase w.owned a.base x → StandsForBase w.owned b.base y → covers u a.dimensions x b.dimensions y ≡ is_array_below p.classes a b
  covers_is a b x y k l = by a.dimensions b.dimensions (a.dimensions == b.dimensions) refl (nat_lt b.dimensions a.dimensions) refl
    where
      by : (n m : ℕ) (e : Bool) → (n == m) ≡ e → (g : Bool) → nat_lt m n ≡ g → covers u n x m y ≡ ((e && is_base_below p.classes a.base b.base) || (g && is_same_base b.base (BaseRef.Class object_class)))
      by n m true e false g = subst (λ k. covers u n x k y ≡ (is_base_below p.classes a.base b.base || false)) (numbers-same n m e) (bases n a.base b.base x y k l ∙ sym (or_false (is_base_below p.classes a.base b.base)))
      by n m true e true g = let same : n ≡ m = numbers-same n m e in absurd (grind (arith, nat_tests, same, g))
      by n m false e true g = deeper n m x y b.base g l
      by n m false e false g = let apart : n ≡ m → ⊥ = numbers-apart n m e in let less : nat_lt n m ≡ true = grind (arith, nat_tests, apart, g) in cover_cases.shallower u n m x y less
