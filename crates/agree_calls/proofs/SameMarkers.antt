-- Constants with the marker of a hijacked class, or with that of the class of all objects, are those of the class.
use Rattle.std.proofs.Common.{◌≡◌, ℕ, true, List, Some, sym, ap, ◌∙◌, subst}
use Rattle.std.specs.Prelude.{codes}
use Rattle.array_code.proofs.Hijacking.{alone, itself, kind_hijacked}
use Rattle.array_code.specs.Kind.{Kind}
use Rattle.array_code.specs.Words.{object_class, kind_class}
use Rattle.dispatch_laws.specs.Ancestors.{IsAncestor}
use Rattle.dispatch_laws.specs.SjWorldLaws.{IsPlain}
use Rattle.dispatch_laws.specs.States as ir
use Rattle.js_mean.specs.States as js
use Rattle.agree_bodies.proofs.Topped.{topped}
use Rattle.agree_bodies.specs.Settings.{Place, SameState, IsConstantsOf, MarksAncestors}
use Rattle.agree_bodies.specs.Worlds.{World}
use Rattle.sj_mangling.specs.Bindings.{class_binding}
use Rattle.sj_mangling.specs.declared.bindings.ClassBinding.TheVariants.{Marker}
use Rattle.sj_names.proofs.Same.{text-same, text-refl}
use Rattle.sj_names.specs.Same.{is_same_text}
use Rattle.agree_calls.proofs.Sameness.{both_pass}

module _ (p : Place) (plain : IsPlain p.classes) (w : World) (s : ir.State) (u : js.State) (same : SameState p w s u) where
  module _ (c d : List ℕ) (x : js.Value) (k : IsConstantsOf w.owned c x) (e : is_same_text (class_binding Marker c) (class_binding Marker d) ≡ true) where
    marks : MarksAncestors p.classes k.constants
    marks = same.heaps.marked k.address k.constants k.owned_there

    marked_too : k.constants (codes "s") ≡ Some (js.text (class_binding Marker d))
    marked_too = k.marked ∙ ap (λ (m : List ℕ). Some (js.text m)) (text-same (class_binding Marker c) (class_binding Marker d) e)

    -- two classes with one marker have the same classes above them
    shared : (b : List ℕ) → IsAncestor p.classes c b → IsAncestor p.classes d b
    shared b a = (marks.above d b marked_too).0 ((marks.above c b k.marked).1 a)

    shared_back : (b : List ℕ) → IsAncestor p.classes d b → IsAncestor p.classes c b
    shared_back b a = (marks.above c b k.marked).0 ((marks.above d b marked_too).1 a)

  pub of_kind : (j : Kind) (c : List ℕ) (x : js.Value) → IsConstantsOf w.owned c x → is_same_text (class_binding Marker c) (class_binding Marker (kind_class j)) ≡ true → c ≡ kind_class j
  of_kind j c x k e = alone p.classes plain (kind_class j) (kind_hijacked j) c (shared_back c (kind_class j) x k e (kind_class j) (itself p.classes plain (kind_class j) (kind_hijacked j)))

  -- where each class that has constants stands above itself
  pub told_by_known : ((c : List ℕ) (x : js.Value) → IsConstantsOf w.owned c x → IsAncestor p.classes c c) → (c : List ℕ) (x : js.Value) → IsConstantsOf w.owned c x → is_same_text (class_binding Marker c) (class_binding Marker object_class) ≡ is_same_text c object_class
  told_by_known known c x k = both_pass (is_same_text (class_binding Marker c) (class_binding Marker object_class)) (is_same_text c object_class) there back
    where
      there : is_same_text (class_binding Marker c) (class_binding Marker object_class) ≡ true → is_same_text c object_class ≡ true
      there e = subst (λ (n : List ℕ). is_same_text n object_class ≡ true) (sym ((topped p.classes plain).top c (shared c object_class x k e c (known c x k)))) (text-refl object_class)

      back : is_same_text c object_class ≡ true → is_same_text (class_binding Marker c) (class_binding Marker object_class) ≡ true
      back e = subst (λ (n : List ℕ). is_same_text (class_binding Marker n) (class_binding Marker object_class) ≡ true) (sym (text-same c object_class e)) (text-refl (class_binding Marker object_class))
