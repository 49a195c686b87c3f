-- The parts of a class, one by one.
use Rattle.std.proofs.Common.{rules, ◌≡◌, ◌∙◌, ◌+◌, ◌<◌, Bool, true, false, List, [], ◌∷◌, ◌++◌, Some, IsTrue, sym, ap, subst, map, length, get_or, arith}
use Rattle.std.specs.Prelude.{◌↔◌}
use Rattle.std.specs.Cmp.{IsStrictWeakOrder}
use Rattle.std.specs.Cmp.Lexicographic.{nat_list_cmp_total}
use Rattle.std.specs.List.Sorted.{IsPermutation, IsSortedBy, IsSorted}
use Rattle.std.specs.Ordering.{is_lt}
use Rattle.std.proofs.lemmas.Cmp.{on_total}
use Rattle.std.proofs.lemmas.List.{length-map, get_or-map, map-append}
use Rattle.std.proofs.lemmas.List.MinMax.{ranks_by}
use Rattle.std.proofs.lemmas.List.Sorted.{IsPermutation-map}
use Rattle.sj_emit_help_spec.specs.Words.{kind_class}
use Rattle.sj_emit_help_spec.specs.declared.kinds.Kind.{Kind}
use Rattle.sj_emit_class_spec.specs.Classes as classes
use Rattle.sj_emit_class_spec.specs.Classes.{AreSorted, field_cmp, AreInstances, AreReached}
use Rattle.sj_trees.specs.declared.classes.ClassDef.{ClassDef}
use Rattle.sj_trees.specs.declared.classes.FieldDef.{FieldDef}
use Rattle.sj_world.specs.Ancestors.{IsAncestor}
use Rattle.sj_world.specs.Known.{Name, Classes, class_of, is_known}
use Rattle.sj_world.specs.declared.facts.Fact.{Fact}
use Rattle.sj_emit_class.specs.Statics.{IsReachedStatic}
use denote.Ref.{Bor}

abbrev pub field_of : Bor FieldDef → FieldDef
field_of f = f.now

abbrev pub is_lower : Bor FieldDef → Bor FieldDef → Bool
is_lower a b = is_lt (field_cmp a.now b.now)

pub lower_ranks : IsStrictWeakOrder is_lower
lower_ranks = ranks_by (on_total (λ (f : FieldDef). f.name) nat_list_cmp_total) field_of

sorted_mapped : (fields : List (Bor FieldDef)) → IsSortedBy is_lower fields → IsSorted field_cmp (map field_of fields)
sorted_mapped [] sorted k d low within = absurd (omega (arith, within))
sorted_mapped (f ∷ fs) sorted k d low within =
    let same : length (map field_of (f ∷ fs)) ≡ length (f ∷ fs) = length-map (f ∷ fs) field_of in
    let inside : k + 1 < length (f ∷ fs) = omega (arith, within, same) in
    let inside_too : k < length (f ∷ fs) = omega (arith, inside) in
    let is_one : get_or (map field_of (f ∷ fs)) k d ≡ field_of (get_or (f ∷ fs) k f) = get_or-map field_of (f ∷ fs) k f d inside_too in
    let is_next : get_or (map field_of (f ∷ fs)) (k + 1) d ≡ field_of (get_or (f ∷ fs) (k + 1) f) = get_or-map field_of (f ∷ fs) (k + 1) f d inside in
    ap (λ (g : FieldDef). is_lt (field_cmp g (get_or (map field_of (f ∷ fs)) k d))) is_next
    ∙ ap (λ (g : FieldDef). is_lt (field_cmp (field_of (get_or (f ∷ fs) (k + 1) f)) g)) is_one
    ∙ sorted k f low inside

pub are_sorted : (before after : List (Bor FieldDef)) → IsPermutation before after → IsSortedBy is_lower after → AreSorted (map field_of before) (map field_of after)
are_sorted before after moved sorted = record { exact = IsPermutation-map field_of before after moved; in_order = sorted_mapped after sorted }

-- a known class
not_unknown : (b : Bool) → b ≡ true → b ≡ false → ⊥
not_unknown b t f = let e : true ≡ false = sym t ∙ f in cc

pub is_there : (w : Classes) (c : Name) (class : ClassDef) → class_of w c ≡ Some class → is_known w c ≡ false → ⊥
is_there w c class is = not_unknown (is_known w c) (search rules)

-- one field more
pub one_reached : (known : List Fact) (c : Name) (f : FieldDef) (old new : List FieldDef) → IsReachedStatic known c f → new ≡ old ++ f ∷ [] → (fs : List FieldDef) → AreReached known c fs old → AreReached known c (fs ++ f ∷ []) new
one_reached known c f old new h put fs are = subst (AreReached known c (fs ++ f ∷ [])) (sym put) (classes.AreReached.reached f fs old are h.is_static h.reached)

pub one_other : (known : List Fact) (c : Name) (f : FieldDef) (old : List FieldDef) → (IsReachedStatic known c f → ⊥) → (fs : List FieldDef) → AreReached known c fs old → AreReached known c (fs ++ f ∷ []) old
one_other known c f old none fs are = classes.AreReached.other f fs old are (λ s h. none (record { is_static = s; reached = h }))

-- one kind more
pub one_instance : (w : Classes) (c : Name) (k : Kind) (old new : List Kind) → IsAncestor w (kind_class k) c → new ≡ old ++ k ∷ [] → (ks : List Kind) → AreInstances w c ks old → AreInstances w c (ks ++ k ∷ []) new
one_instance w c k old new h put ks are = subst (AreInstances w c (ks ++ k ∷ [])) (sym put) (classes.AreInstances.instance k ks old are h)

pub one_not_instance : (w : Classes) (c : Name) (k : Kind) (old : List Kind) → (IsAncestor w (kind_class k) c → ⊥) → (ks : List Kind) → AreInstances w c ks old → AreInstances w c (ks ++ k ∷ []) old
one_not_instance w c k old none ks are = classes.AreInstances.other k ks old are none

pub as_instance : (w : Classes) (c : Name) (k : Kind) (class : Name) (r : Bool) → class ≡ kind_class k → IsTrue r ↔ IsAncestor w class c → IsTrue r ↔ IsAncestor w (kind_class k) c
as_instance w c k class r is f = subst (λ (d : Name). IsTrue r ↔ IsAncestor w d c) is f

pub not_true : (b : Bool) → b ≡ true → b ≡ false → ⊥
not_true = not_unknown

pub put_field : (old new : List (Bor FieldDef)) (f : Bor FieldDef) → new ≡ old ++ f ∷ [] → map field_of new ≡ map field_of old ++ f.now ∷ []
put_field old new f put = ap (map field_of) put ∙ map-append field_of old (f ∷ [])
