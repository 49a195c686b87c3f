-- The laws of worlds.
use Rattle.std.proofs.Common.{◌≡◌, ℕ, ◌<◌, slice_get, Some, refl, sym, ap, ◌∙◌, subst, arith, inl, inr}
use Rattle.std.specs.Prelude.{◌⊎◌, codes}
use Rattle.sj_names.specs.declared.references.ArrayRef.{ArrayRef}
use Rattle.sj_names.specs.declared.references.BaseRef.{BaseRef}
use Rattle.sj_names.specs.declared.method_names.MethodName.{MethodName}
use Rattle.sj_trees.specs.declared.types.IrType.{IrType}
use Rattle.sj_trees.specs.declared.types.IrType.TheVariants.{Any, Nothing, Undefined, Boolean, Char, Byte, Short, Int, Long, String, Null, Class, Array, NoType}
use Rattle.sj_trees.specs.declared.classes.ClassDef.{ClassDef}
use Rattle.sj_trees.specs.declared.classes.MethodDef.{MethodDef}
use Rattle.sj_world.specs.Known.{Name, Classes, object}
use Rattle.sj_world.specs.Paths.{Path, stay, on}
use Rattle.sj_world.specs.Ancestors.{IsAncestor, IsParent, Way, by_path, is_object}
use Rattle.sj_world.specs.Subtypes.{IsSub, IsSubBase, equal, from_nothing, equal_bases, classes}
use Rattle.sj_world.specs.Under.{IsUnder, IsUnderClass, IsUnderArray, AreAlike, IsDeeper}
use Rattle.sj_world.specs.Resolution.{IsBodyAt, HasNoBody, Passes, begin, up}
use Rattle.sj_world.specs.Laws.{AncestorsRise, SubtypesReflexive, SubtypesTransitive, BodiesInherited, IsTopped}
use Rattle.sj_world.proofs.Subtyped.{parted, under_sub}

pub joined : {X : Type 0} (Step : X → X → Type 0) (a b c : X) → Path Step a b → Path Step b c → Path Step a c
joined Step a b c first stay = first
joined Step a b c first (on d e path step) = on d c (joined Step a b d first path) step

pub ancestors_rise : AncestorsRise
ancestors_rise w topped a b c first second = record { known = first.known; way = go first.way second.way }
  where
    go : Way w a b → Way w b c → Way w a c
    go _ (is_object e) = is_object e
    go (by_path lower) (by_path upper) = by_path (joined (IsParent w) a b c lower upper)
    go (is_object e) (by_path upper) = is_object (topped.top c (subst (λ (x : Name). IsAncestor w x c) e second))

pub subtypes_reflexive : SubtypesReflexive
subtypes_reflexive w t = equal refl

module _ (w : Classes) where
  not_nothing_at_all : (s : IrType) (d : Name) → IsUnderClass w s d → s ≡ NoType → ⊥
  not_nothing_at_all s d h e = subst (λ (x : IrType). IsUnderClass w x d) e h

  not_no_array : (s : IrType) (b : ArrayRef) → IsUnderArray w s b → s ≡ NoType → ⊥
  not_no_array s b h e = subst (λ (x : IrType). IsUnderArray w x b) e h

  module _ (topped : IsTopped w) where
    class_more : (s : IrType) (c d : Name) → IsUnderClass w s c → IsAncestor w c d → IsUnderClass w s d
    class_more Null c d h a = tt
    class_more (Class k) c d h a = ancestors_rise w topped k c d h a
    class_more Undefined c d h a = ancestors_rise w topped (codes "java.lang.Void") c d h a
    class_more Boolean c d h a = ancestors_rise w topped (codes "java.lang.Boolean") c d h a
    class_more Char c d h a = ancestors_rise w topped (codes "java.lang.Character") c d h a
    class_more Byte c d h a = ancestors_rise w topped (codes "java.lang.Byte") c d h a
    class_more Short c d h a = ancestors_rise w topped (codes "java.lang.Short") c d h a
    class_more Int c d h a = ancestors_rise w topped (codes "java.lang.Integer") c d h a
    class_more Long c d h a = ancestors_rise w topped (codes "java.lang.Long") c d h a
    class_more String c d h a = ancestors_rise w topped (codes "java.lang.String") c d h a
    class_more _ c d h a = absurd h

    base_more : (a b c : BaseRef) → IsSubBase w a b → IsSubBase w b c → IsSubBase w a c
    base_more a b c (equal_bases e) h = subst (λ (x : BaseRef). IsSubBase w x c) (sym e) h
    base_more a b c (classes p q e f h) (equal_bases k) = subst (λ (x : BaseRef). IsSubBase w a x) k (classes p q e f h)
    base_more a b c (classes p q e f h) (classes r s g k l) = let same : BaseRef.Class q ≡ BaseRef.Class r = sym f ∙ g in let n : q ≡ r = cc in classes p s e k (ancestors_rise w topped p q s h (subst (λ (x : Name). IsAncestor w x s) (sym n) l))

    base_topped : (b c : BaseRef) → b ≡ BaseRef.Class object → IsSubBase w b c → c ≡ BaseRef.Class object
    base_topped b c e (equal_bases f) = sym f ∙ e
    base_topped b c e (classes p q f g h) = let same : BaseRef.Class p ≡ BaseRef.Class object = sym f ∙ e in let n : p ≡ object = cc in g ∙ ap (λ (x : Name). BaseRef.Class x) (topped.top q (subst (λ (x : Name). IsAncestor w x q) n h))

    array_more : (a b c : ArrayRef) → AreAlike w a b ⊎ IsDeeper a b → AreAlike w b c ⊎ IsDeeper b c → AreAlike w a c ⊎ IsDeeper a c
    array_more a b c (inl h) (inl k) = inl (record { dimensions = h.dimensions ∙ k.dimensions; bases = base_more a.base b.base c.base h.bases k.bases })
    array_more a b c (inl h) (inr k) = inr (record { dimensions = omega (arith, h.dimensions, k.dimensions); base = k.base })
    array_more a b c (inr h) (inl k) = inr (record { dimensions = omega (arith, h.dimensions, k.dimensions); base = base_topped b.base c.base h.base k.bases })
    array_more a b c (inr h) (inr k) = inr (record { dimensions = omega (arith, h.dimensions, k.dimensions); base = k.base })

    under_array_more : (s : IrType) (b c : ArrayRef) → IsUnderArray w s b → AreAlike w b c ⊎ IsDeeper b c → IsUnderArray w s c
    under_array_more Null b c h k = tt
    under_array_more (Array a) b c h k = array_more a b c h k
    under_array_more _ b c h k = absurd h

    below_class : (s u : IrType) (c : Name) → IsUnderClass w s c → IsUnder w (Class c) u → IsUnder w s u
    below_class s Any c h k = not_nothing_at_all s c h
    below_class s (Class d) c h k = class_more s c d h k
    below_class s (Array b) c h k = absurd k
    below_class s _ c h k = absurd k

    below_array : (s u : IrType) (b : ArrayRef) → IsUnderArray w s b → IsUnder w (Array b) u → IsUnder w s u
    below_array s Any b h k = not_no_array s b h
    below_array s (Class d) b h k = absurd k
    below_array s (Array c) b h k = under_array_more s b c h k
    below_array s _ b h k = absurd k

    below_any : (s u : IrType) → (s ≡ NoType → ⊥) → IsUnder w Any u → IsUnder w s u
    below_any s Any h k = h
    below_any s (Class d) h k = absurd k
    below_any s (Array b) h k = absurd k
    below_any s _ h k = absurd k

    under_more : (s t u : IrType) → IsUnder w s t → IsUnder w t u → IsUnder w s u
    under_more s Any u h k = below_any s u h k
    under_more s (Class c) u h k = below_class s u c h k
    under_more s (Array b) u h k = below_array s u b h k
    under_more s _ u h k = absurd h

    under_nothing : (s : IrType) → IsUnder w s Nothing → ⊥
    under_nothing s h = h

    sub_more : (s t u : IrType) → IsSub w s t → IsSub w t u → IsSub w s u
    sub_more s t u h k = go (parted w s t h) (parted w t u k)
      where
        go : (s ≡ t) ⊎ ((s ≡ Nothing) ⊎ IsUnder w s t) → (t ≡ u) ⊎ ((t ≡ Nothing) ⊎ IsUnder w t u) → IsSub w s u
        go (inl e) p = subst (λ (x : IrType). IsSub w x u) (sym e) k
        go (inr (inl e)) p = from_nothing e
        go (inr (inr a)) (inl e) = subst (λ (x : IrType). IsSub w s x) e h
        go (inr (inr a)) (inr (inl e)) = absurd (under_nothing s (subst (λ (x : IrType). IsUnder w s x) e a))
        go (inr (inr a)) (inr (inr b)) = under_sub w s u (under_more s t u a b)

pub subtypes_transitive : SubtypesTransitive
subtypes_transitive w topped s t u h k = sub_more w topped s t u h k

pub bodies_inherited : BodiesInherited
bodies_inherited w c d m body owner none next nearest = record { passes = from owner nearest.passes; body = nearest.body }
  where
    from : (o : Name) → Passes w (HasNoBody w m) d o → Passes w (HasNoBody w m) c o
    from o begin = up c d begin none next
    from o (up b e before lacks step) = up b o (from b before) lacks step

module _ (w : Classes) (m : MethodName) where
  pub same_body : (n : Name) (d e : MethodDef) → IsBodyAt w m n d → IsBodyAt w m n e → d ≡ e
  same_body n d e h k = by_place (places h.first.place k.first.place)
    where
      same_class : h.class ≡ k.class
      same_class = let s : Some h.class ≡ Some k.class = sym h.is_class ∙ k.is_class in cc

      moved : slice_get h.class.methods k.first.place ≡ Some e
      moved = subst (λ (x : ClassDef). slice_get x.methods k.first.place ≡ Some e) (sym same_class) k.first.stands

      moved_back : slice_get k.class.methods h.first.place ≡ Some d
      moved_back = subst (λ (x : ClassDef). slice_get x.methods h.first.place ≡ Some d) same_class h.first.stands

      places : (i j : ℕ) → (i < j) ⊎ ((i ≡ j) ⊎ (j < i))
      places i j = grind arith

      by_place : (h.first.place < k.first.place) ⊎ ((h.first.place ≡ k.first.place) ⊎ (k.first.place < h.first.place)) → d ≡ e
      by_place (inl lt) = absurd (k.first.none_before h.first.place d lt moved_back h.first.has)
      by_place (inr (inl p)) = let s : Some d ≡ Some e = sym h.first.stands ∙ ap (slice_get h.class.methods) p ∙ moved in cc
      by_place (inr (inr lt)) = absurd (h.first.none_before k.first.place e lt moved k.first.has)
