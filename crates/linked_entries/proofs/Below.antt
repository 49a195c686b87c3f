-- In a world without cycles, two classes of which each stands above the other are one, and so are two types of which each is a subtype of the other.
use Rattle.std.proofs.Common.{◌≡◌, ◌⊎◌, Bool, true, false, inl, inr, refl, sym, ap, subst, ◌∙◌, arith, if◌then◌else◌}
use Rattle.std.specs.Prelude.{nat_eq, codes}
use Rattle.std.specs.Cmp.Lexicographic.{pointwise, bytes_decides}
use Rattle.sj_names.specs.declared.references.ArrayRef.{ArrayRef}
use Rattle.sj_names.specs.declared.references.BaseRef.{BaseRef}
use Rattle.sj_names.specs.declared.references.TypeRef.{TypeRef}
use Rattle.sj_names.specs.declared.references.TypeRef.TheVariants as reference
use Rattle.sj_trees.specs.Types.{reference_type}
use Rattle.sj_trees.specs.declared.types.IrType.{IrType}
use Rattle.sj_trees.specs.declared.types.IrType.TheVariants.{Any, Nothing, Undefined, Boolean, Char, Byte, Short, Int, Long, String, Null, Class, Array, NoType}
use Rattle.sj_world.specs.Ancestors.{IsAncestor, IsParent, IsWritten, Way, by_path, is_object}
use Rattle.sj_world.specs.Known.{Name, Classes, is_hijacked, stands_as, object}
use Rattle.sj_world.specs.Laws.{IsPlain}
use Rattle.sj_world.specs.Paths.{Path, stay, on}
use Rattle.sj_world.specs.Refusals.{HasNoCycle}
use Rattle.sj_world.specs.Subtypes.{IsSub, IsSubBase, equal_bases, classes}
use Rattle.sj_world.specs.Under.{IsUnder, AreAlike, IsDeeper}
use Rattle.linked_entries.proofs.Parents.{parent_cases, climbs}
use Rattle.sj_world.proofs.LawsHold.{joined}
use Rattle.sj_world.proofs.Subtyped.{parted}
use Rattle.accepted_folders.proofs.Topped.{topped}

module _ (w : Classes) (none : HasNoCycle w) (plain : IsPlain w) where
  -- two paths of what is written, there and back
  no_way_back : (c d : Name) → Path (IsWritten w) c d → Path (IsWritten w) d c → c ≡ d
  no_way_back c _ stay back = refl
  no_way_back c d (on b _ path step) back = absurd (none.none b (record { parent = d; up = step; back = joined (IsWritten w) d c b back path }))

  at_top : (c : Name) → IsAncestor w object c → c ≡ object
  at_top c a = (topped w plain).top c a

  by_paths : (c d : Name) → IsAncestor w c d → IsAncestor w d c → Path (IsParent w) c d → Path (IsParent w) d c → c ≡ d
  by_paths c d a b path back = ends d path refl
    where
      top : object ≡ d → c ≡ d
      top e = at_top c (subst (λ (n : Name). IsAncestor w n c) (sym e) b) ∙ e

      other_top : object ≡ c → c ≡ d
      other_top e = sym e ∙ sym (at_top d (subst (λ (n : Name). IsAncestor w n d) (sym e) a))

      both : Path (IsWritten w) d c → (object ≡ d) ⊎ (Path (IsWritten w) c d × (is_hijacked d ≡ false)) → c ≡ d
      both written (inl e) = top e
      both written (inr there) = no_way_back c d there.0 written

      from_written : is_hijacked d ≡ false → (object ≡ c) ⊎ (Path (IsWritten w) d c × (is_hijacked c ≡ false)) → c ≡ d
      from_written free (inl e) = other_top e
      from_written free (inr written) = both written.0 (climbs w plain c d written.1 path)

      last : (n : Name) → (object ≡ d) ⊎ IsWritten w (stands_as n) d → c ≡ d
      last n (inl e) = top e
      last n (inr text) = let free : is_hijacked d ≡ false = plain.apart (stands_as n) d text in from_written free (climbs w plain d c free back)

      ends : (x : Name) → Path (IsParent w) c x → x ≡ d → c ≡ d
      ends _ stay e = e
      ends _ (on n x before step) e = last n (parent_cases w n d (subst (λ (y : Name). IsParent w n y) e step))

  -- each of two classes stands above the other only where they are one
  pub one_class : (c d : Name) → IsAncestor w c d → IsAncestor w d c → c ≡ d
  one_class c d a b = go a.way b.way
    where
      go : Way w c d → Way w d c → c ≡ d
      go (is_object e) other = at_top c (subst (λ (n : Name). IsAncestor w n c) e b) ∙ sym e
      go (by_path path) (is_object e) = e ∙ sym (at_top d (subst (λ (n : Name). IsAncestor w n d) e a))
      go (by_path path) (by_path back) = by_paths c d a b path back

  one_base : (s t : BaseRef) → IsSubBase w s t → IsSubBase w t s → s ≡ t
  one_base s t (equal_bases e) other = e
  one_base s t (classes c d e f a) (equal_bases g) = sym g
  one_base s t (classes c d e f a) (classes x y g h b) =
      let first : x ≡ d = cc in
      let second : y ≡ c = cc in
      let same : c ≡ d = one_class c d a (subst (λ (n : Name). IsAncestor w n c) first (subst (λ (n : Name). IsAncestor w x n) second b)) in
      e ∙ ap (λ n. BaseRef.Class n) same ∙ sym f

  one_array : (a b : ArrayRef) → AreAlike w a b ⊎ IsDeeper a b → AreAlike w b a ⊎ IsDeeper b a → a ≡ b
  one_array a b (inl h) (inl k) = let base : a.base ≡ b.base = one_base a.base b.base h.bases k.bases in (λ i. record { dimensions = h.dimensions i; base = base i })
  one_array a b (inl h) (inr k) = absurd (omega (arith, h.dimensions, k.dimensions))
  one_array a b (inr h) (inl k) = absurd (omega (arith, h.dimensions, k.dimensions))
  one_array a b (inr h) (inr k) = absurd (omega (arith, h.dimensions, k.dimensions))

  one_under : (s t : IrType) → IsUnder w s t → IsUnder w t s → s ≡ t
  one_under Any Any h k = refl
  one_under Any (Class d) h k = absurd h
  one_under Any (Array b) h k = absurd h
  one_under (Class c) Any h k = absurd k
  one_under (Class c) (Class d) h k = ap (λ n. Class n) (one_class c d h k)
  one_under (Class c) (Array b) h k = absurd h
  one_under (Array a) Any h k = absurd k
  one_under (Array a) (Class d) h k = absurd h
  one_under (Array a) (Array b) h k = ap (λ r. Array r) (one_array a b h k)
  one_under Nothing t h k = absurd k
  one_under Undefined t h k = absurd k
  one_under Boolean t h k = absurd k
  one_under Char t h k = absurd k
  one_under Byte t h k = absurd k
  one_under Short t h k = absurd k
  one_under Int t h k = absurd k
  one_under Long t h k = absurd k
  one_under String t h k = absurd k
  one_under Null t h k = absurd k
  one_under NoType t h k = absurd k
  one_under s Nothing h k = absurd h
  one_under s Undefined h k = absurd h
  one_under s Boolean h k = absurd h
  one_under s Char h k = absurd h
  one_under s Byte h k = absurd h
  one_under s Short h k = absurd h
  one_under s Int h k = absurd h
  one_under s Long h k = absurd h
  one_under s String h k = absurd h
  one_under s Null h k = absurd h
  one_under s NoType h k = absurd h

  -- each of two types is a subtype of the other only where they are one
  pub one_type : (s t : IrType) → IsSub w s t → IsSub w t s → s ≡ t
  one_type s t h k = go (parted w s t h) (parted w t s k)
    where
      go : (s ≡ t) ⊎ ((s ≡ Nothing) ⊎ IsUnder w s t) → (t ≡ s) ⊎ ((t ≡ Nothing) ⊎ IsUnder w t s) → s ≡ t
      go (inl e) other = e
      go (inr first) (inl e) = sym e
      go (inr (inl e)) (inr (inl f)) = e ∙ sym f
      go (inr (inl e)) (inr (inr f)) = absurd (subst (IsUnder w t) e f)
      go (inr (inr e)) (inr (inl f)) = absurd (subst (IsUnder w s) f e)
      go (inr (inr e)) (inr (inr f)) = one_under s t e f

-- the reference that stands for a type
reference_for : IrType → TypeRef
reference_for Any = reference.Class object
reference_for Boolean = reference.Boolean
reference_for Char = reference.Char
reference_for Byte = reference.Byte
reference_for Short = reference.Short
reference_for Int = reference.Int
reference_for Long = reference.Long
reference_for (Class c) = reference.Class c
reference_for (Array a) = reference.Array a
reference_for _ = reference.Void

stands_for : (r : TypeRef) → reference_for (reference_type r) ≡ r
unfolding reference_for
stands_for reference.Void = refl
stands_for reference.Boolean = refl
stands_for reference.Char = refl
stands_for reference.Byte = refl
stands_for reference.Short = refl
stands_for reference.Int = refl
stands_for reference.Long = refl
stands_for (reference.Array a) = refl
stands_for (reference.Class c) = go (pointwise nat_eq c (codes "java.lang.Object")) refl
  where
    go : (b : Bool) → pointwise nat_eq c (codes "java.lang.Object") ≡ b → reference_for (if b then Any else Class c) ≡ reference.Class c
    go true e = ap (λ n. reference.Class n) (sym ((bytes_decides c (codes "java.lang.Object")).0 e))
    go false e = refl

-- no two references stand for one type
pub one_reference : (r s : TypeRef) → reference_type r ≡ reference_type s → r ≡ s
one_reference r s e = sym (stands_for r) ∙ ap reference_for e ∙ stands_for s
