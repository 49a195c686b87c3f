-- Subtypes that are worked out are those of the world.
use Rattle.std.proofs.Common.{◌≡◌, ◌<◌, Bool, true, false, ◌&&◌, ◌||◌, not, ◌==◌, Option, Some, None, refl, sym, ap, subst, inl, inr, arith}
use Rattle.std.specs.Prelude.{◌⊎◌, nat_lt}
use Rattle.std.proofs.lemmas.Bool.{and_parts, and_from}
use Rattle.std.proofs.lemmas.Bool.Decides.{Decides-eqb}
use Rattle.ir_mean.specs.Dispatch.{is_ancestor, is_ancestor_of_any, is_base_below, is_array_below, is_below_class, is_under, is_sub}
use Rattle.sj_names.proofs.Same.{impossible, text-same, text-refl, base-same, base-refl}
use Rattle.sj_names.specs.Same.{is_same_base}
use Rattle.sj_names.specs.declared.references.ArrayRef.{ArrayRef}
use Rattle.sj_names.specs.declared.references.BaseRef.{BaseRef}
use Rattle.sj_trees.proofs.SameTypes.{type-same, type-refl}
use Rattle.sj_trees.specs.SameTypes.{is_same_type}
use Rattle.sj_trees.specs.declared.types.IrType.{IrType}
use Rattle.sj_trees.specs.declared.types.IrType.TheVariants.{Any, Nothing, Null, Class, Array, NoType}
use Rattle.sj_world.specs.Known.{Name, Classes, is_same, object}
use Rattle.sj_world.specs.Subtypes.{IsSub, IsSubBase, hijacked_class, equal, from_nothing, equal_bases, classes}
use Rattle.sj_world.specs.Under.{IsUnder, IsUnderClass, IsAncestorOfAny, AreAlike, IsDeeper}
use Rattle.sj_world.proofs.Subtyped.{parted, under_sub}
use Rattle.ir_mean.specs.DispatchLaws.{SubtypesAreWorkedOut}
use Rattle.ir_mean.proofs.AncestorsFound.{ancestors_are_worked_out, or_first, or_second, or_parts}

module _ (w : Classes) where
  base_there : (a b : BaseRef) → is_base_below w a b ≡ true → IsSubBase w a b
  base_there (BaseRef.Class c) (BaseRef.Class d) h = go (or_parts (is_same c d) (is_ancestor w c d) h)
    where
      go : (is_same c d ≡ true) ⊎ (is_ancestor w c d ≡ true) → IsSubBase w (BaseRef.Class c) (BaseRef.Class d)
      go (inl e) = equal_bases (ap BaseRef.Class (text-same c d e))
      go (inr e) = classes c d refl refl ((ancestors_are_worked_out w c d).0 e)
  base_there a b h = equal_bases (base-same a b h)

  base_itself : (a : BaseRef) → is_base_below w a a ≡ true
  base_itself (BaseRef.Class c) = or_first (is_same c c) (is_ancestor w c c) (text-refl c)
  base_itself a = base-refl a

  base_back : (a b : BaseRef) → IsSubBase w a b → is_base_below w a b ≡ true
  base_back a b (equal_bases e) = subst (λ (x : BaseRef). is_base_below w a x ≡ true) e (base_itself a)
  base_back a b (classes c d e f k) = subst (λ (x : BaseRef). is_base_below w x b ≡ true) (sym e) (subst (λ (x : BaseRef). is_base_below w (BaseRef.Class c) x ≡ true) (sym f) (or_second (is_same c d) (is_ancestor w c d) ((ancestors_are_worked_out w c d).1 k)))

  array_there : (a b : ArrayRef) → is_array_below w a b ≡ true → AreAlike w a b ⊎ IsDeeper a b
  array_there a b h = go (or_parts (a.dimensions == b.dimensions && is_base_below w a.base b.base) (nat_lt b.dimensions a.dimensions && is_same_base b.base (BaseRef.Class object)) h)
    where
      go : ((a.dimensions == b.dimensions && is_base_below w a.base b.base) ≡ true) ⊎ ((nat_lt b.dimensions a.dimensions && is_same_base b.base (BaseRef.Class object)) ≡ true) → AreAlike w a b ⊎ IsDeeper a b
      go (inl e) = let p = and_parts (a.dimensions == b.dimensions) (is_base_below w a.base b.base) e in inl (record { dimensions = (Decides-eqb a.dimensions b.dimensions).0 p.0; bases = base_there a.base b.base p.1 })
      go (inr e) =
          let p = and_parts (nat_lt b.dimensions a.dimensions) (is_same_base b.base (BaseRef.Class object)) e in
          let less : nat_lt b.dimensions a.dimensions ≡ true = p.0 in
          let below : b.dimensions < a.dimensions = grind arith in
          inr (record { dimensions = below; base = base-same b.base (BaseRef.Class object) p.1 })

  array_back : (a b : ArrayRef) → AreAlike w a b ⊎ IsDeeper a b → is_array_below w a b ≡ true
  array_back a b (inl k) = or_first (a.dimensions == b.dimensions && is_base_below w a.base b.base) (nat_lt b.dimensions a.dimensions && is_same_base b.base (BaseRef.Class object)) (and_from (a.dimensions == b.dimensions) (is_base_below w a.base b.base) ((Decides-eqb a.dimensions b.dimensions).1 k.dimensions) (base_back a.base b.base k.bases))
  array_back a b (inr k) =
      let below : b.dimensions < a.dimensions = k.dimensions in
      let less : nat_lt b.dimensions a.dimensions ≡ true = grind arith in
      or_second (a.dimensions == b.dimensions && is_base_below w a.base b.base) (nat_lt b.dimensions a.dimensions && is_same_base b.base (BaseRef.Class object)) (and_from (nat_lt b.dimensions a.dimensions) (is_same_base b.base (BaseRef.Class object)) less (subst (λ (x : BaseRef). is_same_base x (BaseRef.Class object) ≡ true) (sym k.base) (base-refl (BaseRef.Class object))))

  any_there : (o : Option Name) (d : Name) → is_ancestor_of_any w o d ≡ true → IsAncestorOfAny w o d
  any_there None d h = impossible h
  any_there (Some c) d h = (ancestors_are_worked_out w c d).0 h

  any_back : (o : Option Name) (d : Name) → IsAncestorOfAny w o d → is_ancestor_of_any w o d ≡ true
  any_back None d h = absurd h
  any_back (Some c) d h = (ancestors_are_worked_out w c d).1 h

  class_there : (s : IrType) (d : Name) → is_below_class w s d ≡ true → IsUnderClass w s d
  class_there Null d h = tt
  class_there (Class c) d h = (ancestors_are_worked_out w c d).0 h
  class_there s d h = any_there (hijacked_class s) d h

  class_back : (s : IrType) (d : Name) → IsUnderClass w s d → is_below_class w s d ≡ true
  class_back Null d h = refl
  class_back (Class c) d h = (ancestors_are_worked_out w c d).1 h
  class_back s d h = any_back (hijacked_class s) d h

  no_type : (s : IrType) → not (is_same_type s NoType) ≡ true → s ≡ NoType → ⊥
  no_type s h e = impossible (subst (λ (x : IrType). not (is_same_type x NoType) ≡ true) e h)

  some_type : (s : IrType) → (s ≡ NoType → ⊥) → not (is_same_type s NoType) ≡ true
  some_type s h = go (is_same_type s NoType) refl
    where
      go : (b : Bool) → is_same_type s NoType ≡ b → not b ≡ true
      go true e = absurd (h (type-same s NoType e))
      go false e = refl

  under_there : (s t : IrType) → is_under w s t ≡ true → IsUnder w s t
  under_there s Any h = no_type s h
  under_there s (Class d) h = class_there s d h
  under_there Null (Array b) h = tt
  under_there (Array a) (Array b) h = array_there a b h
  under_there s t h = impossible h

  under_back : (s t : IrType) → IsUnder w s t → is_under w s t ≡ true
  under_back s Any h = some_type s h
  under_back s (Class d) h = class_back s d h
  under_back Null (Array b) h = refl
  under_back (Array a) (Array b) h = array_back a b h
  under_back s t h = absurd h

  there : (s t : IrType) → is_sub w s t ≡ true → IsSub w s t
  there s t h = go (or_parts (is_same_type s t || is_same_type s Nothing) (is_under w s t) h)
    where
      first : (is_same_type s t ≡ true) ⊎ (is_same_type s Nothing ≡ true) → IsSub w s t
      first (inl e) = equal (type-same s t e)
      first (inr e) = from_nothing (type-same s Nothing e)

      go : ((is_same_type s t || is_same_type s Nothing) ≡ true) ⊎ (is_under w s t ≡ true) → IsSub w s t
      go (inl e) = first (or_parts (is_same_type s t) (is_same_type s Nothing) e)
      go (inr e) = under_sub w s t (under_there s t e)

  back : (s t : IrType) → IsSub w s t → is_sub w s t ≡ true
  back s t h = go (parted w s t h)
    where
      go : (s ≡ t) ⊎ ((s ≡ Nothing) ⊎ IsUnder w s t) → is_sub w s t ≡ true
      go (inl e) = or_first (is_same_type s t || is_same_type s Nothing) (is_under w s t) (or_first (is_same_type s t) (is_same_type s Nothing) (subst (λ (x : IrType). is_same_type s x ≡ true) e (type-refl s)))
      go (inr (inl e)) = or_first (is_same_type s t || is_same_type s Nothing) (is_under w s t) (or_second (is_same_type s t) (is_same_type s Nothing) (subst (λ (x : IrType). is_same_type x Nothing ≡ true) (sym e) refl))
      go (inr (inr k)) = or_second (is_same_type s t || is_same_type s Nothing) (is_under w s t) (under_back s t k)

pub subtypes_are_worked_out : SubtypesAreWorkedOut
subtypes_are_worked_out w s t = (there w s t, back w s t)
