-- The subtypes of a world have the properties that are asked of subtyping.
use Rattle.std.specs.Prelude.{◌||◌, codes, nat_eq, not}
use Rattle.std.specs.Cmp.Lexicographic.{pointwise}
use Rattle.std.proofs.Common.{◌≡◌, ℕ, zero, suc, Bool, true, false, Option, Some, None, refl, sym, ap, ◌∙◌, subst, ◌⊎◌, inl, inr, if◌then◌else◌}
use Rattle.sj_emit_expr_spec.specs.Coercions.{is_char}
use Rattle.sj_names.specs.Same.{is_same_text}
use Rattle.sj_names.specs.declared.references.ArrayRef.{ArrayRef}
use Rattle.sj_names.specs.declared.references.BaseRef.{BaseRef}
use Rattle.sj_trees.specs.Types.{class_type}
use Rattle.sj_trees.specs.declared.types.IrType.{IrType}
use Rattle.sj_trees.specs.declared.types.IrType.TheVariants.{Any, Nothing, Undefined, Boolean, Char, Byte, Short, Int, Long, String, Class, Null, Array, NoType}
use Rattle.sj_emit_expr_spec.proofs.LawsHold.{subtypes_transitive}
use Rattle.sj_emit_expr_spec.specs.Known.{Name, Classes}
use Rattle.sj_emit_expr_spec.specs.Ancestors.{IsAncestor}
use Rattle.sj_emit_expr_spec.specs.Laws.{IsPlain}
use Rattle.sj_emit_expr_spec.specs.Subtypes.{hijacked_class, IsSub, equal, from_nothing, to_any, null_to_class, null_to_array, class_to_class, primitive_to_class, arrays_alike, arrays_of_arrays, IsSubBase, equal_bases, classes}
use Rattle.sj_names.proofs.Same.{impossible, text-same, text-refl}
use Rattle.agree_body_rules.proofs.Arrays.{base-same, arrays-same, more-fit}
use Rattle.agree_body_rules.proofs.Topped.{string_class, topped, string_alone}
use Rattle.agree_body_rules.specs.Standing.{is_bare, is_array_type, Fits, base_fits, array_fits}
use Rattle.agree_body_rules.specs.Subtyping.{is_lowest, IsSubtyping}

from_none : (w : Classes) (t : IrType) → IsSub w NoType t → t ≡ NoType
from_none w t (equal e) = sym e
from_none w t (from_nothing e) = absurd (cc)
from_none w t (to_any e n) = absurd (n refl)
from_none w t (null_to_class d e f) = absurd (cc)
from_none w t (null_to_array b e f) = absurd (cc)
from_none w t (class_to_class c d e f a) = absurd (cc)
from_none w t (primitive_to_class c d e f a) = absurd (cc)
from_none w t (arrays_alike a b e f g h) = absurd (cc)
from_none w t (arrays_of_arrays a b e f g h) = absurd (cc)

lowest : (w : Classes) (s t : IrType) → is_lowest t ≡ true → IsSub w s t → (s ≡ t) ⊎ (s ≡ Nothing)
lowest w s t h (equal e) = inl e
lowest w s t h (from_nothing e) = inr e
lowest w s t h (to_any e n) = impossible (ap is_lowest (sym e) ∙ h)
lowest w s t h (null_to_class d e f) = impossible (ap is_lowest (sym f) ∙ h)
lowest w s t h (null_to_array b e f) = impossible (ap is_lowest (sym f) ∙ h)
lowest w s t h (class_to_class c d e f a) = impossible (ap is_lowest (sym f) ∙ h)
lowest w s t h (primitive_to_class c d e f a) = impossible (ap is_lowest (sym f) ∙ h)
lowest w s t h (arrays_alike a b e f g k) = impossible (ap is_lowest (sym f) ∙ h)
lowest w s t h (arrays_of_arrays a b e f g k) = impossible (ap is_lowest (sym f) ∙ h)

-- a type of which the values have a class is bare
of_primitive : (s : IrType) (c : Name) → hijacked_class s ≡ Some c → is_bare s ≡ true
of_primitive Any c e = absurd (cc)
of_primitive (Class d) c e = absurd (cc)
of_primitive (Array r) c e = absurd (cc)
of_primitive Nothing c e = refl
of_primitive Undefined c e = refl
of_primitive Boolean c e = refl
of_primitive Char c e = refl
of_primitive Byte c e = refl
of_primitive Short c e = refl
of_primitive Int c e = refl
of_primitive Long c e = refl
of_primitive String c e = refl
of_primitive Null c e = refl
of_primitive NoType c e = refl

bare_class : (w : Classes) → IsPlain w → (c d : Name) → is_bare (Class d) ≡ true → IsAncestor w c d → is_bare (Class c) ≡ true
bare_class w plain c d b a = subst (λ (n : Name). is_bare (Class n) ≡ true) (sym (string_alone w plain c (subst (λ (n : Name). IsAncestor w c n) (text-same d string_class b) a))) (text-refl string_class)

bare : (w : Classes) → IsPlain w → (s t : IrType) → is_bare t ≡ true → IsSub w s t → is_bare s ≡ true
bare w plain s t b (equal e) = subst (λ (u : IrType). is_bare u ≡ true) (sym e) b
bare w plain s t b (from_nothing e) = ap is_bare e
bare w plain s t b (to_any e n) = impossible (ap is_bare (sym e) ∙ b)
bare w plain s t b (null_to_class d e f) = ap is_bare e
bare w plain s t b (null_to_array r e f) = ap is_bare e
bare w plain s t b (class_to_class c d e f a) = ap is_bare e ∙ bare_class w plain c d (ap is_bare (sym f) ∙ b) a
bare w plain s t b (primitive_to_class c d e f a) = of_primitive s c e
bare w plain s t b (arrays_alike x y e f g k) = ap is_bare e
bare w plain s t b (arrays_of_arrays x y e f g k) = ap is_bare e

-- the class of chars isn't that of texts
abbrev is_string : Option Name → Bool
is_string None = false
is_string (Some c) = is_same_text c string_class

above_chars : (w : Classes) (plain : IsPlain w) (c d : Name) → hijacked_class Char ≡ Some c → IsAncestor w c d → (b : Bool) → is_bare (Class d) ≡ b → is_bare (Class d) ≡ false
above_chars w plain c d e a false b = b
above_chars w plain c d e a true b = impossible (ap is_string (e ∙ ap Some (string_alone w plain c (subst (λ (n : Name). IsAncestor w c n) (text-same d string_class b) a))))

-- of the types above that of chars objects stand at each other one
open_above : (w : Classes) (plain : IsPlain w) (t : IrType) → is_char t ≡ false → IsSub w Char t → is_bare t ≡ false
open_above w plain t n (equal e) = impossible (sym n ∙ ap is_char (sym e))
open_above w plain t n (from_nothing e) = absurd (cc)
open_above w plain t n (to_any e k) = ap is_bare e
open_above w plain t n (null_to_class d e f) = absurd (cc)
open_above w plain t n (null_to_array b e f) = absurd (cc)
open_above w plain t n (class_to_class c d e f a) = absurd (cc)
open_above w plain t n (primitive_to_class c d e f a) = ap is_bare f ∙ above_chars w plain c d e a (is_bare (Class d)) refl
open_above w plain t n (arrays_alike a b e f g h) = absurd (cc)
open_above w plain t n (arrays_of_arrays a b e f g h) = absurd (cc)

-- a class at which no array may stand has itself alone below it
class_below : (w : Classes) → IsPlain w → (c d : Name) → IsAncestor w c d → base_fits (BaseRef.Class d) (BaseRef.Class c) ≡ true
class_below w plain c d a = go (is_bare (class_type d)) refl
  where
    bare_class_type : (e : Name) → is_bare (class_type e) ≡ true → e ≡ string_class
    bare_class_type e = at (pointwise nat_eq e (codes "java.lang.Object"))
      where
        at : (b : Bool) → is_bare (if b then Any else Class e) ≡ true → e ≡ string_class
        at true h = impossible h
        at false h = text-same e string_class h

    go : (b : Bool) → is_bare (class_type d) ≡ b → (not (is_bare (class_type d)) || is_bare (class_type c)) ≡ true
    go false e = ap (λ (b : Bool). not b || is_bare (class_type c)) e
    go true e = ap (λ (b : Bool). not b || is_bare (class_type c)) e ∙ ap (λ (n : Name). is_bare (class_type n)) (string_alone w plain c (subst (λ (n : Name). IsAncestor w c n) (bare_class_type d e) a))

base_below : (w : Classes) → IsPlain w → (b c : BaseRef) → IsSubBase w b c → base_fits c b ≡ true
base_below w plain b c (equal_bases e) = subst (λ (d : BaseRef). base_fits c d ≡ true) (sym e) (base-same c)
base_below w plain b c (classes m n e f a) = subst (λ (d : BaseRef). base_fits d b ≡ true) (sym f) (subst (λ (d : BaseRef). base_fits (BaseRef.Class n) d ≡ true) (sym e) (class_below w plain m n a))

equal_dimensions : (n : ℕ) (b c : BaseRef) → base_fits b c ≡ true → array_fits n b n c ≡ true
equal_dimensions zero b c h = h
equal_dimensions (suc n) b c h = equal_dimensions n b c h

one_array : (a b : ArrayRef) → ◌≡◌ {A = IrType} (Array a) (Array b) → a ≡ b
one_array a b e = cc

-- below a type of arrays there are such types, null and nothing
arrays : (w : Classes) → IsPlain w → (s : IrType) (r : ArrayRef) → IsSub w s (Array r) → Fits (Array r) s
arrays w plain s r (equal e) = subst (Fits (Array r)) (sym e) (arrays-same r.dimensions r.base)
arrays w plain s r (from_nothing e) = subst (Fits (Array r)) (sym e) refl
arrays w plain s r (to_any e n) = absurd (cc)
arrays w plain s r (null_to_class d e f) = absurd (cc)
arrays w plain s r (null_to_array b e f) = subst (Fits (Array r)) (sym e) refl
arrays w plain s r (class_to_class c d e f a) = absurd (cc)
arrays w plain s r (primitive_to_class c d e f a) = absurd (cc)
arrays w plain s r (arrays_alike a b e f g k) = subst (Fits (Array r)) (sym e) (subst (λ (q : ArrayRef). Fits (Array q) (Array a)) (sym (one_array r b f)) (subst (λ (n : ℕ). array_fits b.dimensions b.base n a.base ≡ true) (sym g) (equal_dimensions b.dimensions b.base a.base (base_below w plain a.base b.base k))))
arrays w plain s r (arrays_of_arrays a b e f g k) = subst (Fits (Array r)) (sym e) (subst (λ (q : ArrayRef). Fits (Array q) (Array a)) (sym (one_array r b f)) (subst (λ (c : BaseRef). array_fits b.dimensions c a.dimensions a.base ≡ true) (sym k) (more-fit b.dimensions a.dimensions a.base g)))

-- and above one such types and any
above_arrays : (w : Classes) (r : ArrayRef) (t : IrType) → IsSub w (Array r) t → (t ≡ Any) ⊎ (is_array_type t ≡ true)
above_arrays w r t (equal e) = inr (ap is_array_type (sym e))
above_arrays w r t (from_nothing e) = absurd (cc)
above_arrays w r t (to_any e n) = inl e
above_arrays w r t (null_to_class d e f) = absurd (cc)
above_arrays w r t (null_to_array b e f) = absurd (cc)
above_arrays w r t (class_to_class c d e f a) = absurd (cc)
above_arrays w r t (primitive_to_class c d e f a) = absurd (cc)
above_arrays w r t (arrays_alike a b e f g k) = inr (ap is_array_type f)
above_arrays w r t (arrays_of_arrays a b e f g k) = inr (ap is_array_type f)

pub in_world : (w : Classes) → IsPlain w → IsSubtyping (IsSub w)
in_world w plain = record { same = λ t. equal refl; further = subtypes_transitive w (topped w plain); from_none = from_none w; bare = bare w plain; chars = λ t f n. open_above w plain t n f; lowest = lowest w; arrays = arrays w plain; above_arrays = above_arrays w }
