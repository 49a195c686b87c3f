-- When the items of one array may stand where those of another are expected, as far as their kind tells.
use Rattle.std.proofs.Common.{◌≡◌, ℕ, zero, suc, arith, Bool, true, false, List, codes, refl, sym, ap, subst, if◌then◌else◌}
use Rattle.std.specs.Prelude.{◌-◌, ◌==◌, ◌≤◌, ◌<◌, nat_eq, nat_lt, not, ◌||◌}
use Rattle.std.specs.Cmp.Lexicographic.{pointwise}
use Rattle.agree_body_rules.specs.Standing.{is_bare, Fits, base_fits, may_hold_arrays, array_fits}
use Rattle.agree_body_rules.specs.Typing.{HasDimensions, AreDimensions}
use Rattle.sj_names.proofs.Same.{impossible}
use Rattle.sj_names.specs.declared.references.ArrayRef.{ArrayRef}
use Rattle.sj_names.specs.declared.references.BaseRef.{BaseRef}
use Rattle.agree_body_forms.specs.Rules.{IsArray, HasItems}
use Rattle.sj_emit_expr_spec.specs.Desugar.{has_no_value}
use Rattle.sj_emit_expr_spec.specs.Known.{Classes}
use Rattle.sj_emit_expr_spec.specs.Plain.{is_no_type}
use Rattle.sj_emit_expr_spec.specs.Subtypes.{IsSub, to_any}
use Rattle.sj_trees.specs.Types.{class_type, base_type, nested_type, element_type}
use Rattle.sj_trees.specs.declared.types.IrType.{IrType}
use Rattle.sj_trees.specs.declared.types.IrType.TheVariants.{Any, Class, Array}

chained : (a b c : Bool) → (not a || b) ≡ true → (not b || c) ≡ true → (not a || c) ≡ true
chained false b c h k = refl
chained true true c h k = k
chained true false c h k = impossible h

itself-or-not : (b : Bool) → (not b || b) ≡ true
itself-or-not true = refl
itself-or-not false = refl

pub base-same : (b : BaseRef) → base_fits b b ≡ true
base-same BaseRef.Boolean = refl
base-same BaseRef.Char = refl
base-same BaseRef.Byte = refl
base-same BaseRef.Short = refl
base-same BaseRef.Int = refl
base-same BaseRef.Long = refl
base-same (BaseRef.Class c) = itself-or-not (is_bare (class_type c))

pub arrays-same : (n : ℕ) (b : BaseRef) → array_fits n b n b ≡ true
arrays-same zero b = base-same b
arrays-same (suc n) b = arrays-same n b

bases-fit : (b c d : BaseRef) → base_fits b c ≡ true → base_fits c d ≡ true → base_fits b d ≡ true
bases-fit BaseRef.Boolean BaseRef.Boolean d h k = k
bases-fit BaseRef.Char BaseRef.Char d h k = k
bases-fit BaseRef.Byte BaseRef.Byte d h k = k
bases-fit BaseRef.Short BaseRef.Short d h k = k
bases-fit BaseRef.Int BaseRef.Int d h k = k
bases-fit BaseRef.Long BaseRef.Long d h k = k
bases-fit (BaseRef.Class c) (BaseRef.Class d) (BaseRef.Class e) h k = chained (is_bare (class_type c)) (is_bare (class_type d)) (is_bare (class_type e)) h k
bases-fit (BaseRef.Class c) (BaseRef.Class d) _ h k = impossible k
bases-fit b c d h k = impossible h

-- a base at which arrays may stand has such a one below it, or arrays
opens : (a b : Bool) → (not a || b) ≡ true → not b ≡ true → not a ≡ true
opens true true h k = impossible k
opens true false h k = impossible h
opens false b h k = refl

opens-base : (b c : BaseRef) → base_fits b c ≡ true → may_hold_arrays c ≡ true → may_hold_arrays b ≡ true
opens-base (BaseRef.Class c) (BaseRef.Class d) h k = opens (is_bare (class_type c)) (is_bare (class_type d)) h k
opens-base b (BaseRef.Class d) h k = impossible h
opens-base b c h k = impossible k

all-fit : (n : ℕ) (b : BaseRef) (m : ℕ) (c : BaseRef) (k : ℕ) (d : BaseRef) → array_fits n b m c ≡ true → array_fits m c k d ≡ true → array_fits n b k d ≡ true
all-fit (suc n) b (suc m) c (suc k) d h g = all-fit n b m c k d h g
all-fit (suc n) b (suc m) c zero d h g = impossible g
all-fit (suc n) b zero c k d h g = impossible h
all-fit zero b zero c zero d h g = bases-fit b c d h g
all-fit zero b zero c (suc k) d h g = opens-base b c h g
all-fit zero b (suc m) c (suc k) d h g = h
all-fit zero b (suc m) c zero d h g = impossible g

pub arrays-fit : (r q k : ArrayRef) → Fits (Array r) (Array q) → Fits (Array q) (Array k) → Fits (Array r) (Array k)
arrays-fit r q k h g = all-fit r.dimensions r.base q.dimensions q.base k.dimensions k.base h g

-- at a type that is any or one of a class
class-fits : (c d : List ℕ) → (not (is_bare (class_type c)) || is_bare (class_type d)) ≡ true → Fits (class_type c) (class_type d)
class-fits c d = go (pointwise nat_eq c (codes "java.lang.Object")) (pointwise nat_eq d (codes "java.lang.Object"))
  where
    go : (a b : Bool) → (not (is_bare (if a then Any else Class c)) || is_bare (if b then Any else Class d)) ≡ true → Fits (if a then Any else Class c) (if b then Any else Class d)
    go true true h = refl
    go true false h = refl
    go false true h = h
    go false false h = h

class-holds : (c : List ℕ) (q : ArrayRef) → not (is_bare (class_type c)) ≡ true → Fits (class_type c) (Array q)
class-holds c q = go (pointwise nat_eq c (codes "java.lang.Object"))
  where
    go : (a : Bool) → not (is_bare (if a then Any else Class c)) ≡ true → Fits (if a then Any else Class c) (Array q)
    go true h = refl
    go false h = h

base-types-fit : (b c : BaseRef) → base_fits b c ≡ true → Fits (base_type b) (base_type c)
base-types-fit BaseRef.Boolean BaseRef.Boolean h = refl
base-types-fit BaseRef.Char BaseRef.Char h = refl
base-types-fit BaseRef.Byte BaseRef.Byte h = refl
base-types-fit BaseRef.Short BaseRef.Short h = refl
base-types-fit BaseRef.Int BaseRef.Int h = refl
base-types-fit BaseRef.Long BaseRef.Long h = refl
base-types-fit (BaseRef.Class c) (BaseRef.Class d) h = class-fits c d h
base-types-fit b c h = impossible h

base-holds : (b : BaseRef) (q : ArrayRef) → may_hold_arrays b ≡ true → Fits (base_type b) (Array q)
base-holds (BaseRef.Class c) q h = class-holds c q h
base-holds b q h = impossible h

-- the type of items with dimensions is one of arrays
nested-more : (n : ℕ) (b : BaseRef) → nested_type (suc n) b ≡ Array (record { dimensions = suc n; base = b })
nested-more n b = go (suc n == 0) refl
  where
    go : (t : Bool) → (suc n == 0) ≡ t → (if t then base_type b else Array (record { dimensions = suc n; base = b })) ≡ Array (record { dimensions = suc n; base = b })
    go true e = absurd (grind arith)
    go false e = refl

nested-fit : (n : ℕ) (b : BaseRef) (m : ℕ) (c : BaseRef) → array_fits n b m c ≡ true → Fits (nested_type n b) (nested_type m c)
nested-fit zero b zero c h = base-types-fit b c h
nested-fit zero b (suc m) c h = subst (Fits (base_type b)) (sym (nested-more m c)) (base-holds b (record { dimensions = suc m; base = c }) h)
nested-fit (suc n) b (suc m) c h = subst (λ t. Fits t (nested_type (suc m) c)) (sym (nested-more n b)) (subst (Fits (Array (record { dimensions = suc n; base = b }))) (sym (nested-more m c)) h)
nested-fit (suc n) b zero c h = impossible h

one-less : (n : ℕ) → suc n - 1 ≡ n
one-less n = grind arith

-- the items of an array may stand where those of the reference are expected
pub elements-fit : (r q : ArrayRef) → 1 ≤ r.dimensions → 1 ≤ q.dimensions → Fits (Array r) (Array q) → Fits (element_type r) (element_type q)
elements-fit r q = by r.dimensions q.dimensions
  where
    by : (n m : ℕ) → 1 ≤ n → 1 ≤ m → array_fits n r.base m q.base ≡ true → Fits (nested_type (n - 1) r.base) (nested_type (m - 1) q.base)
    by (suc n) (suc m) i j h = subst (λ a. Fits (nested_type a r.base) (nested_type (suc m - 1) q.base)) (sym (one-less n)) (subst (λ b. Fits (nested_type n r.base) (nested_type b q.base)) (sym (one-less m)) (nested-fit n r.base m q.base h))
    by zero m i j h = absurd (grind arith)
    by (suc n) zero i j h = absurd (grind arith)

-- arrays of more dimensions, whose base is that of objects, where fewer are expected
pub more-fit : (n m : ℕ) (b : BaseRef) → n < m → array_fits n (BaseRef.Class (codes "java.lang.Object")) m b ≡ true
more-fit zero (suc m) b h = refl
more-fit (suc n) (suc m) b h = more-fit n m b (grind arith)
more-fit n zero b h = absurd (grind arith)

-- the type of an array whose items have a type
pub record ItemsOf (own t : IrType) : Type 0 where
  pub reference : ArrayRef
  pub is : own ≡ Array reference
  pub dimensions : HasDimensions reference
  pub element : element_type reference ≡ t
  pub fits : Fits (Array reference) own

pub items-of : (own t : IrType) → AreDimensions own → HasItems own t → ItemsOf own t
items-of (Array r) t d h = record { reference = r; is = refl; dimensions = d; element = h; fits = arrays-same r.dimensions r.base }
items-of _ t d h = absurd h

-- arrays and their items have values
pub array-value : (own : IrType) → IsArray own → is_no_type own ≡ false
array-value (Array r) h = refl
array-value _ h = absurd h

pub items-value : (own t : IrType) → HasItems own t → is_no_type own ≡ false
items-value (Array r) t h = refl
items-value _ t h = absurd h

pub element-value : (r : ArrayRef) → has_no_value (element_type r) ≡ false
element-value r = by (r.dimensions - 1)
  where
    of_class : (c : List ℕ) → has_no_value (class_type c) ≡ false
    of_class c = go (pointwise nat_eq c (codes "java.lang.Object"))
      where
        go : (a : Bool) → has_no_value (if a then Any else Class c) ≡ false
        go true = refl
        go false = refl

    of_base : (b : BaseRef) → has_no_value (base_type b) ≡ false
    of_base (BaseRef.Class c) = of_class c
    of_base BaseRef.Boolean = refl
    of_base BaseRef.Char = refl
    of_base BaseRef.Byte = refl
    of_base BaseRef.Short = refl
    of_base BaseRef.Int = refl
    of_base BaseRef.Long = refl

    by : (n : ℕ) → has_no_value (nested_type n r.base) ≡ false
    by zero = of_base r.base
    by (suc n) = ap has_no_value (nested-more n r.base)

-- and are values of any
pub array-below : (w : Classes) (own : IrType) → IsArray own → IsSub w own Any
array-below w (Array r) h = to_any refl (λ e. impossible (cc))
array-below w _ h = absurd h

pub items-below : (w : Classes) (own t : IrType) → HasItems own t → IsSub w own Any
items-below w (Array r) t h = to_any refl (λ e. impossible (cc))
items-below w _ t h = absurd h

pub below-is : (n m : ℕ) → nat_lt n m ≡ true → n < m
below-is n m h = grind arith
