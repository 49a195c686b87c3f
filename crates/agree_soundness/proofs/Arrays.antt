-- The items of arrays whose type is below another's, and which values may be stored among them.
use Rattle.std.proofs.Common.{◌≡◌, ℕ, zero, suc, ◌<◌, ◌≤◌, Bool, true, false, List, arith, codes, refl, sym, ap, ◌∙◌, subst, ◌⊎◌, inl, inr, if◌then◌else◌}
use Rattle.std.specs.Prelude.{◌-◌, ◌==◌, nat_eq}
use Rattle.std.specs.Cmp.Lexicographic.{pointwise}
use Rattle.dispatch_laws.specs.Meaning.{may_be_stored}
use Rattle.dispatch_laws.specs.States as ir
use Rattle.dispatch_laws.specs.World.{World}
use Rattle.dispatch_laws.specs.Ancestors.{IsAncestor}
use Rattle.dispatch_laws.specs.Known.{object}
use Rattle.dispatch_laws.specs.Subtypes.{IsSub, equal, from_nothing, to_any, null_to_class, null_to_array, class_to_class, primitive_to_class, arrays_alike, arrays_of_arrays, IsSubBase, equal_bases, classes}
use Rattle.dispatch_laws.specs.Templates.{element_setter}
use Rattle.sj_names.proofs.Same.{impossible, text-same}
use Rattle.sj_names.specs.declared.references.ArrayRef.{ArrayRef}
use Rattle.sj_names.specs.declared.references.BaseRef.{BaseRef}
use Rattle.agree_early_errors.proofs.Arrays.{element-value}
use Rattle.agree_early_errors.proofs.Fitting.{value-not}
use Rattle.agree_early_errors.specs.Subtyping.{is_lowest, IsSubtyping}
use Rattle.sj_trees.specs.Types.{class_type, base_type, nested_type, element_type}
use Rattle.sj_trees.specs.declared.types.IrType.{IrType}
use Rattle.sj_trees.specs.declared.types.IrType.TheVariants.{Any, Class, Array, Nothing, Undefined, Boolean, Char, Byte, Short, Int, Long, String, Null}

one_array : (a b : ArrayRef) → ◌≡◌ {A = IrType} (Array a) (Array b) → a ≡ b
one_array a b e = cc

no_dimensions : {A : Type 0} → ◌≡◌ {A = ℕ} 2 1 → A
no_dimensions e = absurd (grind arith)

is_zero : (n : ℕ) → (n == 0) ≡ true → n ≡ 0
is_zero n e = grind arith

not_zero : (n : ℕ) → (n == 0) ≡ false → 1 ≤ n
not_zero zero e = impossible (sym e)
not_zero (suc n) e = grind arith

less_deep : (n m : ℕ) → n < m → 1 ≤ n - 1 → n - 1 < m - 1
less_deep n m h k = grind arith

still_deep : (n m : ℕ) → n < m → 1 ≤ n → 1 ≤ m - 1
still_deep n m h k = grind arith

-- a type by which what is stored in an array is tested, or all may be
abbrev pub is_open : IrType → Bool
is_open Any = true
is_open (Class c) = true
is_open (Array r) = true
is_open _ = false

-- a setter for items of a lowest type tests nothing
pub setter_kind : (t : IrType) → (element_setter t ≡ codes "$put") ⊎ (is_lowest t ≡ true)
setter_kind Any = inl refl
setter_kind Nothing = inl refl
setter_kind (Class c) = inl refl
setter_kind (Array r) = inl refl
setter_kind IrType.NoType = inl refl
setter_kind Undefined = inr refl
setter_kind Boolean = inr refl
setter_kind Char = inr refl
setter_kind Byte = inr refl
setter_kind Short = inr refl
setter_kind Int = inr refl
setter_kind Long = inr refl
setter_kind String = inr refl
setter_kind Null = inr refl

module _ (w : World) where
  pub stored_lowest : (st : ir.State) (t : IrType) (v : ir.Value) → is_lowest t ≡ true → may_be_stored w st t v ≡ true
  stored_lowest st t ir.null h = refl
  stored_lowest st (Class c) v h = impossible h
  stored_lowest st (Array r) v h = impossible h
  stored_lowest st t v h = refl

  module _ (law : IsSubtyping (IsSub w)) where
    -- nothing stands above the class of all objects
    top_alone : (d : List ℕ) → IsAncestor w object d → d ≡ object
    top_alone d a = go (law.further (Array deep) (Array flat) (Array other) (arrays_of_arrays deep flat refl refl (grind arith) refl) (arrays_alike flat other refl refl refl (classes object d refl refl a)))
      where
        deep : ArrayRef
        deep = record { dimensions = 2; base = BaseRef.Int }

        flat : ArrayRef
        flat = record { dimensions = 1; base = BaseRef.Class object }

        other : ArrayRef
        other = record { dimensions = 1; base = BaseRef.Class d }

        one_class : (c : List ℕ) → ◌≡◌ {A = BaseRef} (BaseRef.Class d) (BaseRef.Class c) → d ≡ c
        one_class c e = cc

        go : IsSub w (Array deep) (Array other) → d ≡ object
        go (equal e) = no_dimensions (ap (λ (x : ArrayRef). x.dimensions) (one_array deep other e))
        go (from_nothing e) = absurd (cc)
        go (to_any e n) = absurd (cc)
        go (null_to_class b e f) = absurd (cc)
        go (null_to_array b e f) = absurd (cc)
        go (class_to_class c b e f k) = absurd (cc)
        go (primitive_to_class c b e f k) = absurd (cc)
        go (arrays_alike x y e f g k) = no_dimensions (ap (λ (x : ArrayRef). x.dimensions) (one_array deep x e) ∙ g ∙ sym (ap (λ (x : ArrayRef). x.dimensions) (one_array other y f)))
        go (arrays_of_arrays x y e f g k) = one_class object (ap (λ (x : ArrayRef). x.base) (one_array other y f) ∙ k)

    classes_below : (c d : List ℕ) → IsAncestor w c d → IsSub w (class_type c) (class_type d)
    classes_below c d a = go (pointwise nat_eq c (codes "java.lang.Object")) refl (pointwise nat_eq d (codes "java.lang.Object")) refl
      where
        go : (p : Bool) → pointwise nat_eq c (codes "java.lang.Object") ≡ p → (q : Bool) → pointwise nat_eq d (codes "java.lang.Object") ≡ q → IsSub w (if p then Any else Class c) (if q then Any else Class d)
        go false e false f = class_to_class c d refl refl a
        go true e true f = law.same Any
        go false e true f = to_any refl (λ e. cc)
        go true e false f = impossible (sym f ∙ subst (λ (n : List ℕ). pointwise nat_eq n (codes "java.lang.Object") ≡ true) (sym (top_alone d (subst (λ (n : List ℕ). IsAncestor w n d) (text-same c (codes "java.lang.Object") e) a))) refl)

    base_below : (b c : BaseRef) → IsSubBase w b c → IsSub w (base_type b) (base_type c)
    base_below b c (equal_bases e) = subst (λ (x : BaseRef). IsSub w (base_type b) (base_type x)) e (law.same (base_type b))
    base_below b c (classes m n e f a) = subst (λ (x : BaseRef). IsSub w (base_type x) (base_type c)) (sym e) (subst (λ (x : BaseRef). IsSub w (class_type m) (base_type x)) (sym f) (classes_below m n a))

    nested_below : (n : ℕ) (b c : BaseRef) → IsSubBase w b c → IsSub w (nested_type n b) (nested_type n c)
    nested_below n b c k = go (n == 0)
      where
        go : (t : Bool) → IsSub w (if t then base_type b else Array (record { dimensions = n; base = b })) (if t then base_type c else Array (record { dimensions = n; base = c }))
        go true = base_below b c k
        go false = arrays_alike (record { dimensions = n; base = b }) (record { dimensions = n; base = c }) refl refl refl k

    deeper_below : (r : ArrayRef) (n : ℕ) → n < r.dimensions → IsSub w (element_type r) (nested_type (n - 1) (BaseRef.Class object))
    deeper_below r n h = go (n - 1 == 0) refl
      where
        deep : 1 ≤ n - 1 → (t : Bool) → (r.dimensions - 1 == 0) ≡ t → IsSub w (if t then base_type r.base else Array (record { dimensions = r.dimensions - 1; base = r.base })) (Array (record { dimensions = n - 1; base = BaseRef.Class object }))
        deep k true e = let none = is_zero (r.dimensions - 1) e in let less = less_deep n r.dimensions h k in absurd (grind arith)
        deep k false e = arrays_of_arrays (record { dimensions = r.dimensions - 1; base = r.base }) (record { dimensions = n - 1; base = BaseRef.Class object }) refl refl (less_deep n r.dimensions h k) refl

        go : (t : Bool) → (n - 1 == 0) ≡ t → IsSub w (element_type r) (if t then Any else Array (record { dimensions = n - 1; base = BaseRef.Class object }))
        go true e = to_any refl (value-not (element_type r) (element-value r))
        go false e = deep (not_zero (n - 1) e) (r.dimensions - 1 == 0) refl

    -- the items of an array are below those of one above it
    pub elements_below : (r q : ArrayRef) → IsSub w (Array r) (Array q) → IsSub w (element_type r) (element_type q)
    elements_below r q (equal e) = subst (λ (x : ArrayRef). IsSub w (element_type r) (element_type x)) (one_array r q e) (law.same (element_type r))
    elements_below r q (from_nothing e) = absurd (cc)
    elements_below r q (to_any e n) = absurd (cc)
    elements_below r q (null_to_class b e f) = absurd (cc)
    elements_below r q (null_to_array b e f) = absurd (cc)
    elements_below r q (class_to_class c b e f k) = absurd (cc)
    elements_below r q (primitive_to_class c b e f k) = absurd (cc)
    elements_below r q (arrays_alike a b e f g k) = subst (λ (x : ArrayRef). IsSub w (element_type x) (element_type q)) (sym (one_array r a e)) (subst (λ (x : ArrayRef). IsSub w (element_type a) (element_type x)) (sym (one_array q b f)) (subst (λ (n : ℕ). IsSub w (element_type a) (nested_type (n - 1) b.base)) g (nested_below (a.dimensions - 1) a.base b.base k)))
    elements_below r q (arrays_of_arrays a b e f g k) = subst (λ (x : ArrayRef). IsSub w (element_type x) (element_type q)) (sym (one_array r a e)) (subst (λ (x : ArrayRef). IsSub w (element_type a) (element_type x)) (sym (one_array q b f)) (subst (λ (x : BaseRef). IsSub w (element_type a) (nested_type (b.dimensions - 1) x)) (sym k) (deeper_below a b.dimensions g)))

    open_class : (c : List ℕ) → is_open (class_type c) ≡ true
    open_class c = go (pointwise nat_eq c (codes "java.lang.Object"))
      where
        go : (b : Bool) → is_open (if b then Any else Class c) ≡ true
        go true = refl
        go false = refl

    open_nested : (n : ℕ) (c : List ℕ) → is_open (nested_type n (BaseRef.Class c)) ≡ true
    open_nested n c = go (n == 0)
      where
        go : (t : Bool) → is_open (if t then class_type c else Array (record { dimensions = n; base = BaseRef.Class c })) ≡ true
        go true = open_class c
        go false = refl

    open_deep : (n : ℕ) (b : BaseRef) → 1 ≤ n → is_open (nested_type n b) ≡ true
    open_deep n b h = go (n == 0) refl
      where
        go : (t : Bool) → (n == 0) ≡ t → is_open (if t then base_type b else Array (record { dimensions = n; base = b })) ≡ true
        go true e = let none = is_zero n e in absurd (grind arith)
        go false e = refl

    -- and are of the same type, or are objects or arrays, where the one above has dimensions
    pub elements_same : (r q : ArrayRef) → 1 ≤ q.dimensions → IsSub w (Array r) (Array q) → (element_type r ≡ element_type q) ⊎ (is_open (element_type r) ≡ true)
    elements_same r q h (equal e) = inl (ap element_type (one_array r q e))
    elements_same r q h (from_nothing e) = absurd (cc)
    elements_same r q h (to_any e n) = absurd (cc)
    elements_same r q h (null_to_class b e f) = absurd (cc)
    elements_same r q h (null_to_array b e f) = absurd (cc)
    elements_same r q h (class_to_class c b e f k) = absurd (cc)
    elements_same r q h (primitive_to_class c b e f k) = absurd (cc)
    elements_same r q h (arrays_alike a b e f g k) = alike k
      where
        alike : IsSubBase w a.base b.base → (element_type r ≡ element_type q) ⊎ (is_open (element_type r) ≡ true)
        alike (equal_bases i) = inl (ap element_type (one_array r a e) ∙ ap (λ (n : ℕ). nested_type (n - 1) a.base) g ∙ ap (nested_type (b.dimensions - 1)) i ∙ sym (ap element_type (one_array q b f)))
        alike (classes m n i j x) = inr (subst (λ (x : ArrayRef). is_open (element_type x) ≡ true) (sym (one_array r a e)) (subst (λ (x : BaseRef). is_open (nested_type (a.dimensions - 1) x) ≡ true) (sym i) (open_nested (a.dimensions - 1) m)))
    elements_same r q h (arrays_of_arrays a b e f g k) = inr (subst (λ (x : ArrayRef). is_open (element_type x) ≡ true) (sym (one_array r a e)) (open_deep (a.dimensions - 1) a.base (still_deep b.dimensions a.dimensions g (subst (λ (x : ArrayRef). 1 ≤ x.dimensions) (one_array q b f) h))))
