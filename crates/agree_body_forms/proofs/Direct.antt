-- What a call that is built calls: on a receiver whose class is hijacked the member that this class runs, on an array a method of it, and else a method that is looked up.
use Rattle.std.proofs.Common.{◌≡◌, ◌∙◌, ℕ, Bool, true, false, List, Option, Some, None, codes, refl, ap, sym, if◌then◌else◌}
use Rattle.std.specs.Prelude.{nat_eq}
use Rattle.std.specs.Cmp.Lexicographic.{pointwise}
use Rattle.std.proofs.lemmas.Bool.{or_right}
use Rattle.agree_body_forms.specs.Built.{Usable, can_call, can_look_up}
use Rattle.sj_desugar_spec.specs.CalleeVariants as callees
use Rattle.sj_desugar_spec.specs.Desugar.{member, called_on, named_by, callee_of}
use Rattle.sj_names.proofs.Same.{impossible}
use Rattle.sj_names.specs.declared.method_names.MethodName.{MethodName}
use Rattle.sj_names.specs.declared.method_names.Namespace.TheVariants.{Public}
use Rattle.sj_names.specs.declared.references.ArrayRef.{ArrayRef}
use Rattle.sj_names.specs.declared.references.TypeRef.{TypeRef}
use Rattle.sj_trees.specs.Types.{class_type}
use Rattle.sj_trees.specs.declared.types.IrType.{IrType}
use Rattle.sj_desugar_spec.specs.Ancestors.{IsAncestor, by_path}
use Rattle.sj_desugar_spec.specs.Calls.{receiver_class}
use Rattle.sj_desugar_spec.specs.Known.{Classes, class_of, is_hijacked}
use Rattle.sj_desugar_spec.specs.Paths.{stay}
use Rattle.sj_desugar_spec.specs.Subtypes.{IsSub, equal, to_any, primitive_to_class, hijacked_class}
use Rattle.std.specs.Prelude.{is_some}
use Rattle.agree_body_forms.specs.Rules.{HasReceiver}

-- the class of the receiver is hijacked, its values are of it, and it decides what is called
pub record IsDirect (t : IrType) (m : MethodName) : Type 0 where
  pub class : List ℕ
  pub receiver : receiver_class t ≡ Some class
  pub hijacked : is_hijacked class ≡ true
  pub called : called_on t m ≡ callees.Member (member class Public m)
  pub below : (w : Classes) → IsSub w t (class_type class)

-- the class of the receiver isn't hijacked, its values are of it, and the method is looked up on them
pub record IsLookedUp (has : Usable) (t : IrType) (m : MethodName) : Type 0 where
  pub class : List ℕ
  pub receiver : receiver_class t ≡ Some class
  pub free : is_hijacked class ≡ false
  pub called : called_on t m ≡ callees.LookedUp class m
  pub below : (w : Classes) → IsSub w t (class_type class)
  pub there : can_look_up has class m ≡ true

-- the type of an array, whose methods are those of objects
pub record IsArray (t : IrType) : Type 0 where
  pub reference : ArrayRef
  pub is : t ≡ IrType.Array reference
  pub receiver : receiver_class t ≡ Some (codes "java.lang.Object")

-- which has values
pub array_valued : (t : IrType) → IsArray t → t ≡ IrType.NoType → ⊥
array_valued t a i = let e : IrType.Array a.reference ≡ IrType.NoType = sym a.is ∙ i in absurd (cc)

-- the receiver is an array, where it may be one at all, and the method can be called on arrays
pub record IsOnArray (has : Usable) (t : IrType) (m : MethodName) : Type 0 where
  pub array : HasReceiver t → IsArray t
  pub called : called_on t m ≡ callees.OfArray m
  pub there : has.on_arrays m ≡ true

pub data HowCalled (has : Usable) (t : IrType) (m : MethodName) : Type 0 where
  directly : IsDirect t m → HowCalled has t m
  by_lookup : IsLookedUp has t m → HowCalled has t m
  on_array : IsOnArray has t m → HowCalled has t m

-- each hijacked class stands above itself
itself : (w : Classes) (c : List ℕ) → is_hijacked c ≡ true → IsAncestor w c c
itself w c h = record { known = or_right (is_some (class_of w c)) (is_hijacked c) h; way = by_path stay }

of_class : (w : Classes) (c : List ℕ) → IsSub w (IrType.Class c) (class_type c)
of_class w c = go (pointwise nat_eq c (codes "java.lang.Object"))
  where
    go : (b : Bool) → IsSub w (IrType.Class c) (if b then IrType.Any else IrType.Class c)
    go true = to_any refl (λ e. impossible (cc))
    go false = equal refl

module _ (has : Usable) (m : MethodName) where
  abbrev Can : IrType → Type 0
  Can t = can_call has (called_on t m) ≡ true

  of_kind : (t : IrType) (c : List ℕ) → hijacked_class t ≡ Some c → is_hijacked c ≡ true → receiver_class t ≡ Some c → called_on t m ≡ callees.Member (member c Public m) → class_type c ≡ IrType.Class c → IsDirect t m
  of_kind t c is h r e is_class = record { class = c; receiver = r; hijacked = h; called = e; below = λ w. primitive_to_class c c is is_class (itself w c h) }

  at_class : (c : List ℕ) → Can (IrType.Class c) → HowCalled has (IrType.Class c) m
  at_class c h = go (is_hijacked c) refl h
    where
      go : (b : Bool) → is_hijacked c ≡ b → can_call has (if b then callees.Member (member c Public m) else callees.LookedUp c m) ≡ true → HowCalled has (IrType.Class c) m
      go true is h = directly (record { class = c; receiver = refl; hijacked = is; called = ap (λ (b : Bool). if b then callees.Member (member c Public m) else callees.LookedUp c m) is; below = λ w. of_class w c })
      go false is h = by_lookup (record { class = c; receiver = refl; free = is; called = ap (λ (b : Bool). if b then callees.Member (member c Public m) else callees.LookedUp c m) is; below = λ w. of_class w c; there = h })

  at_type : (t : IrType) → Can t → HowCalled has t m
  at_type IrType.Any h = by_lookup (record { class = codes "java.lang.Object"; receiver = refl; free = refl; called = refl; below = λ w. equal refl; there = h })
  at_type IrType.Undefined h = directly (of_kind IrType.Undefined (codes "java.lang.Void") refl refl refl refl refl)
  at_type IrType.Boolean h = directly (of_kind IrType.Boolean (codes "java.lang.Boolean") refl refl refl refl refl)
  at_type IrType.Char h = directly (of_kind IrType.Char (codes "java.lang.Character") refl refl refl refl refl)
  at_type IrType.Byte h = directly (of_kind IrType.Byte (codes "java.lang.Byte") refl refl refl refl refl)
  at_type IrType.Short h = directly (of_kind IrType.Short (codes "java.lang.Short") refl refl refl refl refl)
  at_type IrType.Int h = directly (of_kind IrType.Int (codes "java.lang.Integer") refl refl refl refl refl)
  at_type IrType.Long h = directly (of_kind IrType.Long (codes "java.lang.Long") refl refl refl refl refl)
  at_type IrType.String h = directly (of_kind IrType.String (codes "java.lang.String") refl refl refl refl refl)
  at_type (IrType.Class c) h = at_class c h
  at_type (IrType.Array r) h = on_array (record { array = λ i. record { reference = r; is = refl; receiver = refl }; called = refl; there = h })
  at_type IrType.Null h = on_array (record { array = λ i. absurd i; called = refl; there = h })
  at_type IrType.Nothing h = on_array (record { array = λ i. absurd i; called = refl; there = h })
  at_type IrType.NoType h = on_array (record { array = λ i. absurd i; called = refl; there = h })

-- what is called under a name with a result is such a member, or such a method, where it can be called; one without a result is a reflective name
pub record IsCalled (t : IrType) (m : MethodName) : Type 0 where
  pub direct : IsDirect t m
  pub result : TypeRef
  pub named : m.result ≡ Some result
  pub callee : callee_of t m ≡ callees.Member (member direct.class Public m)

pub record IsCalledByLookup (has : Usable) (t : IrType) (m : MethodName) : Type 0 where
  pub lookup : IsLookedUp has t m
  pub result : TypeRef
  pub named : m.result ≡ Some result
  pub callee : callee_of t m ≡ callees.LookedUp lookup.class m

pub record IsCalledOnArray (has : Usable) (t : IrType) (m : MethodName) : Type 0 where
  pub on : IsOnArray has t m
  pub result : TypeRef
  pub named : m.result ≡ Some result
  pub callee : callee_of t m ≡ callees.OfArray m

pub record IsCalledByName (has : Usable) (t : IrType) (m : MethodName) : Type 0 where
  pub named : m.result ≡ None
  pub callee : callee_of t m ≡ callees.Reflective m
  pub there : has.reflected m ≡ true

pub data Calls (has : Usable) (t : IrType) (m : MethodName) : Type 0 where
  calls_member : IsCalled t m → Calls has t m
  looks_up : IsCalledByLookup has t m → Calls has t m
  calls_array : IsCalledOnArray has t m → Calls has t m
  calls_by_name : IsCalledByName has t m → Calls has t m

pub is_called : (has : Usable) (t : IrType) (m : MethodName) → can_call has (callee_of t m) ≡ true → Calls has t m
is_called has t m h = go m.result refl h
  where
    go : (o : Option TypeRef) → m.result ≡ o → can_call has (named_by o t m) ≡ true → Calls has t m
    go None e h = calls_by_name (record { named = e; callee = ap (λ (o : Option TypeRef). named_by o t m) e; there = h })
    go (Some r) e h = by (at_type has m t h)
      where
        by : HowCalled has t m → Calls has t m
        by (directly d) = calls_member (record { direct = d; result = r; named = e; callee = ap (λ (o : Option TypeRef). named_by o t m) e ∙ d.called })
        by (by_lookup d) = looks_up (record { lookup = d; result = r; named = e; callee = ap (λ (o : Option TypeRef). named_by o t m) e ∙ d.called })
        by (on_array d) = calls_array (record { on = d; result = r; named = e; callee = ap (λ (o : Option TypeRef). named_by o t m) e ∙ d.called })
