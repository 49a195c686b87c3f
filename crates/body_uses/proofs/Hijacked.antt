-- What a call asks for, by what its receiver is called.
use Rattle.std.proofs.Common.{◌≡◌, ◌∙◌, Bool, true, false, List, [], ◌∷◌, ◌++◌, Contains, Option, Some, None, codes, refl, sym, ap, subst, if◌then◌else◌}
use Rattle.std.specs.Prelude.{is_none}
use Rattle.object_folders.proofs.Found.{here}
use Rattle.sj_core.specs.declared.callees.Callee.{Callee}
use Rattle.sj_core.specs.declared.callees.Callee.TheVariants as callees
use Rattle.sj_desugar_spec.specs.Desugar.{member, called_on, named_by, callee_of}
use Rattle.sj_infos.specs.Infos.{of_apply, of_call, of_receiver, no_such_method}
use Rattle.sj_infos.specs.Receivers.{receiver_class}
use Rattle.sj_infos.specs.declared.infos.Info.TheVariants.{Called, Reflective}
use Rattle.sj_names.specs.declared.method_names.MethodName.{MethodName}
use Rattle.sj_names.specs.declared.method_names.Namespace.TheVariants.{Public}
use Rattle.sj_names.specs.declared.references.TypeRef.{TypeRef}
use Rattle.sj_trees.specs.Term.{Term}
use Rattle.sj_trees.specs.TypeOf.{type_of_term}
use Rattle.sj_trees.specs.declared.types.IrType.{IrType}
use Rattle.sj_world.specs.Known.{Name, is_hijacked, object}
use Rattle.object_folders.specs.SjTypingSpecRules.{HasReceiver}

-- the class is that of a receiver of this type, and hijacked
record IsItsClass (t : IrType) (c : Name) : Type 0 where
  receiver : receiver_class t ≡ Some c
  hijacked : is_hijacked c ≡ true

abbrev class_in : Callee → Name
class_in (callees.Member k) = k.class
class_in _ = []

module _ (m : MethodName) (c : Name) where
  abbrev Calls : Callee → Type 0
  Calls k = k ≡ callees.Member (member c Public m)

  of_kind : (t : IrType) (k : Name) → receiver_class t ≡ Some k → is_hijacked k ≡ true → Calls (callees.Member (member k Public m)) → IsItsClass t c
  of_kind t k is h e = let same : k ≡ c = ap class_in e in record { receiver = is ∙ ap Some same; hijacked = subst (λ (n : Name). is_hijacked n ≡ true) same h }

  of_class : (k : Name) → Calls (called_on (IrType.Class k) m) → IsItsClass (IrType.Class k) c
  of_class k e = go (is_hijacked k) refl e
    where
      go : (b : Bool) → is_hijacked k ≡ b → Calls (if b then callees.Member (member k Public m) else callees.LookedUp k m) → IsItsClass (IrType.Class k) c
      go true h e = of_kind (IrType.Class k) k refl h e
      go false h e = absurd (cc)

  of_type : (t : IrType) → Calls (called_on t m) → IsItsClass t c
  of_type IrType.Undefined e = of_kind IrType.Undefined (codes "java.lang.Void") refl refl e
  of_type IrType.Boolean e = of_kind IrType.Boolean (codes "java.lang.Boolean") refl refl e
  of_type IrType.Char e = of_kind IrType.Char (codes "java.lang.Character") refl refl e
  of_type IrType.Byte e = of_kind IrType.Byte (codes "java.lang.Byte") refl refl e
  of_type IrType.Short e = of_kind IrType.Short (codes "java.lang.Short") refl refl e
  of_type IrType.Int e = of_kind IrType.Int (codes "java.lang.Integer") refl refl e
  of_type IrType.Long e = of_kind IrType.Long (codes "java.lang.Long") refl refl e
  of_type IrType.String e = of_kind IrType.String (codes "java.lang.String") refl refl e
  of_type (IrType.Class k) e = of_class k e
  of_type _ e = absurd (cc)

-- the class is hijacked, and the method is asked for in it
pub record OfHijacked (d : Term) (m : MethodName) (c : Name) : Type 0 where
  pub hijacked : is_hijacked c ≡ true
  pub asked : (names : List Name) → Contains (of_apply names d m) (Called c m)

pub of_hijacked : (d : Term) (m : MethodName) (c : Name) → callee_of (type_of_term d) m ≡ callees.Member (member c Public m) → OfHijacked d m c
of_hijacked d m c e = go m.result refl e
  where
    asked_by : (r : TypeRef) → m.result ≡ Some r → IsItsClass (type_of_term d) c → (names : List Name) → Contains (of_apply names d m) (Called c m)
    asked_by r named its names = subst (λ (o : Option TypeRef). Contains (if is_none o then Reflective m ∷ of_receiver names d ++ no_such_method else of_call m (receiver_class (type_of_term d)) ++ of_receiver names d) (Called c m)) (sym named) (subst (λ (q : Option Name). Contains (of_call m q ++ of_receiver names d) (Called c m)) (sym its.receiver) (here (Called c m) (of_receiver names d)))

    go : (o : Option TypeRef) → m.result ≡ o → named_by o (type_of_term d) m ≡ callees.Member (member c Public m) → OfHijacked d m c
    go None named e = absurd (cc)
    go (Some r) named e = let its = of_type m c (type_of_term d) e in record { hijacked = its.hijacked; asked = asked_by r named its }

-- the class is that of a receiver of this type, and isn't hijacked
record IsFreeClass (t : IrType) (c : Name) : Type 0 where
  receiver : receiver_class t ≡ Some c
  free : is_hijacked c ≡ false

abbrev class_looked : Callee → Name
class_looked (callees.LookedUp c m) = c
class_looked _ = []

module _ (m : MethodName) (c : Name) where
  abbrev Looks : Callee → Type 0
  Looks k = k ≡ callees.LookedUp c m

  looked_class : (t : IrType) (k : Name) → receiver_class t ≡ Some k → is_hijacked k ≡ false → Looks (callees.LookedUp k m) → IsFreeClass t c
  looked_class t k is h e = let same : k ≡ c = ap class_looked e in record { receiver = is ∙ ap Some same; free = subst (λ (n : Name). is_hijacked n ≡ false) same h }

  looked_at : (k : Name) → Looks (called_on (IrType.Class k) m) → IsFreeClass (IrType.Class k) c
  looked_at k e = go (is_hijacked k) refl e
    where
      go : (b : Bool) → is_hijacked k ≡ b → Looks (if b then callees.Member (member k Public m) else callees.LookedUp k m) → IsFreeClass (IrType.Class k) c
      go true h e = absurd (cc)
      go false h e = looked_class (IrType.Class k) k refl h e

  looked_type : (t : IrType) → Looks (called_on t m) → IsFreeClass t c
  looked_type IrType.Any e = looked_class IrType.Any (codes "java.lang.Object") refl refl e
  looked_type (IrType.Class k) e = looked_at k e
  looked_type IrType.Undefined e = absurd (cc)
  looked_type IrType.Boolean e = absurd (cc)
  looked_type IrType.Char e = absurd (cc)
  looked_type IrType.Byte e = absurd (cc)
  looked_type IrType.Short e = absurd (cc)
  looked_type IrType.Int e = absurd (cc)
  looked_type IrType.Long e = absurd (cc)
  looked_type IrType.String e = absurd (cc)
  looked_type _ e = absurd (cc)

-- the class isn't hijacked, and the method is asked for in it
pub record OfLookedUp (d : Term) (m : MethodName) (c : Name) : Type 0 where
  pub free : is_hijacked c ≡ false
  pub asked : (names : List Name) → Contains (of_apply names d m) (Called c m)

pub of_looked_up : (d : Term) (m : MethodName) (c : Name) → callee_of (type_of_term d) m ≡ callees.LookedUp c m → OfLookedUp d m c
of_looked_up d m c e = go m.result refl e
  where
    asked_by : (r : TypeRef) → m.result ≡ Some r → IsFreeClass (type_of_term d) c → (names : List Name) → Contains (of_apply names d m) (Called c m)
    asked_by r named its names = subst (λ (o : Option TypeRef). Contains (if is_none o then Reflective m ∷ of_receiver names d ++ no_such_method else of_call m (receiver_class (type_of_term d)) ++ of_receiver names d) (Called c m)) (sym named) (subst (λ (q : Option Name). Contains (of_call m q ++ of_receiver names d) (Called c m)) (sym its.receiver) (here (Called c m) (of_receiver names d)))

    go : (o : Option TypeRef) → m.result ≡ o → named_by o (type_of_term d) m ≡ callees.LookedUp c m → OfLookedUp d m c
    go None named e = absurd (cc)
    go (Some r) named e = let its = looked_type m c (type_of_term d) e in record { free = its.free; asked = asked_by r named its }

module _ (m : MethodName) where
  abbrev OnArrays : Callee → Type 0
  OnArrays k = k ≡ callees.OfArray m

  class_apart : (k : Name) → OnArrays (called_on (IrType.Class k) m) → receiver_class (IrType.Class k) ≡ Some object
  class_apart k e = go (is_hijacked k) e
    where
      go : (b : Bool) → OnArrays (if b then callees.Member (member k Public m) else callees.LookedUp k m) → receiver_class (IrType.Class k) ≡ Some object
      go true e = absurd (cc)
      go false e = absurd (cc)

  -- what is called on arrays is called on receivers of the class of all objects
  array_receiver : (t : IrType) → HasReceiver t → OnArrays (called_on t m) → receiver_class t ≡ Some object
  array_receiver (IrType.Array r) i e = refl
  array_receiver (IrType.Class k) i e = class_apart k e
  array_receiver IrType.Any i e = refl
  array_receiver IrType.Undefined i e = absurd (cc)
  array_receiver IrType.Boolean i e = absurd (cc)
  array_receiver IrType.Char i e = absurd (cc)
  array_receiver IrType.Byte i e = absurd (cc)
  array_receiver IrType.Short i e = absurd (cc)
  array_receiver IrType.Int i e = absurd (cc)
  array_receiver IrType.Long i e = absurd (cc)
  array_receiver IrType.String i e = absurd (cc)
  array_receiver IrType.Null i e = absurd i
  array_receiver IrType.Nothing i e = absurd i
  array_receiver IrType.NoType i e = absurd i

-- a method that is called on arrays is asked for in the class of all objects
pub of_array : (d : Term) (m : MethodName) → HasReceiver (type_of_term d) → callee_of (type_of_term d) m ≡ callees.OfArray m → (names : List Name) → Contains (of_apply names d m) (Called object m)
of_array d m i e = go m.result refl e
  where
    asked_by : (r : TypeRef) → m.result ≡ Some r → receiver_class (type_of_term d) ≡ Some object → (names : List Name) → Contains (of_apply names d m) (Called object m)
    asked_by r named its names = subst (λ (o : Option TypeRef). Contains (if is_none o then Reflective m ∷ of_receiver names d ++ no_such_method else of_call m (receiver_class (type_of_term d)) ++ of_receiver names d) (Called object m)) (sym named) (subst (λ (q : Option Name). Contains (of_call m q ++ of_receiver names d) (Called object m)) (sym its) (here (Called object m) (of_receiver names d)))

    go : (o : Option TypeRef) → m.result ≡ o → named_by o (type_of_term d) m ≡ callees.OfArray m → (names : List Name) → Contains (of_apply names d m) (Called object m)
    go None named e = absurd (cc)
    go (Some r) named e = asked_by r named (array_receiver m (type_of_term d) i e)
