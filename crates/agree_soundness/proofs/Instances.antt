-- What is of a type by the test at run time has the type.
use Rattle.std.proofs.Common.{◌≡◌, Bool, true, false, ◌&&◌, ◌||◌, ℕ, List, Option, Some, codes, refl, sym, subst, ◌⊎◌, inl, inr}
use Rattle.std.specs.Prelude.{ℤ, pos, negsuc, int_le, is_some, slice_get}
use Rattle.std.proofs.lemmas.Bool.{and_parts, or_cases, or_right}
use Rattle.agree_early_errors.specs.Subtyping.{IsSubtyping}
use Rattle.agree_soundness.proofs.Values.{Classes, IsOf, HasType, has_type, of_undefined, of_null, of_boolean, of_char, of_long, of_byte, of_short, of_int, of_text, of_object, of_array, of_any_array}
use Rattle.dispatch_laws.proofs.AncestorsFound.{ancestors_are_worked_out}
use Rattle.dispatch_laws.proofs.SubtypesFound.{subtypes_are_worked_out}
use Rattle.dispatch_laws.specs.Dispatch.{is_ancestor, is_ancestor_of_any, is_array_below, is_small}
use Rattle.dispatch_laws.specs.Meaning.{is_instance_value}
use Rattle.dispatch_laws.specs.States as ir
use Rattle.dispatch_laws.specs.World.{World, is_instance, is_array, is_array_value, stored_class, is_of_type}
use Rattle.sj_names.proofs.Same.{impossible, text-same}
use Rattle.sj_names.specs.Same.{is_same_text}
use Rattle.sj_names.specs.declared.references.ArrayRef.{ArrayRef}
use Rattle.sj_trees.specs.SameTypes.{is_same_type}
use Rattle.sj_trees.specs.declared.types.IrType.{IrType}
use Rattle.sj_trees.specs.declared.types.IrType.TheVariants.{Any, Undefined, Boolean, Char, Byte, Short, Int, Long, String, Class, Array, Nothing}
use Rattle.dispatch_laws.specs.Ancestors.{IsAncestor, by_path}
use Rattle.dispatch_laws.specs.Known as known
use Rattle.dispatch_laws.specs.Known.{object}
use Rattle.dispatch_laws.specs.Paths.{stay}
use Rattle.dispatch_laws.specs.Subtypes.{hijacked_class, IsSub, class_to_class, primitive_to_class}

-- an object of the class stands there
pub data IsObject (c : List ℕ) : Option ir.Stored → Type 0 where
  an_object : (fields : ir.Fields) → IsObject c (Some (ir.object c fields))

-- an array of the type stands there
pub data IsArrayAt (r : ArrayRef) : Option ir.Stored → Type 0 where
  array_at : (items : List ir.Value) → IsArrayAt r (Some (ir.array r items))

-- nothing else is told of what isn't a number
either_false : (b : Bool) → (b || false) ≡ true → b ≡ true
either_false true h = refl
either_false false h = h

module _ (w : World) (law : IsSubtyping (IsSub w)) (at : Classes) (st : ir.State) (objects : (i : ℕ) (c : List ℕ) → at i ≡ Some (Class c) → IsObject c (slice_get st.heap i)) (arrays : (i : ℕ) (r : ArrayRef) → at i ≡ Some (Array r) → IsArrayAt r (slice_get st.heap i)) where
  abbrev Of : ir.Value → IrType → Type 0
  Of v o = IsOf (IsSub w) law at v o

  abbrev Has : ir.Value → IrType → Type 0
  Has v t = HasType (IsSub w) law at v t

  found : (c d : List ℕ) → is_ancestor w c d ≡ true → IsAncestor w c d
  found c d h = (ancestors_are_worked_out w c d).0 h

  -- a value of a primitive type, by its class
  by_class : (v : ir.Value) (o : IrType) (c d : List ℕ) → Of v o → hijacked_class o ≡ Some c → (is_ancestor w c d || false) ≡ true → Has v (Class d)
  by_class v o c d i e h = has_type o i (primitive_to_class c d e refl (found c d (either_false (is_ancestor w c d) h)))

  -- a hijacked class is its own ancestor
  itself : (c : List ℕ) → known.is_hijacked c ≡ true → IsAncestor w c c
  itself c h = record { known = or_right (is_some (known.class_of w c)) (known.is_hijacked c) h; way = by_path stay }

  small_class : (z : ℤ) (d : List ℕ) → is_small z d ≡ true → Has (ir.number z) (Class d)
  small_class z d h = go (or_cases (is_same_text d (codes "java.lang.Byte") && int_le (negsuc 127) z && int_le z (pos 127)) (is_same_text d (codes "java.lang.Short") && int_le (negsuc 32767) z && int_le z (pos 32767)) h)
    where
      named : (c : List ℕ) (low high : Bool) → (is_same_text d c && low && high) ≡ true → d ≡ c
      named c low high h = text-same d c (and_parts (is_same_text d c) low (and_parts (is_same_text d c && low) high h).0).0

      go : ((is_same_text d (codes "java.lang.Byte") && int_le (negsuc 127) z && int_le z (pos 127)) ≡ true) ⊎ ((is_same_text d (codes "java.lang.Short") && int_le (negsuc 32767) z && int_le z (pos 32767)) ≡ true) → Has (ir.number z) (Class d)
      go (inl l) = subst (λ (c : List ℕ). Has (ir.number z) (Class c)) (sym (named (codes "java.lang.Byte") (int_le (negsuc 127) z) (int_le z (pos 127)) l)) (has_type Byte (of_byte z) (primitive_to_class (codes "java.lang.Byte") (codes "java.lang.Byte") refl refl (itself (codes "java.lang.Byte") refl)))
      go (inr l) = subst (λ (c : List ℕ). Has (ir.number z) (Class c)) (sym (named (codes "java.lang.Short") (int_le (negsuc 32767) z) (int_le z (pos 32767)) l)) (has_type Short (of_short z) (primitive_to_class (codes "java.lang.Short") (codes "java.lang.Short") refl refl (itself (codes "java.lang.Short") refl)))

  number_class : (z : ℤ) (d : List ℕ) → is_instance w st (ir.number z) d ≡ true → Has (ir.number z) (Class d)
  number_class z d h = go (or_cases (is_ancestor w (codes "java.lang.Integer") d) (is_small z d) h)
    where
      go : (is_ancestor w (codes "java.lang.Integer") d ≡ true) ⊎ (is_small z d ≡ true) → Has (ir.number z) (Class d)
      go (inl l) = has_type Int (of_int z) (primitive_to_class (codes "java.lang.Integer") d refl refl (found (codes "java.lang.Integer") d l))
      go (inr l) = small_class z d l

  object_class : (i : ℕ) (c d : List ℕ) → Of (ir.reference i) (Class c) → (o : Option ir.Stored) → IsObject c o → (is_ancestor_of_any w (stored_class o) d || false) ≡ true → Has (ir.reference i) (Class d)
  object_class i c d of _ (an_object fields) h = has_type (Class c) of (class_to_class c d refl refl (found c d (either_false (is_ancestor w c d) h)))

  array_class : (i : ℕ) (r : ArrayRef) (d : List ℕ) → Of (ir.reference i) (Class object) → (o : Option ir.Stored) → IsArrayAt r o → (is_ancestor_of_any w (stored_class o) d || false) ≡ true → Has (ir.reference i) (Class d)
  array_class i r d of _ (array_at items) h = has_type (Class object) of (class_to_class object d refl refl (found object d (either_false (is_ancestor w object d) h)))

  instance_type : (v : ir.Value) (o : IrType) (d : List ℕ) → Of v o → is_instance w st v d ≡ true → Has v (Class d)
  instance_type _ _ d of_undefined h = by_class ir.undefined Undefined (codes "java.lang.Void") d of_undefined refl h
  instance_type _ _ d of_null h = impossible h
  instance_type _ _ d (of_boolean b) h = by_class (ir.boolean b) Boolean (codes "java.lang.Boolean") d (of_boolean b) refl h
  instance_type _ _ d (of_char u) h = by_class (ir.char u) Char (codes "java.lang.Character") d (of_char u) refl h
  instance_type _ _ d (of_long z) h = by_class (ir.long z) Long (codes "java.lang.Long") d (of_long z) refl h
  instance_type _ _ d (of_byte z) h = number_class z d h
  instance_type _ _ d (of_short z) h = number_class z d h
  instance_type _ _ d (of_int z) h = number_class z d h
  instance_type _ _ d (of_text us) h = by_class (ir.text us) String (codes "java.lang.String") d (of_text us) refl h
  instance_type _ _ d (of_object i c e n) h = object_class i c d (of_object i c e n) (slice_get st.heap i) (objects i c e) h
  instance_type _ _ d (of_array i r e) h = array_class i r d (of_any_array i r e) (slice_get st.heap i) (arrays i r e) h
  instance_type _ _ d (of_any_array i r e) h = array_class i r d (of_any_array i r e) (slice_get st.heap i) (arrays i r e) h

  -- an object isn't an array
  no_array : {A : Type 0} (c : List ℕ) (o : Option ir.Stored) (r : ArrayRef) → IsObject c o → is_array w o r ≡ true → A
  no_array c _ r (an_object fields) h = impossible h

  below_array : (i : ℕ) (q r : ArrayRef) → at i ≡ Some (Array q) → (o : Option ir.Stored) → IsArrayAt q o → is_array w o r ≡ true → Has (ir.reference i) (Array r)
  below_array i q r e _ (array_at items) h = has_type (Array q) (of_array i q e) ((subtypes_are_worked_out w (Array q) (Array r)).0 (or_right (is_same_type (Array q) (Array r) || is_same_type (Array q) Nothing) (is_array_below w q r) h))

  array_type : (v : ir.Value) (o : IrType) (r : ArrayRef) → Of v o → is_array_value w st v r ≡ true → Has v (Array r)
  array_type _ _ r (of_object i c e n) h = no_array c (slice_get st.heap i) r (objects i c e) h
  array_type _ _ r (of_array i q e) h = below_array i q r e (slice_get st.heap i) (arrays i q e) h
  array_type _ _ r (of_any_array i q e) h = below_array i q r e (slice_get st.heap i) (arrays i q e) h
  array_type _ _ r of_undefined h = impossible h
  array_type _ _ r of_null h = impossible h
  array_type _ _ r (of_boolean b) h = impossible h
  array_type _ _ r (of_char u) h = impossible h
  array_type _ _ r (of_long z) h = impossible h
  array_type _ _ r (of_byte z) h = impossible h
  array_type _ _ r (of_short z) h = impossible h
  array_type _ _ r (of_int z) h = impossible h
  array_type _ _ r (of_text us) h = impossible h

  undefined_type : (v : ir.Value) → is_of_type w st v Undefined ≡ true → Has v Undefined
  undefined_type ir.undefined h = has_type Undefined of_undefined (law.same Undefined)
  undefined_type _ h = impossible h

  boolean_type : (v : ir.Value) → is_of_type w st v Boolean ≡ true → Has v Boolean
  boolean_type (ir.boolean b) h = has_type Boolean (of_boolean b) (law.same Boolean)
  boolean_type _ h = impossible h

  char_type : (v : ir.Value) → is_of_type w st v Char ≡ true → Has v Char
  char_type (ir.char u) h = has_type Char (of_char u) (law.same Char)
  char_type _ h = impossible h

  byte_type : (v : ir.Value) → is_of_type w st v Byte ≡ true → Has v Byte
  byte_type (ir.number z) h = has_type Byte (of_byte z) (law.same Byte)
  byte_type _ h = impossible h

  short_type : (v : ir.Value) → is_of_type w st v Short ≡ true → Has v Short
  short_type (ir.number z) h = has_type Short (of_short z) (law.same Short)
  short_type _ h = impossible h

  int_type : (v : ir.Value) → is_of_type w st v Int ≡ true → Has v Int
  int_type (ir.number z) h = has_type Int (of_int z) (law.same Int)
  int_type _ h = impossible h

  long_type : (v : ir.Value) → is_of_type w st v Long ≡ true → Has v Long
  long_type (ir.long z) h = has_type Long (of_long z) (law.same Long)
  long_type _ h = impossible h

  text_type : (v : ir.Value) → is_of_type w st v String ≡ true → Has v String
  text_type (ir.text us) h = has_type String (of_text us) (law.same String)
  text_type _ h = impossible h

  pub tested_type : (v : ir.Value) (t : IrType) → Has v Any → is_of_type w st v t ≡ true → Has v t
  tested_type v Any i h = i
  tested_type v Undefined i h = undefined_type v h
  tested_type v Boolean i h = boolean_type v h
  tested_type v Char i h = char_type v h
  tested_type v Byte i h = byte_type v h
  tested_type v Short i h = short_type v h
  tested_type v Int i h = int_type v h
  tested_type v Long i h = long_type v h
  tested_type v String i h = text_type v h
  tested_type v (Class c) (has_type o i f) h = instance_type v o c i h
  tested_type v (Array r) (has_type o i f) h = array_type v o r i h
  tested_type v t i h = impossible h

-- whether a value is of a type is a boolean
pub test_type : (w typing : World) (law : IsSubtyping (IsSub typing)) (at : Classes) (st : ir.State) (v : ir.Value) (t : IrType) → HasType (IsSub typing) law at (is_instance_value w t st v) Boolean
test_type w typing law at st ir.null t = has_type Boolean (of_boolean false) (law.same Boolean)
test_type w typing law at st v t = has_type Boolean (of_boolean (is_of_type w st v t)) (law.same Boolean)
