-- What a body asks for.
use Rattle.std.specs.Prelude.{ℕ, zero, ℤ, pos, Bool, true, false, not, ◌&&◌, ◌==◌, List, [], ◌∷◌, ◌++◌, Option, Some, None, is_none, codes, if◌then◌else◌}
use Rattle.std.specs.List.{flat_map}
use Rattle.sj_names.specs.declared.method_names.MethodName.{MethodName}
use Rattle.sj_names.specs.declared.method_names.Namespace.{Namespace}
use Rattle.sj_names.specs.declared.method_names.Namespace.TheVariants.{Public}
use Rattle.sj_names.specs.declared.references.ArrayRef.{ArrayRef}
use Rattle.sj_names.specs.declared.references.BaseRef.{BaseRef}
use Rattle.sj_trees.specs.Term.{Term, assign, new_object, load_module, select, select_static, apply, apply_statically, apply_static, binary_op, new_array, array_value, array_length, array_select, is_instance_of, as_instance_of, undefined_literal, null_literal, boolean_literal, char_literal, byte_literal, short_literal, int_literal, long_literal, string_literal}
use Rattle.sj_trees.specs.TypeOf.{type_of_term}
use Rattle.sj_trees.specs.declared.classes.MethodDef.{MethodDef}
use Rattle.sj_trees.specs.declared.operators.BinaryOp.{BinaryOp}
use Rattle.sj_trees.specs.declared.types.IrType.{IrType}
use Rattle.sj_infos.specs.Receivers.{receiver_class}
use Rattle.sj_infos.specs.declared.infos.Info.{Info}
use Rattle.sj_infos.specs.declared.infos.Info.TheVariants.{New, Load, Field, Static, Resolved, Called, Reflective, Class, ArrayForm, Throws}
use Rattle.sj_infos.specs.Once.{FirstsOf}
use Rattle.sj_infos.specs.Sure.{is_primitive, is_sure, sure_among}
use Rattle.sj_infos.specs.Trees.{trees}

-- the exceptions of the profile
abbrev pub null_pointer : List Info
null_pointer = Throws (codes "java.lang.NullPointerException") ∷ []

abbrev pub arithmetic : List Info
arithmetic = Throws (codes "java.lang.ArithmeticException") ∷ []

abbrev pub class_cast : List Info
class_cast = Throws (codes "java.lang.ClassCastException") ∷ []

abbrev pub index_out_of_bounds : List Info
index_out_of_bounds = Throws (codes "java.lang.ArrayIndexOutOfBoundsException") ∷ []

abbrev pub array_store : List Info
array_store = Throws (codes "java.lang.ArrayStoreException") ∷ []

abbrev pub negative_size : List Info
negative_size = Throws (codes "java.lang.NegativeArraySizeException") ∷ []

abbrev pub no_such_method : List Info
no_such_method = Throws (codes "java.lang.NoSuchMethodException") ∷ []

-- a receiver may be null where it isn't sure
abbrev pub of_receiver : List (List ℕ) → Term → List Info
of_receiver sure e = if is_sure sure e then [] else null_pointer

-- a call in the class of the receiver, where it has one
abbrev pub of_call : MethodName → Option (List ℕ) → List Info
of_call m None = []
of_call m (Some c) = Called c m ∷ []

-- a call on a receiver: by a reflective name it may find no method
abbrev pub of_apply : List (List ℕ) → Term → MethodName → List Info
of_apply sure e m = if is_none m.result then Reflective m ∷ of_receiver sure e ++ no_such_method else of_call m (receiver_class (type_of_term e)) ++ of_receiver sure e

-- a method that stands in the class
abbrev pub of_member : List ℕ → Namespace → MethodName → List Info
of_member c n m = Static (record { class = c; namespace = n; method = m }) ∷ []

-- in Public the target is found from the class on, elsewhere it stands in the class
abbrev pub of_static_call : List ℕ → Namespace → MethodName → List Info
of_static_call c Public m = Resolved c m ∷ []
of_static_call c n m = of_member c n m

-- a literal other than a zero
abbrev pub is_other_than_zero : Term → Bool
is_other_than_zero (undefined_literal p) = true
is_other_than_zero (null_literal p) = true
is_other_than_zero (boolean_literal p b) = true
is_other_than_zero (char_literal p v) = not (v == 0)
is_other_than_zero (byte_literal p (pos zero)) = false
is_other_than_zero (byte_literal p v) = true
is_other_than_zero (short_literal p (pos zero)) = false
is_other_than_zero (short_literal p v) = true
is_other_than_zero (int_literal p (pos zero)) = false
is_other_than_zero (int_literal p v) = true
is_other_than_zero (long_literal p (pos zero)) = false
is_other_than_zero (long_literal p v) = true
is_other_than_zero (string_literal p us) = true
is_other_than_zero _ = false

-- divisions and remainders
abbrev pub divides : BinaryOp → Bool
divides BinaryOp.IntDivide = true
divides BinaryOp.IntRemainder = true
divides BinaryOp.LongDivide = true
divides BinaryOp.LongRemainder = true
divides _ = false

-- a division fails where its divisor may be zero
abbrev pub of_division : BinaryOp → Term → List Info
of_division o b = if divides o && not (is_other_than_zero b) then arithmetic else []

-- the class at the base of an array
abbrev pub of_base : BaseRef → List Info
of_base (BaseRef.Class c) = Class c ∷ []
of_base _ = []

abbrev pub of_array : ArrayRef → List Info
of_array r = of_base r.base ++ ArrayForm ∷ []

-- the class that a test or a cast names
abbrev pub of_type : IrType → List Info
of_type (IrType.Class c) = Class c ∷ []
of_type (IrType.Array r) = of_array r
of_type _ = []

abbrev pub is_any : IrType → Bool
is_any IrType.Any = true
is_any _ = false

-- a cast to any can't fail
abbrev pub of_cast : IrType → List Info
of_cast t = of_type t ++ (if is_any t then [] else class_cast)

-- a store fails by the element only where that isn't primitive
abbrev pub of_element : IrType → List Info
of_element t = if is_primitive t then [] else array_store

-- a store into an array
abbrev pub of_store : Term → List Info
of_store (array_select p a i t) = of_element t
of_store _ = []

-- what each form asks for, where these locals are sure
abbrev pub asks : List (List ℕ) → Term → List Info
asks sure (assign p a e) = of_store a
asks sure (new_object p c k ts) = New c k ∷ []
asks sure (load_module p c) = Load c ∷ []
asks sure (select p e c f t) = Field c f false ∷ of_receiver sure e
asks sure (select_static p c f t) = Field c f true ∷ []
asks sure (apply p e m ts t) = of_apply sure e m
asks sure (apply_statically p e c n m ts t) = of_static_call c n m ++ of_receiver sure e
asks sure (apply_static p c n m ts t) = of_member c n m
asks sure (binary_op p o a b) = of_division o b
asks sure (new_array p r e) = of_array r ++ negative_size
asks sure (array_value p r ts) = of_array r
asks sure (array_length p e) = of_receiver sure e
asks sure (array_select p e i t) = of_receiver sure e ++ index_out_of_bounds
asks sure (is_instance_of p e t) = of_type t
asks sure (as_instance_of p e t) = of_cast t
asks sure _ = []

-- what the trees of a body ask for, one by one
abbrev pub asked_among : List Term → List Info
asked_among ts = flat_map (asks (sure_among [] ts)) ts

abbrev pub asked_in : Term → List Info
asked_in body = asked_among (trees body)

-- what a method asks for; an abstract one asks for nothing
abbrev pub asked_by_body : Option Term → List Info
asked_by_body None = []
asked_by_body (Some body) = asked_in body

abbrev pub asked_by : MethodDef → List Info
asked_by m = asked_by_body m.body

-- what a method asks for, once each, in the order in which it is first asked for
abbrev pub AreInfosOf : MethodDef → List Info → Type 0
AreInfosOf m infos = FirstsOf (asked_by m) infos
