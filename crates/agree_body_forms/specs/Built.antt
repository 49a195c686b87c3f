-- The forms of bodies that are built: what is asked of a method beside its typing, so that the theorem on bodies covers it, one Boolean.
use Rattle.std.specs.Prelude.{ℕ, ◌^◌, nat_lt, length, pos, Bool, true, false, ◌&&◌, ◌||◌, not, if◌then◌else◌, List, [], ◌∷◌, Option, Some, codes}
use Rattle.std.specs.Ordering.{int_eq}
use Rattle.sj_desugar_spec.specs.Lookup.{Lookup, own_targets}
use Rattle.sj_desugar_spec.specs.Callee.{Callee}
use Rattle.sj_desugar_spec.specs.CalleeVariants as callees
use Rattle.sj_desugar_spec.specs.Desugar.{member, callee_of, result_destination, types_of}
use Rattle.sj_desugar_spec.specs.Plain.{is_no_type}
use Rattle.sj_emit_expr_spec.specs.Templates.{element_setter}
use Rattle.sj_names.specs.declared.method_names.Namespace.{Namespace}
use Rattle.sj_names.specs.declared.method_names.Namespace.TheVariants.{Public, PublicStatic, Private, PrivateStatic, Constructor}
use Rattle.sj_names.specs.declared.references.BaseRef.{BaseRef}
use Rattle.sj_names.specs.declared.references.TypeRef.{TypeRef}
use Rattle.sj_names.specs.declared.references.TypeRef.TheVariants.{Void}
use Rattle.sj_names.specs.declared.method_names.Member.{Member}
use Rattle.sj_names.specs.declared.method_names.MethodName.{MethodName}
use Rattle.sj_desugar_spec.specs.Sure.{is_sure_type}
use Rattle.sj_trees.specs.Term.{Term, Terms, no_terms, more_terms, Cases, no_cases, more_cases, var_def, skip, block_of, labeled, assign, return_to, if_then, while_loop, do_while, try_catch, try_finally, match_on, throw, new_object, new_array, array_value, array_length, array_select, load_module, store_module, select, select_static, apply, apply_statically, this_ref, apply_static, unary_op, binary_op, is_instance_of, as_instance_of, undefined_literal, null_literal, boolean_literal, char_literal, byte_literal, short_literal, int_literal, long_literal, string_literal, var_ref, log_line}
use Rattle.sj_trees.specs.TypeOf.{type_of_term}
use Rattle.sj_trees.specs.declared.classes.MethodDef.{MethodDef}
use Rattle.sj_trees.specs.declared.operators.BinaryOp.{BinaryOp}
use Rattle.sj_trees.specs.declared.operators.BinaryOp.TheVariants.{StrictEqual, StrictNotEqual, IntDivide, IntRemainder, LongDivide, LongRemainder}
use Rattle.sj_trees.specs.declared.types.IrType.{IrType}
use Rattle.sj_trees.specs.declared.types.IrType.TheVariants.{Any, Array, Class}
use Rattle.agree_body_forms.specs.Boxes.{boxes, goal_of}

-- a literal other than zero
abbrev pub is_nonzero_int : Term → Bool
is_nonzero_int (int_literal p z) = not (int_eq z (pos 0))
is_nonzero_int _ = false

abbrev pub is_nonzero_long : Term → Bool
is_nonzero_long (long_literal p z) = not (int_eq z (pos 0))
is_nonzero_long _ = false

-- what a body can use: the static members that are linked, and those that run on a receiver, with what is known of the classes where these are called; the methods that are looked
-- up on the instances of a class, and those of which there is a function that tells primitive instances apart; the reflective names of which there is a function by which receivers are called; the constructors that are linked; the classes of which objects are made, and those whose code is there: these and the classes above them; their fields and the static fields that can be read and those that can be set, with their types; the classes whose one object can be loaded, and those for which it can be stored; the types for which
-- there is a test, and those for which there is a cast; the classes that can be named as the base of an array, and whether arrays can be made; the methods that can be called on arrays; helpers, by their names; and whether it can throw, and name the object that it runs on
pub record Usable : Type 0 where
  pub linked : Member → Bool
  pub lookup : Lookup
  pub received : Member → Bool
  pub looked_up : List ℕ → MethodName → Bool
  pub dispatched : MethodName → Bool
  pub reflected : MethodName → Bool
  pub built : Member → Bool
  pub made : List ℕ → Bool
  pub live : List ℕ → Bool
  pub field : List ℕ → List ℕ → IrType → Bool
  pub static_field : List ℕ → List ℕ → IrType → Bool
  pub static_setter : List ℕ → List ℕ → IrType → Bool
  pub modules : List ℕ → Bool
  pub stored : List ℕ → Bool
  pub tests : IrType → Bool
  pub casts : IrType → Bool
  pub bases : List ℕ → Bool
  pub arrays : Bool
  pub on_arrays : MethodName → Bool
  pub helper : List ℕ → Bool
  pub objects : Bool

-- objects that hold chars can be made
abbrev pub can_box : Usable → Bool
can_box has = has.helper (codes "$C")

-- objects that hold chars can be made, or none is
abbrev pub may_make : Usable → Bool → Bool
may_make has boxed = can_box has || not boxed

-- these static members and nothing else
abbrev pub members_alone : (Member → Bool) → Usable
members_alone linked = record { linked = linked; lookup = own_targets; received = λ m. false; looked_up = λ c m. false; dispatched = λ m. false; reflected = λ m. false; built = λ m. false; made = λ c. false; live = λ c. false; field = λ c f t. false; static_field = λ c f t. false; static_setter = λ c f t. false; modules = λ c. false; stored = λ c. false; tests = λ t. false; casts = λ t. false; bases = λ c. false; arrays = false; on_arrays = λ m. false; helper = λ x. false; objects = false }

-- a static field can be read or set
abbrev pub has_static : Usable → List ℕ → List ℕ → IrType → Bool
has_static has c f t = has.static_field c f t || has.static_setter c f t

-- the one object of the class can be loaded or stored
abbrev pub has_cell : Usable → List ℕ → Bool
has_cell has c = has.modules c || has.stored c

-- the operator is a division whose helper can be used
abbrev pub divides : Usable → BinaryOp → Bool
divides has IntDivide = has.helper (codes "$id")
divides has IntRemainder = has.helper (codes "$im")
divides has LongDivide = has.helper (codes "$ld")
divides has LongRemainder = has.helper (codes "$lm")
divides has _ = false

-- identity can be asked
abbrev pub compares : Usable → Bool
compares has = has.helper (codes "$eq")

-- the base of an array can be named
abbrev pub has_base : Usable → BaseRef → Bool
has_base has (BaseRef.Class c) = has.bases c
has_base has base = true

-- a type whose base can be named, where it is one of arrays
abbrev pub is_based : Usable → IrType → Bool
is_based has (Array r) = has_base has r.base
is_based has t = true

-- a cast to this type: one to any calls nothing
abbrev pub can_cast : Usable → IrType → Bool
can_cast has Any = true
can_cast has t = has.casts t

-- an item of this type can be written
abbrev pub can_put : Usable → IrType → Bool
can_put has t = has.helper (element_setter t)

-- there are as many trees as an int can tell
abbrev pub are_countable : Terms → Bool
are_countable ts = nat_lt (length (types_of ts)) (2 ^ 31)

-- an operator with this right operand: its helper can be used, or it needs none; a division by a literal other than zero needs none
abbrev pub is_operation : Usable → BinaryOp → Term → Bool
is_operation has StrictEqual d = compares has
is_operation has StrictNotEqual d = compares has
is_operation has IntDivide d = divides has IntDivide || is_nonzero_int d
is_operation has IntRemainder d = divides has IntRemainder || is_nonzero_int d
is_operation has LongDivide d = divides has LongDivide || is_nonzero_long d
is_operation has LongRemainder d = divides has LongRemainder || is_nonzero_long d
is_operation has _ d = true

-- a method can be looked up on the instances of the class; where a hijacked class stands there or below, by the function that tells primitive ones apart
abbrev pub can_look_up : Usable → List ℕ → MethodName → Bool
can_look_up has c m = has.looked_up c m && (has.dispatched m || not (has.lookup.has_hijacked c))

-- what is called on a receiver: the target of a public member, a method that is looked up, one of an array, and one by its reflective name
abbrev pub can_call : Usable → Callee → Bool
can_call has (callees.Member m) = has.received (has.lookup.target m)
can_call has (callees.LookedUp c m) = can_look_up has c m
can_call has (callees.OfArray m) = has.on_arrays m
can_call has (callees.Reflective m) = has.reflected m

-- what a body can use, and the receivers that are never null or whose null check can be used
module _ (has : Usable) (checked : Term → Bool) where
  -- the tree is of the forms that are built, whatever the trees in it are: what it calls, makes and reads is there, so is the helper of its division or its divisor is a literal, its
  -- receiver is checked where it has to be, and an array is given with no more items than an int can tell; the call of a constructor is one of its class without a value, or of a member on a receiver
  abbrev pub stands : Term → Bool
  stands (var_def p x t b e) = true
  stands (skip p) = true
  stands (block_of p ts) = true
  stands (labeled p l t e) = true
  stands (assign p (var_ref q x t) e) = true
  stands (assign p (select q d c f t) e) = has.field c f t && checked d
  stands (assign p (select_static q c f t) e) = has.static_setter c f t
  stands (assign p (array_select q d i t) e) = can_put has t && checked d
  stands (return_to p e l) = true
  stands (if_then p c a b t) = true
  stands (while_loop p c b) = true
  stands (do_while p b c) = true
  stands (try_catch p e x d t) = has.objects
  stands (try_finally p e d) = true
  stands (throw p e) = has.objects
  stands (match_on p e cs d t) = true
  stands (new_object p c m ts) = has.made c && has.built (member c Constructor m)
  stands (load_module p c) = has.modules c
  stands (store_module p c e) = has.stored c
  stands (select p e c f t) = has.field c f t && checked e
  stands (select_static p c f t) = has.static_field c f t
  stands (apply_statically p e c Private m ts t) = has.received (member c Private m) && checked e
  stands (apply_statically p e c Public m ts t) = has.received (has.lookup.target (member c Public m)) && checked e
  stands (apply_statically p e c Constructor m ts t) = if is_no_type t then has.built (member c Constructor m) else (has.received (member c Constructor m) && checked e)
  stands (apply p e m ts t) = can_call has (callee_of (type_of_term e) m) && checked e
  stands (apply_static p c n m ts t) = has.linked (member c n m)
  stands (unary_op p o e) = true
  stands (binary_op p o e d) = is_operation has o d
  stands (new_array p r e) = has.arrays && (has.helper (codes "$mk") && has_base has r.base)
  stands (array_value p r ts) = has.arrays && (has.helper (codes "$A") && (has_base has r.base && are_countable ts))
  stands (array_length p e) = checked e
  stands (array_select p e i t) = has.helper (codes "$get") && checked e
  stands (is_instance_of p e t) = has.tests t && is_based has t
  stands (as_instance_of p e t) = can_cast has t && is_based has t
  stands (undefined_literal p) = true
  stands (null_literal p) = true
  stands (boolean_literal p b) = true
  stands (char_literal p u) = true
  stands (byte_literal p z) = true
  stands (short_literal p z) = true
  stands (int_literal p z) = true
  stands (long_literal p z) = true
  stands (string_literal p us) = true
  stands (var_ref p x t) = true
  stands (this_ref p t) = has.objects
  stands (log_line p e) = true
  stands _ = false

  abbrev mutual
    -- a tree of the forms that are built
    pub is_built : Term → Bool
    is_built (var_def p x t b e) = is_built e
    is_built (block_of p ts) = are_built ts
    is_built (labeled p l t e) = is_built e
    is_built (assign p (var_ref q x t) e) = is_built e
    is_built (assign p (select q d c f t) e) = stands (assign p (select q d c f t) e) && (is_built d && is_built e)
    is_built (assign p (select_static q c f t) e) = stands (assign p (select_static q c f t) e) && is_built e
    is_built (assign p (array_select q d i t) e) = stands (assign p (array_select q d i t) e) && (is_built d && (is_built i && is_built e))
    is_built (return_to p e l) = is_built e
    is_built (if_then p c a b t) = is_built c && (is_built a && is_built b)
    is_built (while_loop p c b) = is_built c && is_built b
    is_built (do_while p b c) = is_built b && is_built c
    is_built (try_catch p e x d t) = stands (try_catch p e x d t) && (is_built e && is_built d)
    is_built (try_finally p e d) = is_built e && is_built d
    is_built (throw p e) = stands (throw p e) && is_built e
    is_built (match_on p e cs d t) = is_built e && (are_built_cases cs && is_built d)
    is_built (new_object p c m ts) = stands (new_object p c m ts) && are_built ts
    is_built (store_module p c e) = stands (store_module p c e) && is_built e
    is_built (select p e c f t) = stands (select p e c f t) && is_built e
    is_built (apply_statically p e c n m ts t) = stands (apply_statically p e c n m ts t) && (is_built e && are_built ts)
    is_built (apply p e m ts t) = stands (apply p e m ts t) && (is_built e && are_built ts)
    is_built (apply_static p c n m ts t) = stands (apply_static p c n m ts t) && are_built ts
    is_built (unary_op p o e) = is_built e
    is_built (binary_op p o e d) = stands (binary_op p o e d) && (is_built e && is_built d)
    is_built (new_array p r e) = stands (new_array p r e) && is_built e
    is_built (array_value p r ts) = stands (array_value p r ts) && are_built ts
    is_built (array_length p e) = stands (array_length p e) && is_built e
    is_built (array_select p e i t) = stands (array_select p e i t) && (is_built e && is_built i)
    is_built (is_instance_of p e t) = stands (is_instance_of p e t) && is_built e
    is_built (as_instance_of p e t) = stands (as_instance_of p e t) && is_built e
    is_built (log_line p e) = is_built e
    is_built t = stands t

    pub are_built : Terms → Bool
    are_built no_terms = true
    are_built (more_terms t ts) = is_built t && are_built ts

    -- a case without keys isn't written
    pub are_built_cases : Cases → Bool
    are_built_cases no_cases = true
    are_built_cases (more_cases [] e cs) = are_built_cases cs
    are_built_cases (more_cases (n ∷ ns) e cs) = is_built e && are_built_cases cs

-- the code of this body makes an object that holds a char
abbrev pub body_boxes : MethodDef → Term → Bool
body_boxes d e = boxes [] (goal_of (result_destination d.result)) e

-- a method of this body is built: its code makes objects that hold chars only if they can be made
abbrev pub is_built_method : Usable → (Term → Bool) → MethodDef → Term → Bool
is_built_method has checked d e = may_make has (body_boxes d e) && is_built has checked e

-- whatever static member is called
abbrev pub anything : Usable
anything = members_alone (λ m. true)

-- a method of which this is the result has no value
abbrev pub has_no_value : Option TypeRef → Bool
has_no_value (Some Void) = true
has_no_value _ = false

-- the values of the type are of one kind: it is primitive, and isn't that of null
abbrev pub has_kind : IrType → Bool
has_kind = is_sure_type

-- a type that a test can ask for, and to which a cast can go that calls a function: one whose values are of one kind, a class, or one of arrays
abbrev pub is_testable : IrType → Bool
is_testable (Class c) = true
is_testable (Array r) = true
is_testable t = has_kind t

-- whatever is made, called and used of objects and of arrays, where an object is made by a constructor without a value
abbrev pub any_object : Usable
any_object = record { linked = λ m. true; lookup = own_targets; received = λ m. true; looked_up = λ c m. true; dispatched = λ m. true; reflected = λ m. true; built = λ m. has_no_value m.method.result; made = λ c. true; live = λ c. true; field = λ c f t. true; static_field = λ c f t. true; static_setter = λ c f t. true; modules = λ c. true; stored = λ c. true; tests = is_testable; casts = is_testable; bases = λ c. true; arrays = true; on_arrays = λ m. true; helper = λ x. true; objects = true }

-- the body is of these forms, whatever it calls, makes and reads
abbrev pub is_object_body : MethodDef → Term → Bool
is_object_body = is_built_method any_object (λ e. true)

-- the body is of the forms that are built without objects, whatever static member it calls: no receiver is checked
abbrev pub is_built_body : MethodDef → Term → Bool
is_built_body = is_built_method anything (λ e. false)

abbrev pub is_static : Namespace → Bool
is_static PublicStatic = true
is_static PrivateStatic = true
is_static _ = false
