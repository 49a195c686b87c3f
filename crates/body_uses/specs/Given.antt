-- What a body is given: what its emitted code names is there.
use Rattle.std.specs.Prelude.{◌≡◌, ◌⊎◌, ℕ, true, List, [], ◌∷◌, Contains, codes, None, false}
use Rattle.std.specs.List.{All}
use Rattle.object_folders.specs.Built.{Usable, is_testable, has_base, is_based, has_no_value, any_object, can_look_up}
use Rattle.js_tree.specs.declared.items.Binding.{Binding}
use Rattle.sj_core.specs.declared.callees.Callee.TheVariants as callees
use Rattle.sj_desugar_spec.specs.Desugar.{member, callee_of}
use Rattle.sj_desugar_spec.specs.Plain.{is_no_type}
use Rattle.sj_emit_expr_spec.specs.Templates.{check_name}
use Rattle.sj_emit_expr_spec.specs.Tests.{same_name}
use Rattle.sj_emit_expr_spec.specs.Uses.{object_binding, function_binding, class_use, static_use, setter_use, load_use, store_use, test_uses, cast_uses, base_uses, type_uses, call_uses}
use Rattle.sj_names.specs.declared.method_names.Namespace.TheVariants.{Private, Constructor, Public}
use Rattle.sj_names.specs.declared.references.BaseRef.{BaseRef}
use Rattle.sj_trees.specs.Term.{Term, new_object, new_array, array_value, load_module, store_module, select, select_static, apply_statically, apply_static, binary_op, is_instance_of, as_instance_of, apply}
use Rattle.sj_trees.specs.TypeOf.{type_of_term}
use Rattle.sj_trees.specs.declared.operators.BinaryOp.{BinaryOp}
use Rattle.sj_trees.specs.declared.operators.BinaryOp.TheVariants.{IntDivide, IntRemainder, LongDivide, LongRemainder}
use Rattle.sj_trees.specs.declared.types.IrType.{IrType}
use Rattle.sj_trees.specs.declared.types.IrType.TheVariants.{Int, Long, Nothing}

-- a tree is of this type, or it has no value
abbrev pub HasType : IrType → Term → Type 0
HasType t e = (type_of_term e ≡ t) ⊎ (type_of_term e ≡ Nothing)

-- a divisor is of the type that is divided
abbrev pub FitsDivision : BinaryOp → Term → Type 0
FitsDivision IntDivide d = HasType Int d
FitsDivision IntRemainder d = HasType Int d
FitsDivision LongDivide d = HasType Long d
FitsDivision LongRemainder d = HasType Long d
FitsDivision _ d = Unit {0}

-- the check of null, the divisions, the class of objects that hold chars, identity, and what makes arrays, reads their items and sets them
abbrev pub body_helpers : List (List ℕ)
body_helpers = check_name ∷ codes "$id" ∷ codes "$im" ∷ codes "$ld" ∷ codes "$lm" ∷ codes "$C" ∷ same_name ∷ codes "$mk" ∷ codes "$A" ∷ codes "$get" ∷ codes "$set" ∷ codes "$put" ∷ []

-- where these bindings are used
module _ (has : Usable) (used : List Binding) where
  -- arrays can be made where the helper that makes them is used, and their base is there where it is named
  abbrev pub GivenArray : List ℕ → BaseRef → Type 0
  GivenArray x b = (Contains used (object_binding x) → has.arrays ≡ true) × (has_base any_object b ≡ true → All (Contains used) (base_uses b) → has_base has b ≡ true)

  -- a member whose function is used is there, of a public one, and of a method that a hijacked class decides on, the target, a method that is looked up, a constructor where it has no value, and so are a class that is used to make an object, each field, a static field whose
  -- variable or setter is used, a module whose function that loads or stores it is used, a test and a cast whose function is used, and the base of arrays that is named; a method that is called on arrays can be; a divisor has its type
  abbrev pub Given : Term → Type 0
  Given (apply_static p c n m ts t) = Contains used (function_binding (member c n m)) → has.linked (member c n m) ≡ true
  Given (apply p e m ts t) = ((c : List ℕ) → callee_of (type_of_term e) m ≡ callees.Member (member c Public m) → Contains used (function_binding (has.lookup.target (member c Public m))) → has.received (has.lookup.target (member c Public m)) ≡ true) × (((c : List ℕ) → callee_of (type_of_term e) m ≡ callees.LookedUp c m → can_look_up any_object c m ≡ true → All (Contains used) (call_uses has.lookup (callees.LookedUp c m)) → can_look_up has c m ≡ true) × ((callee_of (type_of_term e) m ≡ callees.OfArray m → has.on_arrays m ≡ true) × (m.result ≡ None → All (Contains used) (call_uses has.lookup (callees.Reflective m)) → has.reflected m ≡ true)))
  Given (apply_statically p e c Private m ts t) = Contains used (function_binding (member c Private m)) → has.received (member c Private m) ≡ true
  Given (apply_statically p e c Public m ts t) = Contains used (function_binding (has.lookup.target (member c Public m))) → has.received (has.lookup.target (member c Public m)) ≡ true
  Given (apply_statically p e c Constructor m ts t) = (has_no_value m.result ≡ true → Contains used (function_binding (member c Constructor m)) → has.built (member c Constructor m) ≡ true) × (is_no_type t ≡ false → Contains used (function_binding (member c Constructor m)) → has.received (member c Constructor m) ≡ true)
  Given (new_object p c m ts) = has_no_value m.result ≡ true → Contains used (function_binding (member c Constructor m)) → Contains used (class_use c) → (has.built (member c Constructor m) ≡ true) × (has.made c ≡ true)
  Given (select p e c f t) = has.field c f t ≡ true
  Given (select_static p c f t) = (Contains used (static_use c f) → has.static_field c f t ≡ true) × (Contains used (setter_use c f) → has.static_setter c f t ≡ true)
  Given (load_module p c) = Contains used (load_use c) → has.modules c ≡ true
  Given (store_module p c e) = Contains used (store_use c) → has.stored c ≡ true
  Given (is_instance_of p e t) = (is_testable t ≡ true → All (Contains used) (test_uses t) → has.tests t ≡ true) × (is_based any_object t ≡ true → All (Contains used) (type_uses t) → is_based has t ≡ true)
  Given (as_instance_of p e t) = (is_testable t ≡ true → All (Contains used) (cast_uses t) → has.casts t ≡ true) × (is_based any_object t ≡ true → All (Contains used) (type_uses t) → is_based has t ≡ true)
  Given (new_array p r e) = GivenArray (codes "$mk") r.base
  Given (array_value p r ts) = GivenArray (codes "$A") r.base
  Given (binary_op p o e d) = FitsDivision o d
  Given _ = Unit {0}

  -- a helper that is used is there
  abbrev pub HelpersGiven : Type 0
  HelpersGiven = (x : List ℕ) → Contains body_helpers x → Contains used (object_binding x) → has.helper x ≡ true
