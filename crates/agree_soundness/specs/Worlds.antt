-- Worlds in which what stands below a class with fields has it on its chain of superclasses.
use Rattle.std.specs.Prelude.{◌≡◌, true, false, Some, codes}
use Rattle.std.specs.List.{Contains}
use Rattle.agree_early_errors.specs.Locals.{HasValue}
use Rattle.agree_soundness.specs.Laws.{IsClassBelow, Answers, AnswersByName, null_pointer, arithmetic, class_cast, out_of_bounds, array_store, negative_size, CanRaise}
use Rattle.agree_soundness.specs.Rules.{RightMember}
use Rattle.agree_early_errors.specs.Built.{Usable, has_static, divides, can_put}
use Rattle.dispatch_laws.specs.Targets.{IsTargetOf}
use Rattle.dispatch_laws.specs.Meaning.{without_parameters}
use Rattle.dispatch_laws.specs.World.{zeros_in, statics_in, zero_of}
use Rattle.dispatch_laws.specs.World as ir_world
use Rattle.agree_early_errors.specs.Desugar.{member}
use Rattle.dispatch_laws.specs.Templates.{check_name}
use Rattle.sj_names.specs.declared.method_names.Member.{Member}
use Rattle.sj_names.specs.declared.method_names.MethodName.{MethodName}
use Rattle.sj_names.specs.declared.method_names.Namespace.TheVariants.{Constructor}
use Rattle.sj_trees.specs.declared.operators.BinaryOp.{BinaryOp}
use Rattle.sj_trees.specs.declared.types.IrType.{IrType}
use Rattle.dispatch_laws.specs.Refusals.{HasNoCycle}
use Rattle.sj_local.specs.ClassRules.{is_interface, keeps_superclass, keeps_hijacked}
use Rattle.sj_names.specs.WellKnown.{is_object, is_number, is_hijacked}
use Rattle.sj_trees.specs.declared.classes.ClassDef.{ClassDef}
use Rattle.dispatch_laws.specs.Ancestors.{IsParent}
use Rattle.dispatch_laws.specs.Known.{Name, Classes, class_of, stands_as, object}
use Rattle.dispatch_laws.specs.Paths.{Path}

-- each class keeps the rules on superclasses and on hijacked classes
pub record AreClassesKept (w : Classes) : Type 0 where
  pub superclass : (c : ClassDef) → Contains w c → keeps_superclass c ≡ true
  pub hijacked : (c : ClassDef) → Contains w c → keeps_hijacked c ≡ true

-- a class whose instances may have fields
pub record HasFields (w : Classes) (c : Name) : Type 0 where
  pub class : ClassDef
  pub found : class_of w c ≡ Some class
  pub no_interface : is_interface class.kind ≡ false
  pub no_object : is_object c ≡ false
  pub no_number : is_number c ≡ false
  pub no_hijacked : is_hijacked c ≡ false

-- whatever is written as an interface by a class, or by one above it, is one
abbrev pub WritesInterfaces : Classes → Name → Type 0
WritesInterfaces w d = (b : Name) → Path (IsParent w) d b → (class : ClassDef) → class_of w (stands_as b) ≡ Some class → (i : Name) (face : ClassDef) → Contains class.interfaces i → class_of w i ≡ Some face → is_interface face.kind ≡ true

-- what is asked of a world, and of what bodies use there, by the rules of its classes: the members that can be called keep the rules, what a call of a member runs is its target, and a method
-- that can be looked up on the objects of a class has a target in each class below it, one that can be called on arrays in the class of all objects, where that is made, and a reflective name by which receivers can be called an answer in each class; what is made isn't hijacked;
-- what can be read is a field of a class with fields, and what is static is a static field of its class; a class whose one object can be loaded is made, and so is its constructor; the exceptions of helpers, and what arrays need, can be made; an array in which an item is written has dimensions; and whatever is written as an interface above these and above the hijacked classes is one
pub record ObjectWorld (w : Classes) (has : Usable) : Type 0 where
  pub kept : AreClassesKept w
  pub acyclic : HasNoCycle w
  pub received : (m : Member) → has.received m ≡ true → RightMember w w has m
  pub targets : (m : Member) → has.received (has.lookup.target m) ≡ true → IsTargetOf w m (has.lookup.target m)
  pub looked : (c : Name) (m : MethodName) → has.looked_up c m ≡ true → (d : Name) → IsClassBelow w has c d → Answers w has c d m
  pub on_arrays : (m : MethodName) → has.on_arrays m ≡ true → has.made object ≡ true → Answers w has object object m
  pub reflected : (p : MethodName) → has.reflected p ≡ true → (d : Name) → IsClassBelow w has object d → AnswersByName w has d p
  pub built : (m : Member) → has.built m ≡ true → RightMember w w has m
  pub made : (c : Name) → has.made c ≡ true → (is_hijacked c ≡ false) × WritesInterfaces w c
  pub primitives : (h : Name) → is_hijacked h ≡ true → WritesInterfaces w h
  pub fields : (c f : Name) (t : IrType) → has.field c f t ≡ true → HasFields w c × HasValue t × (zeros_in (ir_world.class_of w c) f ≡ Some (zero_of t))
  pub one_type : (c f : Name) (s t : IrType) → has.field c f s ≡ true → has.field c f t ≡ true → s ≡ t
  pub statics : (c f : Name) (t : IrType) → has_static has c f t ≡ true → HasValue t × (statics_in (ir_world.class_of w c) f ≡ Some (zero_of t))
  pub one_static : (c f : Name) (s t : IrType) → has_static has c f s ≡ true → has_static has c f t ≡ true → s ≡ t
  pub modules : (c : Name) → has.modules c ≡ true → (has.made c ≡ true) × (has.built (member c Constructor without_parameters) ≡ true)
  pub exceptions : has.helper check_name ≡ true → CanRaise has null_pointer
  pub divisions : (o : BinaryOp) → divides has o ≡ true → CanRaise has arithmetic
  pub casts : (t : IrType) → has.casts t ≡ true → CanRaise has class_cast
  pub arrays : has.arrays ≡ true → has.made object ≡ true
  pub sizes : has.helper (codes "$mk") ≡ true → CanRaise has negative_size
  pub reads : has.helper (codes "$get") ≡ true → CanRaise has out_of_bounds
  pub writes : (t : IrType) → can_put has t ≡ true → CanRaise has out_of_bounds
  pub stores : has.helper (codes "$put") ≡ true → CanRaise has array_store
