-- What a world has of the members, classes and fields that bodies use on objects.
use Rattle.std.specs.Prelude.{◌≡◌, ℕ, true, false, List, Option, Some, None, codes}
use Rattle.std.specs.List.{list_any}
use Rattle.agree_early_errors.specs.Locals.{HasValue}
use Rattle.agree_soundness.specs.Rules.{RightMember}
use Rattle.agree_early_errors.specs.Built.{Usable, has_static, divides, can_put}
use Rattle.dispatch_laws.specs.Targets.{IsTargetOf}
use Rattle.dispatch_laws.specs.Dispatch.{chain_of, is_ancestor, proxy_target}
use Rattle.dispatch_laws.specs.Meaning.{with_message, without_parameters, no_such_method}
use Rattle.dispatch_laws.specs.World.{World, class_of, zeros_in, statics_in, zero_of}
use Rattle.sj_trees.specs.declared.classes.MethodDef.{MethodDef}
use Rattle.agree_early_errors.specs.Desugar.{member}
use Rattle.dispatch_laws.specs.Templates.{check_name}
use Rattle.sj_names.specs.Same.{is_same_text}
use Rattle.sj_names.specs.declared.method_names.Member.{Member}
use Rattle.sj_names.specs.declared.method_names.MethodName.{MethodName}
use Rattle.sj_names.specs.declared.method_names.Namespace.TheVariants.{Public, Constructor}
use Rattle.sj_trees.specs.Types.{class_type}
use Rattle.sj_trees.specs.declared.operators.BinaryOp.{BinaryOp}
use Rattle.sj_trees.specs.declared.types.IrType.{IrType}
use Rattle.sj_trees.specs.declared.types.IrType.TheVariants.{Byte, Short, Int, Class}
use Rattle.dispatch_laws.specs.Known.{is_hijacked, object}
use Rattle.dispatch_laws.specs.Subtypes.{hijacked_class, IsSub}

-- the class by which a call on a value of this primitive type is looked up: numbers are of one class
abbrev pub class_of_kind : IrType → Option (List ℕ)
class_of_kind Byte = hijacked_class Int
class_of_kind Short = hijacked_class Int
class_of_kind t = hijacked_class t

-- a class by which a call on a value of the type of another class is looked up: one that is made below it, or that of a primitive type below it
pub data IsClassBelow (typing : World) (has : Usable) (c : List ℕ) : List ℕ → Type 0 where
  made_below : (d : List ℕ) → has.made d ≡ true → IsSub typing (Class d) (class_type c) → IsClassBelow typing has c d
  kind_below : (o : IrType) (d : List ℕ) → class_of_kind o ≡ Some d → IsSub typing o (class_type c) → IsClassBelow typing has c d

-- such a class stands below, and has a target for the method that can be called
pub record Answers (w : World) (has : Usable) (c d : List ℕ) (m : MethodName) : Type 0 where
  pub below : is_ancestor w d c ≡ true
  pub owner : List ℕ
  pub received : has.received (member owner Public m) ≡ true
  pub target : IsTargetOf w (member d Public m) (member owner Public m)

-- what a call by a reflective name comes to on a value of the class: it has no method of the name, and the exception of that can be made; or it has one, of the same parameters, whose target
-- can be called
pub data AnswersByName (w : World) (has : Usable) (d : List ℕ) (p : MethodName) : Type 0 where
  no_method : proxy_target w d p ≡ None → has.made no_such_method ≡ true → has.built (member no_such_method Constructor with_message) ≡ true → AnswersByName w has d p
  has_method : (definition : MethodDef) (owner : List ℕ) → proxy_target w d p ≡ Some definition → definition.name.params ≡ p.params → has.received (member owner Public definition.name) ≡ true → IsTargetOf w (member d Public definition.name) (member owner Public definition.name) → AnswersByName w has d p

abbrev pub null_pointer : List ℕ
null_pointer = codes "java.lang.NullPointerException"

abbrev pub arithmetic : List ℕ
arithmetic = codes "java.lang.ArithmeticException"

abbrev pub class_cast : List ℕ
class_cast = codes "java.lang.ClassCastException"

abbrev pub out_of_bounds : List ℕ
out_of_bounds = codes "java.lang.ArrayIndexOutOfBoundsException"

abbrev pub array_store : List ℕ
array_store = codes "java.lang.ArrayStoreException"

abbrev pub negative_size : List ℕ
negative_size = codes "java.lang.NegativeArraySizeException"

-- the exception of this class can be made: the class is, and its constructor with a message is built
abbrev pub CanRaise : Usable → List ℕ → Type 0
CanRaise has c = (has.made c ≡ true) × (has.built (member c Constructor with_message) ≡ true)

-- the code casts values, writes items of arrays, or calls members on receivers: what it does rests on which class is below which
pub data NeedsClasses (has : Usable) : Type 0 where
  by_cast : (t : IrType) → has.casts t ≡ true → NeedsClasses has
  by_item : (t : IrType) → can_put has t ≡ true → NeedsClasses has
  by_call : (m : Member) → has.received m ≡ true → NeedsClasses has

-- Bodies are typed by the classes of the program where the code needs them, and by any others where it doesn't. Members that run on an object and constructors keep the rules, and what a call of a member runs is its target; a method that can be looked up on the objects of a class has a
-- target in each class below it, one that can be called on arrays in the class of all objects, where that is made, and a reflective name by which receivers can be called an answer in each class; no class
-- that is made is hijacked. A field that can be read has one type, with values, and is an instance field of its class, which stands on the chain of
-- superclasses of each class that is made below it; no primitive type is below it, nor that of all objects. A static field that can be used has one type, with values, and is one of its class. A class whose one object can be loaded is made,
-- and so is its constructor. Where the null check can be used, its exception is
-- made, and so are that of a division whose helper can be used, that of a cast that can be used, and those of the helpers of arrays that can be used. Where arrays can be made,
-- so is their class by the IR, that of all objects.
pub record ObjectLaws (w typing : World) (has : Usable) : Type 0 where
  pub typed : NeedsClasses has → typing ≡ w
  pub received : (m : Member) → has.received m ≡ true → RightMember w typing has m
  pub targets : (m : Member) → has.received (has.lookup.target m) ≡ true → IsTargetOf w m (has.lookup.target m)
  pub looked : (c : List ℕ) (m : MethodName) → has.looked_up c m ≡ true → (d : List ℕ) → IsClassBelow typing has c d → Answers w has c d m
  pub on_arrays : (m : MethodName) → has.on_arrays m ≡ true → has.made object ≡ true → Answers w has object object m
  pub reflected : (p : MethodName) → has.reflected p ≡ true → (d : List ℕ) → IsClassBelow typing has object d → AnswersByName w has d p
  pub built : (m : Member) → has.built m ≡ true → RightMember w typing has m
  pub made : (c : List ℕ) → has.made c ≡ true → is_hijacked c ≡ false
  pub fields : (c f : List ℕ) (t : IrType) → has.field c f t ≡ true → HasValue t × (zeros_in (class_of w c) f ≡ Some (zero_of t))
  pub one_type : (c f : List ℕ) (s t : IrType) → has.field c f s ≡ true → has.field c f t ≡ true → s ≡ t
  pub holders : (c f : List ℕ) (t : IrType) → has.field c f t ≡ true → (d : List ℕ) → has.made d ≡ true → IsSub typing (Class d) (class_type c) → list_any (is_same_text c) (chain_of w d) ≡ true
  pub strangers : (c f : List ℕ) (t : IrType) → has.field c f t ≡ true → (o : IrType) (h : List ℕ) → hijacked_class o ≡ Some h → IsSub typing o (class_type c) → ⊥
  pub tops : (c f : List ℕ) (t : IrType) → has.field c f t ≡ true → IsSub typing (Class object) (class_type c) → ⊥
  pub statics : (c f : List ℕ) (t : IrType) → has_static has c f t ≡ true → HasValue t × (statics_in (class_of w c) f ≡ Some (zero_of t))
  pub one_static : (c f : List ℕ) (s t : IrType) → has_static has c f s ≡ true → has_static has c f t ≡ true → s ≡ t
  pub modules : (c : List ℕ) → has.modules c ≡ true → (has.made c ≡ true) × (has.built (member c Constructor without_parameters) ≡ true)
  pub exceptions : has.helper check_name ≡ true → CanRaise has null_pointer
  pub divisions : (o : BinaryOp) → divides has o ≡ true → CanRaise has arithmetic
  pub casts : (t : IrType) → has.casts t ≡ true → CanRaise has class_cast
  pub arrays : has.arrays ≡ true → has.made object ≡ true
  pub sizes : has.helper (codes "$mk") ≡ true → CanRaise has negative_size
  pub reads : has.helper (codes "$get") ≡ true → CanRaise has out_of_bounds
  pub writes : (t : IrType) → can_put has t ≡ true → CanRaise has out_of_bounds
  pub stores : has.helper (codes "$put") ≡ true → CanRaise has array_store
