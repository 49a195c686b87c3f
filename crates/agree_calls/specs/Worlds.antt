-- What the code of a program has of objects: members that run on receivers, constructors, classes, fields, static fields, the one objects of classes, the null check, divisions, objects that hold chars, tests,
-- casts and identity, each where code can use it.
use Rattle.std.specs.Prelude.{◌≡◌, ℕ, ◌≤◌, true, false, List, codes, Some}
use Rattle.agree_bodies.specs.Built.{has_static, has_cell, can_box, can_look_up, divides, compares}
use Rattle.array_code.specs.Classes.{class_cast_code}
use Rattle.array_code.specs.Modules.{loader_code, storer_code}
use Rattle.dispatch_laws.specs.Targets.{IsTargetOf}
use Rattle.array_code.specs.Helpers.{helper_name}
use Rattle.array_code.specs.Words.{object_class, units_of}
use Rattle.array_code.specs.FailureVariants.{NullReceiver, Division, Cast}
use Rattle.array_code.specs.HelperVariants.{ArrayClass, Get, MakeArray, NotNull, CastTo, Put, Set, Throws}
use Rattle.array_code.specs.Kind.{Kind}
use Rattle.dispatch_laws.specs.Meaning.{with_message, without_parameters}
use Rattle.dispatch_laws.specs.States as ir
use Rattle.dispatch_laws.specs.World as ir_world
use Rattle.js_mean.specs.Files.{owner}
use Rattle.js_mean.specs.Meaning as js_meaning
use Rattle.js_mean.specs.States as js
use Rattle.js_tree.specs.Terms.{Name}
use Rattle.agree_bodies.specs.Desugar.{member}
use Rattle.array_code.specs.Pieces.{setter}
use Rattle.dispatch_laws.specs.Templates.{check_name, static_name, setter_name, load_name, store_name}
use Rattle.dispatch_laws.specs.Tests.{test_name, cast_name}
use Rattle.sj_names.specs.declared.method_names.Member.{Member}
use Rattle.sj_names.specs.declared.method_names.MethodName.{MethodName}
use Rattle.sj_names.specs.declared.method_names.Namespace.TheVariants.{Constructor}
use Rattle.sj_trees.specs.declared.operators.BinaryOp.{BinaryOp}
use Rattle.sj_trees.specs.declared.types.IrType.{IrType}
use Rattle.agree_bodies.specs.Settings.{Place, ArraysSomewhere, MadeSomewhere, array_links, SameState, HasField, HasStatic, IsClass, CellsDiffer, Reaches, a_static, a_setter, a_cell, a_loader, a_storer, cell_name, a_test, a_cast, a_helper, division_helper, top_function, links_of}
use Rattle.agree_bodies.specs.Worlds.{World}
use Rattle.sj_trees.specs.declared.types.IrType.TheVariants.{Class, Array}
use Rattle.sj_names.specs.declared.references.ArrayRef.{ArrayRef}
use Rattle.sj_mangling.specs.Bindings.{method_binding}
use Rattle.sj_mangling.specs.declared.bindings.MethodBinding.TheVariants.{Entry}
use Rattle.js_mean.specs.Objects as js_objects
use Rattle.dispatch_laws.specs.Known.{is_hijacked}
use Rattle.agree_calls.specs.Arrays.{CanGiveArrays, CanMakeArrays, ChecksIndex, CanPut, CanTestArrays, CanCastArrays}
use Rattle.agree_calls.specs.Helpers.{HelperStands, ReachesThrower, BoxStands, ReachesTest, CanTest, ClassTest, CanCompare, kind_of, code_of_item, helper_code, checking_code, division_code}
use Rattle.agree_calls.specs.Looked.{FindsTarget, LooksUpThere}
pub use Rattle.agree_calls.specs.Made.{Stands, IsMade}
use Rattle.agree_calls.specs.Reflected.{ReflectionStands}
use Rattle.agree_calls.specs.Methods.{Linked}
use Rattle.agree_calls.specs.Objects.{RunsOn, Constructs}

-- the null check stands in the program, and so does what it throws
pub record CanCheck (p : Place) : Type 0 where
  pub check : HelperStands p NotNull checking_code
  pub failure : HelperStands p (Throws NullReceiver) (helper_code (Throws NullReceiver))
  pub owned : owner p.program (p.home (a_helper NotNull)) (helper_name (Throws NullReceiver)) ≡ Some (p.home (a_helper (Throws NullReceiver)))
  pub held : (w : World) (s : ir.State) (u : js.State) → SameState p w s u → u.tops (p.home (a_helper (Throws NullReceiver))) (helper_name (Throws NullReceiver)) ≡ js.holds false (top_function p (a_helper (Throws NullReceiver)))
  pub reaches : Reaches p (p.home (a_helper (Throws NullReceiver)))
  pub built : (p.has (p.home (a_helper (Throws NullReceiver)))).built (member (codes "java.lang.NullPointerException") Constructor with_message) ≡ true
  pub made : (p.has (p.home (a_helper (Throws NullReceiver)))).made (codes "java.lang.NullPointerException") ≡ true

-- the helper of a division stands in the program, and so does what it throws
pub record CanDivide (p : Place) (o : BinaryOp) : Type 0 where
  pub division : HelperStands p (division_helper o) (division_code o)
  pub failure : HelperStands p (Throws Division) (helper_code (Throws Division))
  pub owned : owner p.program (p.home (a_helper (division_helper o))) (helper_name (Throws Division)) ≡ Some (p.home (a_helper (Throws Division)))
  pub held : (w : World) (s : ir.State) (u : js.State) → SameState p w s u → u.tops (p.home (a_helper (Throws Division))) (helper_name (Throws Division)) ≡ js.holds false (top_function p (a_helper (Throws Division)))
  pub reaches : Reaches p (p.home (a_helper (Throws Division)))
  pub built : (p.has (p.home (a_helper (Throws Division)))).built (member (codes "java.lang.ArithmeticException") Constructor with_message) ≡ true
  pub made : (p.has (p.home (a_helper (Throws Division)))).made (codes "java.lang.ArithmeticException") ≡ true

-- what a cast throws where it fails stands in its file; this file reaches it, the code of some file can use it, and the exception can be made there
abbrev pub ThrowsCast : Place → Name → Type 0
ThrowsCast p f = ReachesThrower p f (Throws Cast) (codes "java.lang.ClassCastException")

-- the cast to a primitive type stands in its file, as the helper of its kind, and so does what it uses: the test of the kind, and what is thrown
pub record CanCast (p : Place) (t : IrType) : Type 0 where
  pub kind : Kind
  pub its_kind : kind_of t ≡ Some kind
  pub cast : js_meaning.code_of p.program (p.home (a_cast t)) (cast_name t) ≡ Some (helper_code (CastTo kind))
  pub tests : ReachesTest p (p.home (a_cast t)) kind
  pub throws : ThrowsCast p (p.home (a_cast t))

-- the cast of a class stands in its file, and so does what it uses: the test of the class, and what is thrown, with the name of the class as the IR tells it
pub record CanCastClass (p : Place) (c : List ℕ) : Type 0 where
  pub cast : js_meaning.code_of p.program (p.home (a_cast (Class c))) (cast_name (Class c)) ≡ Some (class_cast_code c)
  pub test : ClassTest p c
  pub owned : owner p.program (p.home (a_cast (Class c))) (test_name (Class c)) ≡ Some (p.home (a_test (Class c)))
  pub user : Name
  pub usable : (p.has user).tests (Class c) ≡ true
  pub throws : ThrowsCast p (p.home (a_cast (Class c)))
  pub named : units_of c ≡ ir_world.type_text (Class c)

-- a test that stands: of a primitive type, of a class, or of a type of arrays
pub data Tested (p : Place) : IrType → Type 0 where
  of_kind : (t : IrType) → CanTest p t → Tested p t
  of_class : (c : List ℕ) → ClassTest p c → Tested p (Class c)
  of_array : (r : ArrayRef) → CanTestArrays p r → Tested p (Array r)

-- a cast that stands: to a primitive type, to a class, or to a type of arrays
pub data Casted (p : Place) : IrType → Type 0 where
  to_kind : (t : IrType) → CanCast p t → Casted p t
  to_class : (c : List ℕ) → CanCastClass p c → Casted p (Class c)
  to_array : (r : ArrayRef) → CanCastArrays p r → Casted p (Array r)

-- the function that sets a variable, by its item
abbrev pub setter_code : List ℕ → List ℕ → js_meaning.Code
setter_code c f = code_of_item (setter (setter_name c f) (static_name c f))

-- the classes have the static field; its variable, and the function that sets it, stand in one file, which has the variable for its own
pub record StaticStands (p : Place) (c f : List ℕ) (t : IrType) : Type 0 where
  pub field : HasStatic p c f t
  pub beside : p.home (a_static c f t) ≡ p.home (a_setter c f t)
  pub sets : js_meaning.code_of p.program (p.home (a_setter c f t)) (setter_name c f) ≡ Some (setter_code c f)
  pub owned : owner p.program (p.home (a_setter c f t)) (static_name c f) ≡ Some (p.home (a_setter c f t))

-- the classes have the class, and each its own cell, which stands in a file that has it for its own
pub record CellStands (p : Place) (c : List ℕ) : Type 0 where
  pub class : IsClass p.classes c
  pub differ : CellsDiffer p
  pub owned : owner p.program (p.home (a_cell c)) (cell_name c) ≡ Some (p.home (a_cell c))

-- the function that stores the one object of a class stands beside its cell
pub record StoreStands (p : Place) (c : List ℕ) : Type 0 where
  pub beside : p.home (a_storer c) ≡ p.home (a_cell c)
  pub stores : js_meaning.code_of p.program (p.home (a_storer c)) (store_name c) ≡ Some (storer_code c)

-- and so does the one that loads it, where the object can be made and the constructor can be used
pub record LoadStands (p : Place) (c : List ℕ) : Type 0 where
  pub beside : p.home (a_loader c) ≡ p.home (a_cell c)
  pub loads : js_meaning.code_of p.program (p.home (a_loader c)) (load_name c) ≡ Some (loader_code c)
  pub reaches : Reaches p (p.home (a_loader c))
  pub built : (p.has (p.home (a_loader c))).built (member c Constructor without_parameters) ≡ true
  pub made : (p.has (p.home (a_loader c))).made c ≡ true

-- an array finds the entries that objects of the class of objects find
abbrev pub ArrayEntries : Place → Type 0
ArrayEntries p = ArraysSomewhere p → (m : MethodName) → js_objects.method_on p.program (array_links p) (method_binding Entry m) ≡ js_objects.method_on p.program (links_of p object_class) (method_binding Entry m)

-- what the code of any file can use is there, what a call of a public member runs is its target, and what is looked up is found on each instance, and each value answers a reflective name; no object is made of a hijacked class; arrays can be made and used; and around a call there are five units, and one beyond those of the IR: an item that is set may take five, for its helper, the one that tells whether it may be an item, the one that tells the class of a value, and a test
pub record HasObjects (p : Place) : Type 0 where
  pub linked : (f : Name) (m : Member) → (p.has f).linked m ≡ true → Linked p m
  pub received : (f : Name) (m : Member) → (p.has f).received m ≡ true → RunsOn p m
  pub targets : (f : Name) (m : Member) → (p.has f).received ((p.has f).lookup.target m) ≡ true → IsTargetOf p.classes m ((p.has f).lookup.target m)
  pub looked : (f : Name) (c : List ℕ) (m : MethodName) → can_look_up (p.has f) c m ≡ true → LooksUpThere p c m ((p.has f).lookup.has_hijacked c)
  pub reflected : (f : Name) (m : MethodName) → (p.has f).reflected m ≡ true → ReflectionStands p m
  pub built : (f : Name) (m : Member) → (p.has f).built m ≡ true → Constructs p m
  pub made : (f : Name) (c : List ℕ) → (p.has f).made c ≡ true → IsMade p c
  pub lives : (f : Name) (c : List ℕ) → (p.has f).made c ≡ true → (p.has f).live c ≡ true
  pub objects : (f : Name) (c : List ℕ) → (p.has f).made c ≡ true → is_hijacked c ≡ false
  pub field : (f : Name) (c g : List ℕ) (t : IrType) → (p.has f).field c g t ≡ true → HasField p c g t
  pub statics : (f : Name) (c g : List ℕ) (t : IrType) → has_static (p.has f) c g t ≡ true → StaticStands p c g t
  pub cells : (f : Name) (c : List ℕ) → has_cell (p.has f) c ≡ true → CellStands p c
  pub stores : (f : Name) (c : List ℕ) → (p.has f).stored c ≡ true → StoreStands p c
  pub loads : (f : Name) (c : List ℕ) → (p.has f).modules c ≡ true → LoadStands p c
  pub checked : (f : Name) → (p.has f).helper check_name ≡ true → CanCheck p
  pub divided : (f : Name) (o : BinaryOp) → divides (p.has f) o ≡ true → CanDivide p o
  pub boxes : (f : Name) → can_box (p.has f) ≡ true → BoxStands p
  pub tested : (f : Name) (t : IrType) → (p.has f).tests t ≡ true → Tested p t
  pub cast : (f : Name) (t : IrType) → (p.has f).casts t ≡ true → Casted p t
  pub compared : (f : Name) → compares (p.has f) ≡ true → CanCompare p
  pub gives : (f g : Name) → (p.has f).helper (helper_name ArrayClass) ≡ true → (p.has g).arrays ≡ true → CanGiveArrays p
  pub makes : (f : Name) → (p.has f).helper (helper_name MakeArray) ≡ true → CanMakeArrays p
  pub gets : (f : Name) → (p.has f).helper (helper_name Get) ≡ true → ChecksIndex p Get
  pub sets : (f : Name) → (p.has f).helper (helper_name Set) ≡ true → ChecksIndex p Set
  pub puts : (f : Name) → (p.has f).helper (helper_name Put) ≡ true → CanPut p
  pub on_arrays : (f : Name) (m : MethodName) → (p.has f).on_arrays m ≡ true → MadeSomewhere p object_class → FindsTarget p object_class m
  pub each : 5 ≤ p.room.each
  pub beyond : 1 ≤ p.room.beyond
