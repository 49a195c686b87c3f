-- What a body is compared in: the two programs, how things are named, and what the levels below give.
use Rattle.std.specs.Prelude.{◌≡◌, ◌≤◌, ◌↔◌, ℕ, ◌^◌, ◌<◌, Bool, true, false, ◌&&◌, ◌||◌, not, List, [], ◌∷◌, map, slice_get, length, codes, nat_eq, pos, Option, Some, None, is_some}
use Rattle.std.specs.Cmp.Lexicographic.{pointwise}
use Rattle.std.specs.List.{Contains}
use Rattle.js_tree.specs.Terms.{Name}
use Rattle.outcomes.specs.Agreement.{Direction, Room, Sim}
use Rattle.outcomes.specs.Outcome.{Out, done}
use Rattle.sj_emit_help_spec.specs.Helpers.{helper_name}
use Rattle.sj_emit_help_spec.specs.declared.kinds.Helper.{Helper}
use Rattle.sj_emit_help_spec.specs.Words.{object_class, kind_class}
use Rattle.sj_emit_help_spec.specs.declared.kinds.Helper.TheVariants.{ArrayClass, BoxedChar, ConstantsOf, NotNull}
use Rattle.sj_emit_help_spec.specs.declared.kinds.Helper.TheVariants as helpers
use Rattle.sj_emit_help_spec.specs.declared.kinds.Kind.{Kind}
use Rattle.ir_mean.specs.Dispatch.{chain_of, is_ancestor}
use Rattle.ir_mean.specs.Meaning as ir_meaning
use Rattle.ir_mean.specs.Operators.{binary_value}
use Rattle.ir_mean.specs.States as ir
use Rattle.ir_mean.specs.World as ir_world
use Rattle.js_mean.specs.Files.{owner}
use Rattle.js_mean.specs.Meaning as js_meaning
use Rattle.js_mean.specs.Objects as js_objects
use Rattle.js_mean.specs.States as js
use Rattle.js_mean.specs.Shows.{object_shown, class_marked}
use Rattle.outcomes.specs.Shown as shown_ends
use Rattle.sj_core.specs.Terms as core
use Rattle.agree_body_rules.specs.Coercions.{is_char}
use Rattle.agree_body_rules.specs.Tests.{array_text, test_name, cast_name}
use Rattle.agree_body_rules.specs.Templates.{called_member, check_name, member_name, static_name, setter_name, load_name, store_name, expression_template, statement_templates}
use Rattle.sj_mangling.specs.Bindings.{class_binding, field_binding, method_binding}
use Rattle.sj_mangling.specs.declared.bindings.ClassBinding.TheVariants.{Class, Constants, Marker, Instance}
use Rattle.sj_mangling.specs.declared.bindings.FieldBinding.TheVariants.{Property}
use Rattle.sj_mangling.specs.declared.bindings.MethodBinding.TheVariants.{Entry, Dispatch, Reflective}
use Rattle.sj_names.specs.Bases.{spelled_base}
use Rattle.sj_names.specs.Same.{is_same_text}
use Rattle.sj_names.specs.declared.references.ArrayRef.{ArrayRef}
use Rattle.sj_names.specs.declared.references.BaseRef.{BaseRef}
use Rattle.sj_names.specs.declared.method_names.Member.{Member}
use Rattle.sj_names.specs.declared.method_names.MethodName.{MethodName}
use Rattle.agree_body_rules.specs.Subtyping.{IsSubtyping}
use Rattle.agree_plain_trees.specs.Standing.{suits}
use Rattle.agree_plain_trees.specs.Worlds.{World, ArrayAt, with_pending, Grows, SameValue, SameValues}
use Rattle.ir_mean.specs.Ancestors.{IsAncestor}
use Rattle.ir_mean.specs.Known.{is_hijacked}
use Rattle.ir_mean.specs.Subtypes.{IsSub}
use Rattle.agree_body_rules.specs.Built.{Usable, has_static, has_cell, can_box, divides, compares, can_look_up}
use Rattle.agree_body_rules.specs.Locals.{Scope, HasValue}
use Rattle.agree_body_rules.specs.Standing.{is_array_type, types_referred, call_type}
use Rattle.agree_body_rules.specs.Typing.{HasDimensions}
use Rattle.sj_trees.specs.declared.classes.ClassDef.{ClassDef}
use Rattle.sj_trees.specs.declared.classes.FieldDef.{FieldDef}
use Rattle.sj_trees.specs.TypeOf.{binary_result}
use Rattle.sj_trees.specs.Types.{class_type, element_type}
use Rattle.sj_trees.specs.declared.operators.BinaryOp.{BinaryOp}
use Rattle.sj_trees.specs.declared.operators.BinaryOp.TheVariants.{IntDivide, IntRemainder, LongDivide, StrictEqual}
use Rattle.agree_body_rules.specs.Rules.{left_operand, right_operand}
use Rattle.sj_trees.specs.declared.types.IrType.{IrType}
use Rattle.sj_trees.specs.declared.types.IrType.TheVariants.{Any, Undefined, Null, Boolean, Char, Byte, Short, Int, Long, String, Array, NoType}

-- a binding at the top of a file of the emitted code: the function of a static member, of one that runs on a receiver, and of a constructor; the function that tells
-- the receivers of a method apart, and the one by which receivers are called under a reflective name; a class, and
-- its constants; the variable of a static field of this type, and the function that sets it; the variable that is the cell of a class, and the functions that load and
-- store its one object; the test of a type, and the cast to it; and a helper
pub data Top : Type 0 where
  a_function : Member → Top
  a_method : Member → Top
  a_constructor : Member → Top
  a_dispatch : MethodName → Top
  a_reflection : MethodName → Top
  a_class : List ℕ → Top
  some_constants : List ℕ → Top
  a_static : List ℕ → List ℕ → IrType → Top
  a_setter : List ℕ → List ℕ → IrType → Top
  a_cell : List ℕ → Top
  a_loader : List ℕ → Top
  a_storer : List ℕ → Top
  a_test : IrType → Top
  a_cast : IrType → Top
  a_helper : Helper → Top

-- the variable that is the cell of a class
abbrev pub cell_name : List ℕ → Name
cell_name = class_binding Instance

abbrev pub top_name : Top → Name
top_name (a_function m) = member_name m
top_name (a_method m) = member_name m
top_name (a_constructor m) = member_name m
top_name (a_dispatch m) = method_binding Dispatch m
top_name (a_reflection m) = method_binding Reflective m
top_name (a_class c) = class_binding Class c
top_name (some_constants c) = class_binding Constants c
top_name (a_static c f t) = static_name c f
top_name (a_setter c f t) = setter_name c f
top_name (a_cell c) = cell_name c
top_name (a_loader c) = load_name c
top_name (a_storer c) = store_name c
top_name (a_test t) = test_name t
top_name (a_cast t) = cast_name t
top_name (a_helper h) = helper_name h

-- the code that can use this can use the binding
abbrev pub is_usable : Usable → Top → Bool
is_usable has (a_function m) = has.linked m
is_usable has (a_method m) = has.received m
is_usable has (a_constructor m) = has.built m
is_usable has (a_dispatch m) = has.dispatched m
is_usable has (a_reflection m) = has.reflected m
is_usable has (a_class c) = has.live c
is_usable has (some_constants c) = has.live c || has.bases c
is_usable has (a_static c f t) = has.static_field c f t
is_usable has (a_setter c f t) = has.static_setter c f t
is_usable has (a_cell c) = has_cell has c
is_usable has (a_loader c) = has.modules c
is_usable has (a_storer c) = has.stored c
is_usable has (a_test t) = has.tests t
is_usable has (a_cast t) = has.casts t
is_usable has (a_helper h) = has.helper (helper_name h)

-- and names it: any but the constants of a class that is no base of arrays, which the class alone names, and its cell, which the functions that load and store its one object name
abbrev pub is_named : Usable → Top → Bool
is_named has (some_constants c) = has.bases c
is_named has (a_cell c) = false
is_named has t = is_usable has t

-- what is fixed: the two programs, the classes by which bodies are typed (those of the IR's program, or others where no code tells an object's class), the names that stand for
-- variables and labels, the file of each binding, what the code of each file can use, and the units that the emitted code may take beyond those of the IR
pub record Place : Type 0 where
  pub classes : ir_world.World
  pub typing : ir_world.World
  pub program : js.Program
  pub name : core.Variable → Name
  pub label : List ℕ → Name
  pub home : Top → Name
  pub has : Name → Usable
  pub room : Room

-- the function of a member
abbrev pub function_of_member : Place → Member → js.Value
function_of_member p m = js.function (p.home (a_function m)) (member_name m)

-- the function at the top of a file, and a call of it with these values
abbrev pub top_function : Place → Top → js.Value
top_function p t = js.function (p.home t) (top_name t)

abbrev pub top_call : Place → js_meaning.Low → Top → List js.Value → js.State → Out js.ExpressionEnd
top_call p low t = js_meaning.code_call low (p.home t) (js_meaning.code_of p.program (p.home t) (top_name t))

-- a call of a member's function with these values
abbrev pub function_call : Place → js_meaning.Low → Member → List js.Value → js.State → Out js.ExpressionEnd
function_call p low m = top_call p low (a_function m)

-- the code at hand: the file that it stands in, the class of its method, and the locals of its body that are never null
pub record Code : Type 0 where
  pub file : Name
  pub owner : List ℕ
  pub sure : List ℕ → Bool

-- a place, the code at hand, the half of the agreement that is spoken of, the mutable locals of the body, and what the levels below give
pub record Setting : Type 0 where
  pub place : Place
  pub code : Code
  pub direction : Direction
  pub is_mutable : List ℕ → Bool
  pub low : ir_meaning.Low
  pub js_low : js_meaning.Low

-- what the code at hand can use
abbrev pub usable : Setting → Usable
usable z = z.place.has z.code.file

-- the statements and expressions of this setting
abbrev pub shown : Setting → core.Expression → js.Evaluation
shown z e = js_meaning.evaluate z.place.program z.js_low (expression_template z.place.name z.place.label (usable z).lookup e)

abbrev pub run : Setting → core.Statements → js.Execution
run z ss = js_meaning.execute_all z.place.program z.js_low (statement_templates z.place.name z.place.label (usable z).lookup ss)

-- the class has an instance field of this name and type
pub record IsField (classes : ir_world.World) (c f : List ℕ) (t : IrType) : Type 0 where
  pub definition : ClassDef
  pub field : FieldDef
  pub found : ir_world.class_of classes c ≡ Some definition
  pub among : Contains definition.fields field
  pub of_objects : field.is_static ≡ false
  pub named : field.name ≡ f
  pub typed : field.tpe ≡ t

-- the class has a static field of this name and type
pub record IsStaticField (classes : ir_world.World) (c f : List ℕ) (t : IrType) : Type 0 where
  pub definition : ClassDef
  pub field : FieldDef
  pub found : ir_world.class_of classes c ≡ Some definition
  pub among : Contains definition.fields field
  pub of_class : field.is_static ≡ true
  pub named : field.name ≡ f
  pub typed : field.tpe ≡ t

-- what a field of the type holds, and the property that stands for it; where there is no such field the IR is wrong
pub data SameField (w : World) (t : IrType) : Option ir.Value → Option js.Value → Type 0 where
  same_field : (v : ir.Value) (x : js.Value) → SameValue w t v x → SameField w t (Some v) (Some x)
  no_field : (x : Option js.Value) → SameField w t None x

-- the properties lead to the constants of the class, which the emitted code has for itself and which tell its marker; and by that an object which
-- nothing catches is shown
pub record TellsClass (w : World) (c : List ℕ) (properties : Name → Option js.Value) : Type 0 where
  pub address : ℕ
  pub constants : Name → Option js.Value
  pub held : properties (codes "k") ≡ Some (js.object address)
  pub owned : w.owned address ≡ Some (js.plain [] constants)
  pub marked : constants (codes "s") ≡ Some (js.text (class_binding Marker c))
  pub known : (v : Option js.Value) → object_shown (class_marked (class_binding Marker c)) v ≡ Some (shown_ends.object_of c)

-- where a class of the emitted code is declared
abbrev pub link_of : Place → List ℕ → js.ClassLink
link_of p c = record { file = p.home (a_class c); name = top_name (a_class c) }

-- and those that it extends
abbrev pub links_of : Place → List ℕ → List js.ClassLink
links_of p c = map (link_of p) (chain_of p.classes c)

-- where the class of objects that hold chars is declared
abbrev pub box_link : Place → js.ClassLink
box_link p = record { file = p.home (a_helper BoxedChar); name = helper_name BoxedChar }

-- no entry of a method is among an object's own properties
abbrev pub HasNoEntries : (Name → Option js.Value) → Type 0
HasNoEntries properties = (m : MethodName) → properties (method_binding Entry m) ≡ None

-- where the class of arrays is declared, and the classes that it extends
abbrev pub array_link : Place → js.ClassLink
array_link p = record { file = p.home (a_helper ArrayClass); name = helper_name ArrayClass }

abbrev pub array_links : Place → List js.ClassLink
array_links p = array_link p ∷ links_of p object_class

-- the constants of a class, which the emitted code has for itself and which tell its marker
pub record IsConstantsOf (owned : ℕ → Option js.Stored) (c : List ℕ) (x : js.Value) : Type 0 where
  pub address : ℕ
  pub constants : Name → Option js.Value
  pub is : x ≡ js.object address
  pub owned_there : owned address ≡ Some (js.plain [] constants)
  pub marked : constants (codes "s") ≡ Some (js.text (class_binding Marker c))

-- the value that stands for the base of an array: the constants of a class, or the letter of a primitive type
abbrev pub StandsForBase : (ℕ → Option js.Stored) → BaseRef → js.Value → Type 0
StandsForBase owned (BaseRef.Class c) x = IsConstantsOf owned c x
StandsForBase owned b x = x ≡ js.text (spelled_base b)

-- the properties of an array: its dimensions, its base, and the address of its items
pub record TellsArray (w : World) (k : ArrayAt) (properties : Name → Option js.Value) : Type 0 where
  pub dimensions : properties (codes "n") ≡ Some (js.number (pos k.kind.dimensions))
  pub base : js.Value
  pub held : properties (codes "e") ≡ Some base
  pub stands : StandsForBase w.owned k.kind.base base
  pub items : properties (codes "a") ≡ Some (js.object k.items)

-- what stands at an address of the IR, and what stands at the address that it has in the world: an object of this class, made by the class that stands for
-- it and by those that this one extends, with a property for each field and no entry of a method; or an array, whose class is that of objects
pub data SameStored (p : Place) (w : World) : List ℕ → Option ArrayAt → Option ir.Stored → Option js.Stored → Type 0 where
  same_object : (c : List ℕ) (fields : ir.Fields) (properties : Name → Option js.Value) → TellsClass w c properties → HasNoEntries properties → ((d f : List ℕ) (t : IrType) → IsField p.classes d f t → SameField w t (fields d f) (properties (field_binding Property d f))) → SameStored p w c None (Some (ir.object c fields)) (Some (js.plain (links_of p c) properties))
  same_array : (k : ArrayAt) (items : List ir.Value) (properties : Name → Option js.Value) → TellsClass w object_class properties → HasNoEntries properties → TellsArray w k properties → SameStored p w object_class (Some k) (Some (ir.array k.kind items)) (Some (js.plain (array_links p) properties))

-- the items of an array, and what stands for each
pub data SameItems (w : World) (t : IrType) : List ir.Value → List js.Value → Type 0 where
  no_items : SameItems w t [] []
  more_items : (v : ir.Value) (x : js.Value) (vs : List ir.Value) (xs : List js.Value) → SameValue w t v x → SameItems w t vs xs → SameItems w t (v ∷ vs) (x ∷ xs)

-- the code of some file can make arrays, and that of some file can use their class
pub record ArraysSomewhere (p : Place) : Type 0 where
  pub maker : Name
  pub can : (p.has maker).arrays ≡ true
  pub file : Name
  pub made : (p.has file).helper (helper_name ArrayClass) ≡ true

-- an array of the IR, with as many items as an int can tell and no more than 255 dimensions, and the items that stand for them
pub record SameArray (p : Place) (w : World) (k : ArrayAt) (o : Option ir.Stored) (q : Option js.Stored) : Type 0 where
  pub values : List ir.Value
  pub stored : o ≡ Some (ir.array k.kind values)
  pub items : List js.Value
  pub shown : q ≡ Some (js.array items)
  pub alike : SameItems w (element_type k.kind) values items
  pub short : length values < 2 ^ 31
  pub few : k.kind.dimensions ≤ 255
  pub made : ArraysSomewhere p

-- constants with the marker of a class under `s` are those of a class that there is, and have the markers of the classes that stand above it, and of no other
pub record MarksAncestors (classes : ir_world.World) (constants : Name → Option js.Value) : Type 0 where
  pub known : (c : List ℕ) → constants (codes "s") ≡ Some (js.text (class_binding Marker c)) → IsAncestor classes c c
  pub above : (c b : List ℕ) → constants (codes "s") ≡ Some (js.text (class_binding Marker c)) → (is_some (constants (class_binding Marker b)) ≡ true) ↔ IsAncestor classes c b

-- the class that the world tells of an address of the IR, and what stands there on both sides
pub record ObjectAt (p : Place) (w : World) (i : ℕ) (o : Option ir.Stored) (q : Option js.Stored) : Type 0 where
  pub class : List ℕ
  pub told : w.classes i ≡ Some class
  pub alike : SameStored p w class (w.arrays i) o q

-- the code of some file can make objects of the class
pub record MadeSomewhere (p : Place) (c : List ℕ) : Type 0 where
  pub file : Name
  pub made : (p.has file).made c ≡ true

-- the heaps stand for each other: what has an address in the world stands on both, and is of the class that the world tells, which is no hijacked one, since the
-- values of these are primitive, and one of which some file's code can make objects; two addresses of the IR have two; the items of an array stand for those of the IR's, each array having its own;
-- what the emitted code has for itself, or has made before the IR, stands where it stood, at no address of the world and of no items; constants among it have the markers of ancestors; and objects
-- that hold chars are of their class
pub record SameHeap (p : Place) (w : World) (s : List ir.Stored) (u : List js.Stored) : Type 0 where
  pub objects : (i a : ℕ) → w.place i ≡ Some a → ObjectAt p w i (slice_get s i) (slice_get u a)
  pub free : (i : ℕ) (c : List ℕ) → w.classes i ≡ Some c → is_hijacked c ≡ false
  pub made : (i : ℕ) (c : List ℕ) → w.classes i ≡ Some c → MadeSomewhere p c
  pub differ : (i j a : ℕ) → w.place i ≡ Some a → w.place j ≡ Some a → i ≡ j
  pub arrays : (i : ℕ) (k : ArrayAt) → w.arrays i ≡ Some k → SameArray p w k (slice_get s i) (slice_get u k.items)
  pub items_differ : (i j : ℕ) (k l : ArrayAt) → w.arrays i ≡ Some k → w.arrays j ≡ Some l → k.items ≡ l.items → i ≡ j
  pub items_apart : (i : ℕ) (k : ArrayAt) (o : js.Stored) → w.arrays i ≡ Some k → w.owned k.items ≡ Some o → ⊥
  pub items_born : (i : ℕ) (k : ArrayAt) (o : js.Stored) → w.arrays i ≡ Some k → w.pending k.items ≡ Some o → ⊥
  pub owned : (a : ℕ) (o : js.Stored) → w.owned a ≡ Some o → slice_get u a ≡ Some o
  pub marked : (a : ℕ) (constants : Name → Option js.Value) → w.owned a ≡ Some (js.plain [] constants) → MarksAncestors p.classes constants
  pub pending : (a : ℕ) (o : js.Stored) → w.pending a ≡ Some o → slice_get u a ≡ Some o
  pub apart : (i a : ℕ) (o : js.Stored) → w.place i ≡ Some a → w.owned a ≡ Some o → ⊥
  pub unborn : (i a : ℕ) (o : js.Stored) → w.place i ≡ Some a → w.pending a ≡ Some o → ⊥
  pub separate : (a : ℕ) (o b : js.Stored) → w.owned a ≡ Some o → w.pending a ≡ Some b → ⊥
  pub boxes : w.boxes ≡ box_link p ∷ []

-- the constants of a class, which the emitted code has for itself at an address, and which tell its marker; by those of any but java.lang.Character an object is shown as one of the class
pub record HoldsConstants (owned : ℕ → Option js.Stored) (c : List ℕ) (cell : js.Cell) : Type 0 where
  pub address : ℕ
  pub constants : Name → Option js.Value
  pub held : cell ≡ js.holds true (js.object address)
  pub owned_there : owned address ≡ Some (js.plain [] constants)
  pub marked : constants (codes "s") ≡ Some (js.text (class_binding Marker c))
  pub known : is_same_text c (codes "java.lang.Character") ≡ false → (v : Option js.Value) → object_shown (class_marked (class_binding Marker c)) v ≡ Some (shown_ends.object_of c)

-- the constants of the class of a kind of primitive values; by those of java.lang.Character an object is shown as the char that it holds, and as an object of no class
pub record HoldsKindConstants (owned : ℕ → Option js.Stored) (k : Kind) (cell : js.Cell) : Type 0 where
  pub address : ℕ
  pub constants : Name → Option js.Value
  pub held : cell ≡ js.holds true (js.object address)
  pub owned_there : owned address ≡ Some (js.plain [] constants)
  pub marked : constants (codes "s") ≡ Some (js.text (class_binding Marker (kind_class k)))

-- what a local or a static field of this type holds, and the binding that stands for it
pub data Holding (w : World) (t : IrType) : Option ir.Value → js.Cell → Type 0 where
  holding : (v : ir.Value) (x : js.Value) → SameValue w t v x → Holding w t (Some v) (js.holds false x)

-- what a binding at the top holds once its file has run, by what the emitted code has for itself; the variable of a static field and the cell of a class
-- change, so that they are asked for by themselves
abbrev pub TopHolds : Place → (ℕ → Option js.Stored) → Top → js.Cell → Type 0
TopHolds p owned (a_function m) cell = cell ≡ js.holds false (function_of_member p m)
TopHolds p owned (a_class c) cell = cell ≡ js.holds false (js.class (links_of p c))
TopHolds p owned (some_constants c) cell = HoldsConstants owned c cell
TopHolds p owned (a_static c f t) cell = Unit {0}
TopHolds p owned (a_cell c) cell = Unit {0}
TopHolds p owned (a_helper BoxedChar) cell = cell ≡ js.holds false (js.class (box_link p ∷ []))
TopHolds p owned (a_helper ArrayClass) cell = cell ≡ js.holds false (js.class (array_links p))
TopHolds p owned (a_helper (ConstantsOf k)) cell = HoldsKindConstants owned k cell
TopHolds p owned t cell = cell ≡ js.holds false (top_function p t)

-- the states stand for each other: the heaps do; what the code of some file can use holds what it is to hold; and so do the static fields and the cells of classes that it
-- can use, each in its variable
pub record SameState (p : Place) (w : World) (s : ir.State) (u : js.State) : Type 0 where
  pub heaps : SameHeap p w s.heap u.heap
  pub tops : (f : Name) (t : Top) → is_usable (p.has f) t ≡ true → TopHolds p w.owned t (u.tops (p.home t) (top_name t))
  pub statics : (g : Name) (c f : List ℕ) (t : IrType) → has_static (p.has g) c f t ≡ true → Holding w t (s.statics c f) (u.tops (p.home (a_static c f t)) (static_name c f))
  pub cells : (g : Name) (c : List ℕ) → has_cell (p.has g) c ≡ true → Holding w (class_type c) (Some (s.cells c)) (u.tops (p.home (a_cell c)) (cell_name c))

-- a name that no variable has: those of functions, and of whatever else stands at the top of a file
abbrev pub OfNoVariable : Place → Name → Type 0
OfNoVariable p x = (y : core.Variable) → p.name y ≡ x → ⊥

-- the scope belongs to the function of a method in this file: nothing but variables is bound in it
pub record Inside (p : Place) (here : Code) (sc : js.Scope) : Type 0 where
  pub file : sc.file ≡ here.file
  pub free : (x : Name) → OfNoVariable p x → sc.bindings x ≡ js.absent

-- an expression of this type of the IR that gave a value or threw one and changed no local, and the expression that is emitted for it
pub data Valued (p : Place) (from : World) (env : ir.Env) (t : IrType) : ir.Ended → js.ExpressionEnd → Type 0 where
  valued : (w : World) (v : ir.Value) (x : js.Value) (s : ir.State) (u : js.State) → Grows from w → SameValue w t v x → SameState p w s u → Valued p from env t (ir.ends (ir.gives v) env s) (js.gives x u)
  thrown : (w : World) (v : ir.Value) (x : js.Value) (s : ir.State) (u : js.State) → Grows from w → SameValue w Any v x → SameState p w s u → Valued p from env t (ir.ends (ir.throws v) env s) (js.throws x u)

-- a member of the IR's program, and its function: what a call of the one and of the other come to, where the arguments are of the types that
-- the member's name tells
abbrev pub CallsAlike : Setting → Member → Type 0
CallsAlike z m = (w : World) (vs : List ir.Value) (xs : List js.Value) (env : ir.Env) (s : ir.State) (u : js.State) → SameValues w (types_referred m.method.params) vs xs → SameState z.place w s u → Sim z.direction (Valued z.place w env (call_type m.method.result)) (ir_meaning.call z.low (ir_world.member_of z.place.classes m.class m.namespace m.method) None vs env s) (function_call z.place z.js_low m xs u)

-- two variables have two names, and two labels; and no variable has the name of a binding at the top
pub record NamesDiffer (p : Place) : Type 0 where
  pub variables : (x y : core.Variable) → p.name x ≡ p.name y → x ≡ y
  pub labels : (l m : List ℕ) → p.label l ≡ p.label m → l ≡ m
  pub tops : (t : Top) → OfNoVariable p (top_name t)

-- what the code of this file names it reaches by its name, in the file that has it
abbrev pub Reaches : Place → Name → Type 0
Reaches p f = (t : Top) → is_named (p.has f) t ≡ true → owner p.program f (top_name t) ≡ Some (p.home t)

-- an object of the class with its fields at the zeros of their types
abbrev pub zeroed : Place → List ℕ → ir.Stored
zeroed p c = ir.object c (ir_world.new_fields p.classes c)

-- `new` of a class: the emitted code makes the object, and the IR does nothing yet
pub data Makes (p : Place) (from : World) (c : List ℕ) (env : ir.Env) (s : ir.State) : ir.Ended → js.ExpressionEnd → Type 0 where
  makes : (a : ℕ) (o : js.Stored) (u : js.State) → ((b : js.Stored) → from.pending a ≡ Some b → ⊥) → SameStored p from c None (Some (zeroed p c)) (Some o) → SameState p (with_pending a o from) s u → Makes p from c env s (ir.ends (ir.gives ir.undefined) env s) (js.gives (js.object a) u)

abbrev pub MakesAlike : Setting → List ℕ → Type 0
MakesAlike z c = (w : World) (env : ir.Env) (s : ir.State) (u : js.State) → SameState z.place w s u → Sim z.direction (Makes z.place w c env s) (done (ir.ends (ir.gives ir.undefined) env s)) (js_meaning.construct z.place.program z.js_low (links_of z.place c) (links_of z.place c) [] u)

-- a constructor: by the IR it gives nothing that is used, and its function gives the object that it ran on
pub data Built (p : Place) (from : World) (env : ir.Env) (this : js.Value) : ir.Ended → js.ExpressionEnd → Type 0 where
  built : (w : World) (v : ir.Value) (s : ir.State) (u : js.State) → Grows from w → SameState p w s u → Built p from env this (ir.ends (ir.gives v) env s) (js.gives this u)
  failed : (w : World) (v : ir.Value) (x : js.Value) (s : ir.State) (u : js.State) → Grows from w → SameValue w Any v x → SameState p w s u → Built p from env this (ir.ends (ir.throws v) env s) (js.throws x u)

-- a value that a member of the class may run on, and the one that stands for it: any at the type of the class but null
pub record IsReceiver (w : World) (c : List ℕ) (v : ir.Value) (x : js.Value) : Type 0 where
  pub stands : SameValue w (class_type c) v x
  pub there : v ≡ ir.null → ⊥

-- a constructor on a receiver, and its function
abbrev pub BuildsAlike : Setting → Member → Type 0
BuildsAlike z m = (w : World) (v : ir.Value) (x : js.Value) (vs : List ir.Value) (xs : List js.Value) (env : ir.Env) (s : ir.State) (u : js.State) → IsReceiver w m.class v x → SameValues w (types_referred m.method.params) vs xs → SameState z.place w s u → Sim z.direction (Built z.place w env x) (ir_meaning.call z.low (ir_world.member_of z.place.classes m.class m.namespace m.method) (Some v) vs env s) (top_call z.place z.js_low (a_constructor m) (x ∷ xs) u)

-- a member on a receiver, as a call in its class finds it, and the function of its target
abbrev pub ReceivesAlike : Setting → Member → Type 0
ReceivesAlike z m = (w : World) (v : ir.Value) (x : js.Value) (vs : List ir.Value) (xs : List js.Value) (env : ir.Env) (s : ir.State) (u : js.State) → IsReceiver w m.class v x → SameValues w (types_referred m.method.params) vs xs → SameState z.place w s u → Sim z.direction (Valued z.place w env (call_type m.method.result)) (ir_meaning.call z.low (ir_meaning.static_target z.place.classes m.class m.namespace m.method) (Some v) vs env s) (top_call z.place z.js_low (a_method (called_member (usable z).lookup m.namespace m)) (x ∷ xs) u)

-- the class of a value: that which the world tells of the address of an object, and of a primitive value the one that it has in each state
pub data ClassTold (w : World) : ir.Value → List ℕ → Type 0 where
  of_object : (i a : ℕ) (c : List ℕ) → w.place i ≡ Some a → w.classes i ≡ Some c → ClassTold w (ir.reference i) c
  of_kind : (v : ir.Value) (c : List ℕ) → ((s : ir.State) → ir_world.class_of_value s v ≡ Some c) → ClassTold w v c

-- the value is of a class at or below this one
pub record HasClass (classes : ir_world.World) (w : World) (c : List ℕ) (v : ir.Value) : Type 0 where
  pub class : List ℕ
  pub told : ClassTold w v class
  pub below : is_ancestor classes class c ≡ true

-- a value on which a method may be looked up that is called on instances of the class, and the one that stands for it
pub record IsInstance (classes : ir_world.World) (w : World) (c : List ℕ) (v : ir.Value) (x : js.Value) : Type 0 where
  pub stands : SameValue w (class_type c) v x
  pub its : HasClass classes w c v

-- a call of the method that the class of the value decides on
abbrev pub call_by_class : Setting → MethodName → List ℕ → ir.Value → List ir.Value → ir.Run
call_by_class z m c v vs = ir_meaning.call_on z.place.classes z.low (ir_meaning.target_in z.place.classes (Some c) m) (v ∷ vs)

-- the function that tells the receivers of a method apart, on an instance of the class
abbrev pub DispatchesAlike : Setting → List ℕ → MethodName → Type 0
DispatchesAlike z c m = (w : World) (v : ir.Value) (x : js.Value) (one : IsInstance z.place.classes w c v x) (vs : List ir.Value) (xs : List js.Value) (env : ir.Env) (s : ir.State) (u : js.State) → SameValues w (types_referred m.params) vs xs → SameState z.place w s u → Sim z.direction (Valued z.place w env (call_type m.result)) (call_by_class z m one.its.class v vs env s) (top_call z.place z.js_low (a_dispatch m) (x ∷ xs) u)

-- the entry of a method that is read off an object, and what a call of it does from there on
pub record Finds (z : Setting) (m : MethodName) (w : World) (c : List ℕ) (v : ir.Value) (x : js.Value) (u : js.State) : Type 0 where
  pub found : js_objects.Callee
  pub is : js_objects.callee z.place.program u x (method_binding Entry m) ≡ Some found
  pub calls : (y : World) → Grows w y → (vs : List ir.Value) (xs : List js.Value) (env : ir.Env) (sc : js.Scope) (s : ir.State) (k : js.State) → SameValues y (types_referred m.params) vs xs → SameState z.place y s k → Sim z.direction (Valued z.place y env (call_type m.result)) (call_by_class z m c v vs env s) (js_meaning.call_with_this z.place.program z.js_low x found xs sc k)

abbrev pub EntriesAlike : Setting → List ℕ → MethodName → Type 0
EntriesAlike z c m = (w : World) (v : ir.Value) (x : js.Value) (one : IsInstance z.place.classes w c v x) (s : ir.State) (u : js.State) → SameState z.place w s u → Finds z m w one.its.class v x u

-- a method that is looked up: where a primitive value may be the receiver, by that function, and else by the object's entry
abbrev pub LooksUp : Bool → Setting → List ℕ → MethodName → Type 0
LooksUp true z c m = DispatchesAlike z c m
LooksUp false z c m = EntriesAlike z c m

-- a call by a reflective name, which means nothing on null, and the function of the name
abbrev pub ReflectsAlike : Setting → MethodName → Type 0
ReflectsAlike z m = (w : World) (v : ir.Value) (x : js.Value) (vs : List ir.Value) (xs : List js.Value) (env : ir.Env) (s : ir.State) (u : js.State) → SameValue w Any v x → SameValues w (types_referred m.params) vs xs → SameState z.place w s u → Sim z.direction (Valued z.place w env Any) (ir_meaning.call_reflective z.place.classes z.low m (v ∷ vs) env s) (top_call z.place z.js_low (a_reflection m) (x ∷ xs) u)

-- an assignment to a static field of this type, and a call of the function that sets its variable
abbrev pub SetsAlike : Setting → List ℕ → List ℕ → IrType → Type 0
SetsAlike z c f t = (w : World) (v : ir.Value) (x : js.Value) (env : ir.Env) (s : ir.State) (u : js.State) → SameValue w t v x → SameState z.place w s u → Sim z.direction (Valued z.place w env NoType) (ir_meaning.assign_static c f (v ∷ []) env s) (top_call z.place z.js_low (a_setter c f t) (x ∷ []) u)

-- the object of a class is stored in its cell, and a call of the function that stores it
abbrev pub StoresAlike : Setting → List ℕ → Type 0
StoresAlike z c = (w : World) (v : ir.Value) (x : js.Value) (env : ir.Env) (s : ir.State) (u : js.State) → SameValue w (class_type c) v x → SameState z.place w s u → Sim z.direction (Valued z.place w env NoType) (ir_meaning.store c (v ∷ []) env s) (top_call z.place z.js_low (a_storer c) (x ∷ []) u)

-- it is loaded, and made where there is none yet, and a call of the function that loads it
abbrev pub LoadsAlike : Setting → List ℕ → Type 0
LoadsAlike z c = (w : World) (env : ir.Env) (s : ir.State) (u : js.State) → SameState z.place w s u → Sim z.direction (Valued z.place w env (class_type c)) (ir_meaning.load z.place.classes z.low c (s.cells c) env s) (top_call z.place z.js_low (a_loader c) [] u)

-- two fields of the classes have two properties, and a field has one type
pub record FieldsDiffer (p : Place) : Type 0 where
  pub properties : (c f d g : List ℕ) (s t : IrType) → IsField p.classes c f s → IsField p.classes d g t → pointwise nat_eq (field_binding Property d g) (field_binding Property c f) ≡ (is_same_text d c && is_same_text g f)
  pub types : (c f : List ℕ) (s t : IrType) → IsField p.classes c f s → IsField p.classes c f t → s ≡ t

-- the class has the field, of a type with values, and fields differ
pub record HasField (p : Place) (c f : List ℕ) (t : IrType) : Type 0 where
  pub field : IsField p.classes c f t
  pub value : HasValue t
  pub differ : FieldsDiffer p

-- two static fields of the classes have two variables, and a static field has one type
pub record StaticsDiffer (p : Place) : Type 0 where
  pub variables : (c f d g : List ℕ) (s t : IrType) → IsStaticField p.classes c f s → IsStaticField p.classes d g t → pointwise nat_eq (static_name d g) (static_name c f) ≡ (is_same_text d c && is_same_text g f)
  pub types : (c f : List ℕ) (s t : IrType) → IsStaticField p.classes c f s → IsStaticField p.classes c f t → s ≡ t

-- the class has the static field, of a type with values, and static fields differ
pub record HasStatic (p : Place) (c f : List ℕ) (t : IrType) : Type 0 where
  pub field : IsStaticField p.classes c f t
  pub value : HasValue t
  pub differ : StaticsDiffer p

-- the classes have a class of this name
pub record IsClass (classes : ir_world.World) (c : List ℕ) : Type 0 where
  pub definition : ClassDef
  pub found : ir_world.class_of classes c ≡ Some definition

-- two classes have two cells
abbrev pub CellsDiffer : Place → Type 0
CellsDiffer p = (c d : List ℕ) → IsClass p.classes c → IsClass p.classes d → pointwise nat_eq (cell_name d) (cell_name c) ≡ is_same_text d c

-- subtyping is ordered, and what the levels below give of what is called, set, stored and made; a class of which objects are made has its code there, and is not hijacked
pub record Based (z : Setting) : Type 0 where
  pub ordered : IsSubtyping (IsSub z.place.typing)
  pub names : NamesDiffer z.place
  pub reaches : Reaches z.place z.code.file
  pub fields : (c f : List ℕ) (t : IrType) → (usable z).field c f t ≡ true → HasField z.place c f t
  pub statics : (c f : List ℕ) (t : IrType) → has_static (usable z) c f t ≡ true → HasStatic z.place c f t
  pub sets : (c f : List ℕ) (t : IrType) → (usable z).static_setter c f t ≡ true → SetsAlike z c f t
  pub stores : (c : List ℕ) → (usable z).stored c ≡ true → StoresAlike z c
  pub calls : (m : Member) → (usable z).linked m ≡ true → CallsAlike z m
  pub receives : (m : Member) → (usable z).received (called_member (usable z).lookup m.namespace m) ≡ true → ReceivesAlike z m
  pub builds : (m : Member) → (usable z).built m ≡ true → BuildsAlike z m
  pub makes : (c : List ℕ) → (usable z).made c ≡ true → MakesAlike z c
  pub lives : (c : List ℕ) → (usable z).made c ≡ true → (usable z).live c ≡ true
  pub objects : (c : List ℕ) → (usable z).made c ≡ true → is_hijacked c ≡ false

-- the null check of a value, and its helper
abbrev pub ChecksAlike : Setting → Type 0
ChecksAlike z = (t : IrType) (w : World) (v : ir.Value) (x : js.Value) (env : ir.Env) (s : ir.State) (u : js.State) → SameValue w t v x → SameState z.place w s u → Sim z.direction (Valued z.place w env t) (ir_meaning.answered z.place.classes z.low (ir_meaning.not_null z.place.classes v) env s) (top_call z.place z.js_low (a_helper NotNull) (x ∷ []) u)

-- the helper of a division, and what it does with its operands
abbrev pub division_helper : BinaryOp → Helper
division_helper IntDivide = helpers.IntQuotient
division_helper IntRemainder = helpers.IntRemainder
division_helper LongDivide = helpers.LongQuotient
division_helper _ = helpers.LongRemainder

abbrev pub DividesAlike : Setting → BinaryOp → Type 0
DividesAlike z o = (w : World) (v v' : ir.Value) (x x' : js.Value) (env : ir.Env) (s : ir.State) (u : js.State) → SameValue w (left_operand o) v x → SameValue w (right_operand o) v' x' → SameState z.place w s u → Sim z.direction (Valued z.place w env (binary_result o)) (ir_meaning.answered z.place.classes z.low (binary_value o v v') env s) (top_call z.place z.js_low (a_helper (division_helper o)) (x ∷ x' ∷ []) u)

-- a type whose test and whose cast call a function of one argument: those of arrays take more, and one to any calls nothing
abbrev pub HasFunction : IrType → Type 0
HasFunction Any = ⊥
HasFunction (Array r) = ⊥
HasFunction _ = Unit {0}

-- a test of a value, and its function
abbrev pub TestsAlike : Setting → IrType → Type 0
TestsAlike z t = (w : World) (v : ir.Value) (x : js.Value) (env : ir.Env) (s : ir.State) (u : js.State) → SameValue w Any v x → SameState z.place w s u → Sim z.direction (Valued z.place w env Boolean) (ir.given (ir_meaning.is_instance_value z.place.classes t s v) env s) (top_call z.place z.js_low (a_test t) (x ∷ []) u)

-- a cast of a value, and its function
abbrev pub CastsAlike : Setting → IrType → Type 0
CastsAlike z t = (w : World) (v : ir.Value) (x : js.Value) (env : ir.Env) (s : ir.State) (u : js.State) → SameValue w Any v x → SameState z.place w s u → Sim z.direction (Valued z.place w env t) (ir_meaning.answered z.place.classes z.low (ir_meaning.cast_answer z.place.classes t s v) env s) (top_call z.place z.js_low (a_cast t) (x ∷ []) u)

-- whether two values are the same, and the helper that tells
abbrev pub ComparesAlike : Setting → Type 0
ComparesAlike z = (w : World) (v v' : ir.Value) (x x' : js.Value) (env : ir.Env) (s : ir.State) (u : js.State) → SameValue w Any v x → SameValue w Any v' x' → SameState z.place w s u → Sim z.direction (Valued z.place w env Boolean) (ir_meaning.answered z.place.classes z.low (binary_value StrictEqual v v') env s) (top_call z.place z.js_low (a_helper helpers.Equal) (x ∷ x' ∷ []) u)

-- `new $C` of a char: the emitted code makes an object that holds it, and the IR does nothing
abbrev pub BoxesAlike : Setting → Type 0
BoxesAlike z = (t : IrType) (c : ℕ) (w : World) (env : ir.Env) (s : ir.State) (u : js.State) → is_char t ≡ false → suits t (ir.char c) ≡ true → c < 2 ^ 16 → SameState z.place w s u → Sim z.direction (Valued z.place w env t) (done (ir.ends (ir.gives (ir.char c)) env s)) (js_meaning.construct z.place.program z.js_low (box_link z.place ∷ []) (box_link z.place ∷ []) (js.number (pos c) ∷ []) u)

-- where the first type is expected and a tree is of the second, the code at hand can make objects that hold chars if it has to
abbrev pub MayBox : Setting → IrType → IrType → Type 0
MayBox z expected own = (is_char own && not (is_char expected)) ≡ true → ((usable z).helper (helper_name BoxedChar) ≡ true) × BoxesAlike z

-- the value that an item of the type begins with
abbrev pub zero_shown : IrType → js.Value
zero_shown Boolean = js.boolean false
zero_shown Char = js.number (pos 0)
zero_shown Byte = js.number (pos 0)
zero_shown Short = js.number (pos 0)
zero_shown Int = js.number (pos 0)
zero_shown Long = js.big_int (pos 0)
zero_shown String = js.text []
zero_shown Undefined = js.undefined
zero_shown _ = js.null

-- the values that tell a type of arrays
abbrev pub depth_of : ArrayRef → js.Value
depth_of r = js.number (pos r.dimensions)

-- a new array of a length, and the helper that makes it
abbrev pub MakesArraysAlike : Setting → Type 0
MakesArraysAlike z = (r : ArrayRef) → HasDimensions r → (w : World) (v : ir.Value) (x base : js.Value) (env : ir.Env) (s : ir.State) (u : js.State) → SameValue w Int v x → StandsForBase w.owned r.base base → SameState z.place w s u → Sim z.direction (Valued z.place w env (Array r)) (ir_meaning.new_items z.place.classes z.low r (v ∷ []) env s) (top_call z.place z.js_low (a_helper helpers.MakeArray) (depth_of r ∷ base ∷ x ∷ zero_shown (element_type r) ∷ []) u)

-- an array of these items, and `new $A` of the list of what stands for them
abbrev pub GivesArraysAlike : Setting → Type 0
GivesArraysAlike z = (r : ArrayRef) → HasDimensions r → (w : World) (vs : List ir.Value) (xs : List js.Value) (base : js.Value) (env : ir.Env) (s : ir.State) (u : js.State) → SameItems w (element_type r) vs xs → length vs < 2 ^ 31 → StandsForBase w.owned r.base base → SameState z.place w s u → Sim z.direction (Valued z.place w env (Array r)) (ir_meaning.made_array r vs env s) (js_meaning.construct z.place.program z.js_low (array_links z.place) (array_links z.place) (depth_of r ∷ base ∷ js.object (js_objects.next_address u) ∷ []) (js_objects.with_stored (js.array xs) u))

-- an item of an array that is read, and the helper
abbrev pub GetsAlike : Setting → Type 0
GetsAlike z = (r : ArrayRef) → HasDimensions r → (w : World) (v i : ir.Value) (x j : js.Value) (env : ir.Env) (s : ir.State) (u : js.State) → SameValue w (Array r) v x → SameValue w Int i j → SameState z.place w s u → Sim z.direction (Valued z.place w env (element_type r)) (ir_meaning.select_item z.place.classes z.low (v ∷ i ∷ []) env s) (top_call z.place z.js_low (a_helper helpers.Get) (x ∷ j ∷ []) u)

-- the helper that writes an item of this type: where it is no primitive one, it asks whether the array may hold the value
abbrev pub setting_helper : IrType → Helper
setting_helper Undefined = helpers.Set
setting_helper Boolean = helpers.Set
setting_helper Char = helpers.Set
setting_helper Byte = helpers.Set
setting_helper Short = helpers.Set
setting_helper Int = helpers.Set
setting_helper Long = helpers.Set
setting_helper String = helpers.Set
setting_helper Null = helpers.Set
setting_helper _ = helpers.Put

-- an item that is written, and that helper
abbrev pub PutsAlike : Setting → Type 0
PutsAlike z = (r : ArrayRef) → HasDimensions r → (usable z).helper (helper_name (setting_helper (element_type r))) ≡ true → (w : World) (v i e : ir.Value) (x j y : js.Value) (env : ir.Env) (s : ir.State) (u : js.State) → SameValue w (Array r) v x → SameValue w Int i j → SameValue w (element_type r) e y → SameState z.place w s u → Sim z.direction (Valued z.place w env NoType) (ir_meaning.assign_item z.place.classes z.low (v ∷ i ∷ e ∷ []) env s) (top_call z.place z.js_low (a_helper (setting_helper (element_type r))) (x ∷ j ∷ y ∷ []) u)

-- whether a value is an array of this reference, and the helper that tells
abbrev pub TestsArraysAlike : Setting → ArrayRef → Type 0
TestsArraysAlike z r = HasDimensions r → (w : World) (v : ir.Value) (x base : js.Value) (env : ir.Env) (s : ir.State) (u : js.State) → SameValue w Any v x → StandsForBase w.owned r.base base → SameState z.place w s u → Sim z.direction (Valued z.place w env Boolean) (ir.given (ir_meaning.is_instance_value z.place.classes (Array r) s v) env s) (top_call z.place z.js_low (a_test (Array r)) (x ∷ depth_of r ∷ base ∷ []) u)

-- a cast to an array of this reference, and the helper that casts, with the text of the reference
abbrev pub CastsArraysAlike : Setting → ArrayRef → Type 0
CastsArraysAlike z r = HasDimensions r → (w : World) (v : ir.Value) (x base : js.Value) (env : ir.Env) (s : ir.State) (u : js.State) → SameValue w Any v x → StandsForBase w.owned r.base base → SameState z.place w s u → Sim z.direction (Valued z.place w env (Array r)) (ir_meaning.answered z.place.classes z.low (ir_meaning.cast_answer z.place.classes (Array r) s v) env s) (top_call z.place z.js_low (a_cast (Array r)) (x ∷ depth_of r ∷ base ∷ js.text (array_text r) ∷ []) u)

-- each array has the entry of the method, which is that of objects
abbrev pub ArraysFind : Setting → MethodName → Type 0
ArraysFind z m = (w : World) (i a : ℕ) (k : ArrayAt) → w.place i ≡ Some a → w.arrays i ≡ Some k → (s : ir.State) (u : js.State) → SameState z.place w s u → Finds z m w object_class (ir.reference i) (js.object a) u

-- what the levels below give to trees, with what is looked up and loaded and what helpers do
pub record Lawful (z : Setting) : Type 0 where
  pub base : Based z
  pub looks : (c : List ℕ) (m : MethodName) → can_look_up (usable z) c m ≡ true → LooksUp ((usable z).lookup.has_hijacked c) z c m
  pub reflects : (m : MethodName) → (usable z).reflected m ≡ true → ReflectsAlike z m
  pub loads : (c : List ℕ) → (usable z).modules c ≡ true → LoadsAlike z c
  pub checks : (usable z).helper check_name ≡ true → ChecksAlike z
  pub divisions : (o : BinaryOp) → divides (usable z) o ≡ true → DividesAlike z o
  pub boxes : can_box (usable z) ≡ true → BoxesAlike z
  pub tests : (t : IrType) → is_array_type t ≡ false → (usable z).tests t ≡ true → HasFunction t × TestsAlike z t
  pub casts : (t : IrType) → is_array_type t ≡ false → (usable z).casts t ≡ true → HasFunction t × CastsAlike z t
  pub array_tests : (r : ArrayRef) → (usable z).tests (Array r) ≡ true → TestsArraysAlike z r
  pub array_casts : (r : ArrayRef) → (usable z).casts (Array r) ≡ true → CastsArraysAlike z r
  pub makes_arrays : (usable z).arrays ≡ true → (usable z).helper (helper_name helpers.MakeArray) ≡ true → MakesArraysAlike z
  pub gives_arrays : (usable z).arrays ≡ true → (usable z).helper (helper_name ArrayClass) ≡ true → GivesArraysAlike z
  pub gets : (usable z).helper (helper_name helpers.Get) ≡ true → GetsAlike z
  pub puts : PutsAlike z
  pub array_calls : (m : MethodName) → (usable z).on_arrays m ≡ true → ArraysFind z m
  pub compares : compares (usable z) ≡ true → ComparesAlike z

-- This, in a method of the class, if there is one, and the binding that stands for it
pub data Receiving (w : World) (c : List ℕ) : Option ir.Value → js.Cell → Type 0 where
  no_receiver : (cell : js.Cell) → Receiving w c None cell
  on_receiver : (v : ir.Value) (x : js.Value) → IsReceiver w c v x → Receiving w c (Some v) (js.holds false x)

-- the locals in scope stand for each other, and so does This; and the locals that are taken to be never null are those of the body
pub record Sees (p : Place) (here : Code) (scope : Scope) (w : World) (env : ir.Env) (sc : js.Scope) : Type 0 where
  pub inside : Inside p here sc
  pub this : Receiving w here.owner env.this_value (sc.bindings (p.name core.receiver))
  pub sure : env.sure ≡ here.sure
  pub locals : (x : List ℕ) (t : IrType) → scope x t → Holding w t (env.locals x) (sc.bindings (p.name (core.named x)))
