-- Laws of the pieces that some classes of a linked world own.
use Rattle.std.specs.Prelude.{codes, ◌≡◌, ◌↔◌, ◌&&◌, true, List, [], ◌∷◌, map, Some, None}
use Rattle.std.specs.List.{Contains}
use Rattle.declared_pieces.specs.Closed.{IsClosed, items_of}
use Rattle.file_declarations.specs.Declarations.{declare}
use Rattle.sj_emit_help_spec.specs.Helpers.{helper_name, helper_piece}
use Rattle.sj_emit_help_spec.specs.Words.{all_kinds, told_kinds, helper, is_name, bound, entry_name, public_function, parameters_of}
use Rattle.sj_emit_help_spec.specs.declared.kinds.Helper.{Helper}
use Rattle.sj_emit_help_spec.specs.declared.kinds.Helper.TheVariants.{ArrayClass, BoxedChar, TestOf, Throws}
use Rattle.sj_emit_help_spec.specs.declared.kinds.Failure.TheVariants.{Method}
use Rattle.sj_emit_help_spec.specs.declared.kinds.Kind.{Kind}
use Rattle.ir_mean.specs.Dispatch.{chain_of, is_ancestor, proxy_target}
use Rattle.js_mean.specs.Classes.{method_among}
use Rattle.js_tree.specs.Terms.{Piece}
use Rattle.object_helpers.specs.Accepted.{IsAccepted}
use Rattle.object_helpers.specs.Bodies.{AreBodies}
use Rattle.object_helpers.specs.Built.{has_static}
use Rattle.file_declarations.specs.Bridges.{bridge}
use Rattle.file_declarations.specs.Classes.{AreParts}
use Rattle.file_declarations.specs.Dispatch.{Told, AreTold, IsReachedTarget, dispatch_piece, Reflected, AreReflected, reflected_uses, reflective_piece}
use Rattle.file_declarations.specs.Reflecting.{proxy_code}
use Rattle.object_helpers.specs.EmittedMethods.{EmittedMethod}
use Rattle.object_helpers.specs.Entries.{AreEntries, IsLive, IsReflective}
use Rattle.object_helpers.specs.Linked.{has_function}
use Rattle.file_declarations.specs.Pieces.{Parts, entry_member, constants_piece, class_piece, variable_piece, setter_piece, test_piece, test_uses, kind_of_class, cast_piece, is_char}
use Rattle.sj_trees.specs.declared.classes.MethodDef.{MethodDef}
use Rattle.js_tree.specs.declared.items.Binding.{Binding}
use Rattle.object_helpers.specs.Pieces.{piece_of_member, AreLinkedPieces}
use Rattle.object_helpers.specs.Reachable.{Reachable}
use Rattle.object_helpers.specs.Running.{CanRun}
use Rattle.file_declarations.specs.Settings.{IsStaticField}
use Rattle.object_helpers.specs.Used.{used_of, is_among}
use Rattle.sj_names.specs.declared.entry_points.EntryPoint.{EntryPoint}
use Rattle.sj_names.specs.declared.folders.SourceFile.{SourceFile}
use Rattle.sj_names.specs.WellKnown.{object}
use Rattle.sj_names.specs.declared.method_names.Member.{Member}
use Rattle.sj_names.specs.declared.method_names.MethodName.{MethodName}
use Rattle.sj_trees.specs.declared.types.IrType.{IrType}
use Rattle.sj_trees.specs.declared.types.IrType.TheVariants.{Class}
use Rattle.sj_world.specs.Known.{Name, Classes}
use Rattle.sj_world.specs.Linked.{Linked}
use Rattle.sj_world.specs.declared.facts.Fact.{Fact}

-- a member with a body, and the piece of its function
pub record MethodThere (w : Classes) (all : List EmittedMethod) (ps : List Piece) (m : Member) : Type 0 where
  pub method : EmittedMethod
  pub listed : Contains all method
  pub is : method.member ≡ m
  pub function : Contains ps (piece_of_member w method)

-- a class whose code is there, with its parts in the linked world, and the pieces of its constants and of itself
pub record ClassThere (l : Linked) (ps : List Piece) (c : Name) : Type 0 where
  pub parts : Parts
  pub are : AreParts l c parts
  pub constants : Contains ps (constants_piece c parts.ancestors)
  pub class : Contains ps (class_piece c parts.class.superclass parts.entries parts.fields)

-- along these classes, with the pieces of each, the first that has an entry of the method hands it on to the function of this owner
pub data EntryThere (l : Linked) (ps : List Piece) (written : List Name) (m : MethodName) (owner : Name) : List Name → Type 0 where
  has_entry : (c : Name) (cs : List Name) (its : ClassThere l ps c) → Contains written c → method_among (map entry_member its.parts.entries) (entry_name m) ≡ Some (bridge (public_function owner m) (parameters_of m)) → Contains (class_piece c its.parts.class.superclass its.parts.entries its.parts.fields).uses (bound owner (public_function owner m)) → EntryThere l ps written m owner (c ∷ cs)
  has_none : (c : Name) (cs : List Name) (its : ClassThere l ps c) → Contains written c → method_among (map entry_member its.parts.entries) (entry_name m) ≡ None → EntryThere l ps written m owner cs → EntryThere l ps written m owner (c ∷ cs)

-- what a call of the method runs on objects of the class, of which the function is written, and where they find it
pub record FindsEntry (l : Linked) (ps : List Piece) (written : List Name) (d : Name) (m : MethodName) : Type 0 where
  pub owner : Name
  pub target : IsReachedTarget l.world l.facts d m owner
  pub here : Contains written owner
  pub entry : EntryThere l ps written m owner (chain_of l.world d)

-- the piece of the function that tells the primitive receivers of a method apart, with its cases; the functions that these call, and the tests of their kinds, are written
pub record DispatchThere (l : Linked) (ps : List Piece) (written : List Name) (helpers : List Helper) (m : MethodName) : Type 0 where
  pub cases : List Told
  pub are_told : AreTold l.world l.facts m told_kinds cases
  pub here : Contains written object
  pub piece : Contains ps (dispatch_piece m cases)
  pub owners : (t : Told) → Contains cases t → Contains written t.owner
  pub tests : (t : Told) → Contains cases t → Contains helpers (TestOf t.kind)
  pub calls : (t : Told) → Contains cases t → Contains (dispatch_piece m cases).uses (bound t.owner (public_function t.owner m))
  pub asks : (t : Told) → Contains cases t → Contains (dispatch_piece m cases).uses (helper (is_name t.kind))

-- a static field, and the pieces of its variable and of the function that sets it
-- the function of a reflective name has its piece, with a case for each kind; the owners of what these call are written, and so are the tests and the class of boxed chars that they use, and the
-- helper that throws where there is no method
pub record ReflectionThere (l : Linked) (ps : List Piece) (written : List Name) (helpers : List Helper) (m : MethodName) : Type 0 where
  pub called : IsReflective l.world l.facts m
  pub cases : List Reflected
  pub are_reflected : AreReflected l.world l.facts m told_kinds cases
  pub here : Contains written object
  pub piece : Contains ps (reflective_piece m cases)
  pub owners : (t : Reflected) → Contains cases t → Contains written t.owner
  pub tests : (t : Reflected) → Contains cases t → Contains helpers (TestOf t.kind)
  pub boxes : (t : Reflected) → Contains cases t → is_char t.method.result ≡ true → Contains helpers BoxedChar
  pub thrower : Contains helpers (Throws Method)
  pub uses : (t : Reflected) → Contains cases t → (b : Binding) → Contains (reflected_uses t) b → Contains (reflective_piece m cases).uses b
  pub throws : Contains (reflective_piece m cases).uses (helper (codes "$nme"))

-- the first of these classes hands the name on to the entry of this method, and for a char uses the class of those that are boxed
pub data ProxyThere (l : Linked) (ps : List Piece) (written : List Name) (helpers : List Helper) (m t : MethodName) : List Name → Type 0 where
  proxy_there : (c : Name) (cs : List Name) (its : ClassThere l ps c) → Contains written c → method_among (map entry_member its.parts.entries) (entry_name m) ≡ Some (proxy_code t (parameters_of m)) → (is_char t.result ≡ true → Contains (class_piece c its.parts.class.superclass its.parts.entries its.parts.fields).uses (helper (codes "$C")) × Contains helpers BoxedChar) → ProxyThere l ps written helpers m t (c ∷ cs)

-- none of these classes has an entry of the name
pub data NoEntryThere (l : Linked) (ps : List Piece) (written : List Name) (m : MethodName) : List Name → Type 0 where
  nothing_there : NoEntryThere l ps written m []
  none_there : (c : Name) (cs : List Name) (its : ClassThere l ps c) → Contains written c → method_among (map entry_member its.parts.entries) (entry_name m) ≡ None → NoEntryThere l ps written m cs → NoEntryThere l ps written m (c ∷ cs)

-- what objects of the class have under a reflective name: no method and no entry, or a method of the same parameters, to whose entry theirs hands on
pub data NamedThere (l : Linked) (ps : List Piece) (written : List Name) (helpers : List Helper) (d : Name) (m : MethodName) : Type 0 where
  not_named : proxy_target l.world d m ≡ None → NoEntryThere l ps written m (chain_of l.world d) → NamedThere l ps written helpers d m
  is_named : (t : MethodDef) → proxy_target l.world d m ≡ Some t → t.name.params ≡ m.params → ProxyThere l ps written helpers m t.name (chain_of l.world d) → FindsEntry l ps written d t.name → NamedThere l ps written helpers d m

pub record StaticThere (w : Classes) (ps : List Piece) (c f : Name) (t : IrType) : Type 0 where
  pub field : IsStaticField w c f t
  pub variable : Contains ps (variable_piece c field.field)
  pub setter : Contains ps (setter_piece c field.field)

-- a written class for which bodies test or to which they cast, with its parts, the piece of its test, and the tests of kinds that this asks for
pub record TestThere (l : Linked) (written : List Name) (ps : List Piece) (helpers : List Helper) (c : Name) : Type 0 where
  pub parts : Parts
  pub are : AreParts l c parts
  pub here : Contains written c
  pub test : Contains ps (test_piece c parts.instances (kind_of_class c all_kinds))
  pub kinds : (k : Kind) → Contains (test_uses parts.instances (kind_of_class c all_kinds)) (helper (helper_name (TestOf k))) → Contains helpers (TestOf k)

-- a class to which bodies cast, with the piece of its cast beside that of its test
pub record CastThere (l : Linked) (written : List Name) (ps : List Piece) (helpers : List Helper) (c : Name) : Type 0 where
  pub tests : TestThere l written ps helpers c
  pub cast : Contains ps (cast_piece c)

-- a written class that bodies name as the base of arrays, with its parts and the piece of its constants
pub record BaseThere (l : Linked) (written : List Name) (ps : List Piece) (c : Name) : Type 0 where
  pub parts : Parts
  pub are : AreParts l c parts
  pub here : Contains written c
  pub constants : Contains ps (constants_piece c parts.ancestors)

-- what the code of the written classes can use has its pieces
pub record HasPieces (l : Linked) (all : List EmittedMethod) (live written : List Name) (ps : List Piece) (p : AreLinkedPieces l all ps) : Type 0 where
  pub methods : (m : Member) → (is_among written m.class && has_function all m) ≡ true → MethodThere l.world all ps m
  pub classes : (c : Name) → (used_of l.world l.facts all live p.helpers written).live c ≡ true → ClassThere l ps c
  pub entries : (c : Name) (m : MethodName) → (used_of l.world l.facts all live p.helpers written).looked_up c m ≡ true → (d : Name) → (used_of l.world l.facts all live p.helpers written).made d ≡ true → is_ancestor l.world d c ≡ true → FindsEntry l ps written d m
  pub dispatched : (m : MethodName) → (used_of l.world l.facts all live p.helpers written).dispatched m ≡ true → DispatchThere l ps written p.helpers m
  pub reflections : (m : MethodName) → (used_of l.world l.facts all live p.helpers written).reflected m ≡ true → ReflectionThere l ps written p.helpers m
  pub names : (m : MethodName) → (used_of l.world l.facts all live p.helpers written).reflected m ≡ true → (d : Name) → (used_of l.world l.facts all live p.helpers written).made d ≡ true → NamedThere l ps written p.helpers d m
  pub statics : (c f : Name) (t : IrType) → has_static (used_of l.world l.facts all live p.helpers written) c f t ≡ true → StaticThere l.world ps c f t
  pub tests : (c : Name) → (used_of l.world l.facts all live p.helpers written).tests (Class c) ≡ true → TestThere l written ps p.helpers c
  pub casts : (c : Name) → (used_of l.world l.facts all live p.helpers written).casts (Class c) ≡ true → CastThere l written ps p.helpers c
  pub bases : (c : Name) → (used_of l.world l.facts all live p.helpers written).bases c ≡ true → BaseThere l written ps c
  pub helpers : (h : Helper) → (used_of l.world l.facts all live p.helpers written).helper (helper_name h) ≡ true → Contains ps (helper_piece p.above h)

-- where what is written can run, and uses nothing but what is written, what its code can use has its pieces
abbrev pub WhatIsUsedHasPieces : Type 0
WhatIsUsedHasPieces = (entries : List EntryPoint) (files : List SourceFile) (l : Linked) (all : List EmittedMethod) (live written : List Name) (ps : List Piece)
    → IsAccepted entries files l.world
    → AreBodies l.world entries all
    → (p : AreLinkedPieces l all ps)
    → AreEntries l.world l.facts l.entries
    → ((c : Name) → Contains live c ↔ IsLive l.world l.facts c)
    → CanRun l.world entries l.facts all live p.helpers written
    → IsClosed ps written
    → HasPieces l all live written ps p

-- the items of what is written do nothing but declare, where the class of all objects is live if the class of arrays is there
abbrev pub PiecesAreDeclarations : Type 0
PiecesAreDeclarations = (entries : List EntryPoint) (files : List SourceFile) (l : Linked) (all : List EmittedMethod) (written : List Name) (ps : List Piece)
    → IsAccepted entries files l.world
    → ((f : Fact) → Contains l.facts f → Reachable l.world entries f)
    → (p : AreLinkedPieces l all ps)
    → IsClosed ps written
    → (Contains p.helpers ArrayClass → IsLive l.world l.facts object)
    → declare [] (items_of written ps) ≡ true
