-- What the code of bodies can use in a world, as the items of several files declare it.
use Rattle.std.specs.Prelude.{◌≡◌, ℕ, Bool, true, false, List, [], ◌∷◌, ◌++◌, map, Option, Some, None, codes}
use Rattle.std.specs.List.{Contains, list_all}
use Rattle.agree_soundness.specs.Laws.{ObjectLaws}
use Rattle.agree_soundness.specs.Rules.{RightMember}
use Rattle.agree_soundness.specs.Targets.{IsTargetOf}
use Rattle.agree_body_forms.specs.Built.{Usable, has_static, has_cell, can_look_up}
use Rattle.file_declarations.specs.Declared.{Running, alone, on_receiver, completing, running, FieldsAreKept}
use Rattle.sj_emit_help_spec.specs.Helpers.{Above, failure_class, helper_name, helper_item, used_helpers, constants}
use Rattle.sj_emit_help_spec.specs.Words.{marker, kind_class, object_class, worded_kinds, entry_name, parameters_of, units_of}
use Rattle.sj_emit_help_spec.specs.declared.kinds.Failure.{Failure}
use Rattle.sj_emit_help_spec.specs.declared.kinds.Failure.TheVariants.{Cast, Method}
use Rattle.sj_emit_help_spec.specs.declared.kinds.Helper.{Helper}
use Rattle.sj_emit_help_spec.specs.declared.kinds.Kind.{Kind}
use Rattle.file_declarations.specs.Helpers.{kind_of}
use Rattle.sj_emit_help_spec.specs.declared.kinds.Helper.TheVariants.{ArrayClass, BoxedChar, CastToArray, Throws, TestOf, TestOfArray, CastTo}
use Rattle.ir_mean.specs.Dispatch.{chain_of, is_ancestor, proxy_target}
use Rattle.ir_mean.specs.Meaning.{with_message, without_parameters}
use Rattle.ir_mean.specs.World.{World, class_of}
use Rattle.js_mean.specs.Classes.{method_among, method_in, members_of}
use Rattle.js_mean.specs.Proper.{are_distinct}
use Rattle.js_mean.specs.Files.{module_among, items_in, is_good_file, owner, running_order}
use Rattle.js_mean.specs.Shows.{class_marked, file_of}
use Rattle.js_mean.specs.States.{Program}
use Rattle.js_tree.specs.Terms.{Name, Property, Item, object_item, Member, constructor_of}
use Rattle.js_tree.specs.Views.{statements_of}
use Rattle.file_declarations.specs.Bridges.{bridge}
use Rattle.file_declarations.specs.Classes.{AreInstances}
use Rattle.file_declarations.specs.ClassTestsKinds.{is_told}
use Rattle.file_declarations.specs.Dispatch.{Told, dispatch_item, Reflected, reflective_item}
use Rattle.file_declarations.specs.Looked.{HasCase}
use Rattle.file_declarations.specs.Reflected.{HasReflected}
use Rattle.file_declarations.specs.Reflecting.{proxy_code}
use Rattle.file_declarations.specs.Pieces.{is_char as is_char_result, constants_piece, class_item_of, constructor_body, variable_piece, setter_piece, cell_piece, load_piece, store_piece, test_piece, cast_piece}
use Rattle.sj_desugar_spec.specs.Desugar.{desugared_member, member}
use Rattle.sj_desugar_spec.specs.Plain.{is_no_type}
use Rattle.sj_emit_expr_spec.specs.Members.{member_piece}
use Rattle.sj_emit_expr_spec.specs.Templates.{member_name}
use Rattle.sj_names.specs.MethodNames.{spelled_method}
use Rattle.sj_names.specs.Same.{is_same_text}
use Rattle.sj_names.specs.declared.entry_points.EntryPoint.{EntryPoint}
use Rattle.sj_names.specs.declared.method_names.Member.{Member as MemberName}
use Rattle.sj_names.specs.declared.method_names.MethodName.{MethodName}
use Rattle.sj_names.specs.declared.references.ArrayRef.{ArrayRef}
use Rattle.sj_names.specs.declared.method_names.Namespace.TheVariants.{Public, Constructor}
use Rattle.file_declarations.specs.Settings.{Top, a_function, a_method, a_constructor, a_dispatch, a_reflection, a_class, some_constants, a_static, a_setter, a_cell, a_loader, a_storer, a_test, a_cast, a_helper, top_name, is_usable, is_named, IsField, IsStaticField, IsClass}
use Rattle.agree_soundness.specs.Emitted.{initializer_member, call_item_of}
use Rattle.sj_trees.specs.declared.classes.ClassDef.{ClassDef}
use Rattle.sj_trees.specs.declared.classes.FieldDef.{FieldDef}
use Rattle.sj_trees.specs.declared.classes.MethodDef.{MethodDef}
use Rattle.sj_trees.specs.declared.types.IrType.{IrType}
use Rattle.sj_trees.specs.declared.types.IrType.TheVariants.{NoType, Array, Class}
use Rattle.sj_world.specs.Known.{is_hijacked, is_known}
use Rattle.sj_world.specs.Tables.{AreAncestors}
use Rattle.declared_files.specs.Placed.{Placed, placed, items_until, declare}

-- the classes, the program, the file of each binding at a top, what the code of each file can use; and the files that declare it: some that run in front of the last, and
-- the declarations of the last
pub record Spread : Type 0 where
  pub classes : World
  pub program : Program
  pub home : Top → Name
  pub has : Name → Usable
  pub front : List Name
  pub last : Name
  pub declared : List Item

abbrev pub all_items : Spread → List Placed
all_items z = items_until z.program z.front z.last z.declared

-- the name of the binding leads from this file to the file of the binding
abbrev pub Leads : Spread → Name → Top → Type 0
Leads z f t = owner z.program f (top_name t) ≡ Some (z.home t)

-- the code of the file of the one binding can use the other
abbrev pub Uses : Spread → Top → Top → Type 0
Uses z t u = is_usable (z.has (z.home t)) u ≡ true

-- the code of the file of the binding can make objects of the class
abbrev pub Makes : Spread → Top → Name → Type 0
Makes z t c = (z.has (z.home t)).made c ≡ true

-- the item stands in the file of the binding
abbrev pub Stands : Spread → Top → Item → Type 0
Stands z t i = Contains (all_items z) (placed (z.home t) i)

-- a member with a body that keeps the rules by what its file can use, which runs so, and its function
pub record FunctionDeclared (z : Spread) (t : Top) (r : Running) (m : MemberName) : Type 0 where
  pub right : RightMember z.classes z.classes (z.has (z.home t)) m
  pub runs : running right.definition.namespace ≡ r
  pub function : Stands z t (member_piece (z.has (z.home t)).lookup m (desugared_member right.definition right.its_body)).item

-- a member with this result is received: it runs on a receiver, or completes an object and has a value
pub data Receives (t : IrType) : Running → Type 0 where
  as_method : Receives t on_receiver
  as_constructor : is_no_type t ≡ false → Receives t completing

-- a member that is called on a receiver, with its function
pub record ReceivedDeclared (z : Spread) (m : MemberName) : Type 0 where
  pub how : Running
  pub member : FunctionDeclared z (a_method m) how m
  pub receives : Receives member.right.definition.result how

-- a class that the code of some file has, its constants, to which its file leads, and its class with the constructor of its own fields, which extends
-- this one, if there is one
pub record ClassDeclared (z : Spread) (c : Name) (superclass : Option Name) : Type 0 where
  pub user : Name
  pub there : (z.has user).live c ≡ true
  pub definition : ClassDef
  pub found : class_of z.classes c ≡ Some definition
  pub fields : List FieldDef
  pub own : (f : FieldDef) → Contains fields f → Contains definition.fields f × (f.is_static ≡ false)
  pub whole : (f : FieldDef) → Contains definition.fields f → f.is_static ≡ false → Contains fields f
  pub ancestors : List Name
  pub constants : Stands z (some_constants c) (constants_piece c ancestors).item
  pub leads : Leads z (z.home (a_class c)) (some_constants c)
  pub others : List Member
  pub class : Stands z (a_class c) (class_item_of c superclass (constructor_of [] (statements_of (constructor_body c superclass fields)) ∷ others))
  pub marked : class_marked (marker c) ≡ Some c
  pub no_char : is_same_text c (codes "java.lang.Character") ≡ false

-- the constants of a class, by whose marker it is told
pub record ConstantsDeclared (z : Spread) (c : Name) : Type 0 where
  pub ancestors : List Name
  pub constants : Stands z (some_constants c) (constants_piece c ancestors).item
  pub marked : class_marked (marker c) ≡ Some c

-- the file of the class of arrays can use that of all objects, which extends none, and can make objects of it where the code of some file can make arrays
pub record ArraysDeclared (z : Spread) : Type 0 where
  pub live : Uses z (a_helper ArrayClass) (a_class object_class)
  pub alone : chain_of z.classes object_class ≡ object_class ∷ []
  pub made : (f : Name) → (z.has f).arrays ≡ true → Makes z (a_helper ArrayClass) object_class

-- each class of a chain with the one that it extends, to which its file leads
pub data ChainDeclared (z : Spread) : List Name → Type 0 where
  extends_none : (c : Name) → ClassDeclared z c None → ChainDeclared z (c ∷ [])
  extends_one : (c d : Name) (ds : List Name) → ClassDeclared z c (Some d) → Leads z (z.home (a_class c)) (a_class d) → ChainDeclared z (d ∷ ds) → ChainDeclared z (c ∷ d ∷ ds)

pub record MadeDeclared (z : Spread) (c : Name) : Type 0 where
  pub above : List Name
  pub chain : chain_of z.classes c ≡ c ∷ above
  pub classes : ChainDeclared z (c ∷ above)

-- a static field of the class, its variable, which begins at the zero of its type, and in the same file the function that sets it
pub record StaticDeclared (z : Spread) (c f : Name) (t : IrType) : Type 0 where
  pub field : IsStaticField z.classes c f t
  pub variable : Stands z (a_static c f t) (variable_piece c field.field).item
  pub setter : Stands z (a_setter c f t) (setter_piece c field.field).item
  pub beside : z.home (a_static c f t) ≡ z.home (a_setter c f t)
  pub leads : Leads z (z.home (a_setter c f t)) (a_static c f t)

-- a class whose one object can be loaded or stored: its cell, which begins with null, and in the same file the function that stores it
pub record StoreDeclared (z : Spread) (c : Name) : Type 0 where
  pub class : IsClass z.classes c
  pub cell : Stands z (a_cell c) (cell_piece c).item
  pub storer : Stands z (a_storer c) (store_piece c).item
  pub beside : z.home (a_storer c) ≡ z.home (a_cell c)
  pub leads : Leads z (z.home (a_cell c)) (a_cell c)

-- in that file too the function that loads it, where the object can be made and its constructor can be used
pub record LoadDeclared (z : Spread) (c : Name) : Type 0 where
  pub loader : Stands z (a_loader c) (load_piece c).item
  pub beside : z.home (a_loader c) ≡ z.home (a_cell c)
  pub made : Makes z (a_loader c) c
  pub built : Uses z (a_loader c) (a_constructor (member c Constructor without_parameters))

-- a primitive type whose test the code of this file can use: it is the helper of its kind
pub record KindTestDeclared (z : Spread) (f : Name) (t : IrType) : Type 0 where
  pub kind : Kind
  pub its_kind : kind_of t ≡ Some kind
  pub helper : (z.has f).helper (helper_name (TestOf kind)) ≡ true
  pub home : z.home (a_test t) ≡ z.home (a_helper (TestOf kind))

-- a class with its test: that of one that isn't hijacked asks for the kinds whose values are instances of it, and for its marker; that of a hijacked one for its kind.
-- The file of the test can use the tests of these kinds
pub data ClassTestDeclared (z : Spread) : Name → Type 0 where
  by_marker : (c : Name) (kinds : List Kind) → is_hijacked c ≡ false → AreInstances z.classes c worded_kinds kinds → Stands z (a_test (Class c)) (test_piece c kinds None).item → ((k : Kind) → Contains kinds k → Uses z (a_test (Class c)) (a_helper (TestOf k))) → ClassTestDeclared z c
  by_kind : (k : Kind) (kinds : List Kind) → Stands z (a_test (Class (kind_class k))) (test_piece (kind_class k) kinds (Some k)).item → Uses z (a_test (Class (kind_class k))) (a_helper (TestOf k)) → ClassTestDeclared z (kind_class k)

-- a type of arrays: one helper tests for all of them
pub record ArrayTestDeclared (z : Spread) (f : Name) (r : ArrayRef) : Type 0 where
  pub helper : (z.has f).helper (helper_name TestOfArray) ≡ true
  pub home : z.home (a_test (Array r)) ≡ z.home (a_helper TestOfArray)

-- a type whose test the code of this file can use
pub data TestDeclared (z : Spread) (f : Name) : IrType → Type 0 where
  of_kind : (t : IrType) → KindTestDeclared z f t → TestDeclared z f t
  of_class : (c : Name) → ClassTestDeclared z c → TestDeclared z f (Class c)
  of_array : (r : ArrayRef) → ArrayTestDeclared z f r → TestDeclared z f (Array r)

-- a primitive type to which the code of this file can cast: the cast is the helper of its kind
pub record KindCastDeclared (z : Spread) (f : Name) (t : IrType) : Type 0 where
  pub kind : Kind
  pub its_kind : kind_of t ≡ Some kind
  pub helper : (z.has f).helper (helper_name (CastTo kind)) ≡ true
  pub home : z.home (a_cast t) ≡ z.home (a_helper (CastTo kind))

-- a class with its cast, whose file can use its test and what throws
pub record ClassCastDeclared (z : Spread) (c : Name) : Type 0 where
  pub cast : Stands z (a_cast (Class c)) (cast_piece c).item
  pub test : ClassTestDeclared z c
  pub tests : Uses z (a_cast (Class c)) (a_test (Class c))
  pub thrower : Uses z (a_cast (Class c)) (a_helper (Throws Cast))

-- a type of arrays: one helper casts to all of them, by the one that tests
pub record ArrayCastDeclared (z : Spread) (f : Name) (r : ArrayRef) : Type 0 where
  pub helper : (z.has f).helper (helper_name CastToArray) ≡ true
  pub home : z.home (a_cast (Array r)) ≡ z.home (a_helper CastToArray)
  pub tests : z.home (a_test (Array r)) ≡ z.home (a_helper TestOfArray)

-- a type to which the code of this file can cast
pub data CastDeclared (z : Spread) (f : Name) : IrType → Type 0 where
  to_kind : (t : IrType) → KindCastDeclared z f t → CastDeclared z f t
  to_class : (c : Name) → ClassCastDeclared z c → CastDeclared z f (Class c)
  to_array : (r : ArrayRef) → ArrayCastDeclared z f r → CastDeclared z f (Array r)

-- what a call of the method runs on a value of the class: its target, whose function the code of the file of the binding can use
pub record TargetDeclared (z : Spread) (t : Top) (c : Name) (m : MethodName) : Type 0 where
  pub owner : Name
  pub target : IsTargetOf z.classes (member c Public m) (member owner Public m)
  pub uses : Uses z t (a_method (member owner Public m))

-- the first of these classes that has an entry of the method hands it on to the function of the target for an object of this class
pub data EntryDeclared (z : Spread) (d : Name) (m : MethodName) : List Name → Type 0 where
  has_entry : (c : Name) (cs : List Name) (superclass : Option Name) (members : List Member) → Stands z (a_class c) (class_item_of c superclass members) → (its : TargetDeclared z (a_class c) d m) → method_among members (entry_name m) ≡ Some (bridge (member_name (member its.owner Public m)) (parameters_of m)) → EntryDeclared z d m (c ∷ cs)
  has_none : (c : Name) (cs : List Name) (superclass : Option Name) (members : List Member) → Stands z (a_class c) (class_item_of c superclass members) → method_among members (entry_name m) ≡ None → EntryDeclared z d m cs → EntryDeclared z d m (c ∷ cs)

-- a case of the function that tells primitive receivers apart: its file can use the test of the kind, and the function of the target for the class of the kind
pub record CaseDeclared (z : Spread) (m : MethodName) (t : Told) : Type 0 where
  pub told : is_told t.kind ≡ true
  pub test : Uses z (a_dispatch m) (a_helper (TestOf t.kind))
  pub its : TargetDeclared z (a_dispatch m) (kind_class t.kind) m
  pub owner_is : its.owner ≡ t.owner

-- the function, with a case for each kind whose class is at or below this one, of which there are some
pub record DispatchDeclared (z : Spread) (c : Name) (m : MethodName) : Type 0 where
  pub first : Told
  pub others : List Told
  pub function : Stands z (a_dispatch m) (dispatch_item m (first ∷ others))
  pub distinct : are_distinct (codes "x" ∷ parameters_of m) ≡ true
  pub runs : (t : Told) → Contains (first ∷ others) t → CaseDeclared z m t
  pub each : (k : Kind) → is_told k ≡ true → is_ancestor z.classes (kind_class k) c ≡ true → HasCase (first ∷ others) k

-- by whether a hijacked class stands at or below this one
pub data KindsDeclared (z : Spread) (c : Name) (m : MethodName) : Bool → Type 0 where
  no_kinds : ((h : Name) → is_hijacked h ≡ true → is_ancestor z.classes h c ≡ false) → KindsDeclared z c m false
  some_kinds : DispatchDeclared z c m → KindsDeclared z c m true

-- a method that can be looked up on the instances of the class: each object of which the code of some file makes finds it, and so does each primitive value
pub record LookupDeclared (z : Spread) (c : Name) (m : MethodName) (hijacked : Bool) : Type 0 where
  pub objects : (f d : Name) → (z.has f).made d ≡ true → is_ancestor z.classes d c ≡ true → EntryDeclared z d m (chain_of z.classes d)
  pub distinct : are_distinct (parameters_of m) ≡ true
  pub kinds : KindsDeclared z c m hijacked

-- a method that can be called on arrays: objects of the class of all objects, if the code of some file makes some, find it
pub record ArrayCallDeclared (z : Spread) (m : MethodName) : Type 0 where
  pub objects : (f : Name) → (z.has f).made object_class ≡ true → EntryDeclared z object_class m (chain_of z.classes object_class)
  pub distinct : are_distinct (parameters_of m) ≡ true

-- the function that tells the primitive receivers of a method apart, with these cases
pub record TellsApart (z : Spread) (m : MethodName) : Type 0 where
  pub cases : List Told
  pub function : Stands z (a_dispatch m) (dispatch_item m cases)

-- a case of the function by which receivers are called under a reflective name: its file can use the test of the kind, the function of the target of the method that the class of the kind has
-- under the name, and for a char the class of objects that hold them
pub record ReflectedDeclared (z : Spread) (m : MethodName) (t : Reflected) : Type 0 where
  pub told : is_told t.kind ≡ true
  pub test : Uses z (a_reflection m) (a_helper (TestOf t.kind))
  pub definition : MethodDef
  pub proxy : proxy_target z.classes (kind_class t.kind) m ≡ Some definition
  pub method_is : t.method ≡ definition.name
  pub params : t.method.params ≡ m.params
  pub its : TargetDeclared z (a_reflection m) (kind_class t.kind) t.method
  pub owner_is : its.owner ≡ t.owner
  pub boxes : is_char_result t.method.result ≡ true → Uses z (a_reflection m) (a_helper BoxedChar)

-- a kind whose class has no method of the name, or one that has a case
pub data ReflectedKind (z : Spread) (m : MethodName) (cases : List Reflected) (k : Kind) : Type 0 where
  no_case : proxy_target z.classes (kind_class k) m ≡ None → ReflectedKind z m cases k
  has_case : HasReflected cases k → ReflectedKind z m cases k

-- none of these classes has an entry of the name
pub data NoEntryDeclared (z : Spread) (m : MethodName) : List Name → Type 0 where
  none_left : NoEntryDeclared z m []
  none_here : (c : Name) (cs : List Name) (superclass : Option Name) (members : List Member) → Stands z (a_class c) (class_item_of c superclass members) → method_among members (entry_name m) ≡ None → NoEntryDeclared z m cs → NoEntryDeclared z m (c ∷ cs)

-- the first of these classes has an entry of the name, which hands on to the entry of this method; for a char its file can use the class of objects that hold them
pub data ProxyDeclared (z : Spread) (m t : MethodName) : List Name → Type 0 where
  proxy_here : (c : Name) (cs : List Name) (superclass : Option Name) (members : List Member) → Stands z (a_class c) (class_item_of c superclass members) → method_among members (entry_name m) ≡ Some (proxy_code t (parameters_of m)) → (is_char_result t.result ≡ true → Uses z (a_class c) (a_helper BoxedChar)) → ProxyDeclared z m t (c ∷ cs)

-- an object of the class has no method of the name, and no entry; or it has one, of the same parameters, to whose entry its entry of the name hands on
pub data AnswerDeclared (z : Spread) (d : Name) (m : MethodName) : Type 0 where
  no_answer : proxy_target z.classes d m ≡ None → NoEntryDeclared z m (chain_of z.classes d) → AnswerDeclared z d m
  has_answer : (t : MethodDef) → proxy_target z.classes d m ≡ Some t → t.name.params ≡ m.params → ProxyDeclared z m t.name (chain_of z.classes d) → EntryDeclared z d t.name (chain_of z.classes d) → AnswerDeclared z d m

-- objects that hold chars have no entries: the class of their name, if the file of helpers has one, has no method of the name of an entry
pub record BoxesDeclared (z : Spread) : Type 0 where
  pub bare : (m : MethodName) → method_in (members_of z.program (record { file = z.home (a_helper BoxedChar); name = helper_name BoxedChar })) (entry_name m) ≡ None

-- a reflective name by which receivers can be called: its function, with a case for each kind whose class has a method of the name; the entries of objects of which the code of some file makes;
-- and the helper that throws where there is none
pub record ReflectionDeclared (z : Spread) (m : MethodName) : Type 0 where
  pub cases : List Reflected
  pub function : Stands z (a_reflection m) (reflective_item m (units_of (spelled_method m)) cases)
  pub distinct : are_distinct (codes "x" ∷ parameters_of m) ≡ true
  pub runs : (t : Reflected) → Contains cases t → ReflectedDeclared z m t
  pub each : (k : Kind) → is_told k ≡ true → ReflectedKind z m cases k
  pub objects : (f d : Name) → (z.has f).made d ≡ true → AnswerDeclared z d m
  pub boxes : BoxesDeclared z
  pub thrower : Uses z (a_reflection m) (a_helper (Throws Method))

-- properties that are the constants of a known class, with the markers of the classes that stand above it
pub record AreConstants (w : World) (ps : List Property) : Type 0 where
  pub class : Name
  pub ancestors : List Name
  pub are : ps ≡ constants class ancestors
  pub known : is_known w class ≡ true
  pub above : AreAncestors w class ancestors

-- all that the code of some file can use is declared, and its file leads to what it names: each member as it runs, and each method that can be looked up or called on arrays, each reflective name by which receivers can be called, a constructor without a value; each class whose
-- code it has, among them each that is made; each field and each static field; each class whose one object can be loaded or stored; the constants of each base of arrays; tests and casts; and each helper, whose file can use those that it uses, and that of
-- a failure the exception of it, and the class of arrays. Each object that is declared is the constants of a class
pub record Declared (z : Spread) : Type 0 where
  pub leads : (f : Name) (t : Top) → is_named (z.has f) t ≡ true → Leads z f t
  pub linked : (f : Name) (m : MemberName) → (z.has f).linked m ≡ true → FunctionDeclared z (a_function m) alone m
  pub received : (f : Name) (m : MemberName) → (z.has f).received m ≡ true → ReceivedDeclared z m
  pub looked : (f c : Name) (m : MethodName) → can_look_up (z.has f) c m ≡ true → LookupDeclared z c m ((z.has f).lookup.has_hijacked c)
  pub dispatched : (f : Name) (m : MethodName) → (z.has f).dispatched m ≡ true → TellsApart z m
  pub on_arrays : (f : Name) (m : MethodName) → (z.has f).on_arrays m ≡ true → ArrayCallDeclared z m
  pub reflected : (f : Name) (m : MethodName) → (z.has f).reflected m ≡ true → ReflectionDeclared z m
  pub built : (f : Name) (m : MemberName) → (z.has f).built m ≡ true → (b : FunctionDeclared z (a_constructor m) completing m) × (b.right.definition.result ≡ NoType)
  pub live : (f c : Name) → (z.has f).live c ≡ true → MadeDeclared z c
  pub made : (f c : Name) → (z.has f).made c ≡ true → (z.has f).live c ≡ true
  pub bases : (f c : Name) → (z.has f).bases c ≡ true → ConstantsDeclared z c
  pub field : (f c g : Name) (t : IrType) → (z.has f).field c g t ≡ true → IsField z.classes c g t
  pub static_field : (f c g : Name) (t : IrType) → has_static (z.has f) c g t ≡ true → StaticDeclared z c g t
  pub stored : (f c : Name) → has_cell (z.has f) c ≡ true → StoreDeclared z c
  pub loaded : (f c : Name) → (z.has f).modules c ≡ true → LoadDeclared z c
  pub tests : (f : Name) (t : IrType) → (z.has f).tests t ≡ true → TestDeclared z f t
  pub casts : (f : Name) (t : IrType) → (z.has f).casts t ≡ true → CastDeclared z f t
  pub marked : (f x : Name) (ps : List Property) → Contains (all_items z) (placed f (object_item x ps)) → AreConstants z.classes ps
  pub kept : FieldsAreKept z.classes
  pub ancestors : Above
  pub helper : (f : Name) (h : Helper) → (z.has f).helper (helper_name h) ≡ true → Stands z (a_helper h) (helper_item ancestors h)
  pub helpers : (f : Name) (h k : Helper) → (z.has f).helper (helper_name h) ≡ true → Contains (used_helpers h) k → Uses z (a_helper h) (a_helper k)
  pub failures : (f : Name) (x : Failure) → (z.has f).helper (helper_name (Throws x)) ≡ true → Makes z (a_helper (Throws x)) (failure_class x) × Uses z (a_helper (Throws x)) (a_constructor (member (failure_class x) Constructor with_message))
  pub arrays : (f : Name) → (z.has f).helper (helper_name ArrayClass) ≡ true → ArraysDeclared z

-- what can be used is among what can be used of the classes at all, and a call runs the same
pub record IsAmong (has all : Usable) : Type 0 where
  pub tops : (t : Top) → is_usable has t ≡ true → is_usable all t ≡ true
  pub made : (c : Name) → has.made c ≡ true → all.made c ≡ true
  pub fields : (c f : Name) (t : IrType) → has.field c f t ≡ true → all.field c f t ≡ true
  pub targets : (m : MemberName) → all.lookup.target m ≡ has.lookup.target m

-- the public module of this id: its file runs behind these files, all of them good, and calls these initializers behind what it declares; and each class is declared
-- behind the one that it extends
pub record IsPublic (z : Spread) (id : List ℕ) (es : List EntryPoint) : Type 0 where
  pub last : z.last ≡ file_of id
  pub order : running_order z.program z.last ≡ z.front ++ z.last ∷ []
  pub good : list_all (is_good_file z.program) (running_order z.program z.last) ≡ true
  pub items : items_in (module_among z.program z.last) ≡ z.declared ++ map call_item_of es
  pub declares : declare z.program [] (all_items z) ≡ true
  pub linked : (e : EntryPoint) → Contains es e → (z.has z.last).linked (initializer_member e) ≡ true

-- what the code of the files can use is among this; of it the classes have what the laws on objects ask, and members that keep the rules by it
pub record IsLawful (z : Spread) (all : Usable) : Type 0 where
  pub among : (f : Name) → IsAmong (z.has f) all
  pub objects : ObjectLaws z.classes z.classes all
  pub linked : (m : MemberName) → all.linked m ≡ true → RightMember z.classes z.classes all m
