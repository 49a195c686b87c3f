-- What facts ask for that a folder doesn't have, or has in another form.
use Rattle.std.specs.Prelude.{◌≡◌, ℕ, Bool, true, List, ◌++◌, Some, None, Contains, codes}
use Rattle.sj_names.specs.declared.entry_points.EntryPoint.{EntryPoint}
use Rattle.sj_names.specs.declared.method_names.Member.{Member}
use Rattle.sj_names.specs.declared.method_names.MethodName.{MethodName}
use Rattle.sj_names.specs.declared.method_names.Namespace.{Namespace}
use Rattle.sj_names.specs.declared.method_names.Namespace.TheVariants.{Public, PublicStatic, Private, PrivateStatic, Constructor}
use Rattle.sj_names.specs.MethodNames.{spelled_method}
use Rattle.sj_trees.specs.declared.classes.ClassDef.{ClassDef}
use Rattle.sj_trees.specs.declared.classes.ClassKind.{ClassKind}
use Rattle.sj_trees.specs.declared.classes.ClassKind.TheVariants.{Class, ModuleClass, Interface}
use Rattle.sj_trees.specs.declared.classes.MethodDef.{MethodDef}
use Rattle.sj_ask.specs.Members.{IsField, IsMethod, IsMethodOf}
use Rattle.sj_infos.specs.declared.infos.Info.TheVariants as info
use Rattle.sj_ask.specs.Calls.{IsProxyTarget}
use Rattle.sj_ask.specs.Known.{Name, Classes, class_of, is_hijacked}
use Rattle.sj_ask.specs.Paths.{HasNone}
use Rattle.sj_ask.specs.Resolution.{Resolves, abstract, missing}
use Rattle.sj_ask.specs.Fact.{Fact}
use Rattle.sj_ask.specs.FactVariants as fact
use Rattle.sj_reach_spec.specs.Rules.{Reads, IsAsked, IsCalledOn, public_member}

-- why a folder is refused: 12 to 16, with the place
pub data Refusal : Type 0 where
  missing_class : Name → Refusal
  missing_method : Member → Refusal
  missing_field : Name → Name → Refusal
  wrong_kind : Name → Refusal
  abstract_target : Member → Refusal

abbrev pub code : Refusal → ℕ
code (missing_class c) = 12
code (missing_method k) = 13
code (missing_field c f) = 14
code (wrong_kind c) = 15
code (abstract_target k) = 16

abbrev pub namespace_word : Namespace → List ℕ
namespace_word Public = codes "f"
namespace_word PublicStatic = codes "s"
namespace_word Private = codes "p"
namespace_word PrivateStatic = codes "ps"
namespace_word Constructor = codes "ct"

-- a member as reports spell it, as `Main::s:main;V`
abbrev pub spelled_member : Member → List ℕ
spelled_member k = k.class ++ codes "::" ++ namespace_word k.namespace ++ codes ":" ++ spelled_method k.method

-- the place as it is reported: a class, a member, or a field as `Main::x:f`
abbrev pub place : Refusal → List ℕ
place (missing_class c) = c
place (missing_method k) = spelled_member k
place (missing_field c f) = c ++ codes "::x:" ++ f
place (wrong_kind c) = c
place (abstract_target k) = spelled_member k

-- the class of this name is there, with another kind
pub record IsOtherKind (w : Classes) (kind : ClassKind) (c : Name) : Type 0 where
  pub class : ClassDef
  pub is_class : class_of w c ≡ Some class
  pub other : class.kind ≡ kind → ⊥

-- the class of a member is there and doesn't define it
pub record IsUndefined (w : Classes) (k : Member) : Type 0 where
  pub class : ClassDef
  pub is_class : class_of w k.class ≡ Some class
  pub none : HasNone (IsMethod k) class.methods

-- the class of a member defines it without a body
pub record IsAbstract (w : Classes) (k : Member) : Type 0 where
  pub definition : MethodDef
  pub defined : IsMethodOf w k definition
  pub has_none : definition.body ≡ None

-- the class is there and has no such field
pub record LacksField (w : Classes) (c f : Name) (s : Bool) : Type 0 where
  pub class : ClassDef
  pub is_class : class_of w c ≡ Some class
  pub none : HasNone (IsField f s) class.fields

-- the class of this name is there
pub record IsPresent (w : Classes) (c : Name) : Type 0 where
  pub class : ClassDef
  pub is_class : class_of w c ≡ Some class

module _ (w : Classes) (entries : List EntryPoint) (Holds : Fact → Type 0) where
  -- a class whose superclass and interfaces are needed
  pub data HasNeededParents (c : Name) : Type 0 where
    needed : Holds (fact.Needed c) → HasNeededParents c
    hijacked : is_hijacked c ≡ true → HasNeededParents c

  -- a member of a class that isn't there is told by the class alone
  pub data Asks : Refusal → Type 0 where
    no_class : (c : Name) → Holds (fact.Needed c) → class_of w c ≡ None → Asks (missing_class c)
    no_member : (k : Member) → IsAsked w entries Holds k → IsUndefined w k → Asks (missing_method k)
    no_body : (k : Member) → IsAsked w entries Holds k → IsAbstract w k → Asks (abstract_target k)
    no_field : (c f : Name) (s : Bool) → Reads w entries Holds (info.Field c f s) → LacksField w c f s → Asks (missing_field c f)
    no_class_above : (c d : Name) (class : ClassDef) → HasNeededParents c → class_of w c ≡ Some class → class.superclass ≡ Some d → IsOtherKind w Class d → Asks (wrong_kind d)
    no_interface_above : (c d : Name) (class : ClassDef) → HasNeededParents c → class_of w c ≡ Some class → Contains class.interfaces d → IsOtherKind w Interface d → Asks (wrong_kind d)
    no_class_made : (c : Name) (m : MethodName) → Reads w entries Holds (info.New c m) → IsOtherKind w Class c → Asks (wrong_kind c)
    no_module : (c : Name) → Reads w entries Holds (info.Load c) → IsOtherKind w ModuleClass c → Asks (wrong_kind c)
    no_exception : (c : Name) → Reads w entries Holds (info.Throws c) → IsOtherKind w Class c → Asks (wrong_kind c)
    -- what a public name resolves to from a class on
    no_target : (c : Name) (m : MethodName) → Reads w entries Holds (info.Resolved c m) → IsPresent w c → Resolves w c m missing → Asks (missing_method (public_member c m))
    no_target_body : (c : Name) (m : MethodName) → Reads w entries Holds (info.Resolved c m) → IsPresent w c → Resolves w c m abstract → Asks (abstract_target (public_member c m))
    -- a call on a receiver
    no_method : (c : Name) (m : MethodName) → Reads w entries Holds (info.Called c m) → IsPresent w c → Resolves w c m missing → Asks (missing_method (public_member c m))
    no_hijacked_body : (c : Name) (m : MethodName) → Reads w entries Holds (info.Called c m) → IsPresent w c → is_hijacked c ≡ true → Resolves w c m abstract → Asks (abstract_target (public_member c m))
    -- a class on whose instances it is called has no body for it
    no_dispatched_body : (c : Name) (m : MethodName) → IsCalledOn w entries Holds m c → Resolves w c m abstract → Asks (abstract_target (public_member c m))
    no_dispatched_method : (c : Name) (m : MethodName) → IsCalledOn w entries Holds m c → Resolves w c m missing → Asks (abstract_target (public_member c m))
    -- a hijacked class has the target of a reflective call without a body
    no_reflective_body : (c : Name) (p : MethodName) (d : MethodDef) (owner : Name) → Reads w entries Holds (info.Reflective p) → is_hijacked c ≡ true → IsProxyTarget w c p d owner → Resolves w c d.name abstract → Asks (abstract_target (public_member c d.name))
