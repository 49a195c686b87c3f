-- Which facts follow from others: what is needed, made, used and called.
use Rattle.std.specs.Prelude.{◌≡◌, Bool, true, false, List, [], ◌∷◌, Some, Contains, codes}
use Rattle.sj_names.specs.WellKnown.{init}
use Rattle.sj_names.specs.declared.entry_points.EntryPoint.{EntryPoint}
use Rattle.sj_names.specs.declared.method_names.Member.{Member}
use Rattle.sj_names.specs.declared.method_names.MethodName.{MethodName}
use Rattle.sj_names.specs.declared.method_names.Namespace.TheVariants.{Public, PublicStatic, Constructor}
use Rattle.sj_names.specs.declared.references.TypeRef.TheVariants as reference
use Rattle.sj_trees.specs.declared.classes.MethodDef.{MethodDef}
use Rattle.sj_ask.specs.Members.{IsMethodOf}
use Rattle.sj_infos.specs.Infos.{asked_by}
use Rattle.sj_infos.specs.declared.infos.Info.{Info}
use Rattle.sj_infos.specs.declared.infos.Info.TheVariants as info
use Rattle.sj_ask.specs.Ancestors.{IsAncestor, IsWritten}
use Rattle.sj_ask.specs.Calls.{IsProxyTarget}
use Rattle.sj_ask.specs.Known.{Name, Classes, is_hijacked, object}
use Rattle.sj_ask.specs.Resolution.{Resolves, target}
use Rattle.sj_ask.specs.Fact.{Fact}
use Rattle.sj_ask.specs.FactVariants as fact

-- the static method without parameters and result that an entry point names
abbrev pub entry_member : EntryPoint → Member
entry_member e = record { class = e.class; namespace = PublicStatic; method = record { simple = e.method; params = []; result = Some reference.Void } }

-- the constructor without parameters, of module classes
abbrev pub plain_constructor : Name → Member
plain_constructor c = record { class = c; namespace = Constructor; method = record { simple = init; params = []; result = Some reference.Void } }

-- the constructor of an exception, which takes its message
abbrev pub message_constructor : Name → Member
message_constructor c = record { class = c; namespace = Constructor; method = record { simple = init; params = reference.Class (codes "java.lang.String") ∷ []; result = Some reference.Void } }

abbrev pub public_member : Name → MethodName → Member
public_member c m = record { class = c; namespace = Public; method = m }

abbrev pub constructor_member : Name → MethodName → Member
constructor_member c m = record { class = c; namespace = Constructor; method = m }

module _ (w : Classes) (entries : List EntryPoint) (Holds : Fact → Type 0) where
  -- a body that is needed asks for this
  pub record Reads (i : Info) : Type 0 where
    pub member : Member
    pub needed : Holds (fact.Body member)
    pub definition : MethodDef
    pub defined : IsMethodOf w member definition
    pub asked : Contains (asked_by definition) i

  -- the members that are asked for as they stand in their class, and not by what a call resolves to
  pub data IsAsked : Member → Type 0 where
    of_entry : (e : EntryPoint) → Contains entries e → IsAsked (entry_member e)
    of_new : (c : Name) (m : MethodName) → Reads (info.New c m) → IsAsked (constructor_member c m)
    of_load : (c : Name) → Reads (info.Load c) → IsAsked (plain_constructor c)
    of_call : (k : Member) → Reads (info.Static k) → IsAsked k
    of_throw : (c : Name) → Reads (info.Throws c) → IsAsked (message_constructor c)

  -- m is called on instances of this class: of a class that is made, or of a hijacked one, below a class on which it is called
  pub data IsCalledOn (m : MethodName) : Name → Type 0 where
    on_made : (c d : Name) → Holds (fact.Called d m) → Holds (fact.Made c) → IsAncestor w c d → IsCalledOn m c
    on_hijacked : (c d : Name) → Holds (fact.Called d m) → is_hijacked c ≡ true → IsAncestor w c d → IsCalledOn m c

  pub data Rule : Fact → Type 0 where
    -- `java.lang.Object`, and what the entry points name
    the_object : Rule (fact.Needed object)
    entry_class : (e : EntryPoint) → Contains entries e → Rule (fact.Needed e.class)
    -- what is written above a needed class, and above a hijacked one
    above : (c d : Name) → Holds (fact.Needed c) → IsWritten w c d → Rule (fact.Needed d)
    above_hijacked : (c d : Name) → is_hijacked c ≡ true → IsWritten w c d → Rule (fact.Needed d)
    -- each member that is asked for is a body
    asked_body : (k : Member) → IsAsked k → Rule (fact.Body k)
    -- objects and modules
    new_needed : (c : Name) (m : MethodName) → Reads (info.New c m) → Rule (fact.Needed c)
    new_made : (c : Name) (m : MethodName) → Reads (info.New c m) → Rule (fact.Made c)
    load_needed : (c : Name) → Reads (info.Load c) → Rule (fact.Needed c)
    load_made : (c : Name) → Reads (info.Load c) → Rule (fact.Made c)
    load_used : (c : Name) → Reads (info.Load c) → Rule (fact.CellUsed c)
    -- fields
    field_class : (c f : Name) (s : Bool) → Reads (info.Field c f s) → Rule (fact.Needed c)
    field_needed : (c f : Name) (s : Bool) → Reads (info.Field c f s) → Rule (fact.NeededField c f s)
    -- calls of members, and of what a public name resolves to from a class on
    static_class : (k : Member) → Reads (info.Static k) → Rule (fact.Needed k.class)
    resolved_class : (c : Name) (m : MethodName) → Reads (info.Resolved c m) → Rule (fact.Needed c)
    resolved_body : (c : Name) (m : MethodName) (d : MethodDef) (owner : Name) → Reads (info.Resolved c m) → Resolves w c m (target d owner) → Rule (fact.Body (public_member owner m))
    -- calls on receivers: a hijacked class is known, in any other the call is of whatever is made below
    call_class : (c : Name) (m : MethodName) → Reads (info.Called c m) → Rule (fact.Needed c)
    call_hijacked : (c : Name) (m : MethodName) (d : MethodDef) (owner : Name) → Reads (info.Called c m) → is_hijacked c ≡ true → Resolves w c m (target d owner) → Rule (fact.Body (public_member owner m))
    call : (c : Name) (m : MethodName) → Reads (info.Called c m) → is_hijacked c ≡ false → Rule (fact.Called c m)
    dispatched : (c : Name) (m : MethodName) (d : MethodDef) (owner : Name) → IsCalledOn m c → Resolves w c m (target d owner) → Rule (fact.Body (public_member owner m))
    -- reflective calls
    reflective : (c : Name) (p : MethodName) (d : MethodDef) (owner : Name) → Reads (info.Reflective p) → Holds (fact.Made c) → IsProxyTarget w c p d owner → Rule (fact.Called c d.name)
    reflective_hijacked : (c : Name) (p : MethodName) (d e : MethodDef) (owner there : Name) → Reads (info.Reflective p) → is_hijacked c ≡ true → IsProxyTarget w c p d owner → Resolves w c d.name (target e there) → Rule (fact.Body (public_member there d.name))
    -- arrays, tests and casts
    array_made : Reads info.ArrayForm → Rule (fact.Made object)
    class_named : (c : Name) → Reads (info.Class c) → Rule (fact.Needed c)
    -- exceptions of the profile
    throw_needed : (c : Name) → Reads (info.Throws c) → Rule (fact.Needed c)
    throw_made : (c : Name) → Reads (info.Throws c) → Rule (fact.Made c)
