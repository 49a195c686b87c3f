-- What single steps put, on the way to the method entries.
use Rattle.std.specs.Prelude.{◌≡◌, ◌↔◌, ◌⊎◌, ℕ, ◌<◌, false, List, Some, Contains, slice_get}
use Rattle.std.specs.Ordering.{is_lt}
use Rattle.class_lists.specs.Lists.{items_at}
use Rattle.class_lists.specs.declared.lists.Lists.{Lists}
use Rattle.sj_names.specs.declared.method_names.Member.{Member}
use Rattle.sj_names.specs.declared.method_names.MethodName.{MethodName}
use Rattle.sj_trees.specs.declared.classes.MethodDef.{MethodDef}
use Rattle.sj_infos.specs.Forms.{forms_by}
use Rattle.sj_infos.specs.declared.forms.BodyForm.TheVariants.{Reflective}
use Rattle.sj_world.specs.Ancestors.{IsAncestor, IsNext}
use Rattle.sj_world.specs.Known.{Name, Classes}
use Rattle.sj_world.specs.Members.{IsMethodOf}
use Rattle.sj_world.specs.declared.facts.Fact.{Fact}
use Rattle.sj_world.specs.declared.facts.Fact.TheVariants.{Made, Body, Called}
use Rattle.sj_world.specs.declared.linked.MethodEntry.{MethodEntry}
use Rattle.proxy_targets.specs.Proxies.{IsTargetName}
use Rattle.sj_reach_spec.specs.Rules.{public_member}
use Rattle.sj_baselink_spec.specs.Entries.{IsTarget, IsWanted, IsInherited, IsDirect, IsReflective, IsProxy, entry_cmp}

-- what held holds still, and besides just what has the property
pub record Adds {S X : Type 0} (Holds : S → X → Type 0) (Is : X → Type 0) (old new : S) : Type 0 where
  pub exact : (x : X) → Holds new x ↔ (Holds old x ⊎ Is x)

-- what stood in a list stands there still, and besides just what has the property
abbrev pub Puts : {X : Type 0} → (X → Type 0) → List X → List X → Type 0
Puts Is old new = Adds Contains Is old new

-- it holds with one of these things
pub record OfOne {X Y : Type 0} (xs : List X) (Of : X → Y → Type 0) (y : Y) : Type 0 where
  pub thing : X
  pub among : Contains xs thing
  pub holds : Of thing y

-- a method stands under a name
abbrev pub IsListed : Lists MethodName → (Name × MethodName) → Type 0
IsListed lists p = Contains (items_at lists p.0) p.1

-- the method that the fact calls stands under the class besides what stood there
abbrev pub PutsCalled : Fact → Lists MethodName → Lists MethodName → Type 0
PutsCalled f old new = Adds IsListed (λ p. f ≡ Called p.0 p.1) old new

-- under each class stand the methods that are called on it
pub record AreCalled (facts : List Fact) (called : Lists MethodName) : Type 0 where
  pub exact : (c : Name) (m : MethodName) → Contains (items_at called c) m ↔ Contains facts (Called c m)

-- exactly the classes that are made
pub record AreMade (facts : List Fact) (made : List Name) : Type 0 where
  pub exact : (c : Name) → Contains made c ↔ Contains facts (Made c)

-- exactly the reflective names by which bodies call that are needed
pub record AreReflective (w : Classes) (facts : List Fact) (names : List MethodName) : Type 0 where
  pub exact : (p : MethodName) → Contains names p ↔ IsReflective w facts p

-- the body of the member calls by this reflective name
pub record IsReflectiveIn (w : Classes) (k : Member) (p : MethodName) : Type 0 where
  pub definition : MethodDef
  pub defined : IsMethodOf w k definition
  pub calls : Contains (forms_by definition) (Reflective p)

-- the body that the fact needs calls by this reflective name
pub record IsReflectiveBy (w : Classes) (f : Fact) (p : MethodName) : Type 0 where
  pub member : Member
  pub needed : f ≡ Body member
  pub reflective : IsReflectiveIn w member p

-- m stands under a class of which this one is a subtype
pub record IsWantedFrom (w : Classes) (called : Lists MethodName) (c : Name) (m : MethodName) : Type 0 where
  pub receiver : Name
  pub among : Contains (items_at called receiver) m
  pub below : IsAncestor w c receiver

-- the same of the superclass
pub record IsWantedAboveFrom (w : Classes) (called : Lists MethodName) (c : Name) (m : MethodName) : Type 0 where
  pub superclass : Name
  pub is_next : IsNext w c superclass
  pub wanted : IsWantedFrom w called superclass m

-- m is wanted at the superclass
pub record IsWantedAbove (w : Classes) (facts : List Fact) (c : Name) (m : MethodName) : Type 0 where
  pub superclass : Name
  pub is_next : IsNext w c superclass
  pub wanted : IsWanted w facts superclass m

-- a call of m on an instance of the superclass runs the body of this owner
pub record IsTargetAbove (w : Classes) (c : Name) (m : MethodName) (owner : Name) : Type 0 where
  pub superclass : Name
  pub is_next : IsNext w c superclass
  pub is_target : IsTarget w superclass m owner

abbrev pub entry_for : Name → MethodName → Member → MethodEntry
entry_for c m k = record { class = c; name = m; target = k }

-- the entry of C for m and this owner, whose body is needed
pub record IsReachedEntry (facts : List Fact) (c : Name) (m : MethodName) (owner : Name) (e : MethodEntry) : Type 0 where
  pub entry_is : entry_for c m (public_member owner m) ≡ e
  pub reached : Contains facts (Body (public_member owner m))

-- the same where the superclass has none
pub record IsOwn (w : Classes) (facts : List Fact) (c : Name) (m : MethodName) (owner : Name) (e : MethodEntry) : Type 0 where
  pub reached_entry : IsReachedEntry facts c m owner e
  pub not_inherited : IsInherited w facts c m owner → ⊥

-- the same for the owner of the target
pub record IsOwnEntry (w : Classes) (facts : List Fact) (c : Name) (m : MethodName) (e : MethodEntry) : Type 0 where
  pub owner : Name
  pub is_target : IsTarget w c m owner
  pub own : IsOwn w facts c m owner e

-- the same for a method that is wanted at C
pub record IsDirectOf (w : Classes) (facts : List Fact) (c : Name) (e : MethodEntry) : Type 0 where
  pub name : MethodName
  pub wanted : IsWanted w facts c name
  pub own_entry : IsOwnEntry w facts c name e

-- an entry for a method that is called
pub record IsDirectEntry (w : Classes) (facts : List Fact) (e : MethodEntry) : Type 0 where
  pub class : Name
  pub owner : Name
  pub name : MethodName
  pub is_direct : IsDirect w facts class name owner
  pub entry_is : entry_for class name (public_member owner name) ≡ e

-- an entry of C for the reflective name
pub record IsProxyOf (w : Classes) (c : Name) (p : MethodName) (e : MethodEntry) : Type 0 where
  pub name : MethodName
  pub is_target : IsTargetName w c p name
  pub entry_is : entry_for c p (public_member c name) ≡ e

-- an entry for a reflective name
pub record IsProxyEntry (w : Classes) (facts : List Fact) (e : MethodEntry) : Type 0 where
  pub class : Name
  pub reflective_name : MethodName
  pub name : MethodName
  pub is_proxy : IsProxy w facts class reflective_name name
  pub entry_is : entry_for class reflective_name (public_member class name) ≡ e

-- the same entries, each once, in order
pub record AreOnceInOrder (given entries : List MethodEntry) : Type 0 where
  pub same : (e : MethodEntry) → Contains entries e ↔ Contains given e
  pub once : (i j : ℕ) (e : MethodEntry) → slice_get entries i ≡ Some e → slice_get entries j ≡ Some e → i ≡ j
  pub in_order : (i j : ℕ) (a b : MethodEntry) → i < j → slice_get entries i ≡ Some a → slice_get entries j ≡ Some b → is_lt (entry_cmp b a) ≡ false
