-- Which method a call of a public method name runs on an instance of a class.
use Rattle.std.specs.Prelude.{◌≡◌, ℕ, ◌<◌, List, false, Some, Contains, IsSome, slice_get}
use Rattle.sj_names.specs.declared.method_names.MethodName.{MethodName}
use Rattle.sj_names.specs.declared.method_names.Namespace.TheVariants.{Public}
use Rattle.sj_trees.specs.declared.classes.ClassDef.{ClassDef}
use Rattle.sj_trees.specs.declared.classes.MethodDef.{MethodDef}
use Rattle.sj_trees.specs.declared.classes.ClassKind.TheVariants.{Interface}
use Rattle.sj_world.specs.declared.resolving.Resolution.{Resolution}
use Rattle.sj_world.specs.declared.resolving.Resolution.TheVariants.{Target, Abstract, Missing}
use Rattle.sj_world.specs.Known.{Name, Classes, class_of}
use Rattle.sj_world.specs.Paths.{IsFirst}
use Rattle.sj_world.specs.Ancestors.{IsAncestor, IsNext, IsOnChain}
use Rattle.sj_world.specs.Refusals.{is_before}

-- a public method of this name
pub record IsPublic (m : MethodName) (d : MethodDef) : Type 0 where
  pub namespace_is : d.namespace ≡ Public
  pub name_is : d.name ≡ m

-- a public method of this name with a body
pub record IsBody (m : MethodName) (d : MethodDef) : Type 0 where
  pub is_public : IsPublic m d
  pub has_body : IsSome d.body

-- the class of this name has d as its body for m
pub record IsBodyAt (w : Classes) (m : MethodName) (name : Name) (d : MethodDef) : Type 0 where
  pub class : ClassDef
  pub is_class : class_of w name ≡ Some class
  pub first : IsFirst (IsBody m) class.methods d

pub record HasNoBody (w : Classes) (m : MethodName) (name : Name) : Type 0 where
  pub none : (d : MethodDef) → IsBodyAt w m name d → ⊥

-- D stands on the chain of C, and each class before it lacks what is looked for
pub data Passes (w : Classes) (Lacks : Name → Type 0) (c : Name) : Name → Type 0 where
  begin : Passes w Lacks c c
  up : (b d : Name) → Passes w Lacks c b → Lacks b → IsNext w b d → Passes w Lacks c d

-- the first class on the chain of C with a body for m
pub record IsNearest (w : Classes) (c : Name) (m : MethodName) (d : MethodDef) (owner : Name) : Type 0 where
  pub passes : Passes w (HasNoBody w m) c owner
  pub body : IsBodyAt w m owner d

-- no class on the chain of C has a body for m
pub record HasNoneOnChain (w : Classes) (c : Name) (m : MethodName) : Type 0 where
  pub none : (d : Name) → IsOnChain w c d → HasNoBody w m d

-- the interface of this name has d as its body for m
pub record IsDefault (w : Classes) (m : MethodName) (name : Name) (d : MethodDef) : Type 0 where
  pub class : ClassDef
  pub is_class : class_of w name ≡ Some class
  pub is_interface : class.kind ≡ Interface
  pub first : IsFirst (IsBody m) class.methods d

-- another interface with a body for m, and a descendant of this one
pub record IsOverride (w : Classes) (m : MethodName) (name other : Name) : Type 0 where
  pub apart : other ≡ name → ⊥
  pub below : IsAncestor w other name
  pub method : MethodDef
  pub is_default : IsDefault w m other method

-- the interface of this name has no body for m
pub record IsNoDefault (w : Classes) (m : MethodName) (name : Name) : Type 0 where
  pub none : (d : MethodDef) → IsDefault w m name d → ⊥

-- one of those above overrides it
pub record IsOverridden (w : Classes) (Above : Name → Type 0) (m : MethodName) (name : Name) : Type 0 where
  pub other : Name
  pub above : Above other
  pub override : IsOverride w m name other

-- an interface above with a body for m that none of those above overrides
pub record IsCandidate (w : Classes) (Above : Name → Type 0) (m : MethodName) (name : Name) (d : MethodDef) : Type 0 where
  pub above : Above name
  pub default : IsDefault w m name d
  pub not_overridden : IsOverridden w Above m name → ⊥

pub record IsNoCandidate (w : Classes) (Above : Name → Type 0) (m : MethodName) (name : Name) : Type 0 where
  pub none : (d : MethodDef) → IsCandidate w Above m name d → ⊥

-- of the candidates, the one least in the order of bytes
pub record IsLeastCandidate (w : Classes) (Above : Name → Type 0) (m : MethodName) (d : MethodDef) (name : Name) : Type 0 where
  pub candidate : IsCandidate w Above m name d
  pub least : (other : Name) (e : MethodDef) → IsCandidate w Above m other e → is_before other name ≡ false

pub record HasNoCandidate (w : Classes) (Above : Name → Type 0) (m : MethodName) : Type 0 where
  pub none : (name : Name) (d : MethodDef) → IsCandidate w Above m name d → ⊥

-- one of the methods is public and of this name, with a body or without
pub record HasPublic (m : MethodName) (methods : List MethodDef) : Type 0 where
  pub method : MethodDef
  pub among : Contains methods method
  pub is_public : IsPublic m method

-- the class of this name declares m
pub record IsDeclaredAt (w : Classes) (m : MethodName) (name : Name) : Type 0 where
  pub class : ClassDef
  pub is_class : class_of w name ≡ Some class
  pub declared : HasPublic m class.methods

-- a class above declares m
pub record IsDeclared (w : Classes) (Above : Name → Type 0) (m : MethodName) : Type 0 where
  pub owner : Name
  pub above : Above owner
  pub declared : IsDeclaredAt w m owner

-- what a call runs
pub data Answer : Type 0 where
  target : MethodDef → Name → Answer
  abstract : Answer
  missing : Answer

-- where the chain has no body: the least candidate; none where nothing above declares m; else abstract
pub data ResolvesAbove (w : Classes) (Above : Name → Type 0) (m : MethodName) : Answer → Type 0 where
  by_default : (d : MethodDef) (owner : Name) → IsLeastCandidate w Above m d owner → ResolvesAbove w Above m (target d owner)
  undeclared : HasNoCandidate w Above m → (IsDeclared w Above m → ⊥) → ResolvesAbove w Above m missing
  declared : HasNoCandidate w Above m → IsDeclared w Above m → ResolvesAbove w Above m abstract

-- the nearest body on the chain of C, else what its ancestors give
pub data Resolves (w : Classes) (c : Name) (m : MethodName) : Answer → Type 0 where
  by_chain : (d : MethodDef) (owner : Name) → IsNearest w c m d owner → Resolves w c m (target d owner)
  by_ancestors : (r : Answer) → HasNoneOnChain w c m → ResolvesAbove w (IsAncestor w c) m r → Resolves w c m r

-- what a resolution says
abbrev pub answer : Resolution → Answer
answer (Target d owner) = target d.now owner.now
answer Abstract = abstract
answer Missing = missing

-- the first of names whose class has a body for m, and that body
pub record IsFirstBody (w : Classes) (m : MethodName) (names : List Name) (d : MethodDef) (owner : Name) : Type 0 where
  pub place : ℕ
  pub stands : slice_get names place ≡ Some owner
  pub body : IsBodyAt w m owner d
  pub none_before : (i : ℕ) (n : Name) → i < place → slice_get names i ≡ Some n → HasNoBody w m n

-- none of the classes of these names has a body for m
pub record HaveNoBody (w : Classes) (m : MethodName) (names : List Name) : Type 0 where
  pub none : (i : ℕ) (n : Name) → slice_get names i ≡ Some n → HasNoBody w m n
