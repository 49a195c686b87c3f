-- Which methods of a class reflective calls reach.
use Rattle.std.specs.Prelude.{◌≡◌, ◌↔◌, ◌⊎◌, true, List, Contains}
use Rattle.sj_names.specs.declared.method_names.MethodName.{MethodName}
use Rattle.sj_names.specs.MethodNames.{spelled_method}
use Rattle.sj_trees.specs.declared.classes.MethodDef.{MethodDef}
use Rattle.sj_world.specs.Calls.{IsNamedBy, IsBelowAll, IsProxyTarget}
use Rattle.sj_world.specs.Known.{Name, Classes}
use Rattle.sj_world.specs.Refusals.{is_before}

-- a reflective call of p on an instance of C runs a method of this name
pub record IsTargetName (w : Classes) (c : Name) (p m : MethodName) : Type 0 where
  pub definition : MethodDef
  pub owner : Name
  pub is_target : IsProxyTarget w c p definition owner
  pub name_is : definition.name ≡ m

-- the name of a method with a property
pub record IsNameOf (Has : MethodDef → Type 0) (m : MethodName) : Type 0 where
  pub definition : MethodDef
  pub has : Has definition
  pub name_is : definition.name ≡ m

-- exactly the names of the methods with a property
pub record AreNamesOf (Has : MethodDef → Type 0) (names : List MethodName) : Type 0 where
  pub exact : (m : MethodName) → Contains names m ↔ IsNameOf Has m

-- the name of a method is put where it has a property
pub record PutsName (Has : MethodDef → Type 0) (d : MethodDef) (old new : List MethodName) : Type 0 where
  pub exact : (m : MethodName) → Contains new m ↔ (Contains old m ⊎ (Has d × (d.name ≡ m)))

-- the reflective name names it, and its result is a subtype of the results of all
pub record IsNarrow (w : Classes) (p : MethodName) (methods : List MethodDef) (d : MethodDef) : Type 0 where
  pub named : IsNamedBy p d
  pub narrow : IsBelowAll w p methods d.result

-- the name comes before that of d
pub record IsNamedBefore (p : MethodName) (d other : MethodDef) : Type 0 where
  pub named : IsNamedBy p other
  pub before : is_before (spelled_method other.name) (spelled_method d.name) ≡ true

pub record HasNoneBefore (p : MethodName) (methods : List MethodDef) (d : MethodDef) : Type 0 where
  pub none : (other : MethodDef) → Contains methods other → IsNamedBefore p d other → ⊥

-- the reflective name names it, and nothing that it names comes before
pub record IsLeastOf (p : MethodName) (methods : List MethodDef) (d : MethodDef) : Type 0 where
  pub named : IsNamedBy p d
  pub least : HasNoneBefore p methods d
