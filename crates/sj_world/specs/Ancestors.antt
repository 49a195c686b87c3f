-- What stands above a class: its parents, its ancestors, the chain of its superclasses.
use Rattle.std.specs.Prelude.{◌≡◌, true, List, [], ◌∷◌, ◌++◌, Option, Some, None, Contains, if◌then◌else◌}
use Rattle.std.specs.List.{filter}
use Rattle.sj_trees.specs.declared.classes.ClassDef.{ClassDef}
use Rattle.sj_world.specs.Paths.{Path}
use Rattle.sj_world.specs.Known.{Name, Classes, class_of, is_known, is_hijacked, stands_as, object}

abbrev pub listed : Option Name → List Name
listed None = []
listed (Some name) = name ∷ []

-- the superclass and the interfaces that a class writes
abbrev pub written : ClassDef → List Name
written c = listed c.superclass ++ c.interfaces

abbrev pub written_in : Option ClassDef → List Name
written_in None = []
written_in (Some c) = written c

-- what the folder writes directly above the class of this name
abbrev pub written_above : Classes → Name → List Name
written_above w name = written_in (class_of w name)

abbrev pub IsWritten : Classes → Name → Name → Type 0
IsWritten w below above = Contains (written_above w below) above

-- the superclass of what an absent class is taken as: of the eight it is `java.lang.Object`
abbrev pub superclass_of_absent : Name → Option Name
superclass_of_absent name = if is_hijacked name then Some object else None

-- what stands directly above a class: what it writes, and where it is absent what it is taken to write
abbrev pub above_in : Option ClassDef → Name → List Name
above_in None name = listed (superclass_of_absent name)
above_in (Some c) name = written c

abbrev pub directly_above : Classes → Name → List Name
directly_above w name = above_in (class_of w name) name

-- what stands one step above a class, of that what is known
abbrev pub parents : Classes → Name → List Name
parents w name = filter (is_known w) (directly_above w (stands_as name))

abbrev pub IsParent : Classes → Name → Name → Type 0
IsParent w below above = Contains (parents w below) above

-- how one class stands above another: a path of parents leads to it, or it is `java.lang.Object`
pub data Way (w : Classes) (below above : Name) : Type 0 where
  by_path : Path (IsParent w) below above → Way w below above
  is_object : above ≡ object → Way w below above

-- the ancestors of a known class: itself, what stands above it, and `java.lang.Object`
pub record IsAncestor (w : Classes) (below above : Name) : Type 0 where
  pub known : is_known w below ≡ true
  pub way : Way w below above

-- a class that stands above itself, by what is written
pub record IsOnCycle (w : Classes) (name : Name) : Type 0 where
  pub parent : Name
  pub up : IsWritten w name parent
  pub back : Path (IsWritten w) parent name

abbrev pub superclass_in : Option ClassDef → Name → Option Name
superclass_in None name = superclass_of_absent name
superclass_in (Some c) name = c.superclass

-- the class after this one on a chain of superclasses
abbrev pub next_on_chain : Classes → Name → Option Name
next_on_chain w name = superclass_in (class_of w (stands_as name)) (stands_as name)

abbrev pub IsNext : Classes → Name → Name → Type 0
IsNext w below above = next_on_chain w below ≡ Some above

-- D stands on the chain of C, which is C, its superclass, and so on. A chain that comes back to a class has no further ones
abbrev pub IsOnChain : Classes → Name → Name → Type 0
IsOnChain w c d = Path (IsNext w) c d
