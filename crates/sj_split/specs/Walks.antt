-- Walks over references, and which classes the public modules reach.
use Rattle.std.specs.Prelude.{◌≡◌, ◌↔◌, List, Contains}
use Rattle.sj_names.specs.declared.entry_points.EntryPoint.{EntryPoint}
use Rattle.worklist.specs.Paths.{Path}
use Rattle.sj_graph.specs.References.{reference}
use Rattle.sj_graph.specs.declared.graphs.Reference.{Reference}
use Rattle.sj_split.specs.Orders.{Bytes, IsBefore, AreIncreasing}

abbrev pub Name : Type 0
Name = Bytes

abbrev pub Id : Type 0
Id = Bytes

abbrev pub References : Type 0
References = List Reference

-- a class refers to another
abbrev pub Refers : References → Name → Name → Type 0
Refers references from to = Contains references (reference from to)

-- a finite walk leads from one class to another; it may have no step
abbrev pub Walk : References → Name → Name → Type 0
Walk references = Path (Refers references)

-- a walk leads to the class from the class of an initializer of the public module
pub record Reaches (references : References) (entries : List EntryPoint) (id : Id) (class : Name) : Type 0 where
  pub entry : EntryPoint
  pub among : Contains entries entry
  pub in_module : entry.module ≡ id
  pub walk : Walk references entry.class class

-- some public module reaches the class
pub record IsReached (references : References) (entries : List EntryPoint) (class : Name) : Type 0 where
  pub entry : EntryPoint
  pub among : Contains entries entry
  pub walk : Walk references entry.class class

-- the tags of the class: the ids of the public modules that reach it, in byte order
pub record AreTags (references : References) (entries : List EntryPoint) (class : Name) (tags : List Id) : Type 0 where
  pub increasing : AreIncreasing tags
  pub exact : (id : Id) → Contains tags id ↔ Reaches references entries id class

-- walks lead both ways
pub record SameComponent (references : References) (a b : Name) : Type 0 where
  pub there : Walk references a b
  pub back : Walk references b a

-- the least name in the component of the class
pub record IsLeastOfComponent (references : References) (class least : Name) : Type 0 where
  pub same : SameComponent references class least
  pub first : (other : Name) → SameComponent references class other → IsBefore other least → ⊥
