-- What is kept beside facts: the made classes below each class, and the bodies that are needed.
use Rattle.std.specs.Prelude.{◌≡◌, ◌↔◌, ◌⊎◌, List, Contains}
use Rattle.class_lists.specs.Lists.{items_at}
use Rattle.class_lists.specs.declared.lists.Lists.{Lists}
use Rattle.sj_names.specs.declared.method_names.Member.{Member}
use Rattle.sj_world.specs.Known.{Name, Classes}
use Rattle.sj_world.specs.Ancestors.{IsAncestor}
use Rattle.sj_world.specs.declared.facts.Fact.{Fact}
use Rattle.sj_world.specs.declared.facts.Fact.TheVariants as fact

-- the fact says that instances of D are made, and D is a subtype of C
pub record Makes (w : Classes) (c d : Name) (f : Fact) : Type 0 where
  pub made : f ≡ fact.Made d
  pub below : IsAncestor w d c

-- instances of D are made, and D is a subtype of C
pub record IsMadeBelow (w : Classes) (facts : List Fact) (c d : Name) : Type 0 where
  pub made : Contains facts (fact.Made d)
  pub below : IsAncestor w d c

-- the class stands under those names besides what stood there
pub record PutsBelow (Above : Name → Type 0) (c : Name) (old new : Lists Name) : Type 0 where
  pub exact : (d x : Name) → Contains (items_at new d) x ↔ (Contains (items_at old d) x ⊎ (Above d × (c ≡ x)))

-- the class that the fact makes stands under its ancestors besides what stood there
pub record PutsMade (w : Classes) (f : Fact) (old new : Lists Name) : Type 0 where
  pub exact : (c d : Name) → Contains (items_at new c) d ↔ (Contains (items_at old c) d ⊎ Makes w c d f)

-- under each name stand the made classes below it
pub record AreBelow (w : Classes) (facts : List Fact) (below : Lists Name) : Type 0 where
  pub exact : (c d : Name) → Contains (items_at below c) d ↔ IsMadeBelow w facts c d

-- the body that the fact needs stands there besides what stood there
pub record PutsBody (f : Fact) (old new : List Member) : Type 0 where
  pub exact : (k : Member) → Contains new k ↔ (Contains old k ⊎ (f ≡ fact.Body k))

-- exactly the bodies that are needed
pub record AreBodies (facts : List Fact) (bodies : List Member) : Type 0 where
  pub exact : (k : Member) → Contains bodies k ↔ Contains facts (fact.Body k)

-- what is kept beside the facts of a world
pub record AreKept (w : Classes) (facts : List Fact) (bodies : List Member) (below : Lists Name) : Type 0 where
  pub bodies_right : AreBodies facts bodies
  pub below_right : AreBelow w facts below
