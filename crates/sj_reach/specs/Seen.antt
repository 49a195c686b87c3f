-- What is kept of the facts that were gone through.
use Rattle.std.specs.Prelude.{◌≡◌, ◌↔◌, ◌⊎◌, ◌++◌, ◌∷◌, [], List, Contains}
use Rattle.class_lists.specs.Lists.{items_at}
use Rattle.sj_names.specs.declared.entry_points.EntryPoint.{EntryPoint}
use Rattle.sj_names.specs.declared.method_names.MethodName.{MethodName}
use Rattle.sj_infos.specs.Infos.{asked_by}
use Rattle.sj_world.specs.Members.{IsMethodOf}
use Rattle.sj_names.specs.declared.method_names.Member.{Member}
use Rattle.sj_trees.specs.declared.classes.MethodDef.{MethodDef}
use Rattle.sj_infos.specs.declared.infos.Info.{Info}
use Rattle.sj_infos.specs.declared.infos.Info.TheVariants.{Reflective}
use Rattle.sj_world.specs.Ancestors.{IsAncestor}
use Rattle.sj_world.specs.Facts.{PutsBelow}
use Rattle.sj_world.specs.Known.{Name, Classes}
use Rattle.sj_world.specs.declared.facts.Fact.{Fact}
use Rattle.sj_world.specs.declared.facts.Fact.TheVariants as fact
use Rattle.sj_reach_spec.specs.Rules.{Reads}
use Rattle.sj_reach.specs.declared.seen.Seen.{Seen}

pub record IsEmpty (seen : Seen) : Type 0 where
  pub made : seen.made.items ≡ []
  pub below : (name : Name) → items_at seen.below name ≡ []
  pub called : (name : Name) → items_at seen.called name ≡ []
  pub reflective : seen.reflective.keys ≡ []

pub record SeesMade (w : Classes) (c : Name) (old new : Seen) : Type 0 where
  pub made : new.made.items ≡ old.made.items ++ c ∷ []
  pub below : PutsBelow (IsAncestor w c) c old.below new.below
  pub called : new.called ≡ old.called
  pub reflective : new.reflective.keys ≡ old.reflective.keys

pub record SeesCalled (c : Name) (m : MethodName) (old new : Seen) : Type 0 where
  pub made : new.made.items ≡ old.made.items
  pub below : new.below ≡ old.below
  pub called : (d : Name) (x : MethodName) → Contains (items_at new.called d) x ↔ (Contains (items_at old.called d) x ⊎ ((c ≡ d) × (m ≡ x)))
  pub reflective : new.reflective.keys ≡ old.reflective.keys

-- other reflective calls are known, and nothing else changes
pub record SeesNames (Is : MethodName → Type 0) (old new : Seen) : Type 0 where
  pub made : new.made.items ≡ old.made.items
  pub below : new.below ≡ old.below
  pub called : new.called ≡ old.called
  pub reflective : (p : MethodName) → Contains new.reflective.keys p ↔ (Contains old.reflective.keys p ⊎ Is p)

abbrev pub SeesReflective : MethodName → Seen → Seen → Type 0
SeesReflective p = SeesNames (λ q. p ≡ q)

abbrev pub SeesInfo : Info → Seen → Seen → Type 0
SeesInfo i = SeesNames (λ q. i ≡ Reflective q)

abbrev pub SeesInfos : List Info → Seen → Seen → Type 0
SeesInfos infos = SeesNames (λ q. Contains infos (Reflective q))

-- what is kept of facts that hold
pub record IsSeen (w : Classes) (entries : List EntryPoint) (Holds : Fact → Type 0) (seen : Seen) : Type 0 where
  pub made : (c : Name) → Contains seen.made.items c ↔ Holds (fact.Made c)
  pub below : (d c : Name) → Contains (items_at seen.below d) c ↔ (Holds (fact.Made c) × IsAncestor w c d)
  pub called : (d : Name) (m : MethodName) → Contains (items_at seen.called d) m ↔ Holds (fact.Called d m)
  pub reflective : (p : MethodName) → Contains seen.reflective.keys p ↔ Reads w entries Holds (Reflective p)

-- the definition of the member asks for it
pub record IsReadIn (w : Classes) (k : Member) (i : Info) : Type 0 where
  pub definition : MethodDef
  pub defined : IsMethodOf w k definition
  pub asked : Contains (asked_by definition) i

abbrev pub SeesBody : Classes → Member → Seen → Seen → Type 0
SeesBody w k = SeesNames (λ q. IsReadIn w k (Reflective q))

-- what is kept once the fact was gone through as well
abbrev pub SeesFact : Classes → Fact → Seen → Seen → Type 0
SeesFact w (fact.Needed c) old new = new ≡ old
SeesFact w (fact.Made c) old new = SeesMade w c old new
SeesFact w (fact.CellUsed c) old new = new ≡ old
SeesFact w (fact.NeededField c f s) old new = new ≡ old
SeesFact w (fact.Body k) old new = SeesBody w k old new
SeesFact w (fact.Called d m) old new = SeesCalled d m old new
