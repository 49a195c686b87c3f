-- Static fields that are reached.
use Rattle.std.specs.Prelude.{List, Contains, IsTrue, true}
use Rattle.sj_trees.specs.declared.classes.FieldDef.{FieldDef}
use Rattle.sj_world.specs.Known.{Name}
use Rattle.sj_world.specs.declared.facts.Fact.{Fact}
use Rattle.sj_world.specs.declared.facts.Fact.TheVariants.{NeededField}

pub record IsReachedStatic (known : List Fact) (c : Name) (f : FieldDef) : Type 0 where
  pub is_static : IsTrue f.is_static
  pub reached : Contains known (NeededField c f.name true)
