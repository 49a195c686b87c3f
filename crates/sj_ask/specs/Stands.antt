-- What a question is asked of.
use Rattle.std.specs.Prelude.{List}
use Rattle.sj_names.specs.declared.method_names.Member.{Member}
use Rattle.sj_world.specs.Known.{Classes}
use Rattle.sj_world.specs.declared.facts.Fact.{Fact}
use Rattle.sj_world.specs.declared.linked.LinkedWorld.{LinkedWorld}

-- a world, with what is known of its classes, and the member that is worked on
pub record Stand : Type 0 where
  pub classes : Classes
  pub facts : List Fact
  pub member : Member

abbrev pub stand_of : LinkedWorld → Member → Stand
stand_of w k = record { classes = w.world; facts = w.facts; member = k }
