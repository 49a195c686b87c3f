-- What there is of a class.
use Rattle.std.specs.Prelude.{◌↔◌, List, IsTrue}
use Rattle.sj_baselink_spec.specs.Entries.{IsLive}
use Rattle.sj_emit_class_spec.specs.Classes.{HasForm}
use Rattle.sj_infos.specs.declared.forms.BodyForm.TheVariants as forms
use Rattle.sj_world.specs.Known.{Name, Classes}
use Rattle.sj_world.specs.declared.facts.Fact.{Fact}
use Rattle.sj_emit_class.specs.declared.marks.Marks.{Marks}

pub record AreMarks (w : Classes) (known : List Fact) (c : Name) (m : Marks) : Type 0 where
  pub live : IsTrue m.is_live ↔ IsLive w known c
  pub base : IsTrue m.is_base ↔ HasForm w known (forms.Base c)
  pub loaded : IsTrue m.is_loaded ↔ HasForm w known (forms.Load c)
  pub stored : IsTrue m.is_stored ↔ HasForm w known (forms.Store c)
  pub tested : IsTrue m.is_tested ↔ HasForm w known (forms.Test c)
  pub cast : IsTrue m.is_cast ↔ HasForm w known (forms.Cast c)
