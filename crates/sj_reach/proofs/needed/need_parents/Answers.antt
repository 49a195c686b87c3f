use Rattle.std.proofs.lemmas.Result.{on_ok_weaker}
use Rattle.std.proofs.Common.{List}
use Rattle.sj_trees.specs.declared.classes.ClassKind.TheVariants.{Interface}
use Rattle.sj_world.specs.Known.{Name}
use Rattle.sj_reach.specs.Conclusions.{Among}
use Rattle.sj_reach.specs.Steps.{OfClass}
use Rattle.sj_reach.proofs.Adding.{adds_then, adds_at}
use Rattle.sj_reach.proofs.needed.need_parents.Goals as goal

pub returns : goal.returns
returns c = on_ok_weaker _ (λ h. adds_then _ _ _ _ _ c.in_ok-need_superclass.ensures (adds_at (λ (xs : List Name). Among xs (OfClass c.args.world.now Interface)) _ _ _ _ c.as_slice.ensures h)) c.need_interfaces.ensures
