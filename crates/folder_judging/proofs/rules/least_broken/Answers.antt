use Rattle.std.proofs.Common.{refl, arith}
use Rattle.std.proofs.lemmas.Option.{slice_get_read}
use Rattle.folder_judging.proofs.Ruled.{none_yet, one_more, all_of_them}
use Rattle.folder_judging.proofs.rules.least_broken.Goals as goal

pub loop-class-init : goal.loop-class-init
loop-class-init c = none_yet c.args.classes.now

pub loop-class-preserved : goal.loop-class-preserved
loop-class-preserved c = one_more c.args.classes.now c.loop-class.class-index c.class-item.result _ _ (slice_get_read c.args.classes.now _ c.loop-class.class-index c.class-item.result refl (omega arith) c.class-item.is) c.loop-class.invariant c.in_ok-least.ensures

pub returns : goal.returns
returns c = all_of_them c.args.classes.now c.loop-class.class-index c.loop-class.least (omega arith) c.loop-class.invariant
