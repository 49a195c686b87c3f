use Rattle.std.proofs.Common.{arith}
use Rattle.std.proofs.lemmas.Option.{slice_get_within}
use Rattle.folder_sizes.proofs.Looked.{one_more}
use Rattle.folder_sizes.proofs.first_too_large.Goals as goal

pub loop-place-preserved : goal.loop-place-preserved
loop-place-preserved c = one_more c.args.sizes.now c.loop-place.place c.loop-place.total c.loop-place-test.true c.loop-place.invariant (λ over. let h = c.if-is_over.ensures.1 over in cc)

pub returns : goal.returns
returns c = λ place large. let within = slice_get_within c.args.sizes.now place large.size large.at in c.loop-place.invariant.none place (omega (arith, within, c.loop-place-test.false)) large
