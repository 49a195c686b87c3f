use Rattle.std.proofs.Common.{arith}
use Rattle.sj_typing_spec.proofs.Arguments.{arguments_end}
use Rattle.sj_typing.proofs.fits.add_arguments.Goals as goal

pub returns : goal.returns
returns c = arguments_end c.loop-i.fits.items _ c.loop-i.i c.args.trees.now c.args.params.now (omega (arith, c.min-count.ensures, c.loop-i-test.false)) c.loop-i.invariant
