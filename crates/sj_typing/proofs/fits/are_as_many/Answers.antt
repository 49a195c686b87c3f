use Rattle.sj_typing_spec.proofs.Arguments.{as_many}
use Rattle.sj_typing.proofs.fits.are_as_many.Goals as goal

pub returns : goal.returns
returns c = as_many c.args.trees.now c.args.params.now
