use Rattle.sj_read_sizes.proofs.ClassSizes.{bodies_are_small}
use Rattle.sj_read_sizes.proofs.bodies_have_no_more_trees_than_bytes.Goals as goal

pub returns : goal.returns
returns c = bodies_are_small
