use Rattle.std.proofs.Common.{arith}
use Rattle.sj_local.proofs.TermLists.{has_no_terms-more}
use Rattle.sj_local.proofs.trees.has_no_trees.Goals as goal

pub returns-in-len1-up : goal.returns-in-len1-up
returns-in-len1-up c = has_no_terms-more _ (omega arith)
