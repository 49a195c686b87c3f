use Rattle.std.proofs.lemmas.Bool.Decides.{Decides-int_eq}
use Rattle.std.proofs.lemmas.Slice.Eq.{slice_eq-Decides}
use Rattle.tree_sameness.proofs.trees.are_same_keys.Goals as goal

pub returns : goal.returns
returns c = slice_eq-Decides Decides-int_eq _ _ _ c.eq.ensures
