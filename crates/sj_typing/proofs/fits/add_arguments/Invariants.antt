use Rattle.std.proofs.Common.{◌≡◌, ◌++◌, drop}
use Rattle.sj_trees.specs.View.{terms_view}
use Rattle.sj_typing_spec.specs.Rows.{arguments_fit}
use Rattle.sj_typing.proofs.fits.add_arguments.Given as goal

abbrev pub invariant-loop-i : goal.invariant-loop-i
invariant-loop-i l = l.fits.items ++ arguments_fit (terms_view (drop l.i l.trees)) (drop l.i l.params) ≡ l.fn.fits.items ++ arguments_fit (terms_view l.trees) l.params
