use Rattle.std.proofs.Common.{◌≡◌, ◌++◌, drop}
use Rattle.sj_trees.specs.View.{terms_view}
use Rattle.sj_typing_spec.specs.Rows.{all_fit}
use Rattle.sj_typing.proofs.fits.add_all.Given as goal

abbrev pub invariant-loop-each : goal.invariant-loop-each
invariant-loop-each l = l.fits.items ++ all_fit (terms_view (drop l.each-index l.trees)) l.tpe ≡ l.fn.fits.items ++ all_fit (terms_view l.trees) l.tpe
