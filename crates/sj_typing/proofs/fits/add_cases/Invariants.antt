use Rattle.std.proofs.Common.{◌≡◌, ◌++◌, drop}
use Rattle.sj_trees.specs.View.{cases_view}
use Rattle.sj_typing_spec.specs.Rows.{cases_yield}
use Rattle.sj_typing.proofs.fits.add_cases.Given as goal

abbrev pub invariant-loop-each : goal.invariant-loop-each
invariant-loop-each l = l.fits.items ++ cases_yield (cases_view (drop l.each-index l.cases)) l.tpe ≡ l.fn.fits.items ++ cases_yield (cases_view l.cases) l.tpe
