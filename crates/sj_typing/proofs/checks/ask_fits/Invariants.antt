use Rattle.std.proofs.Common.{◌≡◌, Bool, Result, drop}
use Rattle.sj_ask.specs.declared.errors.TypeError.{TypeError}
use Rattle.sj_ask.specs.Answers.{IsAnswer}
use Rattle.sj_ask.specs.Told.{Told}
use Rattle.sj_typing_spec.specs.Checks.{ask_fits}
use Rattle.sj_typing_spec.specs.Answered.{AsRun}
use Rattle.sj_typing.proofs.checks.ask_fits.Given as goal

abbrev pub invariant-loop-fit : goal.invariant-loop-fit
invariant-loop-fit g l =
    record {
      stand : g.O.Oracle.stand l.oracle ≡ g.O.Oracle.stand l.fn.oracle;
      ran : (r : Result Bool TypeError) (u : Told) → AsRun (IsAnswer (g.O.Oracle.stand l.fn.oracle)) (ask_fits l.fault (drop l.fit-index l.fits)) r (g.O.Oracle.told l.oracle) u → AsRun (IsAnswer (g.O.Oracle.stand l.fn.oracle)) (ask_fits l.fault l.fits) r (g.O.Oracle.told l.fn.oracle) u;
    }
