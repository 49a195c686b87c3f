use Rattle.std.proofs.Common.{◌∙◌, refl, arith}
use Rattle.sj_ask.specs.Answers.{IsAnswer}
use Rattle.sj_typing_spec.proofs.Loops.{fits_on, fits_no, fits_end}
use Rattle.sj_typing.proofs.checks.ask_fits.Goals as goal

pub loop-fit-init : goal.loop-fit-init
loop-fit-init g c = record { stand = refl; ran = λ r u h. h }

pub returns-clause-ran : goal.returns-clause-ran
returns-clause-ran g c = c.loop-fit.invariant.ran _ _ (fits_end (IsAnswer (g.O.Oracle.stand c.args.oracle.now)) c.args.fault c.args.fits.now c.loop-fit.fit-index _ (omega arith))

pub returns-then-not-branch-clause-ran : goal.returns-then-not-branch-clause-ran
returns-then-not-branch-clause-ran g c =
    let l = c.loop-fit in
    let h = rw (l.invariant.stand, c.if-not-branch.true) at c.in_ok-ask_sub.ensures.ran in
    l.invariant.ran _ _ (fits_no (IsAnswer (g.O.Oracle.stand c.args.oracle.now)) c.args.fault c.args.fits.now l.fit-index c.fit-item.result _ _ (omega arith) c.fit-item.is h)

pub loop-fit-preserved : goal.loop-fit-preserved
loop-fit-preserved g c =
    let l = c.loop-fit in
    let f = c.in_ok-ask_sub in
    let h = rw (l.invariant.stand, c.if-not-branch.false) at f.ensures.ran in
    record { stand = f.ensures.stand ∙ l.invariant.stand; ran = λ r u k. l.invariant.ran r u (fits_on (IsAnswer (g.O.Oracle.stand c.args.oracle.now)) c.args.fault c.args.fits.now l.fit-index c.fit-item.result r _ _ u (omega arith) c.fit-item.is h k) }
