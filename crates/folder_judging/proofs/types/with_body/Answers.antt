use Rattle.std.proofs.Common.{sym, subst, arith}
use Rattle.std.proofs.lemmas.Result.{err_from_is_err_and}
use Rattle.folder_judging.specs.Types.{kept, ChecksOne}
use Rattle.folder_judging.proofs.Typed.{with_failing}
use Rattle.folder_judging.proofs.types.with_body.Goals as goal

pub returns-in_err-place-in-Some-clause-counted : goal.returns-in_err-place-in-Some-clause-counted
returns-in_err-place-in-Some-clause-counted g c =
    let p = err_from_is_err_and c.from_residual-in_err-place-in-Some.result c.from_residual-in_err-place-in-Some.ensures.1 in
    subst (λ r. ChecksOne r (g.W.Workers.meter c.args.work.now) (g.W.Workers.meter c.check_body.new.work)) (sym p.1) (record { checks = 1; most = omega arith; counted = c.in_ok-rule.ensures.counted })

pub returns-in_ok-place-in-Some-clause-found : goal.returns-in_ok-place-in-Some-clause-found
returns-in_ok-place-in-Some-clause-found g c = with_failing c.args.linked.now.world c.args.least c.args.body.now c.in-Some.rule c.in_ok-place-in-Some.place c.first_of.result (rw c.in-Some.is at c.in_ok-rule.ensures.found) c.in_ok-place-in-Some.ensures c.first_of.ensures

pub returns-in-None-clause-found : goal.returns-in-None-clause-found
returns-in-None-clause-found g c = kept (rw c.in-None.is at c.in_ok-rule.ensures.found)
