use Rattle.std.proofs.Common.{◌∙◌}
use Rattle.folder_judging.specs.Rules.{kept}
use Rattle.folder_judging.proofs.Ruled.{with_broken}
use Rattle.folder_judging.proofs.rules.with_class.Goals as goal

pub returns-in_ok-place-in-Some : goal.returns-in_ok-place-in-Some
returns-in_ok-place-in-Some c = with_broken c.args.least c.args.class.now c.in-Some.rule c.in_ok-place-in-Some.place c.first_of.result (rw c.in-Some.is at c.in_ok-rule.ensures) (c.in_ok-place-in-Some.ensures ∙ c.text.ensures.text) c.first_of.ensures

pub returns-in-None : goal.returns-in-None
returns-in-None c = kept (rw c.in-None.is at c.in_ok-rule.ensures)
