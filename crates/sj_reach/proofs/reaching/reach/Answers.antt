use Rattle.std.proofs.Common.{List, subst}
use Rattle.sj_names.specs.declared.entry_points.EntryPoint.{EntryPoint}
use Rattle.sj_reach.specs.Answers.{AllFound}
use Rattle.sj_reach.proofs.Once.{reach_answer}
use Rattle.sj_reach.proofs.reaching.reach.Goals as goal

pub returns : goal.returns
returns c = reach_answer c.args.w.now c.args.e.now c.in_ok-found.found _ (subst (λ (es : List EntryPoint). AllFound c.args.w.now es c.in_ok-found.found) c.as_slice.ensures.entries c.in_ok-found.ensures) c.answer.ensures
