use Rattle.std.proofs.Common.{refl}
use Rattle.sj_reach.proofs.Adding.{adds_fact}
use Rattle.sj_reach.proofs.findings.Findings.add.Goals as goal

pub returns : goal.returns
returns c = adds_fact c.args.fact _ _ c.in_ok-insert.ensures.keys refl
