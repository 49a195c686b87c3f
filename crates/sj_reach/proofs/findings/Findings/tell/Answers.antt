use Rattle.std.proofs.Common.{refl}
use Rattle.sj_reach.proofs.Adding.{adds_told}
use Rattle.sj_reach.proofs.findings.Findings.tell.Goals as goal

pub returns : goal.returns
returns c = adds_told _ _ _ c.in_ok-push.ensures.items refl
