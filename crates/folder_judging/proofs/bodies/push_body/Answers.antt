use Rattle.std.proofs.Common.{refl}
use Rattle.folder_judging.proofs.Spelled.{pushes, leaves}
use Rattle.folder_judging.proofs.bodies.push_body.Goals as goal

pub returns-in_ok-push : goal.returns-in_ok-push
returns-in_ok-push c = pushes c.args.fact.now c.in-Body.member _ c.args.bodies.now.items _ c.in-Body.is refl c.in_ok-spelled.ensures c.in_ok-push.ensures.items

pub returns-in_default : goal.returns-in_default
returns-in_default c = leaves c.args.fact.now c.args.bodies.now.items (λ k e. c.in_default.not-Body k e)
