use Rattle.std.proofs.Common.{◌≡◌, OnOk, ap, subst}
use Rattle.sj_baselink.specs.Steps.{Puts}
use Rattle.sj_emit_class_needs.specs.declared.needs.ClassNeed.{ClassNeed}
use Rattle.sj_emit_class_needs.specs.declared.needs.ClassNeed.TheVariants.{Live}
use Rattle.sj_emit_class_needs.proofs.live.put_one.Goals as goal

pub returns : goal.returns
returns c = subst (λ (need : ClassNeed). OnOk c.put.result (Puts (λ n. need ≡ n) c.args.needs.now.keys c.put.new.needs.keys)) (ap Live c.in_ok-class.ensures) c.put.ensures
