use Rattle.std.proofs.Common.{◌≡◌, OnOk, subst}
use Rattle.sj_baselink.specs.Steps.{Puts}
use Rattle.sj_emit_class_needs.specs.declared.needs.ClassNeed.{ClassNeed}
use Rattle.sj_emit_class_needs.specs.declared.needs.ClassNeed.TheVariants.{Static}
use Rattle.sj_emit_class_needs.proofs.needs.put_static.Goals as goal

pub returns : goal.returns
returns c =
    let same : Static c.in_ok-class.class c.in_ok-field.field ≡ Static c.args.class.now c.args.field.now = λ i. Static (c.in_ok-class.ensures i) (c.in_ok-field.ensures i) in
    subst (λ (need : ClassNeed). OnOk c.put.result (Puts (λ n. need ≡ n) c.args.needs.now.keys c.put.new.needs.keys)) same c.put.ensures
