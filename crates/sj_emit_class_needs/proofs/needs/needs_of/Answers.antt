use Rattle.std.proofs.Common.{List, IfOk, subst}
use Rattle.sj_world.specs.Known.{Classes}
use Rattle.sj_world.specs.declared.facts.Fact.{Fact}
use Rattle.sj_emit_class_needs.specs.Needs.{AreNeeds}
use Rattle.sj_emit_class_needs.proofs.needs.needs_of.Goals as goal

pub returns : goal.returns
returns c =
    let here = subst (λ (w : Classes). IfOk c.needs_by.result (λ needs. AreNeeds w c.facts.result.now needs.keys)) c.world.ensures c.needs_by.ensures in
    subst (λ (known : List Fact). IfOk c.needs_by.result (λ needs. AreNeeds c.args.w.now.world known needs.keys)) c.facts.ensures here
