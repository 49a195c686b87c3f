use Rattle.std.proofs.Common.{◌≡◌, ℕ, ◌∷◌, [], List, ◌++◌, ap, ◌∙◌, subst, arith, length}
use Rattle.std.proofs.lemmas.List.{length-append}
use Rattle.number_graphs.specs.Graphs.{Leads, Lists}
use Rattle.number_graphs.proofs.Listed.{leads_from, leads_old}
use Rattle.number_graphs.proofs.condensing.unconnected.Goals as goal

pub loop-init : goal.loop-init
loop-init c = record { count = ap (λ (l : Lists). length l) c.new-graph.ensures.items; none = λ from to h. (let low = leads_from c.new-graph.result.items from to h in let e = ap (λ (l : Lists). length l) c.new-graph.ensures.items in omega (arith, low, e)) }

pub loop-preserved : goal.loop-preserved
loop-preserved c = record {
  count = ap (λ (l : Lists). length l) c.in_ok-push.ensures.items ∙ (let e = c.loop.invariant.count in omega (arith, e, length-append c.loop.graph.items (c.new.result ∷ [])));
  none = λ from to h. c.loop.invariant.none from to (leads_old c.loop.graph.items c.new.result from to c.new.ensures.items (subst (λ (l : Lists). Leads l from to) c.in_ok-push.ensures.items h));
}
