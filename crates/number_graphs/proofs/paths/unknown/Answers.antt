use Rattle.std.proofs.Common.{◌∷◌, [], ap, ◌∙◌, arith, length, List}
use Rattle.std.proofs.lemmas.List.{length-append}
use Rattle.number_graphs.specs.declared.paths.Found.{Found}
use Rattle.number_graphs.specs.declared.paths.Found.TheVariants.{Not}
use Rattle.number_graphs.proofs.Finished.{still_unknown, none_known}
use Rattle.number_graphs.proofs.paths.unknown.Goals as goal

pub loop-init : goal.loop-init
loop-init c = record { count = ap (λ (l : List Found). length l) c.new-found.ensures.items; unknown = none_known c.new-found.result.items c.new-found.ensures.items }

pub loop-preserved : goal.loop-preserved
loop-preserved c = record {
  count = ap (λ (l : List Found). length l) c.in_ok-push.ensures.items ∙ (let e = c.loop.invariant.count in omega (arith, e, length-append c.loop.found.items (Not ∷ [])));
  unknown = still_unknown c.loop.found.items c.push.new.self.items c.loop.invariant.unknown c.in_ok-push.ensures.items;
}
