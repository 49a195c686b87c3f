use Rattle.std.proofs.Common.{◌≡◌, map, take}
use Rattle.folder_linking.specs.Counts.{with_emits}
use Rattle.folder_linking.specs.Functions.{AreFunctions}
use Rattle.folder_linking.proofs.functions.functions_of.Given as goal

abbrev pub invariant-loop-member : goal.invariant-loop-member
invariant-loop-member g l = record { functions : AreFunctions l.linked.world (take l.member-index (map (λ m. m.now) l.members)) l.functions.items; counted : g.W.Workers.meter l.work ≡ with_emits l.member-index (g.W.Workers.meter l.fn.work) }
