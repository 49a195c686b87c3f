use Rattle.std.proofs.Common.{◌≡◌}
use Rattle.folder_judging.specs.Counts.{with_checks}
use Rattle.folder_judging.specs.Types.{IsLeastAmong}
use Rattle.folder_judging.proofs.Typed.{IsAmongFirst}
use Rattle.folder_judging.proofs.types.first_untyped.Given as goal

abbrev pub invariant-loop-body : goal.invariant-loop-body
invariant-loop-body g l = record { least : IsLeastAmong l.linked.world (IsAmongFirst l.bodies l.body-index) l.least; counted : g.W.Workers.meter l.work ≡ with_checks l.body-index (g.W.Workers.meter l.fn.work) }
