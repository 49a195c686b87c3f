use Rattle.std.proofs.Common.{take}
use Rattle.folder_judging.specs.Bodies.{AreBodiesOf}
use Rattle.folder_judging.proofs.bodies.spelled_bodies.Given as goal

abbrev pub invariant-loop-fact : goal.invariant-loop-fact
invariant-loop-fact l = AreBodiesOf (take l.fact-index l.facts) l.bodies.items
