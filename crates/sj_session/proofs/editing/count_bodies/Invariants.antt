use Rattle.std.proofs.Common.{◌≡◌, take}
use Rattle.folder_judging.specs.Counts.{bodies_among}
use Rattle.sj_session.proofs.editing.count_bodies.Given as goal

abbrev pub invariant-loop-fact : goal.invariant-loop-fact
invariant-loop-fact l = l.count ≡ bodies_among (take l.fact-index l.facts)
