use Rattle.std.proofs.Common.{◌≡◌, ◌++◌, drop}
use Rattle.sj_world.proofs.linked.copied_facts.Given as goal

abbrev pub invariant-loop-fact : goal.invariant-loop-fact
invariant-loop-fact l = l.copies.items ++ drop l.fact-index l.facts ≡ l.facts
