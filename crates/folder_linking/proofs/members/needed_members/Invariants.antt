use Rattle.std.proofs.Common.{◌≡◌, map, take}
use Rattle.folder_judging.specs.Counts.{members_of}
use Rattle.folder_linking.proofs.members.needed_members.Given as goal

abbrev pub invariant-loop-fact : goal.invariant-loop-fact
invariant-loop-fact l = map (λ m. m.now) l.members.items ≡ members_of (take l.fact-index l.facts)
