use Rattle.std.proofs.Common.{◌≡◌, ◌++◌, drop, List}
use Rattle.sj_split.specs.declared.homes.Settled.{Settled}
use Rattle.sj_split.specs.Groups.{AreByKey}
use Rattle.sj_split.specs.Modules.{internal_modules}
use Rattle.sj_split.proofs.modules.add_grouped_modules.Given as goal

abbrev pub invariant-loop-place : goal.invariant-loop-place
invariant-loop-place l = (homes : List Settled) → AreByKey homes l.groups → l.modules.items ++ internal_modules l.owners.keys homes (drop l.place l.keys) (drop l.place l.names) ≡ l.fn.modules.items ++ internal_modules l.owners.keys homes l.keys l.names
