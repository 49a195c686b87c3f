use Rattle.std.proofs.Common.{◌≡◌, ◌++◌, drop, map}
use Rattle.sj_split.specs.Modules.{public_module}
use Rattle.sj_split.proofs.modules.public_modules.Given as goal

abbrev pub invariant-loop-id : goal.invariant-loop-id
invariant-loop-id l = l.modules.items ++ map (public_module l.entries l.homes) (drop l.id-index l.ids) ≡ map (public_module l.entries l.homes) l.ids
