use Rattle.std.proofs.Common.{◌≡◌, ◌++◌, drop}
use Rattle.sj_split.specs.Steps.{keys_in}
use Rattle.sj_split.proofs.modules.home_keys.Given as goal

abbrev pub invariant-loop-settled : goal.invariant-loop-settled
invariant-loop-settled l = l.keys.items ++ keys_in (drop l.settled-index l.homes) ≡ keys_in l.homes
