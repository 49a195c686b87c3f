use Rattle.std.proofs.Common.{◌≡◌, ◌++◌, drop}
use Rattle.sj_local.specs.TreeRules.{has_repeat}
use Rattle.sj_local.proofs.trees.add_keys.Given as goal

abbrev pub invariant-loop-key : goal.invariant-loop-key
invariant-loop-key l =
    record {
      rest : has_repeat l.earlier.keys (drop l.key-index l.keys) ≡ has_repeat l.fn.earlier.keys l.keys;
      added : l.earlier.keys ++ drop l.key-index l.keys ≡ l.fn.earlier.keys ++ l.keys;
    }
