use Rattle.std.proofs.Common.{◌≡◌, drop}
use Rattle.indexmap.specs.IndexSet.{insert_all}
use Rattle.worklist.proofs.searching.add_all.Given as goal

abbrev pub invariant-loop-key : goal.invariant-loop-key
invariant-loop-key g l = insert_all g.K.PartialEq.eq l.found.keys (drop l.key-index l.keys) ≡ insert_all g.K.PartialEq.eq l.fn.found.keys l.keys
