use Rattle.std.proofs.Common.{◌≡◌, [], drop}
use Rattle.indexmap.specs.IndexSet.{insert_all}
use Rattle.sj_split.specs.Orders.{is_same}
use Rattle.sj_split.proofs.modules.owner_set.Given as goal

abbrev pub invariant-loop-owner : goal.invariant-loop-owner
invariant-loop-owner l = insert_all is_same l.set.keys (drop l.owner-index l.owners) ≡ insert_all is_same [] l.owners
