use Rattle.std.proofs.Common.{◌≡◌, drop, map}
use Rattle.indexmap.specs.IndexSet.{insert_all}
use Rattle.world_pieces.specs.Helpers.{as_used, is_same_used}
use Rattle.world_pieces.proofs.helpers.add_used.Given as goal

abbrev pub invariant-loop-helper : goal.invariant-loop-helper
invariant-loop-helper l = insert_all is_same_used l.found.keys (map as_used (drop l.helper-index l.helpers)) ≡ insert_all is_same_used l.fn.found.keys (map as_used l.helpers)
