use Rattle.std.proofs.Common.{◌≡◌, take}
use Rattle.std.specs.List.{filter}
use Rattle.world_pieces.specs.Helpers.{is_found}
use Rattle.world_pieces.proofs.helpers.listed.Given as goal

abbrev pub invariant-loop-helper : goal.invariant-loop-helper
invariant-loop-helper l = l.helpers.items ≡ filter (is_found l.found.keys) (take l.helper-index l.all)
