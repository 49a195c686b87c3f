use Rattle.std.proofs.Common.{◌≡◌}
use Rattle.std.specs.List.{filter}
use Rattle.sj_world.specs.Known.{Name}
use Rattle.world_pieces.specs.Functions.{group_of, is_owned}
use Rattle.world_pieces.proofs.functions.FunctionGroups.of.Given as goal

abbrev pub invariant-loop-function : goal.invariant-loop-function
invariant-loop-function l = (c : Name) → group_of l.groups c ≡ filter (is_owned c) l.yielded
