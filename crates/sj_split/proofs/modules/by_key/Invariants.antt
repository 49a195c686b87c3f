use Rattle.std.proofs.Common.{◌≡◌, ◌++◌, drop}
use Rattle.class_groups.specs.Groups.{AreGroups, group_at}
use Rattle.module_names.specs.Names.{Key}
use Rattle.sj_split.specs.Modules.{classes_at, is_internal}
use Rattle.sj_split.proofs.modules.by_key.Given as goal

abbrev pub invariant-loop-settled : goal.invariant-loop-settled
invariant-loop-settled l = AreGroups l.groups × ((key : Key) → group_at l.groups key ++ classes_at (is_internal key) (drop l.settled-index l.homes) ≡ classes_at (is_internal key) l.homes)
