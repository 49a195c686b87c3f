-- Classes grouped by the keys of their modules.
use Rattle.std.specs.Prelude.{◌≡◌, List}
use Rattle.class_groups.specs.Groups.{group_at}
use Rattle.class_groups.specs.declared.groups.ClassGroups.{ClassGroups}
use Rattle.module_names.specs.Names.{Key}
use Rattle.sj_split.specs.declared.homes.Settled.{Settled}
use Rattle.sj_split.specs.Modules.{classes_at, is_internal}

-- under each key stand the classes of its internal module
abbrev pub AreByKey : List Settled → ClassGroups → Type 0
AreByKey homes groups = (key : Key) → group_at groups key ≡ classes_at (is_internal key) homes
