-- Modules with the names of their files.
use Rattle.std.specs.Prelude.{◌≡◌}
use Rattle.sj_split.specs.declared.plans.PlannedModule.{PlannedModule}
use Rattle.sj_split.specs.declared.modules.Filed.{Filed}
use Rattle.sj_split.specs.Modules.{file}

abbrev pub planned_of : Filed → PlannedModule
planned_of filed = filed.planned

-- the name is that of the module's file
abbrev pub IsFiled : Filed → Type 0
IsFiled filed = filed.file ≡ file filed.planned
