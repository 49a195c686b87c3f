use Rattle.std.proofs.Common.{◌≡◌, ◌++◌, drop, map}
use Rattle.sj_split.specs.Modules.{module_of}
use Rattle.sj_split.proofs.modules.entry_ids.Given as goal

abbrev pub invariant-loop-entry : goal.invariant-loop-entry
invariant-loop-entry l = l.ids.items ++ map module_of (drop l.entry-index l.entries) ≡ map module_of l.entries
