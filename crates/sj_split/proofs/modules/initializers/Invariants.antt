use Rattle.std.proofs.Common.{◌≡◌, ◌++◌, drop}
use Rattle.sj_split.specs.Modules.{initializers_of}
use Rattle.sj_split.proofs.modules.initializers.Given as goal

abbrev pub invariant-loop-entry : goal.invariant-loop-entry
invariant-loop-entry l = l.initializers.items ++ initializers_of l.id (drop l.entry-index l.entries) ≡ initializers_of l.id l.entries
