use Rattle.std.proofs.Common.{◌≡◌}
use Rattle.sj_gen.specs.Folder.{class_files}
use Rattle.sj_gen.proofs.folders.class_files.Given as goal

abbrev pub invariant-loop-number : goal.invariant-loop-number
invariant-loop-number l = l.files.items ≡ class_files l.edited l.number
