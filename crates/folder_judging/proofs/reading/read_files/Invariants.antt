use Rattle.std.proofs.Common.{◌≡◌}
use Rattle.folder_judging.proofs.Files.{AreFirstRead}
use Rattle.folder_judging.specs.Counts.{with_reads}
use Rattle.folder_judging.proofs.reading.read_files.Given as goal

abbrev pub invariant-loop-file : goal.invariant-loop-file
invariant-loop-file g l = record { read : AreFirstRead l.files l.file-index l.classes.items; counted : g.W.Workers.meter l.work ≡ with_reads l.file-index (g.W.Workers.meter l.fn.work) }
