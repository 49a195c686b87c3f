use Rattle.std.proofs.Common.{take, map}
use Rattle.std.specs.Prelude.{string_bytes}
use Rattle.sjsir.proofs.Lines.{SoFar}
use Rattle.sjsir.proofs.printing.print_files.Given as goal

-- the lines of the files so far are printed
abbrev pub invariant-loop-file : goal.invariant-loop-file
invariant-loop-file g l = SoFar (g.F.Folders.holds l.initial.folders) (g.F.Folders.holds l.folders) (map string_bytes (take l.file-index l.files)) (map string_bytes l.files) l.all_listed (g.L.Lines.printed l.initial.lines) (g.L.Lines.printed l.lines) (g.F.Folders.faults l.initial.folders) (g.F.Folders.faults l.folders) (g.L.Lines.faults l.initial.lines) (g.L.Lines.faults l.lines) (g.F.Folders.missing l.initial.folders) (g.F.Folders.missing l.folders)
