use Rattle.std.proofs.Common.{◌≡◌, ◌≤◌, Some, take, map}
use Rattle.sj_outside.specs.Contents.{Parts}
use Rattle.folder_sizes.specs.Files.{sizes}
use Rattle.folder_files.specs.Files.{front}
use Rattle.folder_files.specs.Walking.{ArePathsOf}
use Rattle.folder_files.proofs.SoFar.{Fits}
use Rattle.folder_files.proofs.reading.read_files.Given as goal

abbrev pub invariant-loop-path : goal.invariant-loop-path
invariant-loop-path g l = record {
  same : g.F.Folders.holds l.folders ≡ g.F.Folders.holds l.initial.folders;
  fits : Fits (sizes l.files.items) l.total;
  told : (c : Parts) → g.F.Folders.holds l.initial.folders ≡ Some c → (are : ArePathsOf c l.folder l.paths) → l.files.items ≡ take l.path-index (map front are.files);
  faults : g.F.Folders.faults l.initial.folders ≤ g.F.Folders.faults l.folders;
  missing : (c : Parts) → g.F.Folders.holds l.initial.folders ≡ Some c → ArePathsOf c l.folder l.paths → g.F.Folders.missing l.folders ≡ g.F.Folders.missing l.initial.folders;
}
