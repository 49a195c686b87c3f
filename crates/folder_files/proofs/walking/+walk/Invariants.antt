use Rattle.std.proofs.Common.{◌≡◌, ◌≤◌, ℕ, ◌+◌, ◌*◌, List, Some, drop}
use Rattle.sj_outside.specs.Contents.{Parts}
use Rattle.folder_files.proofs.Gathered.{GathersAll}
use Rattle.folder_files.proofs.walking.+walk.Given as goal

abbrev pub decreases-gather : goal.decreases-gather
decreases-gather g l = 3 * l.here.now.left + 2

abbrev pub decreases-gather_entry : goal.decreases-gather_entry
decreases-gather_entry g l = 3 * l.here.now.left + 1

abbrev pub decreases-gather_folder : goal.decreases-gather_folder
decreases-gather_folder g l = 3 * l.here.now.left

abbrev pub invariant-gather-loop-entry : goal.invariant-gather-loop-entry
invariant-gather-loop-entry g l = record {
  same : g.F.Folders.holds l.folders ≡ g.F.Folders.holds l.initial.folders;
  told : (c : Parts) → g.F.Folders.holds l.initial.folders ≡ Some c → (last : List (List ℕ)) → GathersAll c l.here.path.now l.here.prefix.now l.here.left (drop l.entry-index l.entry-items) l.paths.items last → GathersAll c l.here.path.now l.here.prefix.now l.here.left l.entry-items l.initial.paths.items last;
  faults : g.F.Folders.faults l.initial.folders ≤ g.F.Folders.faults l.folders;
  missing : (c : Parts) → g.F.Folders.holds l.initial.folders ≡ Some c → g.F.Folders.missing l.folders ≡ g.F.Folders.missing l.initial.folders;
}
