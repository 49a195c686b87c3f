use Rattle.std.proofs.Common.{◌≡◌, ◌≤◌, Some}
use Rattle.sj_outside.specs.Contents.{Parts}
use Rattle.sjslink.specs.Editing.{AreHeld, AreWritten}
use Rattle.sjslink.proofs.editing.edit_folders.Given as goal

-- what is written for the first folders was written
abbrev pub invariant-loop-place : goal.invariant-loop-place
invariant-loop-place g l = record {
  same : l.session.entries ≡ l.initial.session.entries;
  same_options : l.session.options ≡ l.initial.session.options;
  holds : g.F.Folders.holds l.folders ≡ g.F.Folders.holds l.initial.folders;
  written : (c : Parts) → g.F.Folders.holds l.initial.folders ≡ Some c → AreWritten c l.link.out l.initial.session.entries l.initial.session.options.style l.link.folders (g.O.Outputs.puts l.initial.outputs) (g.O.Outputs.puts l.outputs) (g.L.Lines.printed l.initial.lines) (g.L.Lines.printed l.lines) l.place l.all_accepted;
  missing : (c : Parts) → g.F.Folders.holds l.initial.folders ≡ Some c → AreHeld c l.link.folders → g.F.Folders.missing l.folders ≡ g.F.Folders.missing l.initial.folders;
  read_faults : g.F.Folders.faults l.initial.folders ≤ g.F.Folders.faults l.folders;
  output_faults : g.O.Outputs.faults l.initial.outputs ≤ g.O.Outputs.faults l.outputs;
  line_faults : g.L.Lines.faults l.initial.lines ≤ g.L.Lines.faults l.lines;
}
