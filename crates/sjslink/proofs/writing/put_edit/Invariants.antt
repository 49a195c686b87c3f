use Rattle.std.proofs.Common.{◌≤◌, map, take}
use Rattle.sj_outside.specs.Writing.{Appends}
use Rattle.sj_session.specs.Modules.{as_file}
use Rattle.sjslink.specs.Puts.{put_of}
use Rattle.sjslink.proofs.writing.put_edit.Given as goal

-- the first files were put
abbrev pub invariant-loop-file : goal.invariant-loop-file
invariant-loop-file g l = record {
  put : Appends (g.O.Outputs.puts l.initial.outputs) (g.O.Outputs.puts l.outputs) (map (put_of l.out l.number) (map as_file (take l.file-index l.files)));
  faults : g.O.Outputs.faults l.initial.outputs ≤ g.O.Outputs.faults l.outputs;
}
