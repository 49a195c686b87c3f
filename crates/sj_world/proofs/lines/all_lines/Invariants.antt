use Rattle.std.proofs.Common.{take}
use Rattle.sj_world.proofs.Lined.{Lined}
use Rattle.sj_world.proofs.lines.all_lines.Given as goal

abbrev pub invariant-loop-name : goal.invariant-loop-name
invariant-loop-name l = Lined l.classes (take l.name-index l.names) l.lines
