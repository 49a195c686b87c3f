use Rattle.std.proofs.Common.{◌≡◌, ◌++◌, drop}
use Rattle.sj_world.specs.Known.{names_of}
use Rattle.sj_world.proofs.lines.known_names.Given as goal

abbrev pub invariant-loop-class : goal.invariant-loop-class
invariant-loop-class l = l.names.items ++ names_of (drop l.class-index l.classes) ≡ names_of l.classes
