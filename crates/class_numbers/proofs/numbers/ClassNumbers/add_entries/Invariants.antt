use Rattle.std.proofs.Common.{take, map, List, Contains}
use Rattle.sj_graph.specs.declared.graphs.Reference.{Reference}
use Rattle.class_numbers.specs.Numbering.{IsNumbering, Name, class_of}
use Rattle.class_numbers.proofs.numbers.ClassNumbers.add_entries.Given as goal

abbrev pub invariant-loop-entry : goal.invariant-loop-entry
invariant-loop-entry l = record {
  numbered : (references : List Reference) → IsNumbering references l.fn.self → IsNumbering references l.self;
  entries : (class : Name) → Contains (map class_of (take l.entry-index l.entries)) class → Contains l.self.classes.keys class;
}
