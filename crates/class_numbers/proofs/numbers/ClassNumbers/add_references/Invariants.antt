use Rattle.std.proofs.Common.{take}
use Rattle.class_numbers.specs.Numbering.{IsNumbering}
use Rattle.class_numbers.proofs.numbers.ClassNumbers.add_references.Given as goal

abbrev pub invariant-loop-reference : goal.invariant-loop-reference
invariant-loop-reference l = IsNumbering (take l.reference-index l.references) l.self
