use Rattle.class_numbers.specs.Numbering.{IsNumbering}
use Rattle.sj_split.specs.Walks.{References}
use Rattle.sj_split.specs.Homes.{class_of}
use Rattle.sj_split.specs.Steps.{IsLeastHome}
use Rattle.sj_split.proofs.Settles.{Gathering}
use Rattle.sj_split.proofs.settling.homes_by_components.Given as goal

abbrev pub invariant-loop-class : goal.invariant-loop-class
invariant-loop-class l = Gathering class_of (λ one. (references : References) → IsNumbering references l.numbers → IsLeastHome references one) l.classes l.class-index l.homes.items
