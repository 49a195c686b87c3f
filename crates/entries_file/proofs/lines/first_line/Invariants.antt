use Rattle.std.proofs.Common.{◌≡◌, true, take, not}
use Rattle.std.specs.List.{list_all}
use Rattle.entries_file.specs.Lines.{is_line_feed}
use Rattle.entries_file.proofs.lines.first_line.Given as goal

abbrev pub invariant-loop-at : goal.invariant-loop-at
invariant-loop-at l = list_all (λ byte. not (is_line_feed byte)) (take l.at l.text) ≡ true
