use Rattle.number_graphs.specs.Graphs.{At}
use Rattle.std.proofs.Common.{◌≡◌, ℕ, ◌+◌, length}
use Rattle.std.specs.Prelude.{◌↔◌}
use Rattle.number_graphs.specs.declared.paths.Found.TheVariants.{OnPath}
use Rattle.number_graphs.specs.Searching.{AreMarked}
use Rattle.number_graphs.proofs.paths.mark.Given as goal

abbrev pub invariant-loop-member : goal.invariant-loop-member
invariant-loop-member l = record {
  same_length : length l.found ≡ length l.fn.found;
  marked : (from : ℕ) → ((place number : ℕ) → At l.fn.found number (OnPath (from + place)) ↔ At l.members place number) → AreMarked l.component from (from + l.member-index) l.fn.found l.found;
}
