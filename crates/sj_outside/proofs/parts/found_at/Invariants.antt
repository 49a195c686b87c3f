use Rattle.std.proofs.Common.{◌≡◌, length, drop}
use Rattle.sj_outside.specs.Contents.{held_at, held_below, path_texts}
use Rattle.sj_outside.specs.View.{found_view, parts_view}
use Rattle.sj_outside.proofs.parts.found_at.Given as goal

abbrev pub invariant-loop-name : goal.invariant-loop-name
invariant-loop-name l = held_below (drop (length l.yielded) (path_texts l.path)) (found_view l.found) ≡ held_at (parts_view l.parts) l.path
