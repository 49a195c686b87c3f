use denote.Shadow.{shadow}
use denote.Text.{Utf8}
use Rattle.std.proofs.Common.{◌≡◌, ◌≤◌, length}
use Rattle.sj_names.specs.References.{behind_dimensions}
use Rattle.sj_names.proofs.cuts.behind_dimensions.Given as goal

abbrev pub invariant-loop-rest : goal.invariant-loop-rest
invariant-loop-rest l = record { base_of_all : behind_dimensions l.base ≡ behind_dimensions l.text; shorter : length l.base ≤ length l.text; is_text : shadow (Utf8 l.base) }

abbrev pub decreases-loop-rest : goal.decreases-loop-rest
decreases-loop-rest l = length l.base
