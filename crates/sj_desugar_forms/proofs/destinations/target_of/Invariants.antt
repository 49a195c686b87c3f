use Rattle.std.proofs.Common.{◌≡◌, drop, map}
use Rattle.sj_desugar_spec.specs.Desugar.{target_of}
use Rattle.sj_desugar_forms.specs.Views.{target_view}
use Rattle.sj_desugar_forms.proofs.destinations.target_of.Given as goal

abbrev pub invariant-loop-target : goal.invariant-loop-target
invariant-loop-target l = target_of (map target_view (drop l.target-index l.targets)) l.label ≡ target_of (map target_view l.targets) l.label
