use Rattle.std.proofs.Common.{◌≡◌, ◌∷◌, ◌++◌, drop}
use Rattle.sj_desugar_forms.proofs.destinations.with_label.Given as goal

abbrev pub invariant-loop-target : goal.invariant-loop-target
invariant-loop-target l = l.inner.items ++ drop l.target-index l.targets ≡ (record { label = l.label; goes_to = l.goes_to }) ∷ l.targets
