use Rattle.std.proofs.Common.{◌≡◌, ◌∷◌, ◌++◌, drop, map}
use Rattle.sj_desugar_finalizers.proofs.walks.with_inner.Given as goal

abbrev pub invariant-loop-each : goal.invariant-loop-each
invariant-loop-each l = map (λ x. x.now) l.labels.items ++ map (λ x. x.now) (drop l.each-index l.inner) ≡ l.label ∷ map (λ x. x.now) l.inner
