use Rattle.std.proofs.Common.{◌≡◌, drop, map}
use Rattle.sj_desugar_spec.specs.Plain.{is_among}
use Rattle.sj_desugar_finalizers.proofs.walks.is_among.Given as goal

abbrev pub invariant-loop-each : goal.invariant-loop-each
invariant-loop-each l = is_among (map (λ x. x.now) (drop l.each-index l.labels)) l.label ≡ is_among (map (λ x. x.now) l.labels) l.label
