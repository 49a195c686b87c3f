use Rattle.std.proofs.Common.{◌≡◌, drop}
use Rattle.sj_desugar_spec.specs.Plain.{are_plain}
use Rattle.sj_desugar_facts.proofs.plain.+plain.Given as goal
use Rattle.sj_trees.specs.View.{terms_view}

abbrev pub invariant-are_plain-loop-each : goal.invariant-are_plain-loop-each
invariant-are_plain-loop-each l = are_plain (terms_view (drop l.each-index l.trees)) ≡ are_plain (terms_view l.trees)
