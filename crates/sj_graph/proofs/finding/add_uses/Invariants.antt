use Rattle.std.proofs.Common.{◌≡◌, drop, map}
use Rattle.indexmap.specs.IndexSet.{insert_all}
use Rattle.sj_graph.specs.References.{reference_by, is_same_reference}
use Rattle.sj_graph.proofs.finding.add_uses.Given as goal

abbrev pub invariant-loop-binding : goal.invariant-loop-binding
invariant-loop-binding l = insert_all is_same_reference l.found.keys (map (reference_by l.owner) (drop l.binding-index l.uses)) ≡ insert_all is_same_reference l.fn.found.keys (map (reference_by l.owner) l.uses)
