use Rattle.std.proofs.Common.{◌≡◌, [], drop, map}
use Rattle.std.specs.List.{flat_map}
use Rattle.indexmap.specs.IndexSet.{insert_all, IsUnique}
use Rattle.js_tree.specs.Views.{piece_view}
use Rattle.sj_graph.specs.References.{piece_references, is_same_reference}
use Rattle.sj_graph.proofs.finding.references.Given as goal

abbrev pub invariant-loop-piece : goal.invariant-loop-piece
invariant-loop-piece l = (insert_all is_same_reference l.found.keys (flat_map piece_references (map piece_view (drop l.piece-index l.pieces))) ≡ insert_all is_same_reference [] (flat_map piece_references (map piece_view l.pieces))) × IsUnique is_same_reference l.found
