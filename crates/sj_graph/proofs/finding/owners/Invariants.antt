use Rattle.std.proofs.Common.{◌≡◌, [], drop, map}
use Rattle.indexmap.specs.IndexSet.{insert_all, IsUnique}
use Rattle.js_tree.specs.Views.{piece_view}
use Rattle.sj_graph.specs.References.{owner_of, is_same_name}
use Rattle.sj_graph.proofs.finding.owners.Given as goal

abbrev pub invariant-loop-piece : goal.invariant-loop-piece
invariant-loop-piece l = (insert_all is_same_name l.found.keys (map owner_of (map piece_view (drop l.piece-index l.pieces))) ≡ insert_all is_same_name [] (map owner_of (map piece_view l.pieces))) × IsUnique is_same_name l.found
