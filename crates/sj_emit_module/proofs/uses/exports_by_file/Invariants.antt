use Rattle.std.proofs.Common.{map, take}
use Rattle.std.specs.List.{flat_map}
use Rattle.js_tree.specs.Views.{piece_view}
use Rattle.sj_emit_module.specs.Files.{file_in}
use Rattle.sj_emit_module.specs.Groups.{HoldNames}
use Rattle.sj_emit_module.specs.Shares.{crossing}
use Rattle.sj_emit_module.proofs.uses.exports_by_file.Given as goal

abbrev pub invariant-loop-piece : goal.invariant-loop-piece
invariant-loop-piece l = HoldNames (file_in l.files) (flat_map (crossing (file_in l.files)) (map piece_view (take l.piece-index l.pieces))) l.groups
