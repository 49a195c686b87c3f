use Rattle.std.proofs.Common.{◌≡◌, map, take}
use Rattle.std.specs.Prelude.{filter}
use Rattle.std.specs.List.{flat_map}
use Rattle.js_tree.specs.Views.{piece_view}
use Rattle.sj_emit_module_spec.specs.Modules.{is_owned_in, uses_of}
use Rattle.sj_emit_module.specs.Files.{file_in}
use Rattle.sj_emit_module.specs.Lists.{items_at}
use Rattle.sj_split.specs.Orders.{Bytes}
use Rattle.sj_emit_module.proofs.uses.uses_by_file.Given as goal

abbrev pub invariant-loop-piece : goal.invariant-loop-piece
invariant-loop-piece l = (f : Bytes) → items_at l.lists f ≡ flat_map uses_of (filter (is_owned_in (file_in l.files) f) (map piece_view (take l.piece-index l.pieces)))
