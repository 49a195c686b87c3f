use Rattle.std.proofs.Common.{◌≡◌, List, Contains, take, map}
use Rattle.std.specs.List.{filter}
use Rattle.js_tree.specs.declared.items.JsPiece.{JsPiece}
use Rattle.sj_world.specs.Known.{Name}
use Rattle.world_pieces.specs.Blocks.{AreMade}
use Rattle.world_pieces.specs.Functions.{group_of, is_owned}
use Rattle.world_pieces.specs.Places.{name_of}
use Rattle.world_pieces.proofs.blocks.blocks_with.Given as goal

abbrev pub invariant-loop-class : goal.invariant-loop-class
invariant-loop-class l = record {
  made : (functions : List JsPiece) → ((c : Name) → group_of l.fn.groups c ≡ filter (is_owned c) functions) → AreMade l.linked functions (take l.class-index (map name_of l.classes)) l.blocks.items;
  left : (c : Name) → (Contains (take l.class-index (map name_of l.classes)) c → ⊥) → group_of l.groups c ≡ group_of l.fn.groups c;
}
