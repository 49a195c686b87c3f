-- The pieces of a linked world in the order of a module: of each class its own and the functions of its methods, and behind those of `java.lang.Object` the helpers and the functions that tell
-- primitive receivers apart.
use Rattle.std.specs.Prelude.{◌≡◌, ◌↔◌, List, [], ◌∷◌, ◌++◌, Contains, map, if◌then◌else◌}
use Rattle.std.specs.List.{flat_map}
use Rattle.agree_programs.specs.Targets.{lookup_in}
use Rattle.sj_emit_help_spec.specs.Helpers.{Above, helper_name, helper_piece, used_helpers}
use Rattle.sj_emit_help_spec.specs.Words.{helper, kind_class}
use Rattle.sj_emit_help_spec.specs.declared.kinds.Helper.{Helper}
use Rattle.sj_emit_help_spec.specs.declared.kinds.Kind.{Kind}
use Rattle.js_tree.specs.Terms.{Piece}
use Rattle.agree_programs.specs.Classes.{AreClassPieces}
use Rattle.agree_local_rules.specs.Desugar.{desugared_member}
use Rattle.agree_local_rules.specs.Members.{member_piece}
use Rattle.sj_names.specs.WellKnown.{is_object}
use Rattle.agree_programs.specs.EmittedMethods.{EmittedMethod}
use Rattle.sj_split.specs.Orders.{IsBefore}
use Rattle.sj_world.specs.Known.{Name, Classes}
use Rattle.sj_world.specs.Linked.{Linked}
use Rattle.sj_world.specs.Tables.{AreAncestors}
use Rattle.linked_pieces.specs.Reflected.{AreToldPieces}
use Rattle.linked_pieces.specs.Order.{AreInOrder, AreClasses, AreMethodsOf}

-- the piece of a method, whose calls run the targets of a world
abbrev pub piece_of_member : Classes → EmittedMethod → Piece
piece_of_member w e = member_piece (lookup_in w) e.member (desugared_member e.definition e.its_body)

-- a class with its own pieces and the methods of which it has functions
pub record Block : Type 0 where
  pub class : Name
  pub own : List Piece
  pub methods : List EmittedMethod

abbrev pub pieces_of_block : Classes → Block → List Piece
pieces_of_block w b = b.own ++ map (piece_of_member w) b.methods

pub record IsBlock (l : Linked) (all : List EmittedMethod) (c : Name) (b : Block) : Type 0 where
  pub class_is : b.class ≡ c
  pub own : AreClassPieces l c b.own
  pub methods : AreMethodsOf all c b.methods

-- a block for each class
abbrev pub AreBlocks : Linked → List EmittedMethod → List Name → List Block → Type 0
AreBlocks l all [] [] = Unit {0}
AreBlocks l all (c ∷ cs) (b ∷ bs) = IsBlock l all c b × AreBlocks l all cs bs
AreBlocks l all _ _ = ⊥

-- one of these pieces uses the helper, or a helper that is used does
pub data IsUsed (ps : List Piece) : Helper → Type 0 where
  by_piece : (p : Piece) (h : Helper) → Contains ps p → Contains p.uses (helper (helper_name h)) → IsUsed ps h
  by_helper : (g h : Helper) → IsUsed ps g → Contains (used_helpers g) h → IsUsed ps h

abbrev pub HasLesserWord : Helper → Helper → Type 0
HasLesserWord a b = IsBefore (helper_name a) (helper_name b)

-- exactly the helpers that are used, in the order of their names
pub record AreHelpers (ps : List Piece) (hs : List Helper) : Type 0 where
  pub exact : (h : Helper) → Contains hs h ↔ IsUsed ps h
  pub in_order : AreInOrder HasLesserWord hs

-- the classes above the class of each kind
abbrev pub AreAbove : Classes → Above → Type 0
AreAbove w above = (k : Kind) → AreAncestors w (kind_class k) (above k)

-- `java.lang.Object` has the helpers behind its own pieces
abbrev pub with_helpers : Classes → List Piece → Block → List Piece
with_helpers w helpers b = if is_object b.class then pieces_of_block w b ++ helpers else pieces_of_block w b

-- the pieces of a linked world, with functions of these methods: the names of helpers begin with `$`, and those of the functions that tell receivers apart with `d`, and with `r` for a reflective
-- name, so all together stand in the order of their names
pub record AreLinkedPieces (l : Linked) (all : List EmittedMethod) (ps : List Piece) : Type 0 where
  pub classes : List Name
  pub are_classes : AreClasses l.world classes
  pub blocks : List Block
  pub are_blocks : AreBlocks l all classes blocks
  pub told : List Piece
  pub are_told : AreToldPieces l (flat_map (pieces_of_block l.world) blocks) told
  pub helpers : List Helper
  pub are_helpers : AreHelpers (flat_map (pieces_of_block l.world) blocks ++ told) helpers
  pub above : Above
  pub are_above : AreAbove l.world above
  pub pieces_are : ps ≡ flat_map (with_helpers l.world (map (helper_piece above) helpers ++ told)) blocks
