-- The functions that tell primitive receivers apart: which of them pieces use, and the pieces of these.
use Rattle.std.specs.Prelude.{List, Contains}
use Rattle.sj_emit_help_spec.specs.Words.{helper}
use Rattle.js_tree.specs.Terms.{Piece}
use Rattle.agree_programs.specs.Dispatch.{IsDispatchPiece, dispatch_name}
use Rattle.sj_names.specs.MethodNames.{IsMethodName}
use Rattle.sj_names.specs.declared.method_names.MethodName.{MethodName}
use Rattle.sj_split.specs.Orders.{IsBefore}
use Rattle.sj_world.specs.Known.{Name}
use Rattle.sj_world.specs.Linked.{Linked}
use Rattle.sj_world.specs.declared.facts.Fact.TheVariants.{Called}
use Rattle.linked_pieces.specs.Order.{AreInOrder}

-- the method is called on receivers of a class, and one of these pieces uses its function
pub record IsDispatched (l : Linked) (ps : List Piece) (m : MethodName) : Type 0 where
  pub named : IsMethodName m
  pub receiver : Name
  pub called : Contains l.facts (Called receiver m)
  pub user : Piece
  pub among : Contains ps user
  pub uses : Contains user.uses (helper (dispatch_name m))

-- the piece of the function of such a method
pub record OfDispatched (l : Linked) (ps : List Piece) (piece : Piece) : Type 0 where
  pub method : MethodName
  pub dispatched : IsDispatched l ps method
  pub is_piece : IsDispatchPiece l.world l.facts method piece

-- the function of the method has its piece among these
pub record HasDispatchPiece (l : Linked) (told : List Piece) (m : MethodName) : Type 0 where
  pub piece : Piece
  pub among : Contains told piece
  pub is_piece : IsDispatchPiece l.world l.facts m piece

abbrev pub HasLesserPiece : Piece → Piece → Type 0
HasLesserPiece p q = IsBefore p.name q.name

-- exactly the functions that are used have a piece, in the order of their names; none of them uses another
pub record AreDispatchPieces (l : Linked) (ps told : List Piece) : Type 0 where
  pub made : (p : Piece) → Contains told p → OfDispatched l ps p
  pub each : (m : MethodName) → IsDispatched l ps m → HasDispatchPiece l told m
  pub in_order : AreInOrder HasLesserPiece told
