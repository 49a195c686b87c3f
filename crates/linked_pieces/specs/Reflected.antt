-- The functions by which receivers are called under reflective names: which of them pieces use, and the pieces of these.
use Rattle.std.specs.Prelude.{◌≡◌, ◌++◌, List, Contains}
use Rattle.sj_emit_help_spec.specs.Words.{helper}
use Rattle.js_tree.specs.Terms.{Piece}
use Rattle.agree_programs.specs.Dispatch.{IsReflectivePiece, reflective_name}
use Rattle.agree_programs.specs.Entries.{IsReflective}
use Rattle.sj_names.specs.MethodNames.{IsMethodName}
use Rattle.sj_names.specs.declared.method_names.MethodName.{MethodName}
use Rattle.sj_trees.specs.declared.classes.MethodDef.{MethodDef}
use Rattle.sj_world.specs.Calls.{IsProxyTarget}
use Rattle.sj_world.specs.Known.{Name, Classes}
use Rattle.sj_world.specs.Linked.{Linked}
use Rattle.linked_pieces.specs.Dispatched.{HasLesserPiece, AreDispatchPieces}
use Rattle.linked_pieces.specs.Order.{AreInOrder}

-- a needed body calls by the name, and one of these pieces uses its function
pub record IsReflected (l : Linked) (ps : List Piece) (p : MethodName) : Type 0 where
  pub named : IsMethodName p
  pub called : IsReflective l.world l.facts p
  pub user : Piece
  pub among : Contains ps user
  pub uses : Contains user.uses (helper (reflective_name p))

-- the piece of the function of such a name
pub record OfReflected (l : Linked) (ps : List Piece) (piece : Piece) : Type 0 where
  pub method : MethodName
  pub reflected : IsReflected l ps method
  pub is_piece : IsReflectivePiece l.world l.facts method piece

-- the function of the name has its piece among these
pub record HasReflectivePiece (l : Linked) (told : List Piece) (p : MethodName) : Type 0 where
  pub piece : Piece
  pub among : Contains told piece
  pub is_piece : IsReflectivePiece l.world l.facts p piece

-- exactly the functions that are used have a piece, in the order of their names; none of them uses another
pub record AreReflectivePieces (l : Linked) (ps told : List Piece) : Type 0 where
  pub made : (p : Piece) → Contains told p → OfReflected l ps p
  pub each : (m : MethodName) → IsReflected l ps m → HasReflectivePiece l told m
  pub in_order : AreInOrder HasLesserPiece told

-- the functions that tell primitive receivers apart: of methods, and behind them of reflective names
pub record AreToldPieces (l : Linked) (ps told : List Piece) : Type 0 where
  pub methods : List Piece
  pub are_methods : AreDispatchPieces l ps methods
  pub names : List Piece
  pub are_names : AreReflectivePieces l ps names
  pub told_are : told ≡ methods ++ names

-- a reflective call on a class reaches methods of one name
abbrev pub HasOneTarget : Classes → Type 0
HasOneTarget w = (c : Name) (p : MethodName) (d e : MethodDef) (owner other : Name) → IsProxyTarget w c p d owner → IsProxyTarget w c p e other → d.name ≡ e.name
