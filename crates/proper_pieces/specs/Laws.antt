-- Laws of the early errors of the pieces of a linked world.
use Rattle.std.specs.Prelude.{◌≡◌, true, List, None, Contains, IsTrue, map}
use Rattle.sj_emit_help_spec.specs.Helpers.{Above, helper_piece}
use Rattle.sj_emit_help_spec.specs.declared.kinds.Helper.{Helper}
use Rattle.js_mean.specs.Proper.{are_distinct, is_proper_item, item_names, is_proper_module}
use Rattle.js_tree.specs.Terms.{Name, Piece}
use Rattle.linked_pieces.specs.Dispatch.{Told, dispatch_piece, Reflected, reflective_piece}
use Rattle.linked_pieces.specs.Pieces.{piece_of_member, AreLinkedPieces}
use Rattle.linked_pieces.specs.SjEmitClassSpecPieces.{Parts, pieces}
use Rattle.proper_pieces.specs.Modules.{item_of, module_of}
use Rattle.sj_local.specs.Broken.{FirstBroken}
use Rattle.sj_names.specs.Grammar.{is_class_name}
use Rattle.sj_names.specs.declared.entry_points.EntryPoint.{EntryPoint}
use Rattle.sj_names.specs.declared.method_names.MethodName.{MethodName}
use Rattle.linked_pieces.specs.EmittedMethods.{EmittedMethod}
use Rattle.linked_pieces.specs.Once.{DefinesOnce}
use Rattle.sj_trees.specs.declared.classes.ClassDef.{ClassDef}
use Rattle.sj_world.specs.Known.{Classes}
use Rattle.sj_world.specs.Linked.{Linked}

-- of any class, any helper, any function that tells receivers apart, by a method or by a reflective name, and any method whose locals are defined once
pub record PiecesAreProper : Type 0 where
  pub of_classes : (p : Parts) (q : Piece) → Contains (pieces p) q → is_proper_item q.item ≡ true
  pub of_helpers : (above : Above) (h : Helper) → is_proper_item (helper_piece above h).item ≡ true
  pub of_dispatch : (m : MethodName) (ts : List Told) → is_proper_item (dispatch_piece m ts).item ≡ true
  pub of_reflective : (m : MethodName) (ts : List Reflected) → is_proper_item (reflective_piece m ts).item ≡ true
  pub of_methods : (w : Classes) (e : EmittedMethod) → DefinesOnce e.definition e.its_body → is_proper_item (piece_of_member w e).item ≡ true

-- each class of the world keeps the local rules, and its name is in the grammar
pub record AreNamed (w : Classes) : Type 0 where
  pub kept : (c : ClassDef) → Contains w c → FirstBroken c None
  pub class_names : (c : ClassDef) → Contains w c → IsTrue (is_class_name c.name)

abbrev pub NamesOfPiecesDiffer : Type 0
NamesOfPiecesDiffer = (l : Linked) (all : List EmittedMethod) (ps : List Piece)
    → AreNamed l.world
    → AreLinkedPieces l all ps
    → are_distinct (item_names (map item_of ps)) ≡ true

abbrev pub ModulesOfPiecesAreProper : Type 0
ModulesOfPiecesAreProper = (l : Linked) (all : List EmittedMethod) (ps : List Piece) (written : List Name) (es : List EntryPoint)
    → AreNamed l.world
    → ((e : EmittedMethod) → Contains all e → DefinesOnce e.definition e.its_body)
    → AreLinkedPieces l all ps
    → is_proper_module (module_of written ps es) ≡ true
