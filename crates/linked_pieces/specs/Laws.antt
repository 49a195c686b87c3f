-- Laws of the pieces of a linked world.
use Rattle.std.specs.Prelude.{◌≡◌, ◌↔◌, List, None, Contains}
use Rattle.js_tree.specs.Terms.{Piece}
use Rattle.sj_local.specs.Broken.{FirstBroken}
use Rattle.agree_programs.specs.EmittedMethods.{EmittedMethod}
use Rattle.sj_trees.specs.declared.classes.ClassDef.{ClassDef}
use Rattle.sj_world.specs.Linked.{Linked}
use Rattle.sj_world.specs.declared.facts.Fact.{Fact}
use Rattle.linked_pieces.specs.Pieces.{AreLinkedPieces}
use Rattle.linked_pieces.specs.Reflected.{HasOneTarget}

-- two linked worlds have the same classes, the same facts in any order, and the same method entries
pub record AreAlike (l m : Linked) : Type 0 where
  pub world : l.world ≡ m.world
  pub facts : (f : Fact) → Contains l.facts f ↔ Contains m.facts f
  pub entries : l.entries ≡ m.entries

-- where each class keeps the local rules, and a reflective call reaches methods of one name, the pieces of the same methods are one list
abbrev pub LinkedPiecesAreOne : Type 0
LinkedPiecesAreOne = (l m : Linked) (all more : List EmittedMethod) (ps qs : List Piece)
    → ((c : ClassDef) → Contains l.world c → FirstBroken c None)
    → HasOneTarget l.world
    → AreAlike l m
    → ((e : EmittedMethod) → Contains all e ↔ Contains more e)
    → AreLinkedPieces l all ps
    → AreLinkedPieces m more qs
    → ps ≡ qs
