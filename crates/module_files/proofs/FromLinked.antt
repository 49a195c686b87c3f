-- The pieces of a linked world are proper.
use Rattle.std.proofs.Common.{◌≡◌, ◌++◌, ◌||◌, true, false, List, [], ◌∷◌, Contains, ap, map}
use Rattle.std.specs.Prelude.{filter}
use Rattle.std.specs.List.{list_all}
use Rattle.std.proofs.lemmas.List.Elements.{Contains-append_left}
use Rattle.std.proofs.lemmas.Bool.{and_parts}
use Rattle.js_mean.specs.Proper.{is_proper_item}
use Rattle.js_tree.specs.Terms.{Item, Piece}
use Rattle.proper_pieces.specs.EmittedMethods.{EmittedMethod}
use Rattle.proper_pieces.specs.Emitted.{call_item_of}
use Rattle.proper_pieces.specs.Once.{DefinesOnce}
use Rattle.proper_pieces.specs.Pieces.{AreLinkedPieces}
use Rattle.proper_pieces.proofs.Apart.{told_apart}
use Rattle.proper_pieces.proofs.Linked.{linked_differ, names_distinct}
use Rattle.proper_pieces.proofs.Modules.{modules_of_pieces_are_proper}
use Rattle.proper_pieces.specs.Laws.{AreNamed}
use Rattle.proper_pieces.specs.Modules.{item_of, is_owned}
use Rattle.sj_names.proofs.Same.{text-refl}
use Rattle.sj_split.proofs.Ids.{each_passes}
use Rattle.sj_split.proofs.Members.{into_map, into_filter}
use Rattle.sj_world.specs.Linked.{Linked}
use Rattle.module_files.specs.Files.{piece_name}
use Rattle.module_files.specs.Laws.{LinkedPiecesAreProper}

module _ (l : Linked) (all : List EmittedMethod) (ps : List Piece) (named : AreNamed l.world) (once : (e : EmittedMethod) → Contains all e → DefinesOnce e.definition e.its_body) (are : AreLinkedPieces l all ps) where
  item_proper : (p : Piece) → Contains ps p → is_proper_item p.item ≡ true
  item_proper p h =
      let owned = filter (is_owned (p.owner ∷ [])) ps in
      let items : List Item = map item_of owned ++ map call_item_of [] in
      let proper = (and_parts _ (list_all is_proper_item items) (modules_of_pieces_are_proper l all ps (p.owner ∷ []) [] named once are)).1 in
      each_passes is_proper_item items p.item proper (Contains-append_left (map item_of owned) (map call_item_of []) p.item (into_map item_of owned p (into_filter (is_owned (p.owner ∷ [])) ps p h owned_itself)))
    where
      owned_itself : is_owned (p.owner ∷ []) p ≡ true
      owned_itself = ap (λ b. b || false) (text-refl p.owner)

pub linked_pieces_are_proper : LinkedPiecesAreProper
linked_pieces_are_proper l all ps modules named once are closed =
    let known = linked_differ l all named ps are in
    record {
      together = record { closed = closed; names = told_apart (map piece_name ps) (names_distinct ps known.0) };
      declare = known.1;
      proper = item_proper l all ps named once are;
    }
