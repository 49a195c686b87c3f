-- A module of the pieces that some classes own has no early error.
use Rattle.std.proofs.Common.{◌≡◌, ◌⊎◌, ◌++◌, ◌&&◌, Bool, true, false, List, [], ◌∷◌, inl, inr, sym, ap, subst, ◌∙◌, map, cond, Contains, if◌then◌else◌}
use Rattle.std.specs.List.{filter, list_all, flat_map}
use Rattle.std.proofs.lemmas.List.Elements.{Contains-append_cases}
use Rattle.sj_emit_help_spec.specs.Helpers.{Above, helper_piece}
use Rattle.sj_emit_help_spec.specs.declared.kinds.Helper.{Helper}
use Rattle.js_mean.specs.Proper.{are_distinct, is_proper_item, item_names}
use Rattle.js_tree.specs.Terms.{Name, Piece}
use Rattle.linked_pieces.specs.Dispatched.{AreDispatchPieces}
use Rattle.linked_pieces.specs.Reflected.{AreReflectivePieces, AreToldPieces}
use Rattle.linked_pieces.specs.Order.{AreInOrder}
use Rattle.linked_pieces.specs.Pieces.{piece_of_member, Block, IsBlock, AreBlocks, pieces_of_block, with_helpers, AreLinkedPieces}
use Rattle.linked_pieces.specs.Classes.{AreClassPieces, absent, present}
use Rattle.proper_pieces.specs.Laws.{ModulesOfPiecesAreProper}
use Rattle.proper_pieces.specs.Modules.{item_of, is_owned}
use Rattle.sj_names.specs.WellKnown.{is_object}
use Rattle.sj_names.specs.declared.entry_points.EntryPoint.{EntryPoint}
use Rattle.linked_pieces.proofs.Modules.{calls_proper, calls_named}
use Rattle.linked_pieces.specs.EmittedMethods.{EmittedMethod}
use Rattle.linked_pieces.specs.Emitted.{call_item_of}
use Rattle.linked_pieces.specs.Once.{DefinesOnce}
use Rattle.sj_split.proofs.Members.{at_first, further, from_map, from_filter}
use Rattle.sj_world.specs.Linked.{Linked}
use Rattle.worklist.proofs.Inserted.{nothing_in}
use Rattle.proper_pieces.proofs.Apart.{both, told_apart}
use Rattle.proper_pieces.proofs.Items.{pieces_are_proper}
use Rattle.proper_pieces.proofs.Linked.{linked_differ, names_distinct}
use Rattle.proper_pieces.proofs.Parts.{HaveOwnNames, DeclaresItself}

-- a part of a list in an order
order_filtered : {A : Type 0} (R : A → A → Type 0) (test : A → Bool) (xs : List A) → AreInOrder R xs → AreInOrder R (filter test xs)
order_filtered R test [] h = tt
order_filtered {A} R test (x ∷ xs) h = go (test x) (order_filtered R test xs h.1)
  where
    go : (b : Bool) → AreInOrder R (filter test xs) → AreInOrder R (cond b (x ∷ filter test xs) (filter test xs))
    go true rest = ((λ y i. h.0 y (from_filter test xs y i).among), rest)
    go false rest = rest

abbrev name_of : Piece → Name
name_of p = p.name

items_named : (ps : List Piece) (es : List EntryPoint) → ((p : Piece) → Contains ps p → DeclaresItself p) → item_names (map item_of ps ++ map call_item_of es) ≡ map name_of ps
items_named [] es h = calls_named es
items_named (p ∷ ps) es h = h p (at_first p ps) (map item_of ps ++ map call_item_of es) ∙ ap (λ (ns : List Name). p.name ∷ ns) (items_named ps es (λ q i. h q (further p q ps i)))

items_proper : (ps : List Piece) (es : List EntryPoint) → ((p : Piece) → Contains ps p → is_proper_item p.item ≡ true) → list_all is_proper_item (map item_of ps ++ map call_item_of es) ≡ true
items_proper [] es h = calls_proper es
items_proper (p ∷ ps) es h = both (is_proper_item p.item) (list_all is_proper_item (map item_of ps ++ map call_item_of es)) (h p (at_first p ps)) (items_proper ps es (λ q i. h q (further p q ps i)))

module _ (l : Linked) (all : List EmittedMethod) (once : (e : EmittedMethod) → Contains all e → DefinesOnce e.definition e.its_body) where
  abbrev EachProper : List Piece → Type 0
  EachProper ps = (p : Piece) → Contains ps p → is_proper_item p.item ≡ true

  joined_proper : (ps qs : List Piece) → EachProper ps → EachProper qs → EachProper (ps ++ qs)
  joined_proper ps qs h k p i = go (Contains-append_cases ps qs p i)
    where
      go : Contains ps p ⊎ Contains qs p → is_proper_item p.item ≡ true
      go (inl j) = h p j
      go (inr j) = k p j

  own_proper : (c : Name) (ps : List Piece) → AreClassPieces l c ps → EachProper ps
  own_proper c ps (absent e is) = subst EachProper (sym is) (λ p i. nothing_in p i)
  own_proper c ps (present p parts is) = subst EachProper (sym is) (pieces_are_proper.of_classes p)

  block_proper : (c : Name) (b : Block) → IsBlock l all c b → EachProper (pieces_of_block l.world b)
  block_proper c b h = joined_proper b.own (map (piece_of_member l.world) b.methods) (own_proper c b.own h.own) methods
    where
      methods : EachProper (map (piece_of_member l.world) b.methods)
      methods p i = let m = from_map (piece_of_member l.world) b.methods p i in subst (λ (q : Piece). is_proper_item q.item ≡ true) m.is (pieces_are_proper.of_methods l.world m.item (once m.item ((h.methods.exact m.item).0 m.among).0))

  helpers_proper : (above : Above) (hs : List Helper) → EachProper (map (helper_piece above) hs)
  helpers_proper above hs p i = let m = from_map (helper_piece above) hs p i in subst (λ (q : Piece). is_proper_item q.item ≡ true) m.is (pieces_are_proper.of_helpers above m.item)

  dispatch_proper : (qs told : List Piece) → AreDispatchPieces l qs told → EachProper told
  dispatch_proper qs told h p i = let d = h.made p i in subst (λ (q : Piece). is_proper_item q.item ≡ true) (sym d.is_piece.piece_is) (pieces_are_proper.of_dispatch d.method d.is_piece.cases)

  reflective_proper : (qs told : List Piece) → AreReflectivePieces l qs told → EachProper told
  reflective_proper qs told h p i = let d = h.made p i in subst (λ (q : Piece). is_proper_item q.item ≡ true) (sym d.is_piece.piece_is) (pieces_are_proper.of_reflective d.method d.is_piece.cases)

  told_proper : (qs told : List Piece) → AreToldPieces l qs told → EachProper told
  told_proper qs told h = subst EachProper (sym h.told_are) (joined_proper h.methods h.names (dispatch_proper qs h.methods h.are_methods) (reflective_proper qs h.names h.are_names))

  module _ (behind : List Piece) (proper : EachProper behind) where
    whole_proper : (c : Name) (b : Block) → IsBlock l all c b → EachProper (with_helpers l.world behind b)
    whole_proper c b h = go (is_object b.class)
      where
        go : (t : Bool) → EachProper (if t then pieces_of_block l.world b ++ behind else pieces_of_block l.world b)
        go true = joined_proper (pieces_of_block l.world b) behind (block_proper c b h) proper
        go false = block_proper c b h

    blocks_proper : (cs : List Name) (bs : List Block) → AreBlocks l all cs bs → EachProper (flat_map (with_helpers l.world behind) bs)
    blocks_proper [] [] h = λ p i. nothing_in p i
    blocks_proper [] (b ∷ bs) h = absurd h
    blocks_proper (c ∷ cs) [] h = absurd h
    blocks_proper (c ∷ cs) (b ∷ bs) h = joined_proper (with_helpers l.world behind b) (flat_map (with_helpers l.world behind) bs) (whole_proper c b h.0) (blocks_proper cs bs h.1)

  linked_proper : (ps : List Piece) → AreLinkedPieces l all ps → EachProper ps
  linked_proper ps h =
      let helpers = map (helper_piece h.above) h.helpers in
      subst EachProper (sym h.pieces_are) (blocks_proper (helpers ++ h.told) (joined_proper helpers h.told (helpers_proper h.above h.helpers) (told_proper (flat_map (pieces_of_block l.world) h.blocks) h.told h.are_told)) h.classes h.blocks h.are_blocks)

pub modules_of_pieces_are_proper : ModulesOfPiecesAreProper
modules_of_pieces_are_proper l all ps written es named once h = both (names && true && true) (list_all is_proper_item (map item_of owned ++ map call_item_of es)) (ap (λ b. b && true && true) distinct) (items_proper owned es (λ p i. linked_proper l all once ps h p (from_filter (is_owned written) ps p i).among))
  where
    owned : List Piece
    owned = filter (is_owned written) ps

    names : Bool
    names = are_distinct (item_names (map item_of owned ++ map call_item_of es))

    known : AreInOrder HaveOwnNames ps × ((p : Piece) → Contains ps p → DeclaresItself p)
    known = linked_differ l all named ps h

    distinct : names ≡ true
    distinct = ap are_distinct (items_named owned es (λ p i. known.1 p (from_filter (is_owned written) ps p i).among)) ∙ told_apart (map name_of owned) (names_distinct owned (order_filtered HaveOwnNames (is_owned written) ps known.0))
