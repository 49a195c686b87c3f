-- A piece of a linked world is a class's own, the function of a method, a helper, or a function that tells receivers apart.
use Rattle.std.proofs.Common.{◌≡◌, ◌++◌, Bool, true, false, List, [], ◌∷◌, inl, inr, sym, subst, map, Contains, if◌then◌else◌}
use Rattle.std.specs.List.{flat_map}
use Rattle.std.proofs.lemmas.List.Elements.{All-contains, Contains-append_left, Contains-append_cases}
use Rattle.linked_folders.proofs.Blocks.{in_block}
use Rattle.linked_folders.proofs.EachTyped.{in_all}
use Rattle.linked_folders.proofs.Given.{all_from}
use Rattle.linked_folders.specs.Classes.{AreClassPieces, AreParts, absent, present}
use Rattle.linked_folders.specs.Dispatched.{OfDispatched}
use Rattle.linked_folders.specs.ToldPieces.{OfReflected}
use Rattle.linked_folders.specs.EmittedMethods.{EmittedMethod}
use Rattle.linked_folders.specs.Pieces.{piece_of_member, Block, IsBlock, AreBlocks, pieces_of_block, with_helpers, AreLinkedPieces}
use Rattle.sj_emit_help_spec.specs.Helpers.{helper_piece}
use Rattle.sj_emit_help_spec.specs.declared.kinds.Helper.{Helper}
use Rattle.js_tree.specs.Terms.{Name, Piece}
use Rattle.js_tree.specs.declared.items.Binding.{Binding}
use Rattle.linked_folders.proofs.Bodies.{once_in}
use Rattle.linked_folders.specs.SjEmitClassSpecPieces.{Parts, pieces}
use Rattle.sj_emit_expr_spec.specs.Uses.{once_each}
use Rattle.sj_names.specs.WellKnown.{is_object}
use Rattle.sj_split.proofs.Members.{cons_cases, from_map}
use Rattle.sj_world.specs.Linked.{Linked}
use Rattle.linked_folders.proofs.Forms.{in_one}
use Rattle.worklist.proofs.Inserted.{nothing_in}

-- what stands once each stood there before
pub from_once : (bs : List Binding) (b : Binding) → Contains (once_each [] bs) b → Contains bs b
from_once bs b i = All-contains (Contains bs) (once_each [] bs) b (once_in (Contains bs) [] bs (all_from (Contains bs) bs (λ x j. j))) i

module _ (l : Linked) (all : List EmittedMethod) (ps : List Piece) (p : AreLinkedPieces l all ps) where
  abbrev pub in_blocks : List Piece
  in_blocks = flat_map (pieces_of_block l.world) p.blocks

  abbrev its_helpers : List Piece
  its_helpers = map (helper_piece p.above) p.helpers

  abbrev behind : List Piece
  behind = its_helpers ++ p.told

  -- where a piece stands: among those of a class's own, which are all there, among the functions, among the helpers, or among the functions that tell receivers apart, of methods and of reflective names
  pub data Stands (q : Piece) : Type 0 where
    own : (c : Name) (parts : Parts) → AreParts l c parts → ((r : Piece) → Contains (pieces parts) r → Contains in_blocks r) → Contains (pieces parts) q → Stands q
    method : (e : EmittedMethod) → Contains all e → Contains in_blocks q → piece_of_member l.world e ≡ q → Stands q
    helps : (h : Helper) → Contains p.helpers h → helper_piece p.above h ≡ q → Stands q
    tells : Contains p.told q → OfDispatched l in_blocks q → Stands q
    names : Contains p.told q → OfReflected l in_blocks q → Stands q

  pub from_blocks : (q : Piece) → Contains in_blocks q → Contains ps q
  from_blocks q i =
      let o = in_one (pieces_of_block l.world) p.blocks q i in
      subst (λ (qs : List Piece). Contains qs q) (sym p.pieces_are) (in_all (with_helpers l.world behind) p.blocks o.item q o.among (in_block l.world behind o.item q o.within))

  find : (cs : List Name) (bs : List Block) → AreBlocks l all cs bs → (b : Block) → Contains bs b → (c : Name) × IsBlock l all c b
  find [] [] h b i = nothing_in b i
  find [] (d ∷ bs) h b i = absurd h
  find (c ∷ cs) [] h b i = absurd h
  find (c ∷ cs) (d ∷ bs) h b i = elim (cons_cases d b bs i) [
    | inl same ↦ (c, subst (λ (x : Block). IsBlock l all c x) same h.0)
    | inr later ↦ find cs bs h.1 b later
  ]

  of_own : (c : Name) (qs : List Piece) → AreClassPieces l c qs → ((r : Piece) → Contains qs r → Contains in_blocks r) → (q : Piece) → Contains qs q → Stands q
  of_own c qs (absent none is) there q i = nothing_in q (subst (λ (rs : List Piece). Contains rs q) is i)
  of_own c qs (present parts are is) there q i = own c parts are (λ r j. there r (subst (λ (rs : List Piece). Contains rs r) (sym is) j)) (subst (λ (rs : List Piece). Contains rs q) is i)

  of_block : (b : Block) → Contains p.blocks b → (q : Piece) → Contains (pieces_of_block l.world b) q → Stands q
  of_block b j q i = elim (Contains-append_cases b.own functions q i) [
    | inl k ↦ of_own its.0 b.own its.1.own (λ r m. there r (Contains-append_left b.own functions r m)) q k
    | inr k ↦ let m = from_map (piece_of_member l.world) b.methods q k in method m.item ((its.1.methods.exact m.item).0 m.among).0 (there q i) m.is
  ]
    where
      functions : List Piece
      functions = map (piece_of_member l.world) b.methods

      its : (c : Name) × IsBlock l all c b
      its = find p.classes p.blocks p.are_blocks b j

      there : (r : Piece) → Contains (pieces_of_block l.world b) r → Contains in_blocks r
      there r m = in_all (pieces_of_block l.world) p.blocks b r j m

  pub stands : (q : Piece) → Contains ps q → Stands q
  stands q i = let o = in_one (with_helpers l.world behind) p.blocks q (subst (λ (qs : List Piece). Contains qs q) p.pieces_are i) in go o.item o.among (is_object o.item.class) o.within
    where
      helping : Contains its_helpers q → Stands q
      helping j = let m = from_map (helper_piece p.above) p.helpers q j in helps m.item m.among m.is

      telling : Contains p.told q → Stands q
      telling k = elim (Contains-append_cases p.are_told.methods p.are_told.names q (subst (λ (qs : List Piece). Contains qs q) p.are_told.told_are k)) [
        | inl m ↦ tells k (p.are_told.are_methods.made q m)
        | inr m ↦ names k (p.are_told.are_names.made q m)
      ]

      standing : Contains behind q → Stands q
      standing j = elim (Contains-append_cases its_helpers p.told q j) [
        | inl k ↦ helping k
        | inr k ↦ telling k
      ]

      go : (b : Block) → Contains p.blocks b → (t : Bool) → Contains (if t then pieces_of_block l.world b ++ behind else pieces_of_block l.world b) q → Stands q
      go b j true k = elim (Contains-append_cases (pieces_of_block l.world b) behind q k) [
        | inl m ↦ of_block b j q m
        | inr m ↦ standing m
      ]
      go b j false k = of_block b j q k
