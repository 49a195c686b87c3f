-- Where the pieces of a linked world stand: in the block of their class, and behind that of `java.lang.Object` the helpers and the functions that tell receivers apart.
use Rattle.std.proofs.Common.{◌≡◌, ◌⊎◌, ◌++◌, Bool, true, false, List, [], ◌∷◌, Option, Some, None, inl, inr, refl, sym, ap, subst, ◌∙◌, map, if◌then◌else◌}
use Rattle.std.specs.Prelude.{is_some}
use Rattle.std.specs.List.{Contains, flat_map}
use Rattle.std.proofs.lemmas.List.Elements.{Contains-append_left, Contains-append_right}
use Rattle.object_helpers.proofs.EachTyped.{in_all}
use Rattle.sj_emit_help_spec.specs.Helpers.{helper_piece}
use Rattle.sj_emit_help_spec.specs.declared.kinds.Helper.{Helper}
use Rattle.js_tree.specs.Terms.{Name, Piece}
use Rattle.object_helpers.specs.Pieces.{piece_of_member, Block, IsBlock, AreBlocks, pieces_of_block, with_helpers, AreLinkedPieces}
use Rattle.file_declarations.specs.Classes.{AreClassPieces, AreParts, absent, present}
use Rattle.file_declarations.specs.Pieces.{Parts, pieces}
use Rattle.sj_names.specs.WellKnown.{is_object, object}
use Rattle.object_helpers.specs.EmittedMethods.{EmittedMethod}
use Rattle.sj_split.proofs.Members.{at_first, further, cons_cases, into_map}
use Rattle.sj_trees.specs.declared.classes.ClassDef.{ClassDef}
use Rattle.sj_world.specs.Known.{Classes, class_of}
use Rattle.sj_world.specs.Linked.{Linked}
use Rattle.worklist.proofs.Inserted.{nothing_in}

pub in_block : (w : Classes) (hs : List Piece) (b : Block) (q : Piece) → Contains (pieces_of_block w b) q → Contains (with_helpers w hs b) q
in_block w hs b q i = go (is_object b.class)
  where
    go : (t : Bool) → Contains (if t then pieces_of_block w b ++ hs else pieces_of_block w b) q
    go true = Contains-append_left (pieces_of_block w b) hs q i
    go false = i

behind_object : (w : Classes) (hs : List Piece) (b : Block) (q : Piece) → is_object b.class ≡ true → Contains hs q → Contains (with_helpers w hs b) q
behind_object w hs b q e i = subst (λ (t : Bool). Contains (if t then pieces_of_block w b ++ hs else pieces_of_block w b) q) (sym e) (Contains-append_right (pieces_of_block w b) hs q i)

-- the parts of which the pieces of a class are made, where the world has it
pub record PartsOf (l : Linked) (c : Name) (qs : List Piece) : Type 0 where
  pub parts : Parts
  pub are : AreParts l c parts
  pub own : qs ≡ pieces parts

no_class : {A : Type 0} (o : Option ClassDef) (k : ClassDef) → o ≡ None → o ≡ Some k → A
no_class o k e f = let t : ◌≡◌ {A = Option ClassDef} None (Some k) = sym e ∙ f in absurd (cc)

pub parts_of : (l : Linked) (c : Name) (qs : List Piece) (k : ClassDef) → class_of l.world c ≡ Some k → AreClassPieces l c qs → PartsOf l c qs
parts_of l c qs k e (absent none is) = no_class (class_of l.world c) k none e
parts_of l c qs k e (present p are is) = record { parts = p; are = are; own = is }

module _ (l : Linked) (all : List EmittedMethod) where
  record Found (c : Name) (bs : List Block) : Type 0 where
    block : Block
    is_block : IsBlock l all c block
    among_blocks : Contains bs block

  found_further : (b : Block) (bs : List Block) (c : Name) → Found c bs → Found c (b ∷ bs)
  found_further b bs c f = record { block = f.block; is_block = f.is_block; among_blocks = further b f.block bs f.among_blocks }

  find_block : (cs : List Name) (bs : List Block) → AreBlocks l all cs bs → (c : Name) → Contains cs c → Found c bs
  find_block [] bs h c i = nothing_in c i
  find_block (d ∷ cs) [] h c i = absurd h
  find_block (d ∷ cs) (b ∷ bs) h c i = go (cons_cases d c cs i) (find_block cs bs h.1 c)
    where
      go : (d ≡ c) ⊎ Contains cs c → (Contains cs c → Found c bs) → Found c (b ∷ bs)
      go (inl e) rest = record { block = b; is_block = subst (λ (n : Name). IsBlock l all n b) e h.0; among_blocks = at_first b bs }
      go (inr j) rest = found_further b bs c (rest j)

  module _ (ps : List Piece) (p : AreLinkedPieces l all ps) where
    abbrev its_helpers : List Piece
    its_helpers = map (helper_piece p.above) p.helpers ++ p.told

    pub in_classes : (c : Name) (k : ClassDef) → class_of l.world c ≡ Some k → Contains p.classes c
    in_classes c k e = (p.are_classes.exact c).1 (ap is_some e)

    block_of : (c : Name) (k : ClassDef) → class_of l.world c ≡ Some k → Found c p.blocks
    block_of c k e = find_block p.classes p.blocks p.are_blocks c (in_classes c k e)

    whole : (b : Block) (q : Piece) → Contains p.blocks b → Contains (with_helpers l.world its_helpers b) q → Contains ps q
    whole b q i j = subst (λ (qs : List Piece). Contains qs q) (sym p.pieces_are) (in_all (with_helpers l.world its_helpers) p.blocks b q i j)

    -- the pieces of a class's own
    pub record OwnPieces (c : Name) : Type 0 where
      pub parts : Parts
      pub are : AreParts l c parts
      pub there : (q : Piece) → Contains (pieces parts) q → Contains ps q
      pub in_blocks : (q : Piece) → Contains (pieces parts) q → Contains (flat_map (pieces_of_block l.world) p.blocks) q

    pub own_pieces : (c : Name) (k : ClassDef) → class_of l.world c ≡ Some k → OwnPieces c
    own_pieces c k e =
        let f = block_of c k e in
        let r = parts_of l c f.block.own k e f.is_block.own in
        let in_its : (q : Piece) → Contains (pieces r.parts) q → Contains (pieces_of_block l.world f.block) q = λ q i. Contains-append_left f.block.own (map (piece_of_member l.world) f.block.methods) q (subst (λ (qs : List Piece). Contains qs q) (sym r.own) i) in
        record { parts = r.parts; are = r.are; there = λ q i. whole f.block q f.among_blocks (in_block l.world its_helpers f.block q (in_its q i)); in_blocks = λ q i. in_all (pieces_of_block l.world) p.blocks f.block q f.among_blocks (in_its q i) }

    pub method_there : (e : EmittedMethod) → Contains all e → (k : ClassDef) → class_of l.world e.member.class ≡ Some k → Contains ps (piece_of_member l.world e)
    method_there e i k found =
        let f = block_of e.member.class k found in
        let j : Contains f.block.methods e = (f.is_block.methods.exact e).1 (i, refl) in
        whole f.block (piece_of_member l.world e) f.among_blocks (in_block l.world its_helpers f.block (piece_of_member l.world e) (Contains-append_right f.block.own (map (piece_of_member l.world) f.block.methods) (piece_of_member l.world e) (into_map (piece_of_member l.world) f.block.methods e j)))

    pub method_in_blocks : (e : EmittedMethod) → Contains all e → (k : ClassDef) → class_of l.world e.member.class ≡ Some k → Contains (flat_map (pieces_of_block l.world) p.blocks) (piece_of_member l.world e)
    method_in_blocks e i k found =
        let f = block_of e.member.class k found in
        let j : Contains f.block.methods e = (f.is_block.methods.exact e).1 (i, refl) in
        in_all (pieces_of_block l.world) p.blocks f.block (piece_of_member l.world e) f.among_blocks (Contains-append_right f.block.own (map (piece_of_member l.world) f.block.methods) (piece_of_member l.world e) (into_map (piece_of_member l.world) f.block.methods e j))

    pub helper_there : (k : ClassDef) → class_of l.world object ≡ Some k → (h : Helper) → Contains p.helpers h → Contains ps (helper_piece p.above h)
    helper_there k found h i =
        let f = block_of object k found in
        whole f.block (helper_piece p.above h) f.among_blocks (behind_object l.world its_helpers f.block (helper_piece p.above h) (ap is_object f.is_block.class_is) (Contains-append_left (map (helper_piece p.above) p.helpers) p.told (helper_piece p.above h) (into_map (helper_piece p.above) p.helpers h i)))

    pub told_there : (k : ClassDef) → class_of l.world object ≡ Some k → (q : Piece) → Contains p.told q → Contains ps q
    told_there k found q i =
        let f = block_of object k found in
        whole f.block q f.among_blocks (behind_object l.world its_helpers f.block q (ap is_object f.is_block.class_is) (Contains-append_right (map (helper_piece p.above) p.helpers) p.told q i))
