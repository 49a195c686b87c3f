-- Pieces that are put, one list behind another: which they are, and that they keep the rules of printing.
use Rattle.std.proofs.Common.{◌≡◌, ◌∙◌, ◌+◌, ◌≤◌, ◌<◌, ℕ, List, [], ◌∷◌, ◌++◌, Some, ap, append_assoc, get_or, length, map, slice_get, subst, sym, take}
use Rattle.std.specs.List.{flat_map}
use Rattle.std.specs.Prelude.{All, option_map}
use Rattle.std.proofs.lemmas.Grind.{flat_map-append}
use Rattle.std.proofs.lemmas.List.{append-nil, length-map, map-append, take_all, take_more}
use Rattle.std.proofs.lemmas.List.Elements.{All-append, All-cons, All-contains, All-nil, Contains-append_left, Contains-append_right}
use Rattle.std.proofs.lemmas.Option.{get_or_from_slice_get, slice_get-map, slice_get_within}
use Rattle.sj_emit_help_spec.specs.Helpers.{Above, helper_piece}
use Rattle.sj_emit_help_spec.specs.declared.kinds.Helper.{Helper}
use Rattle.js_tree.specs.Rules.{IsPiece}
use Rattle.js_tree.specs.Terms.{Piece}
use Rattle.js_tree.specs.Views.{piece_view}
use Rattle.js_tree.specs.declared.items.JsPiece.{JsPiece}
use Rattle.world_pieces.specs.declared.blocks.Block.{Block}
use Rattle.world_pieces.proofs.Made.{all_from}

pub put_keeps : (old new : List JsPiece) (ps : List Piece) → map piece_view new ≡ map piece_view old ++ ps → All IsPiece ps → All IsPiece (map piece_view old) → All IsPiece (map piece_view new)
put_keeps old new ps is own before = subst (All IsPiece) (sym is) (All-append IsPiece (map piece_view old) ps before own)

pub appended : (old others new : List JsPiece) → new ≡ old ++ others → map piece_view new ≡ map piece_view old ++ map piece_view others
appended old others new is = ap (map piece_view) is ∙ map-append piece_view old others

pub one_keeps : (old new : List JsPiece) (p : JsPiece) → new ≡ old ++ p ∷ [] → IsPiece (piece_view p) → All IsPiece (map piece_view old) → All IsPiece (map piece_view new)
one_keeps old new p is rules before = put_keeps old new (map piece_view (p ∷ [])) (appended old (p ∷ []) new is) (All-cons IsPiece (piece_view p) [] rules (All-nil IsPiece)) before

-- the piece of one more helper
pub one_helper : (above : Above) (hs : List Helper) (i : ℕ) (d : Helper) (old new : List JsPiece) (p : JsPiece) → i < length hs → piece_view p ≡ helper_piece above (get_or hs i d) → new ≡ old ++ p ∷ [] → map piece_view old ≡ map (helper_piece above) (take i hs) → map piece_view new ≡ map (helper_piece above) (take (i + 1) hs)
one_helper above hs i d old new p within is put before = appended old (p ∷ []) new put ∙ (λ t. before t ++ is t ∷ []) ∙ sym (ap (map (helper_piece above)) (take_more hs i d within) ∙ map-append (helper_piece above) (take i hs) (get_or hs i d ∷ []))

-- one more copy
pub one_copy : (start those : List JsPiece) (i : ℕ) (q : JsPiece) (old new : List JsPiece) (p : JsPiece) → slice_get those i ≡ Some q → piece_view p ≡ piece_view q → new ≡ old ++ p ∷ [] → map piece_view old ≡ map piece_view start ++ take i (map piece_view those) → map piece_view new ≡ map piece_view start ++ take (i + 1) (map piece_view those)
one_copy start those i q old new p at is put before =
    let there : slice_get (map piece_view those) i ≡ Some (piece_view q) = slice_get-map piece_view those i ∙ ap (option_map piece_view) at in
    let more : take (i + 1) (map piece_view those) ≡ take i (map piece_view those) ++ piece_view q ∷ [] = take_more (map piece_view those) i (piece_view q) (slice_get_within (map piece_view those) i (piece_view q) there) ∙ ap (λ (x : Piece). take i (map piece_view those) ++ x ∷ []) (get_or_from_slice_get (map piece_view those) i (piece_view q) (piece_view q) there) in
    appended old (p ∷ []) new put ∙ (λ t. before t ++ is t ∷ []) ∙ append_assoc (map piece_view start) (take i (map piece_view those)) (piece_view q ∷ []) ∙ ap (λ (l : List Piece). map piece_view start ++ l) (sym more)

-- all that comes before the end is all
pub whole : {X Y : Type 0} (f : X → Y) (xs : List X) (i : ℕ) → length xs ≤ i → take i (map f xs) ≡ map f xs
whole f xs i over = take_all i (map f xs) (subst (λ (n : ℕ). n ≤ i) (sym (length-map xs f)) over)

-- one more block
module _ (f : Block → List Piece) (done : List Block) (b : Block) where
  more : flat_map f (done ++ b ∷ []) ≡ flat_map f done ++ f b
  more = flat_map-append f done (b ∷ []) ∙ ap (λ (l : List Piece). flat_map f done ++ l) (append-nil (f b))

  pub one_block : (old new : List JsPiece) → map piece_view old ≡ flat_map f done → map piece_view new ≡ map piece_view old ++ f b → map piece_view new ≡ flat_map f (done ++ b ∷ [])
  one_block old new before put = put ∙ ap (λ (l : List Piece). l ++ f b) before ∙ sym more

  pub keeps_before : All IsPiece (flat_map f (done ++ b ∷ [])) → All IsPiece (flat_map f done)
  keeps_before all = all_from IsPiece (flat_map f done) (λ p h. All-contains IsPiece (flat_map f done ++ f b) p (subst (All IsPiece) more all) (Contains-append_left (flat_map f done) (f b) p h))

  pub keeps_there : All IsPiece (flat_map f (done ++ b ∷ [])) → All IsPiece (f b)
  keeps_there all = all_from IsPiece (f b) (λ p h. All-contains IsPiece (flat_map f done ++ f b) p (subst (All IsPiece) more all) (Contains-append_right (flat_map f done) (f b) p h))
