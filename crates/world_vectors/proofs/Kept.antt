-- Pieces that keep the rules of printing.
use Rattle.std.proofs.Common.{◌≡◌, ℕ, ◌<◌, List, [], ◌∷◌, ◌++◌, get_or, length, map, subst, sym}
use Rattle.std.specs.Prelude.{All}
use Rattle.std.proofs.lemmas.List.{map-append}
use Rattle.std.proofs.lemmas.List.Elements.{All-append, All-cons, All-get_or, All-head, All-nil, All-tail}
use Rattle.js_tree.specs.Rules.{IsPiece}
use Rattle.js_tree.specs.Views.{piece_view}
use Rattle.js_tree.specs.declared.items.JsPiece.{JsPiece}

abbrev Kept : JsPiece → Type 0
Kept p = IsPiece (piece_view p)

of_map : (ps : List JsPiece) → All IsPiece (map piece_view ps) → All Kept ps
of_map [] h = All-nil Kept
of_map (p ∷ ps) h = All-cons Kept p ps (All-head IsPiece (piece_view p) (map piece_view ps) h) (of_map ps (All-tail IsPiece (piece_view p) (map piece_view ps) h))

pub each_kept : (ps : List JsPiece) (i : ℕ) (p : JsPiece) → i < length ps → p ≡ get_or ps i p → All IsPiece (map piece_view ps) → IsPiece (piece_view p)
each_kept ps i p h e all = subst Kept (sym e) (All-get_or Kept ps i p h (of_map ps all))

-- one more
pub more_kept : (old new : List JsPiece) (p : JsPiece) → new ≡ old ++ p ∷ [] → IsPiece (piece_view p) → All IsPiece (map piece_view old) → All IsPiece (map piece_view new)
more_kept old new p is rules before = subst (λ (ps : List JsPiece). All IsPiece (map piece_view ps)) (sym is) (subst (All IsPiece) (sym (map-append piece_view old (p ∷ []))) (All-append IsPiece (map piece_view old) (map piece_view (p ∷ [])) before (All-cons IsPiece (piece_view p) [] rules (All-nil IsPiece))))
