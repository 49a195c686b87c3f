-- Each of some pieces keeps the rules of printing.
use Rattle.std.proofs.Common.{◌≡◌, ℕ, ◌<◌, List, [], ◌∷◌, sym, subst, map, length, get_or}
use Rattle.std.specs.Prelude.{All}
use Rattle.std.proofs.lemmas.List.Elements.{All-nil, All-cons, All-head, All-tail, All-get_or}
use Rattle.js_tree.specs.Rules.{IsPiece}
use Rattle.js_tree.specs.Views.{piece_view}
use Rattle.js_tree.specs.declared.items.JsPiece.{JsPiece}

abbrev pub Kept : JsPiece → Type 0
Kept p = IsPiece (piece_view p)

of_map : (ps : List JsPiece) → All IsPiece (map piece_view ps) → All Kept ps
of_map [] h = All-nil Kept
of_map (p ∷ ps) h = All-cons Kept p ps (All-head IsPiece (piece_view p) (map piece_view ps) h) (of_map ps (All-tail IsPiece (piece_view p) (map piece_view ps) h))

pub each_kept : (ps : List JsPiece) (i : ℕ) (p : JsPiece) → i < length ps → p ≡ get_or ps i p → All IsPiece (map piece_view ps) → Kept p
each_kept ps i p h e all = subst Kept (sym e) (All-get_or Kept ps i p h (of_map ps all))
