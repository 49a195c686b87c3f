-- Lists of trees and their terms.
use Rattle.std.proofs.Common.{◌≡◌, ◌<◌, false, List, [], ◌∷◌, refl, length, arith}
use Rattle.sj_trees.specs.declared.trees.Tree.{Tree}
use Rattle.sj_trees.specs.View.{terms_view}
use Rattle.sj_local.specs.TreeRules.{has_no_terms}

pub has_no_terms-more : (ts : List Tree) → 0 < length ts → false ≡ has_no_terms (terms_view ts)
has_no_terms-more [] h = absurd (omega arith)
has_no_terms-more (t ∷ ts) h = refl
