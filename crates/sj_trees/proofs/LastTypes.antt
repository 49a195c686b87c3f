-- The type of a list of trees is that of its last.
use Rattle.std.proofs.Common.{◌≡◌, ℕ, zero, suc, ◌+◌, List, [], ◌∷◌, length, arith, Some, ap}
use Rattle.std.specs.Prelude.{slice_get, unwrap_or}
use Rattle.sj_trees.specs.TypeOf.{type_of_term, type_of_last}
use Rattle.sj_trees.specs.View.{view, terms_view}
use Rattle.sj_trees.specs.declared.trees.Tree.{Tree}
use Rattle.sj_trees.specs.declared.types.IrType.{IrType}

pub type_of_last-last : (n : ℕ) (ts : List Tree) (u : Tree) (t : IrType) → n + 1 ≡ length ts → slice_get ts n ≡ Some u → type_of_last t (terms_view ts) ≡ type_of_term (view u)
type_of_last-last n [] u t e g = absurd (omega (arith, e))
type_of_last-last zero (x ∷ []) u t e g = ap (λ o. type_of_term (view (unwrap_or o x))) g
type_of_last-last zero (x ∷ y ∷ zs) u t e g = absurd (omega (arith, e))
type_of_last-last (suc n) (x ∷ xs) u t e g = type_of_last-last n xs u (type_of_term (view x)) (omega (arith, e)) g

pub ruleset last_types = (type_of_last-last)
