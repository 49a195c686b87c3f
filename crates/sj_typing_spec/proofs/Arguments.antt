-- Arguments along parameters.
use Rattle.std.proofs.Common.{◌≡◌, ℕ, zero, suc, ◌+◌, ◌≤◌, nat_eq, List, [], ◌∷◌, ◌++◌, refl, sym, ap, ◌∙◌, append-nil, length, drop, min, arith}
use lib.Dec.{eqb-suc-suc, eqb-suc-zero, eqb-zero-suc}
use Rattle.sj_names.specs.declared.references.TypeRef.{TypeRef}
use Rattle.sj_trees.specs.declared.trees.Tree.{Tree}
use Rattle.sj_trees.specs.Term.{Terms, no_terms, more_terms}
use Rattle.sj_trees.specs.View.{terms_view}
use Rattle.sj_typing_spec.specs.declared.rows.Fit.{Fit}
use Rattle.sj_typing_spec.specs.Rows.{arguments_fit, are_as_many}

pub as_many : (ts : List Tree) (ps : List TypeRef) → nat_eq (length ts) (length ps) ≡ are_as_many (terms_view ts) ps
as_many [] [] = refl
as_many [] (p ∷ ps) = eqb-zero-suc (length ps)
as_many (t ∷ ts) [] = eqb-suc-zero (length ts)
as_many (t ∷ ts) (p ∷ ps) = eqb-suc-suc (length ts) (length ps) ∙ as_many ts ps

no_params : (es : Terms) → arguments_fit es [] ≡ []
no_params no_terms = refl
no_params (more_terms e es) = refl

no_trees : (ps : List TypeRef) → arguments_fit no_terms ps ≡ []
no_trees [] = refl
no_trees (p ∷ ps) = refl

arguments_past : (i : ℕ) (ts : List Tree) (ps : List TypeRef) → min (length ts) (length ps) ≤ i → arguments_fit (terms_view (drop i ts)) (drop i ps) ≡ []
arguments_past zero [] ps le = no_trees ps
arguments_past zero (t ∷ ts) [] le = refl
arguments_past zero (t ∷ ts) (p ∷ ps) le = absurd (omega arith)
arguments_past (suc i) [] ps le = no_trees (drop (suc i) ps)
arguments_past (suc i) (t ∷ ts) [] le = no_params (terms_view (drop i ts))
arguments_past (suc i) (t ∷ ts) (p ∷ ps) le = arguments_past i ts ps (omega arith)

-- at the end of the arguments or of the parameters
pub arguments_end : (fs all : List Fit) (i : ℕ) (ts : List Tree) (ps : List TypeRef) → min (length ts) (length ps) ≤ i → fs ++ arguments_fit (terms_view (drop i ts)) (drop i ps) ≡ all → fs ≡ all
arguments_end fs all i ts ps le e = sym (append-nil fs) ∙ ap (λ l. fs ++ l) (sym (arguments_past i ts ps le)) ∙ e
