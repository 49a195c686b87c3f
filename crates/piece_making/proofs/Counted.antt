-- Parameters, one behind the other.
use Rattle.std.proofs.Common.{◌≡◌, ℕ, ◌+◌, List, [], ◌∷◌, ◌++◌, ap, sym, ◌∙◌, add-one, append_assoc}
use Rattle.js_tree.specs.Terms.{Name}
use Rattle.sj_emit_help_spec.specs.Words.{parameter, first_parameters}

-- one parameter more behind what is there
pub one_more : (old names new : List Name) (p : Name) (n : ℕ) → names ≡ old ++ first_parameters n → new ≡ names ++ p ∷ [] → p ≡ parameter n → new ≡ old ++ first_parameters (n + 1)
one_more old names new p n before after same = after ∙ ap (λ (ns : List Name). ns ++ p ∷ []) before ∙ ap (λ (q : Name). (old ++ first_parameters n) ++ q ∷ []) same ∙ append_assoc old (first_parameters n) (parameter n ∷ []) ∙ ap (λ (k : ℕ). old ++ first_parameters k) (sym (add-one n))
