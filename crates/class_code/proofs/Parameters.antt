-- A name that no parameter has isn't among them.
use Rattle.std.proofs.Common.{◌≡◌, ℕ, zero, suc, Bool, true, false, ◌||◌, List, [], ◌∷◌, ◌++◌, refl, sym, ap, ◌∙◌}
use Rattle.entry_search.specs.Words.{parameter, first_parameters}
use Rattle.js_mean.specs.Proper.{is_among}
use Rattle.js_tree.specs.Names.{is_same_text}
use Rattle.js_tree.specs.Terms.{Name}
use Rattle.sj_names.proofs.Same.{impossible}

neither : (a b : Bool) → (a || b) ≡ false → (a ≡ false) × (b ≡ false)
neither true b h = impossible (sym h)
neither false b h = (refl, h)

no_more : (f : Name) (ys : List Name) (y : Name) → is_among ys f ≡ false → is_same_text f y ≡ false → is_among (ys ++ y ∷ []) f ≡ false
no_more f [] y h e = ap (λ b. b || false) e
no_more f (x ∷ xs) y h e = let k = neither (is_same_text f x) (is_among xs f) h in ap (λ b. b || is_among (xs ++ y ∷ []) f) k.0 ∙ no_more f xs y k.1 e

pub no_parameter : (f : Name) (n : ℕ) → ((k : ℕ) → is_same_text f (parameter k) ≡ false) → is_among (first_parameters n) f ≡ false
no_parameter f zero h = refl
no_parameter f (suc n) h = no_more f (first_parameters n) (parameter n) (no_parameter f n h) (h n)
