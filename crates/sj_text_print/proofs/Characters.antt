-- Characters, one behind the other.
use Rattle.std.proofs.Common.{◌≡◌, ℕ, List, [], ◌∷◌, ◌++◌, refl, sym, ap, ◌∙◌}
use Rattle.js_tree.specs.Written.{Putting, put_each}
use Rattle.sj_text_spec.specs.Texts.{put_character}

put_last : (w : ℕ → Putting) (xs : List ℕ) (x : ℕ) (out : List ℕ) → put_each w (xs ++ x ∷ []) out ≡ w x (put_each w xs out)
put_last w [] x out = refl
put_last w (y ∷ xs) x out = put_last w xs x (w y out)

-- one character more behind what is there
pub one_more : (out new old xs : List ℕ) (x : ℕ) → out ≡ put_each put_character xs old → new ≡ put_character x out → new ≡ put_each put_character (xs ++ x ∷ []) old
one_more out new old xs x before after = after ∙ ap (put_character x) before ∙ sym (put_last put_character xs x old)
