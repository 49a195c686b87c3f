-- Indentation, level by level.
use Rattle.std.proofs.Common.{◌≡◌, ℕ, ◌+◌, ◌*◌, List, [], ◌∷◌, ◌++◌, arith, ap, sym, ◌∙◌, append_assoc}
use Rattle.std.proofs.Math.ListN.{replicate, replicate-append-replicate}
use Rattle.std.proofs.lemmas.List.{append-nil}
use Rattle.js_tree.specs.Written.{put, indent}

indent-more : (level : ℕ) → indent level ++ (32 ∷ 32 ∷ []) ≡ indent (level + 1)
indent-more level = replicate-append-replicate (2 * level) 2 32 ∙ ap (λ (k : ℕ). replicate k 32) (omega arith)

-- no level
pub no_level : (old : List ℕ) → old ≡ put (indent 0) old
unfolding put
no_level old = sym (append-nil old)

-- one level more behind what is there
pub one_level_more : (out new old : List ℕ) (level : ℕ) → out ≡ put (indent level) old → new ≡ put (32 ∷ 32 ∷ []) out → new ≡ put (indent (level + 1)) old
unfolding put
one_level_more out new old level before after = after ∙ (ap (λ (x : List ℕ). x ++ (32 ∷ 32 ∷ [])) before ∙ (append_assoc old (indent level) (32 ∷ 32 ∷ []) ∙ ap (λ (x : List ℕ). old ++ x) (indent-more level)))

-- a line feed and a text are one text
pub line_break : (out new old text : List ℕ) → out ≡ put (10 ∷ []) old → new ≡ put text out → new ≡ put (10 ∷ text) old
unfolding put
line_break out new old text before after = after ∙ (ap (λ (x : List ℕ). x ++ text) before ∙ append_assoc old (10 ∷ []) text)
