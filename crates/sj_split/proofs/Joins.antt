-- Texts joined by one space.
use Rattle.std.proofs.Common.{◌≡◌, ℕ, List, [], ◌∷◌, ◌++◌, ap, append-nil}
use Rattle.std.specs.List.{join_with_byte}

-- what stands behind the first text
abbrev pub tail : List (List ℕ) → List ℕ
tail [] = []
tail (text ∷ texts) = 32 ∷ (text ++ tail texts)

pub joined_is : (text : List ℕ) (texts : List (List ℕ)) → text ++ tail texts ≡ join_with_byte 32 (text ∷ texts)
joined_is text [] = append-nil text
joined_is text (other ∷ texts) = ap (λ l. text ++ 32 ∷ l) (joined_is other texts)
