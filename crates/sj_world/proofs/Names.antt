-- Names that stand in front in a list.
use Rattle.std.proofs.Common.{◌≡◌, ℕ, ◌+◌, ◌≤◌, List, [], ◌∷◌, ◌++◌, slice_get, Some, ap, ◌∙◌, take, length, arith}
use Rattle.std.proofs.lemmas.List.{take_more}
use Rattle.std.proofs.lemmas.Option.{slice_get_within, get_or_from_slice_get}
use Rattle.std.proofs.Math.Seq.{take-length}
use Rattle.sj_world.specs.Known.{Name}

abbrev pub Names : Type 0
Names = List Name

pub taken_more : (keys : Names) (i : ℕ) (x : Name) → slice_get keys i ≡ Some x → take (i + 1) keys ≡ take i keys ++ x ∷ []
taken_more keys i x at = take_more keys i x (slice_get_within keys i x at) ∙ ap (λ (y : Name). take i keys ++ y ∷ []) (get_or_from_slice_get keys i x x at)

le_all : {m n : ℕ} → m ≤ n → n ≤ m → m ≡ n
le_all p q = omega arith

pub taken_whole : (keys : Names) (i : ℕ) → length keys ≤ i → i ≤ length keys → take i keys ≡ keys
taken_whole keys i over within = ap (λ (n : ℕ). take n keys) (le_all within over) ∙ take-length keys
