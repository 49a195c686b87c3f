-- One level of the reader of trees, at a fuel that isn't zero.
use Rattle.std.proofs.Common.{◌≡◌, ℕ, zero, suc, ◌-◌, List, length, Err, refl, ap, arith}
use Rattle.sj_text_spec.specs.Reading.{tree_at, tree_level}

pub tree_none : (n : ℕ) (bytes : List ℕ) → n ≡ 0 → tree_at n bytes ≡ Err (length bytes)
unfolding tree_at
tree_none zero bytes e = refl
tree_none (suc n) bytes e = absurd (omega arith)

pub tree_level_read : (n : ℕ) (bytes : List ℕ) → (n ≡ 0 → ⊥) → tree_at n bytes ≡ tree_level (tree_at (n - 1)) (n - 1) bytes
unfolding tree_at
tree_level_read zero bytes some = absurd (some refl)
tree_level_read (suc n) bytes some = let less : n ≡ suc n - 1 = omega arith in ap (λ (m : ℕ). tree_level (tree_at m) m bytes) less
