-- Lists in an order that is never both ways are one where they have the same members.
use Rattle.std.proofs.Common.{◌≡◌, ◌↔◌, List, [], ◌∷◌, ◌⊎◌, inl, inr, sym, subst, ◌∙◌, Contains, refl}
use Rattle.sj_split.proofs.Members.{at_first, further, cons_cases}
use Rattle.worklist.proofs.Inserted.{nothing_in}
use Rattle.linked_pieces.specs.Order.{AreInOrder}

module _ {A : Type 0} (Before : A → A → Type 0) (never : (a b : A) → Before a b → Before b a → ⊥) where
  same_head : (a b : A) (xs ys : List A) → AreInOrder Before (a ∷ xs) → AreInOrder Before (b ∷ ys) → (b ≡ a) ⊎ Contains ys a → (a ≡ b) ⊎ Contains xs b → a ≡ b
  same_head a b xs ys one other (inl e) h = sym e
  same_head a b xs ys one other (inr i) (inl e) = e
  same_head a b xs ys one other (inr i) (inr j) = absurd (never a b (one.0 b j) (other.0 a i))

  later : (a b x : A) (xs ys : List A) → a ≡ b → AreInOrder Before (a ∷ xs) → Contains xs x → (b ≡ x) ⊎ Contains ys x → Contains ys x
  later a b x xs ys same one i (inl e) = let h : Before x x = subst (λ (z : A). Before z x) (same ∙ e) (one.0 x i) in absurd (never x x h h)
  later a b x xs ys same one i (inr behind) = behind

  pub one_order : (xs ys : List A) → AreInOrder Before xs → AreInOrder Before ys → ((x : A) → Contains xs x ↔ Contains ys x) → xs ≡ ys
  one_order [] [] one other same = refl
  one_order [] (b ∷ ys) one other same = nothing_in b ((same b).1 (at_first b ys))
  one_order (a ∷ xs) [] one other same = nothing_in a ((same a).0 (at_first a xs))
  one_order (a ∷ xs) (b ∷ ys) one other same =
      let head : a ≡ b = same_head a b xs ys one other (cons_cases b a ys ((same a).0 (at_first a xs))) (cons_cases a b xs ((same b).1 (at_first b ys))) in
      let rest : xs ≡ ys = one_order xs ys one.1 other.1 (λ x. (λ i. later a b x xs ys head one i (cons_cases b x ys ((same x).0 (further a x xs i))), λ i. later b a x ys xs (sym head) other i (cons_cases a x xs ((same x).1 (further b x ys i))))) in
      (λ i. head i ∷ rest i)
