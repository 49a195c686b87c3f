-- Lists that are cut where an element passes.
use Rattle.std.proofs.Common.{◌≡◌, Bool, true, false, List, [], ◌∷◌, ◌++◌, ◌≤◌, ◌+◌, refl, sym, ap, ◌∙◌, not, ◌&&◌, length, arith, cond}
use Rattle.std.specs.List.{list_all, slice_split, onto_first, position_or_len}
use Rattle.std.proofs.lemmas.Bool.{and_parts}
use Rattle.std.proofs.lemmas.List.Splits.{slice_split-cons_yes, slice_split-cons_no, length-slice_split}

pub not_true : (b : Bool) → not b ≡ true → b ≡ false
not_true true e = sym e
not_true false e = refl

module _ {X : Type 0} (p : X → Bool) where
  -- none passes
  abbrev pub lacks : List X → Bool
  lacks xs = list_all (λ x. not (p x)) xs

  pub no_cut : (xs : List X) → lacks xs ≡ true → slice_split p xs ≡ xs ∷ []
  no_cut [] e = refl
  no_cut (x ∷ xs) e =
      let parts = and_parts (not (p x)) (lacks xs) e in
      slice_split-cons_no p x xs (not_true (p x) parts.0) ∙ ap (onto_first x) (no_cut xs parts.1)

  pub cut_at : (front : List X) (mark : X) (behind : List X) → lacks front ≡ true → p mark ≡ true → slice_split p (front ++ mark ∷ behind) ≡ front ∷ slice_split p behind
  cut_at [] mark behind e m = slice_split-cons_yes p mark behind m
  cut_at (x ∷ xs) mark behind e m =
      let parts = and_parts (not (p x)) (lacks xs) e in
      slice_split-cons_no p x (xs ++ mark ∷ behind) (not_true (p x) parts.0) ∙ ap (onto_first x) (cut_at xs mark behind parts.1 m)

  uncut_behind : (b : Bool) (x : X) (xs : List X) → p x ≡ b → (position_or_len p xs ≡ length xs → slice_split p xs ≡ xs ∷ []) → position_or_len p (x ∷ xs) ≡ length (x ∷ xs) → slice_split p (x ∷ xs) ≡ (x ∷ xs) ∷ []
  uncut_behind true x xs h rest e = absurd (omega (arith, e, ap (λ b. cond (not b) (1 + position_or_len p xs) 0) h))
  uncut_behind false x xs h rest e = slice_split-cons_no p x xs h ∙ ap (onto_first x) (rest (omega (arith, e, ap (λ b. cond (not b) (1 + position_or_len p xs) 0) h)))

  pub uncut : (xs : List X) → position_or_len p xs ≡ length xs → slice_split p xs ≡ xs ∷ []
  uncut [] e = refl
  uncut (x ∷ xs) e = uncut_behind (p x) x xs refl (uncut xs) e

  length-onto_first : (x : X) (parts : List (List X)) → 2 ≤ length parts → 2 ≤ length (onto_first x parts)
  length-onto_first x [] l = absurd (omega (arith, l))
  length-onto_first x (part ∷ parts) l = l

  two_behind : (b : Bool) (x : X) (xs : List X) → p x ≡ b → (lacks xs ≡ false → 2 ≤ length (slice_split p xs)) → lacks (x ∷ xs) ≡ false → 2 ≤ length (slice_split p (x ∷ xs))
  two_behind true x xs h rest e = omega (arith, ap length (slice_split-cons_yes p x xs h), length-slice_split p xs)
  two_behind false x xs h rest e =
      let few : lacks xs ≡ false = sym (ap (λ b. not b && lacks xs) h) ∙ e in
      let l : 2 ≤ length (onto_first x (slice_split p xs)) = length-onto_first x (slice_split p xs) (rest few) in
      omega (arith, ap length (slice_split-cons_no p x xs h), l)

  pub cut_in_two : (xs : List X) → lacks xs ≡ false → 2 ≤ length (slice_split p xs)
  cut_in_two [] e = absurd cc
  cut_in_two (x ∷ xs) e = two_behind (p x) x xs refl (cut_in_two xs) e
