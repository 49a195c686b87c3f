-- Sizes that were looked at, none of which is too large.
use Rattle.std.proofs.Common.{◌≡◌, ◌⊎◌, ◌≤◌, ◌<◌, ◌+◌, ◌++◌, ℕ, List, [], ◌∷◌, length, take, get_or, Some, refl, sym, ap, subst, ◌∙◌, inl, inr, arith}
use Rattle.std.specs.Prelude.{slice_get}
use Rattle.std.proofs.lemmas.List.{take_more}
use Rattle.std.proofs.lemmas.Option.{slice_get-get_or}
use Rattle.folder_sizes.specs.Sizes.{IsOver, IsTooLarge, IsFirstTooLarge, largest_folder, sum}

pub record Looked (sizes : List ℕ) (place total : ℕ) : Type 0 where
  pub total_is : total ≡ sum (take place sizes)
  pub fits : total ≤ largest_folder
  pub none : (earlier : ℕ) → earlier < place → IsTooLarge sizes earlier → ⊥

pub nothing_yet : (sizes : List ℕ) → Looked sizes 0 0
nothing_yet sizes = record { total_is = refl; fits = omega arith; none = λ earlier lt large. absurd (omega arith) }

sum_more : (ns : List ℕ) (n : ℕ) → sum (ns ++ n ∷ []) ≡ sum ns + n
sum_more [] n = omega arith
sum_more (m ∷ ms) n = let e = sum_more ms n in omega (arith, e)

-- the one size at a place decides
at_place : (sizes : List ℕ) (place total size : ℕ) → total ≡ sum (take place sizes) → slice_get sizes place ≡ Some size → IsTooLarge sizes place → IsOver place total size
at_place sizes place total size is at large =
    let found : Some large.size ≡ Some size = sym large.at ∙ at in
    let same : large.size ≡ size = cc in
    subst (λ (n : ℕ). IsOver place n size) (sym is) (subst (λ (n : ℕ). IsOver place (sum (take place sizes)) n) same large.over)

pub one_more : (sizes : List ℕ) (place total : ℕ) → place < length sizes → Looked sizes place total → (IsOver place total (get_or sizes place 0) → ⊥) → Looked sizes (place + 1) (total + get_or sizes place 0)
one_more sizes place total within before not_over = record {
  total_is = ap (λ (n : ℕ). n + size) before.total_is ∙ sym (sum_more (take place sizes) size) ∙ ap sum (sym (take_more sizes place 0 within));
  fits = fitting;
  none = λ earlier lt large. split earlier large (places earlier lt);
}
  where
    size : ℕ
    size = get_or sizes place 0

    fitting : total + size ≤ largest_folder
    fitting = let h : (largest_folder < total + size) → ⊥ = λ k. not_over (inr (inl k)) in omega (arith, h)

    places : (i : ℕ) → i < place + 1 → (i < place) ⊎ (i ≡ place)
    places i lt = grind arith

    split : (i : ℕ) → IsTooLarge sizes i → (i < place) ⊎ (i ≡ place) → ⊥
    split i large (inl lt) = before.none i lt large
    split i large (inr e) = not_over (at_place sizes place total size before.total_is (slice_get-get_or sizes place 0 within) (subst (IsTooLarge sizes) e large))

pub found_first : (sizes : List ℕ) (place total : ℕ) → place < length sizes → Looked sizes place total → IsOver place total (get_or sizes place 0) → IsFirstTooLarge sizes place
found_first sizes place total within before over = record {
  too_large = record { size = get_or sizes place 0; at = slice_get-get_or sizes place 0 within; over = subst (λ (n : ℕ). IsOver place n (get_or sizes place 0)) before.total_is over };
  first = before.none;
}
