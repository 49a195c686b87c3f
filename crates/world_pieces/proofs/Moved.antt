-- What stands of a list whose items change places stands of another with the same images.
use Rattle.std.proofs.Common.{◌≡◌, ℕ, List, [], ◌∷◌, refl, sym, ap, subst, ◌∙◌, map, length, get_or, set}
use Rattle.std.specs.List.{swap}
use Rattle.std.specs.List.Sorted.{IsPermutation, SwapsInRange, apply_swaps}
use Rattle.std.proofs.lemmas.List.{length-map, map-set}
use lib.ListN.{get_or-map}

map_swap : {X Y : Type 0} (f : X → Y) (xs : List X) (i j : ℕ) → map f (swap xs i j) ≡ swap (map f xs) i j
map_swap f [] i j = refl
map_swap f (d ∷ xs) i j =
    let l = d ∷ xs in
    map-set f (set l i (get_or l j d)) j (get_or l i d) ∙ (λ t. set ((map-set f l i (get_or l j d) ∙ ap (set (map f l) i) (sym (get_or-map f l j d))) t) j (sym (get_or-map f l i d) t))

map_swaps : {X Y : Type 0} (f : X → Y) (xs : List X) (moves : List (ℕ × ℕ)) → map f (apply_swaps xs moves) ≡ apply_swaps (map f xs) moves
map_swaps f xs [] = refl
map_swaps f xs (m ∷ moves) = map_swap f (apply_swaps xs moves) m.0 m.1 ∙ ap (λ l. swap l m.0 m.1) (map_swaps f xs moves)

-- the other list, moved in the same way
pub record MovedToo {X Y Z : Type 0} (f : X → Z) (g : Y → Z) (after : List X) (other : List Y) : Type 0 where
  pub moved : List Y
  pub same : IsPermutation other moved
  pub images : map f after ≡ map g moved

pub moved_too : {X Y Z : Type 0} (f : X → Z) (g : Y → Z) (before after : List X) (other : List Y) → map f before ≡ map g other → IsPermutation before after → MovedToo f g after other
moved_too f g before after other same p = record {
  moved = apply_swaps other p.moves;
  same = record { moves = p.moves; below = subst (λ (n : ℕ). SwapsInRange n p.moves) (sym (length-map before f) ∙ ap length same ∙ length-map other g) p.below; is = refl };
  images = ap (map f) p.is ∙ map_swaps f before p.moves ∙ ap (λ l. apply_swaps l p.moves) same ∙ sym (map_swaps g other p.moves);
}
