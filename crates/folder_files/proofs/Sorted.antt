-- The paths in byte order are those of the files in byte order of their paths.
use Rattle.std.proofs.Common.{◌≡◌, ℕ, ◌+◌, ◌<◌, false, List, [], ◌∷◌, refl, sym, ap, ◌∙◌, subst, get_or}
use Rattle.std.specs.Prelude.{map}
use Rattle.std.specs.Cmp.Lexicographic.{slice_cmp}
use Rattle.std.specs.List.{swap}
use Rattle.std.specs.List.Sorted.{IsPermutation, IsSorted, IsSortedByKey, apply_swaps, SwapsInRange}
use Rattle.std.specs.Ordering.{nat_cmp, is_lt}
use Rattle.std.proofs.Math.ListN.{set, get_or-map}
use Rattle.std.proofs.Math.Seq.{map-set}
use Rattle.std.proofs.lemmas.List.{length-map}
use Rattle.std.proofs.lemmas.List.Sorted.{All-permutation}
use Rattle.sj_names.specs.declared.folders.SourceFile.{SourceFile}
use Rattle.sj_outside.specs.Contents.{Parts}
use Rattle.folder_files.specs.Files.{deepest, files_below, path_of}
use Rattle.folder_files.specs.Walking.{Gathers, ArePathsOf, IsHeld}

module _ {X Y : Type 0} (f : X → Y) where
  map-swap : (xs : List X) (i j : ℕ) → map f (swap xs i j) ≡ swap (map f xs) i j
  map-swap [] i j = refl
  map-swap (d ∷ ys) i j = map-set f (set (d ∷ ys) i (get_or (d ∷ ys) j d)) j (get_or (d ∷ ys) i d)
      ∙ (λ k. set ((map-set f (d ∷ ys) i (get_or (d ∷ ys) j d) ∙ ap (set (map f (d ∷ ys)) i) (sym (get_or-map f (d ∷ ys) j d))) k) j (sym (get_or-map f (d ∷ ys) i d) k))

  map-apply_swaps : (xs : List X) (moves : List (ℕ × ℕ)) → map f (apply_swaps xs moves) ≡ apply_swaps (map f xs) moves
  map-apply_swaps xs [] = refl
  map-apply_swaps xs (move ∷ moves) = map-swap (apply_swaps xs moves) move.0 move.1 ∙ ap (λ l. swap l move.0 move.1) (map-apply_swaps xs moves)

-- files in the order of their paths
abbrev ordered : (files : List SourceFile) (sorted : List (List ℕ)) → IsPermutation (map path_of files) sorted → List SourceFile
ordered files sorted p = apply_swaps files p.moves

moved : (files : List SourceFile) (sorted : List (List ℕ)) (p : IsPermutation (map path_of files) sorted) → IsPermutation files (ordered files sorted p)
moved files sorted p = record { moves = p.moves; below = subst (λ n. SwapsInRange n p.moves) (length-map files path_of) p.below; is = refl }

paths_ordered : (files : List SourceFile) (sorted : List (List ℕ)) (p : IsPermutation (map path_of files) sorted) → map path_of (ordered files sorted p) ≡ sorted
paths_ordered files sorted p = map-apply_swaps path_of files p.moves ∙ sym p.is

by_key : (files : List SourceFile) → IsSorted (slice_cmp nat_cmp) (map path_of files) → IsSortedByKey path_of (slice_cmp nat_cmp) files
by_key files up k d low below =
    let here : is_lt (slice_cmp nat_cmp (get_or (map path_of files) (k + 1) (path_of d)) (get_or (map path_of files) k (path_of d))) ≡ false = up k (path_of d) low (subst (λ n. k + 1 < n) (sym (length-map files path_of)) below) in
    subst (λ (p : List ℕ). is_lt (slice_cmp nat_cmp (path_of (get_or files (k + 1) d)) p) ≡ false) (get_or-map path_of files k d)
    (subst (λ (p : List ℕ). is_lt (slice_cmp nat_cmp p (get_or (map path_of files) k (path_of d))) ≡ false) (get_or-map path_of files (k + 1) d) here)

-- the paths that were gathered, in byte order
pub paths_in_order : (contents : Parts) (folder : List ℕ) (gathered sorted : List (List ℕ)) → Gathers contents folder [] deepest [] gathered → IsPermutation gathered sorted → IsSorted (slice_cmp nat_cmp) sorted → ArePathsOf contents folder sorted
paths_in_order contents folder gathered sorted g permutation up = record {
  files = ordered files sorted p;
  are_files = record { parts = g.parts; is_folder = g.is_folder; exact = moved files sorted p; in_order = by_key (ordered files sorted p) (subst (IsSorted (slice_cmp nat_cmp)) (sym (paths_ordered files sorted p)) up) };
  are_paths = paths_ordered files sorted p;
  held = All-permutation (IsHeld contents folder) files (ordered files sorted p) (moved files sorted p) g.held;
}
  where
    files : List SourceFile
    files = files_below deepest g.parts

    p : IsPermutation (map path_of files) sorted
    p = subst (λ (ps : List (List ℕ)). IsPermutation ps sorted) g.gathered permutation
