-- The files that were read so far.
use Rattle.std.proofs.Common.{◌≡◌, ◌⊎◌, inl, inr, ℕ, ◌+◌, ◌<◌, ◌≤◌, List, [], ◌∷◌, ◌++◌, refl, sym, ap, ◌∙◌, subst, length, get_or, take, drop, map, Some, length-append, arith}
use Rattle.std.proofs.Math.ListN.{get_or-map}
use Rattle.std.proofs.Math.Seq.{take-append_seam, get_or-append_seam}
use Rattle.std.proofs.lemmas.List.{take_more, take_all, take-append-le, take-append-drop, take-map, map-append, length-map, length-take, get_or_append_left, get_or_default}
use Rattle.std.proofs.lemmas.Option.{slice_get_within, slice_get-get_or, get_or_from_slice_get}
use Rattle.sj_names.specs.declared.folders.SourceFile.{SourceFile}
use Rattle.sj_outside.specs.Contents.{Parts}
use Rattle.folder_sizes.specs.Sizes.{largest_folder, sum, IsOver, IsTooLarge, IsFirstTooLarge}
use Rattle.folder_sizes.specs.Files.{size_of, sizes}
use Rattle.folder_files.specs.Files.{front, source_file, path_of, IsReadOf, all, up_to}
use Rattle.folder_files.specs.Walking.{IsHeld, ArePathsOf}

-- Sizes, none of which is too large

pub record Fits (ns : List ℕ) (total : ℕ) : Type 0 where
  pub total_is : total ≡ sum ns
  pub small : total ≤ largest_folder
  pub none : (place : ℕ) → IsTooLarge ns place → ⊥

pub nothing_yet : Fits [] 0
nothing_yet = record { total_is = refl; small = omega arith; none = λ place large. absurd (let e = slice_get_within [] place large.size large.at in omega (arith, e)) }

sum-more : (ns : List ℕ) (n : ℕ) → sum (ns ++ n ∷ []) ≡ sum ns + n
sum-more [] n = omega arith
sum-more (m ∷ ms) n = let e = sum-more ms n in omega (arith, e)

-- a place among more sizes
within : (ns more : List ℕ) (place : ℕ) → place < length ns → IsTooLarge (ns ++ more) place → IsTooLarge ns place
within ns more place below large = record {
  size = large.size;
  at = slice_get-get_or ns place 0 below ∙ ap Some (sym (get_or_append_left ns more 0 place below) ∙ get_or_from_slice_get (ns ++ more) place large.size 0 large.at);
  over = subst (λ (front : List ℕ). IsOver place (sum front) large.size) (take-append-le place ns more (omega (arith, below))) large.over;
}

beyond : (ns more : List ℕ) (place : ℕ) → place < length ns → IsTooLarge ns place → IsTooLarge (ns ++ more) place
beyond ns more place below large = record {
  size = large.size;
  at = slice_get-get_or (ns ++ more) place 0 (omega (arith, below, length-append ns more)) ∙ ap Some (get_or_append_left ns more 0 place below ∙ get_or_from_slice_get ns place large.size 0 large.at);
  over = subst (λ (front : List ℕ). IsOver place (sum front) large.size) (sym (take-append-le place ns more (omega (arith, below)))) large.over;
}

first_beyond : (ns more : List ℕ) (place : ℕ) → IsFirstTooLarge ns place → IsFirstTooLarge (ns ++ more) place
first_beyond ns more place first =
    let below = slice_get_within ns place first.too_large.size first.too_large.at in
    record { too_large = beyond ns more place below first.too_large; first = λ earlier lt large. first.first earlier lt (within ns more earlier (omega (arith, below, lt)) large) }

-- the place of the last size
at_last : (ns : List ℕ) (n total : ℕ) → total ≡ sum ns → IsTooLarge (ns ++ n ∷ []) (length ns) → IsOver (length ns) total n
at_last ns n total is large =
    let size : large.size ≡ n = sym (get_or_from_slice_get (ns ++ n ∷ []) (length ns) large.size 0 large.at) ∙ get_or-append_seam ns n [] 0 in
    let sum_is : sum (take (length ns) (ns ++ n ∷ [])) ≡ total = ap sum (take-append_seam ns (n ∷ [])) ∙ sym is in
    subst (λ (t : ℕ). IsOver (length ns) t n) sum_is (subst (IsOver (length ns) (sum (take (length ns) (ns ++ n ∷ [])))) size large.over)

last_over : (ns : List ℕ) (n total : ℕ) → total ≡ sum ns → IsOver (length ns) total n → IsTooLarge (ns ++ n ∷ []) (length ns)
last_over ns n total is over = record {
  size = n;
  at = slice_get-get_or (ns ++ n ∷ []) (length ns) 0 (omega (arith, length-append ns (n ∷ []))) ∙ ap Some (get_or-append_seam ns n [] 0);
  over = subst (λ (t : ℕ). IsOver (length ns) t n) (is ∙ sym (ap sum (take-append_seam ns (n ∷ [])))) over;
}

one_fits : (ns : List ℕ) (total n : ℕ) → Fits ns total → (IsOver (length ns) total n → ⊥) → Fits (ns ++ n ∷ []) (total + n)
one_fits ns total n fits not_over = record {
  total_is = ap (λ (t : ℕ). t + n) fits.total_is ∙ sym (sum-more ns n);
  small = let h : (largest_folder < total + n) → ⊥ = λ k. not_over (inr (inl k)) in omega (arith, h);
  none = λ place large. split place large (places place (let h = slice_get_within (ns ++ n ∷ []) place large.size large.at in omega (arith, h, length-append ns (n ∷ []))));
}
  where
    places : (place : ℕ) → place < length ns + 1 → (place < length ns) ⊎ (place ≡ length ns)
    places place below = grind arith

    split : (place : ℕ) → IsTooLarge (ns ++ n ∷ []) place → (place < length ns) ⊎ (place ≡ length ns) → ⊥
    split place large (inl below) = fits.none place (within ns (n ∷ []) place below large)
    split place large (inr is) = not_over (at_last ns n total fits.total_is (subst (IsTooLarge (ns ++ n ∷ [])) is large))

first_over : (ns : List ℕ) (total n : ℕ) → Fits ns total → IsOver (length ns) total n → IsFirstTooLarge (ns ++ n ∷ []) (length ns)
first_over ns total n fits over = record { too_large = last_over ns n total fits.total_is over; first = λ place below large. fits.none place (within ns (n ∷ []) place below large) }

-- Files

-- the file that is read next
pub record Next (contents : Parts) (folder : List ℕ) (files : List SourceFile) (k : ℕ) (path : List ℕ) : Type 0 where
  pub file : SourceFile
  pub below : k < length files
  pub at : file ≡ get_or files k file
  pub path_is : file.path ≡ path
  pub held : IsHeld contents folder file

pub next : (contents : Parts) (folder : List ℕ) (paths : List (List ℕ)) (are : ArePathsOf contents folder paths) (k : ℕ) (path : List ℕ) → k < length paths → path ≡ get_or paths k path → Next contents folder are.files k path
next contents folder paths are k path below is = record { file = file; below = within_files; at = get_or_default are.files k default file within_files; path_is = path_is; held = are.held k default within_files }
  where
    default : SourceFile
    default = source_file path []

    file : SourceFile
    file = get_or are.files k default

    within_files : k < length are.files
    within_files = omega (arith, below, length-map are.files path_of, ap length are.are_paths)

    path_is : file.path ≡ path
    path_is = sym (is ∙ ap (λ (ps : List (List ℕ)). get_or ps k path) (sym are.are_paths) ∙ get_or-map path_of are.files k default)

-- one more file is read
pub read_on : (files : List SourceFile) (k : ℕ) (read new : List SourceFile) (whole file : SourceFile) → k < length files → whole ≡ get_or files k whole → read ≡ take k (map front files) → file ≡ front whole → new ≡ read ++ file ∷ [] → new ≡ take (k + 1) (map front files)
read_on files k read new whole file below at so_far is added =
    let last : get_or (map front files) k (front whole) ≡ file = get_or-map front files k whole ∙ ap front (sym at) ∙ sym is in
    added
    ∙ (λ i. so_far i ++ sym last i ∷ [])
    ∙ sym (take_more (map front files) k (front whole) (omega (arith, below, length-map files front)))

sizes-push : (read : List SourceFile) (file : SourceFile) → sizes (read ++ file ∷ []) ≡ sizes read ++ size_of file ∷ []
sizes-push read file = map-append size_of read (file ∷ [])

-- a place and a size that were counted
same_over : (read : List SourceFile) (file : SourceFile) (place total size : ℕ) → place ≡ length read → size ≡ size_of file → IsOver place total size ≡ IsOver (length (sizes read)) total (size_of file)
same_over read file place total size place_is size_is = λ i. IsOver ((place_is ∙ sym (length-map read size_of)) i) total (size_is i)

pub fits_on : (read new : List SourceFile) (file : SourceFile) (place total size : ℕ) → place ≡ length read → size ≡ size_of file → Fits (sizes read) total → (IsOver place total size → ⊥) → new ≡ read ++ file ∷ [] → Fits (sizes new) (total + size)
fits_on read new file place total size place_is size_is fits not_over added =
    let not_last : IsOver (length (sizes read)) total (size_of file) → ⊥ = subst (λ (A : Type 0). A → ⊥) (same_over read file place total size place_is size_is) not_over in
    subst (λ (n : ℕ). Fits (sizes new) (total + n)) (sym size_is)
    (subst (λ (ns : List ℕ). Fits ns (total + size_of file)) (sym (ap sizes added ∙ sizes-push read file))
    (one_fits (sizes read) total (size_of file) fits not_last))

-- the last file that is read
pub reads_to : (files : List SourceFile) (k : ℕ) (read new : List SourceFile) (file : SourceFile) (place total size : ℕ) → k < length files → read ≡ take k (map front files) → new ≡ take (k + 1) (map front files) → new ≡ read ++ file ∷ [] → place ≡ length read → size ≡ size_of file → Fits (sizes read) total → IsOver place total size → IsReadOf files new
reads_to files k read new file place total size below so_far new_is added place_is size_is fits over =
    subst (IsReadOf files) (sym new_is) (up_to k first_whole)
  where
    whole : List ℕ
    whole = sizes (map front files)

    length_is : length (sizes read) ≡ k
    length_is = length-map read size_of ∙ ap length so_far ∙ length-take k (map front files) ∙ (let h = length-map files front in omega (arith, below))

    first : IsFirstTooLarge (sizes read ++ size_of file ∷ []) k
    first = subst (IsFirstTooLarge (sizes read ++ size_of file ∷ [])) length_is (first_over (sizes read) total (size_of file) fits (subst (λ (A : Type 0). A) (same_over read file place total size place_is size_is) over))

    front_is : sizes read ++ size_of file ∷ [] ≡ take (k + 1) whole
    front_is = sym (ap sizes added ∙ sizes-push read file) ∙ ap sizes new_is ∙ sym (take-map size_of (k + 1) (map front files))

    first_whole : IsFirstTooLarge whole k
    first_whole = subst (λ (ns : List ℕ). IsFirstTooLarge ns k) (take-append-drop (k + 1) whole) (first_beyond (take (k + 1) whole) (drop (k + 1) whole) k (subst (λ (ns : List ℕ). IsFirstTooLarge ns k) front_is first))

-- all files are read
pub reads_all : (contents : Parts) (folder : List ℕ) (paths : List (List ℕ)) (are : ArePathsOf contents folder paths) (read : List SourceFile) (k total : ℕ) → length paths ≤ k → read ≡ take k (map front are.files) → Fits (sizes read) total → IsReadOf are.files read
reads_all contents folder paths are read k total ended so_far fits =
    let whole : read ≡ map front are.files = so_far ∙ take_all k (map front are.files) (omega (arith, ended, length-map are.files front, length-map are.files path_of, ap length are.are_paths)) in
    subst (IsReadOf are.files) (sym whole) (all (subst (λ (fs : List SourceFile). (place : ℕ) → IsTooLarge (sizes fs) place → ⊥) whole fits.none))
