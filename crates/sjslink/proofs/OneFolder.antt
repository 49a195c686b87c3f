-- A folder has one list of class files.
use Rattle.std.proofs.Common.{◌≡◌, ◌≤◌, ℕ, zero, suc, ◌+◌, Bool, true, false, List, [], ◌∷◌, ◌++◌, refl, sym, ap, subst, ◌∙◌, Option, Some, None, Contains, get_or, map, arith, cond}
use Rattle.std.specs.Prelude.{◌&&◌, nat_eq, option_and_then, if◌then◌else◌, codes}
use Rattle.std.specs.Cmp.Lexicographic.{pointwise, slice_cmp}
use Rattle.std.specs.List.{All, sum_by}
use Rattle.std.specs.List.Sorted.{IsSortedByKey}
use Rattle.std.specs.Ordering.{nat_cmp, is_lt, is_eq, ordering_reverse}
use Rattle.std.specs.declared.cmp.Ordering.{Ordering}
use Rattle.std.specs.declared.cmp.Ordering.TheVariants.{Less, Equal, Greater}
use Rattle.std.proofs.lemmas.Bool.{and_parts}
use Rattle.std.proofs.lemmas.Cmp.{nat_list_cmp_total, nat_list_eq_equiv}
use Rattle.std.proofs.lemmas.List.{append_assoc}
use Rattle.std.proofs.lemmas.List.Elements.{All-nil, All-cons, All-append, All-map, All-weaker, All-contains}
use Rattle.std.proofs.lemmas.List.MinMax.{ranks_by}
use Rattle.std.proofs.lemmas.List.Sorted.{sorted_far, sum_by-IsPermutation, All-permutation}
use Rattle.std.proofs.lemmas.List.Sums.{sum_by-cons}
use Rattle.std.proofs.lemmas.Map.Text.{is_eq-slice_cmp}
use Rattle.std.proofs.lemmas.Slice.Eq.{bytes_eq-Decides}
use Rattle.sj_names.specs.declared.folders.SourceFile.{SourceFile}
use Rattle.sj_outside.specs.Contents.{Parts, no_parts, file_part, folder_part, Held, file_held, folder_held, held_at, folder_of, file_of, file_at, is_new, is_well}
use Rattle.sj_outside.proofs.Wellness.{are_names-well, folder_at-well}
use Rattle.folder_files.specs.Files.{AreFilesOf, deepest, files_below, inside, is_class_file, path_of, source_file}
use Rattle.folder_files.specs.Walking.{IsHeld, path_in}
use Rattle.folder_files.proofs.Named.{AreFound, parts_held}

-- Each class file is held under its path

held_there : (o : Option Held) (parts : Parts) → option_and_then folder_of o ≡ Some parts → o ≡ Some (folder_held parts)
held_there None parts e = cc
held_there (Some (file_held bytes)) parts e = cc
held_there (Some (folder_held ps)) parts e = let same : ps ≡ parts = cc in ap (λ (p : Parts). Some (folder_held p)) same

module _ (contents : Parts) where
  held_inside : (folder name : List ℕ) (file : SourceFile) → IsHeld contents (path_in folder name) file → IsHeld contents folder (inside name file)
  held_inside folder name file held = ap (file_at contents) (sym (append_assoc folder (codes "/" ++ name) (codes "/" ++ file.path))) ∙ held

  own_held : (b : Bool) (folder name bytes : List ℕ) (files : List SourceFile) → held_at contents (path_in folder name) ≡ Some (file_held bytes) → All (IsHeld contents folder) files → All (IsHeld contents folder) (cond b (source_file name bytes ∷ files) files)
  own_held true folder name bytes files held all = All-cons (IsHeld contents folder) (source_file name bytes) files (ap (option_and_then file_of) held) all
  own_held false folder name bytes files held all = all

  below_held : (left : ℕ) (folder : List ℕ) (parts : Parts) → is_well parts ≡ true → AreFound (λ n. held_at contents (path_in folder n)) parts → All (IsHeld contents folder) (files_below left parts)
  below_held left folder no_parts well found = All-nil (IsHeld contents folder)
  below_held left folder (file_part n bytes others) well found = own_held (is_class_file n) folder n bytes (files_below left others) found.0 (below_held left folder others (and_parts (is_new n others) (is_well others) well).1 found.1)
  below_held zero folder (folder_part n inner others) well found = below_held zero folder others (and_parts (is_new n others && is_well inner) (is_well others) well).1 found.1
  below_held (suc left) folder (folder_part n inner others) well found =
      let both = and_parts (is_new n others && is_well inner) (is_well others) well in
      let good = (and_parts (is_new n others) (is_well inner) both.0).1 in
      let found_inside = parts_held contents (path_in folder n) inner (ap (option_and_then folder_of) found.0) (are_names-well inner good) in
      let all = below_held left (path_in folder n) inner good found_inside in
      All-append (IsHeld contents folder) (map (inside n) (files_below left inner)) (files_below (suc left) others)
      (All-map (IsHeld contents folder) (inside n) (files_below left inner) (All-weaker (IsHeld contents (path_in folder n)) (λ f. IsHeld contents folder (inside n f)) (held_inside folder n) (files_below left inner) all))
      (below_held (suc left) folder others both.1 found.1)

  files_held : (folder : List ℕ) (files : List SourceFile) → is_well contents ≡ true → AreFilesOf contents folder files → All (IsHeld contents folder) files
  files_held folder files well are =
      let good = folder_at-well contents folder are.parts well (held_there (held_at contents folder) are.parts are.is_folder) in
      All-permutation (IsHeld contents folder) (files_below deepest are.parts) files are.exact (below_held deepest folder are.parts good (parts_held contents folder are.parts are.is_folder (are_names-well are.parts good)))

-- Files in order are one list, where files of one path are one

abbrev one_at : List ℕ → SourceFile → ℕ
one_at path file = if pointwise nat_eq file.path path then 1 else 0

abbrev InOrder : List SourceFile → Type 0
InOrder = IsSortedByKey path_of (slice_cmp nat_cmp)

same_path : (x y : List ℕ) → is_lt (slice_cmp nat_cmp y x) ≡ false → is_lt (slice_cmp nat_cmp x y) ≡ false → x ≡ y
same_path x y low high = go (slice_cmp nat_cmp x y) refl
  where
    go : (o : Ordering) → slice_cmp nat_cmp x y ≡ o → x ≡ y
    go Less e = let h : true ≡ false = ap is_lt (sym e) ∙ high in cc
    go Equal e = (bytes_eq-Decides x y).0 (sym (is_eq-slice_cmp x y) ∙ ap is_eq e)
    go Greater e = let h : true ≡ false = ap is_lt (sym (nat_list_cmp_total.antisymm y x ∙ ap ordering_reverse e)) ∙ low in cc

own_one : (file : SourceFile) → one_at file.path file ≡ 1
own_one file = ap (λ b. if b then 1 else 0) (nat_list_eq_equiv.refl file.path)

-- a file is there of a path that is counted
some_at : (path : List ℕ) (files : List SourceFile) → 1 ≤ sum_by (one_at path) files → (file : SourceFile) × Contains files file × (file.path ≡ path)
some_at path [] some = absurd (omega (arith, some))
some_at path (file ∷ files) some = go (pointwise nat_eq file.path path) refl (some_at path files)
  where
    go : (b : Bool) → pointwise nat_eq file.path path ≡ b → (1 ≤ sum_by (one_at path) files → (f : SourceFile) × Contains files f × (f.path ≡ path)) → (f : SourceFile) × Contains (file ∷ files) f × (f.path ≡ path)
    go true e behind = (file, (0, omega arith, refl), (bytes_eq-Decides file.path path).0 e)
    go false e behind =
        let zero_here : one_at path file ≡ 0 = ap (λ b. if b then 1 else 0) e in
        let found = behind (omega (arith, some, sum_by-cons (one_at path) file files, zero_here)) in
        (found.0, (suc found.1.0, omega (arith, found.1.1), found.1.2), found.2)

-- none comes before the first
first_is_least : (first : SourceFile) (files : List SourceFile) (file : SourceFile) → InOrder (first ∷ files) → Contains (first ∷ files) file → is_lt (slice_cmp nat_cmp file.path first.path) ≡ false
first_is_least first files file up has =
    subst (λ (f : SourceFile). is_lt (slice_cmp nat_cmp f.path first.path) ≡ false) has.2 (sorted_far (λ x y. is_lt (slice_cmp nat_cmp (path_of x) (path_of y))) (ranks_by nat_list_cmp_total path_of) (first ∷ files) up 0 has.0 file (omega arith) has.1)

others_in_order : (first : SourceFile) (files : List SourceFile) → InOrder (first ∷ files) → InOrder files
others_in_order first files up k d low below =
    let next : suc k + 1 ≡ suc (k + 1) = omega arith in
    subst (λ (n : ℕ). is_lt (slice_cmp nat_cmp (path_of (get_or (first ∷ files) n d)) (path_of (get_or files k d))) ≡ false) next (up (suc k) d (omega arith) (omega (arith, below)))

abbrev SameCounts : List SourceFile → List SourceFile → Type 0
SameCounts files others = (path : List ℕ) → sum_by (one_at path) files ≡ sum_by (one_at path) others

abbrev AgreeAt : List SourceFile → List SourceFile → Type 0
AgreeAt files others = (x y : SourceFile) → Contains files x → Contains others y → x.path ≡ y.path → x ≡ y

later : (x : SourceFile) (files : List SourceFile) (y : SourceFile) → Contains files y → Contains (x ∷ files) y
later x files y has = (suc has.0, omega (arith, has.1), has.2)

counted_first : (x : SourceFile) (xs : List SourceFile) → 1 ≤ sum_by (one_at x.path) (x ∷ xs)
counted_first x xs = omega (arith, sum_by-cons (one_at x.path) x xs, own_one x)

least_of_both : (x y : SourceFile) (xs ys : List SourceFile) → InOrder (y ∷ ys) → SameCounts (x ∷ xs) (y ∷ ys) → is_lt (slice_cmp nat_cmp x.path y.path) ≡ false
least_of_both x y xs ys up counts =
    let there = some_at x.path (y ∷ ys) (omega (arith, counted_first x xs, counts x.path)) in
    subst (λ (p : List ℕ). is_lt (slice_cmp nat_cmp p y.path) ≡ false) there.2 (first_is_least y ys there.0 up there.1)

one_list : (files others : List SourceFile) → InOrder files → InOrder others → SameCounts files others → AgreeAt files others → files ≡ others
one_list [] [] up also counts agree = refl
one_list [] (y ∷ ys) up also counts agree = absurd (omega (arith, counted_first y ys, counts y.path))
one_list (x ∷ xs) [] up also counts agree = absurd (omega (arith, counted_first x xs, counts x.path))
one_list (x ∷ xs) (y ∷ ys) up also counts agree =
    let path : x.path ≡ y.path = same_path x.path y.path (least_of_both y x ys xs up (λ p. sym (counts p))) (least_of_both x y xs ys also counts) in
    let first : x ≡ y = agree x y (0, omega arith, refl) (0, omega arith, refl) path in
    let rest : SameCounts xs ys = λ p. omega (arith, counts p, sum_by-cons (one_at p) x xs, sum_by-cons (one_at p) y ys, ap (one_at p) first) in
    let others : xs ≡ ys = one_list xs ys (others_in_order x xs up) (others_in_order y ys also) rest (λ a b h k e. agree a b (later x xs a h) (later y ys b k) e) in
    (λ i. first i ∷ others i)

some_is : {X : Type 0} (x y : X) → Some x ≡ Some y → x ≡ y
some_is x y e = cc

-- there is one list of class files of a folder, where contents have each name once
pub one_folder : (contents : Parts) (path : List ℕ) (files others : List SourceFile) → is_well contents ≡ true → AreFilesOf contents path files → AreFilesOf contents path others → files ≡ others
one_folder contents path files others well are also = one_list files others are.in_order also.in_order counts agree
  where
    same : are.parts ≡ also.parts
    same = some_is are.parts also.parts (sym are.is_folder ∙ also.is_folder)

    counts : SameCounts files others
    counts p = sum_by-IsPermutation (one_at p) (files_below deepest are.parts) files are.exact ∙ ap (λ ps. sum_by (one_at p) (files_below deepest ps)) same ∙ sym (sum_by-IsPermutation (one_at p) (files_below deepest also.parts) others also.exact)

    agree : AgreeAt files others
    agree x y h k e =
        let held_x = All-contains (IsHeld contents path) files x (files_held contents path files well are) h in
        let held_y = All-contains (IsHeld contents path) others y (files_held contents path others well also) k in
        let bytes : x.bytes ≡ y.bytes = some_is x.bytes y.bytes (sym held_x ∙ ap (λ p. file_at contents (path_in path p)) e ∙ held_y) in
        (λ i. record { path = e i; bytes = bytes i })
