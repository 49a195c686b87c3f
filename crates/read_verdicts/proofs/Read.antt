-- What is read of a folder has its verdict.
use Rattle.std.proofs.Common.{◌≡◌, ◌↔◌, ◌<◌, ◌≤◌, ◌+◌, ℕ, zero, suc, List, [], ◌∷◌, ◌⊎◌, inl, inr, Some, refl, sym, ap, subst, ◌∙◌, map, length, take, slice_get, arith}
use Rattle.std.specs.Prelude.{option_map}
use Rattle.std.proofs.lemmas.List.{length-take-le, take-map}
use Rattle.std.proofs.lemmas.Option.{slice_get-map}
use Rattle.sj_names.specs.declared.entry_points.EntryPoint.{EntryPoint}
use Rattle.sj_names.specs.declared.folders.SourceFile.{SourceFile}
use Rattle.folder_sizes.specs.Sizes.{largest_file, sum, IsOver, IsTooLarge, IsFirstTooLarge}
use Rattle.folder_sizes.specs.Files.{size_of, sizes}
use Rattle.folder_judging_spec.specs.Verdicts.{Verdict, refused, IsVerdict, too_large}
use Rattle.folder_judging_spec.proofs.Firsts.{in_order}
use Rattle.folder_judging_spec.proofs.Verdict.{one_verdict}
use Rattle.folder_files.specs.Files.{front, IsReadOf, all, up_to}
use Rattle.read_verdicts.specs.Laws.{VerdictOnWhatIsRead}

abbrev most : ℕ
most = largest_file + 1

take_all : {X : Type 0} (n : ℕ) (xs : List X) → length xs ≤ n → take n xs ≡ xs
take_all zero [] l = refl
take_all (suc n) [] l = refl
take_all zero (x ∷ xs) l = absurd (omega (arith, l))
take_all (suc n) (x ∷ xs) l = ap (λ ys. x ∷ ys) (take_all n xs (omega (arith, l)))

get_take : {X : Type 0} (n i : ℕ) (xs : List X) → i < n → slice_get (take n xs) i ≡ slice_get xs i
get_take zero i xs l = absurd (omega (arith, l))
get_take (suc n) i [] l = refl
get_take (suc n) zero (x ∷ xs) l = refl
get_take (suc n) (suc i) (x ∷ xs) l = get_take n i xs (omega (arith, l))

take_take : {X : Type 0} (i n : ℕ) (xs : List X) → i ≤ n → take i (take n xs) ≡ take i xs
take_take zero n xs l = refl
take_take (suc i) zero xs l = absurd (omega (arith, l))
take_take (suc i) (suc n) [] l = refl
take_take (suc i) (suc n) (x ∷ xs) l = ap (λ ys. x ∷ ys) (take_take i n xs (omega (arith, l)))

-- a file is read whole, or has more bytes than a file may have
whole_or_more : (f : SourceFile) → (front f ≡ f) ⊎ ((largest_file < size_of f) × (largest_file < size_of (front f)))
whole_or_more f = go (in_order (length f.bytes) most)
  where
    same : take most f.bytes ≡ f.bytes → front f ≡ f
    same e i = record { path = f.path; bytes = e i }

    more : most ≤ length f.bytes → (largest_file < size_of f) × (largest_file < size_of (front f))
    more l = let n = length-take-le most f.bytes l in (omega (arith, l), omega (arith, n))

    go : (length f.bytes < most) ⊎ ((most < length f.bytes) ⊎ (length f.bytes ≡ most)) → (front f ≡ f) ⊎ ((largest_file < size_of f) × (largest_file < size_of (front f)))
    go (inl l) = inl (same (take_all most f.bytes (omega (arith, l))))
    go (inr (inl l)) = inr (more (omega (arith, l)))
    go (inr (inr e)) = inr (more (omega (arith, e)))

over_too : (place total : ℕ) (f : SourceFile) → IsOver place total (size_of (front f)) → IsOver place total (size_of f)
over_too place total f h = go (whole_or_more f)
  where
    go : (front f ≡ f) ⊎ ((largest_file < size_of f) × (largest_file < size_of (front f))) → IsOver place total (size_of f)
    go (inl same) = subst (λ (g : SourceFile). IsOver place total (size_of g)) same h
    go (inr more) = inl more.0

-- a file that isn't too large by itself is read whole
read_whole : (f : SourceFile) → (largest_file < size_of (front f) → ⊥) → front f ≡ f
read_whole f small = go (whole_or_more f)
  where
    go : (front f ≡ f) ⊎ ((largest_file < size_of f) × (largest_file < size_of (front f))) → front f ≡ f
    go (inl same) = same
    go (inr more) = absurd (small more.1)

-- the files before a place, none of them too large by itself, are read whole
whole_before : (place : ℕ) (fs : List SourceFile) → ((i : ℕ) → i < place → (n : ℕ) → slice_get (sizes (map front fs)) i ≡ Some n → largest_file < n → ⊥) → take place (map front fs) ≡ take place fs
whole_before zero fs small = refl
whole_before (suc n) [] small = refl
whole_before (suc n) (f ∷ fs) small =
    let first : front f ≡ f = read_whole f (λ h. small 0 (omega arith) (size_of (front f)) refl h) in
    let rest : take n (map front fs) ≡ take n fs = whole_before n fs (λ i l k e h. small (suc i) (omega (arith, l)) k e h) in
    (λ i. first i ∷ rest i)

-- sizes that are the same before a place, and too large at it too
moved : (place : ℕ) (ns ms : List ℕ) (b : ℕ) → IsFirstTooLarge ns place → take place ns ≡ take place ms → slice_get ms place ≡ Some b → ((a total : ℕ) → slice_get ns place ≡ Some a → IsOver place total a → IsOver place total b) → IsFirstTooLarge ms place
moved place ns ms b first same at over = record {
  too_large = record { size = b; at = at; over = subst (λ (t : List ℕ). IsOver place (sum t) b) same (over first.too_large.size (sum (take place ns)) first.too_large.at first.too_large.over) };
  first = λ i l h. first.first i l (record { size = h.size; at = sym (get_take place i ns l) ∙ ap (λ (t : List ℕ). slice_get t i) same ∙ get_take place i ms l ∙ h.at; over = subst (λ (t : List ℕ). IsOver i (sum t) h.size) (sym (take_take i place ms (omega (arith, l))) ∙ ap (take i) (sym same) ∙ take_take i place ns (omega (arith, l))) h.over });
}

inner : (a b : ℕ) → Some a ≡ Some b → a ≡ b
inner a b e = cc

-- the file at a place where there is a size
record FileAt (fs : List SourceFile) (place n : ℕ) : Type 0 where
  file : SourceFile
  at : slice_get fs place ≡ Some file
  is : size_of (front file) ≡ n

file_at : (fs : List SourceFile) (place n : ℕ) → slice_get (sizes (map front fs)) place ≡ Some n → FileAt fs place n
file_at [] place n e = absurd cc
file_at (f ∷ fs) zero n e = let same : size_of (front f) ≡ n = cc in record { file = f; at = refl; is = same }
file_at (f ∷ fs) (suc place) n e = let r = file_at fs place n e in record { file = r.file; at = r.at; is = r.is }

-- what is read is too large at the place behind which nothing is read
read_too_large : (files : List SourceFile) (place : ℕ) → IsFirstTooLarge (sizes (map front files)) place → IsFirstTooLarge (sizes (take (place + 1) (map front files))) place
read_too_large files place first =
    let ns : List ℕ = sizes (map front files) in
    let cut : IsFirstTooLarge (take (place + 1) ns) place = moved place ns (take (place + 1) ns) first.too_large.size first (sym (take_take place (place + 1) ns (omega arith))) (get_take (place + 1) place ns (omega arith) ∙ first.too_large.at) (λ a total e h. subst (IsOver place total) (inner a first.too_large.size (sym e ∙ first.too_large.at)) h) in
    subst (λ (t : List ℕ). IsFirstTooLarge t place) (take-map size_of (place + 1) (map front files)) cut

module _ (entries : List EntryPoint) (files : List SourceFile) where
  one : (read : List SourceFile) (r : Verdict) → IsVerdict entries read r → IsVerdict entries files r → (v : Verdict) → IsVerdict entries read v ↔ IsVerdict entries files v
  one read r p q v = (λ h. subst (IsVerdict entries files) (one_verdict entries read r v p h) q, λ h. subst (IsVerdict entries read) (one_verdict entries files r v q h) p)

  cut : (place : ℕ) → IsFirstTooLarge (sizes (map front files)) place → (v : Verdict) → IsVerdict entries (take (place + 1) (map front files)) v ↔ IsVerdict entries files v
  cut place first = one read (refused 18 f.path) (too_large place (front f) first_read at_read) (too_large place f first_whole found.at)
    where
      read : List SourceFile
      read = take (place + 1) (map front files)

      ns : List ℕ
      ns = sizes (map front files)

      found : FileAt files place first.too_large.size
      found = file_at files place first.too_large.size first.too_large.at

      f : SourceFile
      f = found.file

      small : (i : ℕ) → i < place → (n : ℕ) → slice_get ns i ≡ Some n → largest_file < n → ⊥
      small i l n e h = first.first i l (record { size = n; at = e; over = inl h })

      same_before : take place ns ≡ take place (sizes files)
      same_before = take-map size_of place (map front files) ∙ ap (map size_of) (whole_before place files small) ∙ sym (take-map size_of place files)

      at_files : slice_get (sizes files) place ≡ Some (size_of f)
      at_files = slice_get-map size_of files place ∙ ap (option_map size_of) found.at

      at_fronts : slice_get (map front files) place ≡ Some (front f)
      at_fronts = slice_get-map front files place ∙ ap (option_map front) found.at

      at_read : slice_get read place ≡ Some (front f)
      at_read = get_take (place + 1) place (map front files) (omega arith) ∙ at_fronts

      over_whole : (a total : ℕ) → slice_get ns place ≡ Some a → IsOver place total a → IsOver place total (size_of f)
      over_whole a total e h = over_too place total f (subst (IsOver place total) (inner a first.too_large.size (sym e ∙ first.too_large.at) ∙ sym found.is) h)

      first_whole : IsFirstTooLarge (sizes files) place
      first_whole = moved place ns (sizes files) (size_of f) first same_before at_files over_whole

      first_read : IsFirstTooLarge (sizes read) place
      first_read = read_too_large files place first

all_whole : (fs : List SourceFile) → ((place : ℕ) (n : ℕ) → slice_get (sizes (map front fs)) place ≡ Some n → largest_file < n → ⊥) → map front fs ≡ fs
all_whole [] small = refl
all_whole (f ∷ fs) small =
    let first : front f ≡ f = read_whole f (λ h. small 0 (size_of (front f)) refl h) in
    let rest : map front fs ≡ fs = all_whole fs (λ i n e h. small (suc i) n e h) in
    (λ i. first i ∷ rest i)

-- where nothing that is read is too large, all files are read whole
pub whole_read : (files read : List SourceFile) → IsReadOf files read → ((place : ℕ) → IsTooLarge (sizes read) place → ⊥) → read ≡ files
whole_read files _ (all none) small = all_whole files (λ i n e h. none i (record { size = n; at = e; over = inl h }))
whole_read files _ (up_to place first) small = absurd (small place (read_too_large files place first).too_large)

pub same_verdict : VerdictOnWhatIsRead
same_verdict entries files _ v (all none) =
    let same : map front files ≡ files = all_whole files (λ i n e h. none i (record { size = n; at = e; over = inl h })) in
    subst (λ (fs : List SourceFile). IsVerdict entries fs v ↔ IsVerdict entries files v) (sym same) ((λ h. h), (λ h. h))
same_verdict entries files _ v (up_to place first) = cut entries files place first v
