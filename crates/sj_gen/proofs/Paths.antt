-- The paths of a generated folder are distinct, so in order each is below the next.
use Rattle.std.proofs.Common.{◌≡◌, ℕ, zero, suc, ◌<◌, ◌≤◌, ◌+◌, ◌^◌, List, [], ◌∷◌, ◌++◌, length, refl, sym, ap, ◌∙◌, arith, Bool, true, false, ◌||◌, codes, decimal, nat_eq, slice_index_or}
use Rattle.std.specs.List.{IsDistinct, AllAdjacentBelow, list_any}
use Rattle.std.specs.List.Sorted.{IsPermutation, IsSortedByKey}
use Rattle.std.specs.Cmp.{IsEquivalence, IsTotalOrder, on_equiv}
use Rattle.std.specs.Cmp.Lexicographic.{pointwise, slice_cmp, nat_list_eq_equiv, nat_list_cmp_total}
use Rattle.std.specs.FinMap.{slice_cmp-IsAntisymmetric, nat_cmp-IsAntisymmetric}
use Rattle.std.specs.Ordering.{nat_cmp, is_lt, ordering_reverse}
use Rattle.std.specs.declared.cmp.Ordering.{Ordering}
use Rattle.std.proofs.lemmas.Slice.Eq.{bytes_eq-Decides}
use Rattle.std.proofs.lemmas.Fmt.{decimal_injective}
use Rattle.std.proofs.lemmas.List.{append_cancel_left, append_cancel_right}
use Rattle.std.proofs.lemmas.List.Folds.{list_any-append}
use Rattle.std.proofs.lemmas.Map.Keys.{IsDistinct-push, IsDistinct-IsPermutation, apart_from_distinct}
use Rattle.sj_names.specs.declared.folders.SourceFile.{SourceFile}
use Rattle.sj_gen.specs.Classes.{class_of, object_of, class_name}
use Rattle.sj_gen.specs.Folder.{IsGenerated, class_files, file_of, path_of}
use Rattle.sj_gen.specs.Paths.{has_same_path, IsBelow}

same_path : IsEquivalence has_same_path
same_path = on_equiv (λ (f : SourceFile). f.path) nat_list_eq_equiv

-- a test that is not true
is_not : (b : Bool) → (b ≡ true → ⊥) → b ≡ false
is_not true h = absurd (h refl)
is_not false h = refl

neither : (a b : Bool) → a ≡ false → b ≡ false → (a || b) ≡ false
neither a b p q = cc

-- classes of two numbers have two paths
apart : (edited : Bool) (m k : ℕ) → k < m → m ≤ 20000 → has_same_path (file_of (class_of edited m)) (file_of (class_of edited k)) ≡ false
unfolding file_of
apart edited m k h b = is_not (has_same_path (file_of (class_of edited m)) (file_of (class_of edited k))) differ
  where
    differ : has_same_path (file_of (class_of edited m)) (file_of (class_of edited k)) ≡ true → ⊥
    differ e =
        let paths : path_of (class_name m) ≡ path_of (class_name k) = (bytes_eq-Decides (path_of (class_name m)) (path_of (class_name k))).0 e in
        let names = append_cancel_right (class_name m) (class_name k) (codes ".sjsir") paths in
        let digits = append_cancel_left (codes "G") (decimal m) (decimal k) names in
        let same = decimal_injective m k (omega arith) (omega arith) digits in
        omega arith

object_apart : (edited : Bool) (n k : ℕ) → has_same_path (file_of (object_of n)) (file_of (class_of edited k)) ≡ false
unfolding file_of
object_apart edited n k = refl

class_not_before : (edited : Bool) (m k : ℕ) → k ≤ m → m ≤ 20000 → list_any (has_same_path (file_of (class_of edited m))) (class_files edited k) ≡ false
class_not_before edited m zero h b = refl
class_not_before edited m (suc k) h b =
    let test = has_same_path (file_of (class_of edited m)) in
    let last = file_of (class_of edited k) in
    list_any-append test (class_files edited k) (last ∷ []) ∙ neither (list_any test (class_files edited k)) (test last || false) (class_not_before edited m k (omega arith) b) (neither (test last) false (apart edited m k (omega arith) b) refl)

object_not_there : (edited : Bool) (n k : ℕ) → list_any (has_same_path (file_of (object_of n))) (class_files edited k) ≡ false
object_not_there edited n zero = refl
object_not_there edited n (suc k) =
    let test = has_same_path (file_of (object_of n)) in
    let last = file_of (class_of edited k) in
    list_any-append test (class_files edited k) (last ∷ []) ∙ neither (list_any test (class_files edited k)) (test last || false) (object_not_there edited n k) (neither (test last) false (object_apart edited n k) refl)

none_twice : IsDistinct has_same_path []
unfolding IsDistinct
none_twice = tt

classes_once : (edited : Bool) (n : ℕ) → n ≤ 20000 → IsDistinct has_same_path (class_files edited n)
classes_once edited zero h = none_twice
classes_once edited (suc n) h = IsDistinct-push same_path (class_files edited n) (file_of (class_of edited n)) (classes_once edited n (omega arith)) (class_not_before edited n n (omega arith) (omega arith))

pub paths_distinct : (n : ℕ) (edited : Bool) (files : List SourceFile) → n ≤ 20000 → IsGenerated n edited files → IsDistinct has_same_path files
paths_distinct n edited files h g =
    let all = class_files edited n ++ file_of (object_of n) ∷ [] in
    IsDistinct-IsPermutation has_same_path same_path.symm all files g.each_once (IsDistinct-push same_path (class_files edited n) (file_of (object_of n)) (classes_once edited n h) (object_not_there edited n n))

-- what isn't above and isn't the same is below
below : (one two : SourceFile) → has_same_path one two ≡ false → is_lt (slice_cmp nat_cmp two.path one.path) ≡ false → IsBelow one two
below one two differ above = go (slice_cmp nat_cmp one.path two.path) refl
  where
    go : (o : Ordering) → slice_cmp nat_cmp one.path two.path ≡ o → o ≡ Ordering.Less
    go Ordering.Less e = refl
    go Ordering.Equal e =
        let same = slice_cmp-IsAntisymmetric nat_cmp-IsAntisymmetric one.path two.path e in
        let yes = (bytes_eq-Decides one.path two.path).1 same in
        cc
    go Ordering.Greater e =
        let back = nat_list_cmp_total.antisymm two.path one.path ∙ ap ordering_reverse e in
        let yes = ap is_lt back in
        cc

pub paths_rise : (n : ℕ) (edited : Bool) (files : List SourceFile) → n ≤ 20000 → IsGenerated n edited files → AllAdjacentBelow IsBelow files (length files)
paths_rise n edited files h g = λ k d b. below (slice_index_or files k d) (slice_index_or files (k + 1) d) (apart_from_distinct has_same_path files k (k + 1) d (paths_distinct n edited files h g) (omega arith) b) (g.in_order k d (omega arith) b)
