-- Modules in the order of their files.
use Rattle.std.proofs.Common.{◌≡◌, ◌+◌, ◌<◌, List, Bool, sym, ap, ◌∙◌, subst, map, length, get_or, arith}
use Rattle.std.specs.Prelude.{All}
use Rattle.std.specs.List.Sorted.{IsPermutation, IsSortedBy, IsSortedByKey}
use Rattle.std.specs.Ordering.{nat_cmp, is_lt}
use Rattle.std.specs.Cmp.Lexicographic.{slice_cmp}
use Rattle.std.proofs.lemmas.List.{length-map, get_or-map}
use Rattle.std.proofs.lemmas.List.Elements.{All-get_or}
use Rattle.std.proofs.lemmas.List.Sorted.{All-permutation, IsPermutation-map}
use Rattle.sj_split.specs.declared.plans.PlannedModule.{PlannedModule}
use Rattle.sj_split.specs.declared.modules.Filed.{Filed}
use Rattle.sj_split.specs.Orders.{Bytes}
use Rattle.sj_split.specs.Modules.{file}
use Rattle.sj_split.specs.Files.{planned_of, IsFiled}

abbrev pub is_lower : Filed → Filed → Bool
is_lower a b = is_lt (slice_cmp nat_cmp a.file b.file)

pub sorted_mapped : (filed : List Filed) → IsSortedBy is_lower filed → All IsFiled filed → IsSortedByKey file (slice_cmp nat_cmp) (map planned_of filed)
sorted_mapped filed sorted all k d low within =
    let any : Filed = record { file = file d; planned = d } in
    let same : length (map planned_of filed) ≡ length filed = length-map filed planned_of in
    let inside : k + 1 < length filed = omega (arith, within, same) in
    let inside_too : k < length filed = omega (arith, inside) in
    let one : Filed = get_or filed k any in
    let next : Filed = get_or filed (k + 1) any in
    let is_one : get_or (map planned_of filed) k d ≡ one.planned = get_or-map planned_of filed k any d inside_too in
    let is_next : get_or (map planned_of filed) (k + 1) d ≡ next.planned = get_or-map planned_of filed (k + 1) any d inside in
    let file_of_one : one.file ≡ file one.planned = All-get_or IsFiled filed k any inside_too all in
    let file_of_next : next.file ≡ file next.planned = All-get_or IsFiled filed (k + 1) any inside all in
    ap (λ (m : PlannedModule). is_lt (slice_cmp nat_cmp (file m) (file (get_or (map planned_of filed) k d)))) is_next
    ∙ ap (λ (m : PlannedModule). is_lt (slice_cmp nat_cmp (file next.planned) (file m))) is_one
    ∙ ap (λ (t : Bytes). is_lt (slice_cmp nat_cmp t (file one.planned))) (sym file_of_next)
    ∙ ap (λ (t : Bytes). is_lt (slice_cmp nat_cmp next.file t)) (sym file_of_one)
    ∙ sorted k any low inside

pub filed_sorted : (modules : List PlannedModule) (before after : List Filed) (list : List PlannedModule) → map planned_of before ≡ modules → IsPermutation before after → list ≡ map planned_of after → IsPermutation modules list
filed_sorted modules before after list is moved made = subst (λ (l : List PlannedModule). IsPermutation modules l) (sym made) (subst (λ (l : List PlannedModule). IsPermutation l (map planned_of after)) is (IsPermutation-map planned_of before after moved))

pub files_sorted : (before after : List Filed) (list : List PlannedModule) → All IsFiled before → IsPermutation before after → IsSortedBy is_lower after → list ≡ map planned_of after → IsSortedByKey file (slice_cmp nat_cmp) list
files_sorted before after list all moved sorted made = subst (λ (l : List PlannedModule). IsSortedByKey file (slice_cmp nat_cmp) l) (sym made) (sorted_mapped after sorted (All-permutation IsFiled before after moved all))
