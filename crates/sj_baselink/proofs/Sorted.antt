-- Method entries in order.
use Rattle.std.proofs.Common.{◌≡◌, ℕ, ◌+◌, ◌<◌, Bool, true, false, List, [], ◌∷◌, ◌++◌, Contains, slice_get, get_or, Some, refl, sym, ap, ◌∙◌, subst, map, length, arith, inl, inr}
use Rattle.std.specs.Prelude.{◌⊎◌, All}
use Rattle.std.specs.Cmp.{IsTotalOrder, IsStrictWeakOrder}
use Rattle.std.specs.Cmp.Lexicographic.{slice_cmp, nat_list_cmp_total}
use Rattle.std.specs.List.{IsDistinct}
use Rattle.std.specs.List.Sorted.{IsPermutation, IsSortedBy, IsSorted}
use Rattle.std.specs.Ordering.{nat_cmp, is_lt, ordering_then}
use Rattle.std.proofs.lemmas.Cmp.{then_total, on_total}
use Rattle.std.proofs.lemmas.List.{length-map, get_or-map, map-append}
use Rattle.std.proofs.lemmas.List.Elements.{All-get_or, All-push}
use Rattle.std.proofs.lemmas.List.MinMax.{ranks_by}
use Rattle.std.proofs.lemmas.List.Sorted.{All-permutation, Contains-permutation, IsPermutation-map, IsPermutation-sym, sorted_far}
use Rattle.std.proofs.lemmas.Map.Keys.{IsDistinct-IsPermutation}
use Rattle.std.proofs.lemmas.Map.Made.{AllPairs-from_IsDistinct}
use Rattle.std.proofs.lemmas.Option.{slice_get_within, get_or_from_slice_get}
use Rattle.sj_names.specs.MethodNames.{spelled_method}
use Rattle.sj_world.specs.contracts.linked.MethodEntryPartialEq.TheImpl as entry_eq
use Rattle.sj_world.specs.declared.linked.MethodEntry.{MethodEntry}
use Rattle.sj_baselink_spec.specs.Entries.{entry_cmp}
use Rattle.sj_baselink.specs.Spelled.{entry_of, IsSpelled}
use Rattle.sj_baselink.specs.Steps.{AreOnceInOrder}
use Rattle.sj_baselink.specs.declared.ordered.SpelledEntry.{SpelledEntry}
use Rattle.sj_baselink.proofs.SameEntries.{entry_decides}

entry_total : IsTotalOrder entry_cmp
entry_total = then_total (on_total (λ (e : MethodEntry). e.class) nat_list_cmp_total) (on_total (λ (e : MethodEntry). spelled_method e.name) nat_list_cmp_total)

abbrev pub is_lower : SpelledEntry → SpelledEntry → Bool
is_lower a b = is_lt (ordering_then (slice_cmp nat_cmp a.entry.class b.entry.class) (slice_cmp nat_cmp a.spelling b.spelling))

pub lower_ranks : IsStrictWeakOrder is_lower
lower_ranks = ranks_by (then_total (on_total (λ (e : SpelledEntry). e.entry.class) nat_list_cmp_total) (on_total (λ (e : SpelledEntry). e.spelling) nat_list_cmp_total)) (λ (e : SpelledEntry). e)

sorted_mapped : (spelled : List SpelledEntry) → IsSortedBy is_lower spelled → All IsSpelled spelled → IsSorted entry_cmp (map entry_of spelled)
sorted_mapped spelled sorted all k d low within =
    let any : SpelledEntry = record { spelling = spelled_method d.name; entry = d } in
    let same : length (map entry_of spelled) ≡ length spelled = length-map spelled entry_of in
    let inside : k + 1 < length spelled = omega (arith, within, same) in
    let inside_too : k < length spelled = omega (arith, inside) in
    let one : SpelledEntry = get_or spelled k any in
    let next : SpelledEntry = get_or spelled (k + 1) any in
    let is_one : get_or (map entry_of spelled) k d ≡ one.entry = get_or-map entry_of spelled k any d inside_too in
    let is_next : get_or (map entry_of spelled) (k + 1) d ≡ next.entry = get_or-map entry_of spelled (k + 1) any d inside in
    let spelling_of_one : one.spelling ≡ spelled_method one.entry.name = All-get_or IsSpelled spelled k any inside_too all in
    let spelling_of_next : next.spelling ≡ spelled_method next.entry.name = All-get_or IsSpelled spelled (k + 1) any inside all in
    ap (λ (e : MethodEntry). is_lt (entry_cmp e (get_or (map entry_of spelled) k d))) is_next
    ∙ ap (λ (e : MethodEntry). is_lt (entry_cmp next.entry e)) is_one
    ∙ ap (λ (t : List ℕ). is_lt (ordering_then (slice_cmp nat_cmp next.entry.class one.entry.class) (slice_cmp nat_cmp t (spelled_method one.entry.name)))) (sym spelling_of_next)
    ∙ ap (λ (t : List ℕ). is_lt (ordering_then (slice_cmp nat_cmp next.entry.class one.entry.class) (slice_cmp nat_cmp next.spelling t))) (sym spelling_of_one)
    ∙ sorted k any low inside

-- one more entry with its spelling
pub one_more_spelled : (list new : List SpelledEntry) (yielded : List MethodEntry) (s : SpelledEntry) (entry : MethodEntry) → new ≡ list ++ s ∷ [] → s.entry ≡ entry → IsSpelled s → map entry_of list ≡ yielded → All IsSpelled list → (map entry_of new ≡ yielded ++ entry ∷ []) × All IsSpelled new
one_more_spelled list new yielded s entry put same is were all = (
  ap (map entry_of) put ∙ map-append entry_of list (s ∷ []) ∙ ap (λ (l : List MethodEntry). l ++ s.entry ∷ []) were ∙ ap (λ (e : MethodEntry). yielded ++ e ∷ []) same,
  subst (λ (l : List SpelledEntry). All IsSpelled l) (sym put) (All-push IsSpelled list s all is),
)

pub same_entries : (entries : List MethodEntry) (before after : List SpelledEntry) (list : List MethodEntry) → map entry_of before ≡ entries → IsPermutation before after → list ≡ map entry_of after → IsPermutation entries list
same_entries entries before after list is moved made = subst (λ (l : List MethodEntry). IsPermutation entries l) (sym made) (subst (λ (l : List MethodEntry). IsPermutation l (map entry_of after)) is (IsPermutation-map entry_of before after moved))

pub sorted_entries : (before after : List SpelledEntry) (list : List MethodEntry) → All IsSpelled before → IsPermutation before after → IsSortedBy is_lower after → list ≡ map entry_of after → IsSorted entry_cmp list
sorted_entries before after list all moved sorted made = subst (λ (l : List MethodEntry). IsSorted entry_cmp l) (sym made) (sorted_mapped after sorted (All-permutation IsSpelled before after moved all))

-- two truths about one test
same_test : (a b : MethodEntry) (s t : Bool) → entry_eq.ghosts.eq a b ≡ s → entry_eq.ghosts.eq b a ≡ t → s ≡ t
same_test a b true true h k = refl
same_test a b false false h k = refl
same_test a b true false h k = sym ((entry_decides b a).1 (sym ((entry_decides a b).0 h))) ∙ k
same_test a b false true h k = sym (sym ((entry_decides a b).1 (sym ((entry_decides b a).0 k))) ∙ h)

flips : (a b : MethodEntry) → entry_eq.ghosts.eq a b ≡ entry_eq.ghosts.eq b a
flips a b = same_test a b _ _ refl refl

module _ (list : List MethodEntry) (sorted : IsSorted entry_cmp list) (distinct : IsDistinct entry_eq.ghosts.eq list) where
  apart : (i j : ℕ) (e : MethodEntry) → i < j → slice_get list i ≡ Some e → slice_get list j ≡ Some e → ⊥
  apart i j e lt at there = AllPairs-from_IsDistinct entry_decides list distinct i j e lt (slice_get_within list j e there) (get_or_from_slice_get list i e e at ∙ sym (get_or_from_slice_get list j e e there))

  once : (i j : ℕ) (e : MethodEntry) → slice_get list i ≡ Some e → slice_get list j ≡ Some e → i ≡ j
  once i j e at there = go (sides i j)
    where
      sides : (i j : ℕ) → (i < j) ⊎ ((j < i) ⊎ (i ≡ j))
      sides i j = grind arith

      go : (i < j) ⊎ ((j < i) ⊎ (i ≡ j)) → i ≡ j
      go (inl lt) = absurd (apart i j e lt at there)
      go (inr (inl lt)) = absurd (apart j i e lt there at)
      go (inr (inr same)) = same

  not_lower : (i j : ℕ) (a b : MethodEntry) → i < j → slice_get list i ≡ Some a → slice_get list j ≡ Some b → is_lt (entry_cmp b a) ≡ false
  not_lower i j a b lt at there = subst (λ (x : MethodEntry). is_lt (entry_cmp b x) ≡ false) (get_or_from_slice_get list i a a at) (subst (λ (x : MethodEntry). is_lt (entry_cmp x (get_or list i a)) ≡ false) (get_or_from_slice_get list j b a there) (sorted_far _ (ranks_by entry_total (λ (e : MethodEntry). e)) list sorted i j a (omega (arith, lt)) (slice_get_within list j b there)))

pub once_in_order : (given listed list : List MethodEntry) → listed ≡ given → IsDistinct entry_eq.ghosts.eq listed → IsPermutation listed list → IsSorted entry_cmp list → AreOnceInOrder given list
once_in_order given listed list is distinct moved sorted =
    let distinct_too = IsDistinct-IsPermutation entry_eq.ghosts.eq flips listed list moved distinct in
    record {
      same = λ e. (λ h. subst (λ (l : List MethodEntry). Contains l e) is (Contains-permutation list listed e (IsPermutation-sym listed list moved) h), λ h. Contains-permutation listed list e moved (subst (λ (l : List MethodEntry). Contains l e) (sym is) h));
      once = once list sorted distinct_too;
      in_order = not_lower list sorted distinct_too;
    }
