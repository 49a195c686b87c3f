-- There is one plan.
use Rattle.std.proofs.Common.{◌≡◌, ℕ, ◌+◌, ◌<◌, false, true≢false, List, [], ◌∷◌, ◌++◌, Contains, refl, sym, ap, ◌∙◌, subst, inl, inr, length, get_or, map, arith}
use Rattle.std.specs.Prelude.{◌⊎◌, ◌↔◌, codes}
use Rattle.std.specs.List.{IsDistinct}
use Rattle.std.specs.List.Sorted.{IsPermutation, IsSortedByKey}
use Rattle.std.specs.Ordering.{nat_cmp, is_eq, is_lt, ordering_reverse}
use Rattle.std.specs.declared.cmp.Ordering.{Ordering}
use Rattle.std.specs.declared.cmp.Ordering.TheVariants.{Less, Equal, Greater}
use Rattle.std.specs.Cmp.Lexicographic.{slice_cmp, texts_ties, nat_list_cmp_total}
use Rattle.std.proofs.lemmas.List.{append_cancel_right, length-map, get_or-map}
use Rattle.std.proofs.lemmas.List.Sorted.{Contains-permutation, IsPermutation-sym}
use Rattle.std.proofs.lemmas.Map.Keys.{apart_from_distinct, sorted_from_all_adjacent}
use Rattle.worklist.proofs.Inserted.{nothing_in}
use Rattle.module_names.specs.Names.{Key, Digest, names_of}
use Rattle.sj_graph.specs.declared.graphs.Graph.{Graph}
use Rattle.sj_names.specs.declared.entry_points.EntryPoint.{EntryPoint}
use Rattle.sj_split.specs.declared.homes.Home.{Home}
use Rattle.sj_split.specs.declared.homes.Settled.{Settled}
use Rattle.sj_split.specs.declared.plans.PlannedModule.{PlannedModule}
use Rattle.sj_split.specs.declared.plans.Style.{Style}
use Rattle.sj_split.specs.Orders.{Bytes, is_same, AreIncreasing}
use Rattle.sj_split.specs.Walks.{Name, Id, References}
use Rattle.sj_split.specs.Homes.{class_of, IsHome, AreHomes}
use Rattle.sj_split.specs.Modules.{public_module, module_without_initializers, internal_modules, file, AreIds, AreKeys, IsPlan}
use Rattle.sj_split.proofs.LawsHold.{one_home}
use Rattle.sj_split.proofs.Members.{at_first, further, cons_cases, into_map, Mapped, from_map}
use Rattle.sj_split.proofs.Unique.{one_list}
use Rattle.sj_split.proofs.Walked.{same_name, is_same_itself, then_both}
use Rattle.sj_split_laws.specs.Laws.{name_of, PlansAreOne}
use Rattle.sj_split_laws.proofs.Apart.{new_is_not, apart_head, apart_tail}
use Rattle.sj_split_laws.proofs.Names.{unordered, unordered_apart, names_differ}

turned : {A B : Type 0} → A ↔ B → B ↔ A
turned f = (f.1, f.0)

module _ (references : References) (entries : List EntryPoint) (style : Style) where
  abbrev AreRight : List Settled → Type 0
  AreRight homes = (one : Settled) → Contains homes one → IsHome references entries style one.class one.home

  abbrev settled : Name → Home → Settled
  settled class home = record { class = class; home = home }

  same_settled : (one other : Settled) → one.class ≡ other.class → one.home ≡ other.home → one ≡ other
  same_settled one other c h = ap (λ (n : Name). settled n one.home) c ∙ ap (λ (k : Home). settled other.class k) h

  one_by_classes : (homes others : List Settled) → map class_of homes ≡ map class_of others → AreRight homes → AreRight others → homes ≡ others
  one_by_classes [] [] e p q = refl
  one_by_classes [] (other ∷ others) e p q = cc
  one_by_classes (one ∷ homes) [] e p q = cc
  one_by_classes (one ∷ homes) (other ∷ others) e p q =
      let class : one.class ≡ other.class = cc in
      let rest : map class_of homes ≡ map class_of others = cc in
      let home : one.home ≡ other.home = one_home references entries style other.class one.home other.home (subst (λ (n : Name). IsHome references entries style n one.home) class (p one (at_first one homes))) (q other (at_first other others)) in
      ap (λ (s : Settled). s ∷ homes) (same_settled one other class home) ∙ ap (λ (l : List Settled). other ∷ l) (one_by_classes homes others rest (λ s h. p s (further one s homes h)) (λ s h. q s (further other s others h)))

  one_homes : (homes others : List Settled) → AreHomes references entries style homes → AreHomes references entries style others → homes ≡ others
  one_homes homes others p q = one_by_classes homes others (one_list (map class_of homes) (map class_of others) p.increasing q.increasing (λ class. then_both (p.reached class) (turned (q.reached class)))) p.right q.right

one_ids : (entries : List EntryPoint) (ids others : List Id) → AreIds entries ids → AreIds entries others → ids ≡ others
one_ids entries ids others p q = one_list ids others p.increasing q.increasing (λ id. then_both (p.exact id) (turned (q.exact id)))

one_keys : (homes : List Settled) (keys others : List Key) → AreKeys homes keys → AreKeys homes others → keys ≡ others
one_keys homes keys others p q = one_list keys others p.increasing q.increasing (λ key. then_both (p.exact key) (turned (q.exact key)))

one_unordered : (digest_of : Key → Digest) (graph : Graph) (entries : List EntryPoint) (style : Style) (one other : List PlannedModule) (p : IsPlan digest_of graph entries style one) (q : IsPlan digest_of graph entries style other) → unordered digest_of graph entries style one p ≡ unordered digest_of graph entries style other q
one_unordered digest_of graph entries style one other p q =
    let homes : p.homes ≡ q.homes = one_homes graph.references entries style p.homes q.homes p.are_homes q.are_homes in
    let ids : p.ids ≡ q.ids = one_ids entries p.ids q.ids p.are_ids q.are_ids in
    let keys : p.keys ≡ q.keys = one_keys q.homes p.keys q.keys (subst (λ (l : List Settled). AreKeys l p.keys) homes p.are_keys) q.are_keys in
    ap (λ (l : List Settled). map (public_module entries l) p.ids ++ internal_modules graph.owners l p.keys (names_of digest_of p.keys)) homes
    ∙ ap (λ (l : List Id). map (public_module entries q.homes) l ++ internal_modules graph.owners q.homes p.keys (names_of digest_of p.keys)) ids
    ∙ ap (λ (l : List Key). map (public_module entries q.homes) q.ids ++ internal_modules graph.owners q.homes l (names_of digest_of l)) keys

-- modules whose files are the same have the same name
same_file : (m n : PlannedModule) → file m ≡ file n → m.name ≡ n.name
same_file m n e = append_cancel_right m.name n.name (codes ".js") e

is_less : (a b : Bytes) → is_lt (slice_cmp nat_cmp b a) ≡ false → (a ≡ b → ⊥) → slice_cmp nat_cmp a b ≡ Less
is_less a b low apart = go (slice_cmp nat_cmp a b) refl
  where
    go : (o : Ordering) → slice_cmp nat_cmp a b ≡ o → slice_cmp nat_cmp a b ≡ Less
    go Less e = e
    go Equal e = absurd (apart (same_name a b (texts_ties a b ∙ ap is_eq e)))
    go Greater e = absurd (true≢false (sym (ap is_lt (nat_list_cmp_total.antisymm b a ∙ ap ordering_reverse e)) ∙ low))

files_increase : (modules : List PlannedModule) → IsDistinct is_same (map name_of modules) → IsSortedByKey file (slice_cmp nat_cmp) modules → AreIncreasing (map file modules)
files_increase modules distinct sorted = sorted_from_all_adjacent nat_list_cmp_total (map file modules) [] adjacent
  where
    any : PlannedModule
    any = module_without_initializers [] []

    adjacent : (k : ℕ) → k + 1 < length (map file modules) → slice_cmp nat_cmp (get_or (map file modules) k []) (get_or (map file modules) (k + 1) []) ≡ Less
    adjacent k within =
        let long = length-map modules file in
        let next : k + 1 < length modules = omega (arith, within, long) in
        let here : k < length modules = omega (arith, next) in
        let m : PlannedModule = get_or modules k any in
        let n : PlannedModule = get_or modules (k + 1) any in
        let is_m : get_or (map file modules) k [] ≡ file m = get_or-map file modules k any [] here in
        let is_n : get_or (map file modules) (k + 1) [] ≡ file n = get_or-map file modules (k + 1) any [] next in
        let name_m : get_or (map name_of modules) k [] ≡ m.name = get_or-map name_of modules k any [] here in
        let name_n : get_or (map name_of modules) (k + 1) [] ≡ n.name = get_or-map name_of modules (k + 1) any [] next in
        let apart : is_same (get_or (map name_of modules) k []) (get_or (map name_of modules) (k + 1) []) ≡ false = apart_from_distinct is_same (map name_of modules) k (k + 1) [] distinct (omega arith) (omega (arith, next, length-map modules name_of)) in
        let differ : file m ≡ file n → ⊥ = λ e. true≢false (sym (ap (λ (t : Bytes). is_same (get_or (map name_of modules) k []) t) (name_n ∙ sym (same_file m n e) ∙ sym name_m) ∙ is_same_itself (get_or (map name_of modules) k [])) ∙ apart) in
        ap (λ (t : Bytes). slice_cmp nat_cmp t (get_or (map file modules) (k + 1) [])) is_m
        ∙ ap (λ (t : Bytes). slice_cmp nat_cmp (file m) t) is_n
        ∙ is_less (file m) (file n) (sorted k any (omega arith) next) differ

one_named : (modules : List PlannedModule) → IsDistinct is_same (map name_of modules) → (m n : PlannedModule) → Contains modules m → Contains modules n → m.name ≡ n.name → m ≡ n
one_named [] d m n h k e = nothing_in m h
one_named (first ∷ modules) d m n h k e = by (cons_cases first m modules h) (cons_cases first n modules k) (one_named modules (apart_tail first.name (map name_of modules) d) m n)
  where
    not_later : (x : PlannedModule) → Contains modules x → first.name ≡ x.name → ⊥
    not_later x there same = new_is_not first.name (map name_of modules) x.name (apart_head first.name (map name_of modules) d) (into_map name_of modules x there) same

    by : (first ≡ m) ⊎ Contains modules m → (first ≡ n) ⊎ Contains modules n → (Contains modules m → Contains modules n → m.name ≡ n.name → m ≡ n) → m ≡ n
    by (inl p) (inl q) rest = sym p ∙ q
    by (inl p) (inr q) rest = absurd (not_later n q (ap name_of p ∙ e))
    by (inr p) (inl q) rest = absurd (not_later m p (ap name_of q ∙ sym e))
    by (inr p) (inr q) rest = rest p q e

module _ (all : List PlannedModule) (distinct : IsDistinct is_same (map name_of all)) where
  one_by_files : (one other : List PlannedModule) → map file one ≡ map file other → ((m : PlannedModule) → Contains one m → Contains all m) → ((m : PlannedModule) → Contains other m → Contains all m) → one ≡ other
  one_by_files [] [] e p q = refl
  one_by_files [] (n ∷ ns) e p q = cc
  one_by_files (m ∷ ms) [] e p q = cc
  one_by_files (m ∷ ms) (n ∷ ns) e p q =
      let head : file m ≡ file n = cc in
      let rest : map file ms ≡ map file ns = cc in
      let same : m ≡ n = one_named all distinct m n (p m (at_first m ms)) (q n (at_first n ns)) (same_file m n head) in
      ap (λ (x : PlannedModule). x ∷ ms) same ∙ ap (λ (l : List PlannedModule). n ∷ l) (one_by_files ms ns rest (λ x h. p x (further m x ms h)) (λ x h. q x (further n x ns h)))

  files_among : (one other : List PlannedModule) (t : Bytes) → IsPermutation all one → IsPermutation all other → Contains (map file one) t → Contains (map file other) t
  files_among one other t p q h = by (from_map file one t h)
    where
      by : Mapped file one t → Contains (map file other) t
      by m = subst (λ (u : Bytes). Contains (map file other) u) m.is (into_map file other m.item (Contains-permutation all other m.item q (Contains-permutation one all m.item (IsPermutation-sym all one p) m.among)))

  one_order : (one other : List PlannedModule) → IsPermutation all one → IsPermutation all other → AreIncreasing (map file one) → AreIncreasing (map file other) → one ≡ other
  one_order one other p q f g = one_by_files one other (one_list (map file one) (map file other) f g (λ t. (files_among one other t p q, files_among other one t q p))) (λ m h. Contains-permutation one all m (IsPermutation-sym all one p) h) (λ m h. Contains-permutation other all m (IsPermutation-sym all other q) h)

pub plans_are_one : PlansAreOne
plans_are_one digest_of graph entries style one other keeps p q =
    let all : List PlannedModule = unordered digest_of graph entries style one p in
    let same = one_unordered digest_of graph entries style one other p q in
    one_order all (unordered_apart digest_of graph entries style one keeps p) one other p.exact (subst (λ (l : List PlannedModule). IsPermutation l other) (sym same) q.exact)
    (files_increase one (names_differ digest_of graph entries style one keeps p) p.in_order)
    (files_increase other (names_differ digest_of graph entries style other keeps q) q.in_order)
