-- The names of a plan's modules differ.
use Rattle.std.proofs.Common.{◌≡◌, ℕ, ◌<◌, Bool, true, false, true≢false, List, [], ◌∷◌, ◌++◌, Contains, refl, sym, ap, ◌∙◌, subst, inl, inr, length, get_or, map, arith}
use Rattle.std.specs.Prelude.{if◌then◌else◌, nat_eq, codes, not}
use Rattle.std.specs.List.{IsDistinct, starts_with}
use Rattle.std.specs.Cmp.Lexicographic.{nat_list_eq_equiv}
use Rattle.std.proofs.lemmas.Bool.{and_parts}
use Rattle.std.proofs.lemmas.List.{get_or_default, map-append}
use Rattle.std.proofs.lemmas.List.Sorted.{IsPermutation-map}
use Rattle.std.proofs.lemmas.Map.Keys.{IsDistinct-IsPermutation, IsDistinct-from_apart}
use Rattle.worklist.proofs.Inserted.{nothing_in}
use Rattle.module_names.specs.Names.{Key, Digest, internal_name, names_behind, names_of, count_with}
use Rattle.module_names.proofs.Differ.{names_differ as key_names_differ}
use Rattle.sj_graph.specs.declared.graphs.Graph.{Graph}
use Rattle.sj_names.specs.EntryPoints.{is_entry}
use Rattle.sj_names.specs.declared.entry_points.EntryPoint.{EntryPoint}
use Rattle.sj_split.specs.declared.homes.Settled.{Settled}
use Rattle.sj_split.specs.declared.plans.PlannedModule.{PlannedModule}
use Rattle.sj_split.specs.declared.plans.Style.{Style}
use Rattle.sj_split.specs.Orders.{Bytes, is_same}
use Rattle.sj_split.specs.Walks.{Name, Id}
use Rattle.sj_split.specs.Modules.{is_internal, classes_at, public_module, has_piece, module_without_initializers, internal_modules, module_of, IsPlan}
use Rattle.sj_split.proofs.Ids.{each_passes}
use Rattle.sj_split.proofs.Members.{at_first, further, cons_cases, Mapped, from_map}
use Rattle.sj_split.proofs.Planned.{names_length}
use Rattle.sj_split_laws.specs.Laws.{name_of, HaveOneLength, KeepsNamesApart, NamesDiffer, IdsAreNotInternal}
use Rattle.sj_split_laws.proofs.Apart.{differ, apart_none, IsNew, new_by, new_is_not, increasing_apart, apart_cons, apart_head, apart_tail, apart_append}

abbrev is_internal_name : Bytes → Bool
is_internal_name name = starts_with nat_eq name (codes "internal-")

internal_begins : (digest : Digest) (earlier : ℕ) → is_internal_name (internal_name digest earlier) ≡ true
internal_begins digest earlier = refl

each_internal : (digest_of : Key → Digest) (earlier keys : List Key) (name : Bytes) → Contains (names_behind digest_of earlier keys) name → is_internal_name name ≡ true
each_internal digest_of earlier [] name h = nothing_in name h
each_internal digest_of earlier (key ∷ keys) name h =
    let first : Bytes = internal_name (digest_of key) (count_with digest_of earlier (digest_of key)) in
    elim (cons_cases first name (names_behind digest_of (earlier ++ key ∷ []) keys) h) [ inl e ↦ subst (λ (n : Bytes). is_internal_name n ≡ true) e (internal_begins (digest_of key) (count_with digest_of earlier (digest_of key))) | inr later ↦ each_internal digest_of (earlier ++ key ∷ []) keys name later ]

names_apart : (digest_of : Key → Digest) → HaveOneLength digest_of → (keys : List Key) → IsDistinct is_same (names_of digest_of keys)
names_apart digest_of one keys = IsDistinct-from_apart is_same (names_of digest_of keys) (λ i j d before within. differ (get_or (names_of digest_of keys) i d) (get_or (names_of digest_of keys) j d) (λ e. same i j d before within e))
  where
    long : length (names_of digest_of keys) ≡ length keys
    long = names_length digest_of keys (names_of digest_of keys) refl

    same : (i j : ℕ) (d : Bytes) → i < j → j < length (names_of digest_of keys) → get_or (names_of digest_of keys) i d ≡ get_or (names_of digest_of keys) j d → ⊥
    same i j d before within e =
        let here : i < length (names_of digest_of keys) = omega arith in
        let equal : i ≡ j = key_names_differ digest_of one.size one.sized keys i j (omega (arith, here, long)) (omega (arith, within, long)) (get_or_default (names_of digest_of keys) i [] d here ∙ e ∙ get_or_default (names_of digest_of keys) j d [] within) in
        omega (arith, before, equal)

public_names : (entries : List EntryPoint) (homes : List Settled) (ids : List Id) → map name_of (map (public_module entries homes) ids) ≡ ids
public_names entries homes [] = refl
public_names entries homes (id ∷ ids) = ap (λ l. id ∷ l) (public_names entries homes ids)

module _ (owners : List Name) (homes : List Settled) where
  put_among : (b : Bool) (name : Bytes) (classes : List Name) (rest : List PlannedModule) (names : List Bytes) (t : Bytes) → ((u : Bytes) → Contains (map name_of rest) u → Contains names u) → Contains (map name_of ((if b then module_without_initializers name classes ∷ [] else []) ++ rest)) t → Contains (name ∷ names) t
  put_among true name classes rest names t inside h = elim (cons_cases name t (map name_of rest) h) [ inl e ↦ subst (λ u. Contains (name ∷ names) u) e (at_first name names) | inr later ↦ further name t names (inside t later) ]
  put_among false name classes rest names t inside h = further name t names (inside t h)

  kept_among : (keys : List Key) (names : List Bytes) (t : Bytes) → Contains (map name_of (internal_modules owners homes keys names)) t → Contains names t
  kept_among [] names t h = nothing_in t h
  kept_among (key ∷ keys) [] t h = nothing_in t h
  kept_among (key ∷ keys) (name ∷ names) t h = put_among (has_piece owners (classes_at (is_internal key) homes)) name (classes_at (is_internal key) homes) (internal_modules owners homes keys names) names t (kept_among keys names) h

  put_apart : (b : Bool) (name : Bytes) (classes : List Name) (rest : List PlannedModule) (names : List Bytes) → IsNew name names → IsDistinct is_same (map name_of rest) → ((u : Bytes) → Contains (map name_of rest) u → Contains names u) → IsDistinct is_same (map name_of ((if b then module_without_initializers name classes ∷ [] else []) ++ rest))
  put_apart true name classes rest names new d inside = apart_cons name (map name_of rest) (new_by name (map name_of rest) (λ u h e. new_is_not name names u new (inside u h) e)) d
  put_apart false name classes rest names new d inside = d

  kept_apart : (keys : List Key) (names : List Bytes) → IsDistinct is_same names → IsDistinct is_same (map name_of (internal_modules owners homes keys names))
  kept_apart [] names d = apart_none
  kept_apart (key ∷ keys) [] d = apart_none
  kept_apart (key ∷ keys) (name ∷ names) d = put_apart (has_piece owners (classes_at (is_internal key) homes)) name (classes_at (is_internal key) homes) (internal_modules owners homes keys names) names (apart_head name names d) (kept_apart keys names (apart_tail name names d)) (kept_among keys names)

-- the modules of a plan before they are put in order
abbrev pub unordered : (digest_of : Key → Digest) (graph : Graph) (entries : List EntryPoint) (style : Style) (modules : List PlannedModule) → IsPlan digest_of graph entries style modules → List PlannedModule
unordered digest_of graph entries style modules is = map (public_module entries is.homes) is.ids ++ internal_modules graph.owners is.homes is.keys (names_of digest_of is.keys)

pub unordered_apart : (digest_of : Key → Digest) (graph : Graph) (entries : List EntryPoint) (style : Style) (modules : List PlannedModule) → KeepsNamesApart digest_of entries → (is : IsPlan digest_of graph entries style modules) → IsDistinct is_same (map name_of (unordered digest_of graph entries style modules is))
unordered_apart digest_of graph entries style modules keeps is =
    let names : List Bytes = names_of digest_of is.keys in
    let public : List PlannedModule = map (public_module entries is.homes) is.ids in
    let internal : List PlannedModule = internal_modules graph.owners is.homes is.keys names in
    let both : IsDistinct is_same (is.ids ++ map name_of internal) = apart_append is.ids (map name_of internal) (increasing_apart is.ids is.are_ids.increasing) (kept_apart graph.owners is.homes is.keys names (names_apart digest_of keeps.one_length is.keys)) (λ t h k. never t (from_map module_of entries t ((is.are_ids.exact t).0 h)) (each_internal digest_of [] is.keys t (kept_among graph.owners is.homes is.keys names t k))) in
    subst (λ l. IsDistinct is_same l) (sym (map-append name_of public internal ∙ ap (λ l. l ++ map name_of internal) (public_names entries is.homes is.ids))) both
  where
    never : (t : Bytes) → Mapped module_of entries t → is_internal_name t ≡ true → ⊥
    never t m e = true≢false (sym e ∙ sym (subst (λ (u : Bytes). false ≡ is_internal_name u) m.is (sym (keeps.none_internal m.item m.among))))

pub names_differ : NamesDiffer
names_differ digest_of graph entries style modules keeps is =
    let all : List PlannedModule = unordered digest_of graph entries style modules is in
    IsDistinct-IsPermutation is_same nat_list_eq_equiv.symm (map name_of all) (map name_of modules) (IsPermutation-map name_of all modules is.exact) (unordered_apart digest_of graph entries style modules keeps is)

pub ids_are_not_internal : IdsAreNotInternal
ids_are_not_internal entries valid entry among = last (is_internal_name entry.module) (and_parts _ _ (and_parts _ _ (each_passes is_entry entries entry valid.each among)).0).1
  where
    last : (b : Bool) → not b ≡ true → b ≡ false
    last true e = cc
    last false e = refl
