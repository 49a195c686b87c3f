-- The keys of homes, and the order of a plan.
use Rattle.std.proofs.Common.{◌≡◌, ℕ, suc, ◌+◌, ◌<◌, List, [], ◌∷◌, ◌++◌, Contains, refl, sym, ap, ◌∙◌, subst, inl, inr, map, length, drop, get_or, add-one, arith, append_assoc, Bool, true, false, ◌||◌, if◌then◌else◌}
use Rattle.std.specs.List.Sorted.{IsPermutation, IsSortedByKey}
use Rattle.std.specs.Ordering.{nat_cmp}
use Rattle.std.specs.Cmp.Lexicographic.{slice_cmp}
use Rattle.std.proofs.Math.Seq.{drop-cons}
use Rattle.sj_names.specs.declared.entry_points.EntryPoint.{EntryPoint}
use Rattle.sj_graph.specs.declared.graphs.Graph.{Graph}
use Rattle.std.specs.Prelude.{◌↔◌, ◌⊎◌}
use Rattle.std.specs.Cmp.Lexicographic.{nat_list_eq_equiv}
use Rattle.std.proofs.lemmas.Map.Views.{list_any-from_Contains}
use Rattle.indexmap.specs.IndexSet.{insert_all}
use Rattle.indexmap.proofs.CallerLemmas.{Contains-list_any}
use Rattle.sj_split.proofs.Walked.{same_name}
use Rattle.sj_split.specs.Orders.{is_same}
use Rattle.std.proofs.lemmas.List.Elements.{Contains-append_cases, Contains-append_left, Contains-append_right}
use Rattle.module_names.specs.Names.{Key, Digest, names_behind, names_of}
use Rattle.worklist.proofs.Inserted.{nothing_in, only_one, from-insert_all, each-insert_all}
use Rattle.sj_split.specs.declared.homes.Home.{Home}
use Rattle.sj_split.specs.declared.homes.Home.TheVariants.{Public, Internal}
use Rattle.sj_split.specs.declared.homes.Settled.{Settled}
use Rattle.sj_split.specs.declared.plans.Style.{Style}
use Rattle.sj_split.specs.declared.plans.PlannedModule.{PlannedModule}
use Rattle.sj_split.specs.Orders.{Bytes, is_same}
use Rattle.sj_split.specs.Walks.{Name, Id}
use Rattle.sj_split.specs.Homes.{AreHomes}
use Rattle.sj_split.specs.Modules.{home_of, is_internal, is_among, has_piece, module_without_initializers, classes_at, public_module, with_piece, internal_modules, AreIds, AreKeys, file, IsPlan}
use Rattle.sj_split.specs.Steps.{keys_at, keys_in}
use Rattle.sj_split.proofs.Members.{at_first, further, cons_cases}

at_home : (home : Home) (key : Key) → Contains (keys_at home) key → home ≡ Internal key
at_home (Public id) key h = nothing_in key h
at_home (Internal other) key h = ap Internal (only_one other key h)

from_keys : (homes : List Settled) (key : Key) → Contains (keys_in homes) key → Contains (map home_of homes) (Internal key)
from_keys [] key h = nothing_in key h
from_keys (one ∷ others) key h = elim (Contains-append_cases (keys_at one.home) (keys_in others) key h) [ inl here ↦ subst (λ (home : Home). Contains (one.home ∷ map home_of others) home) (at_home one.home key here) (at_first one.home (map home_of others)) | inr later ↦ further one.home (Internal key) (map home_of others) (from_keys others key later) ]

into_keys : (homes : List Settled) (key : Key) → Contains (map home_of homes) (Internal key) → Contains (keys_in homes) key
into_keys [] key h = nothing_in (Internal key) h
into_keys (one ∷ others) key h = elim (cons_cases one.home (Internal key) (map home_of others) h) [ inl is ↦ Contains-append_left (keys_at one.home) (keys_in others) key (subst (λ (home : Home). Contains (keys_at home) key) (sym is) (at_first key [])) | inr later ↦ Contains-append_right (keys_at one.home) (keys_in others) key (into_keys others key later) ]

pub keys_exact : (homes : List Settled) (key : Key) → Contains (keys_in homes) key ↔ Contains (map home_of homes) (Internal key)
keys_exact homes key = (from_keys homes key, into_keys homes key)

behind_length : (digest_of : Key → Digest) (earlier keys : List Key) → length (names_behind digest_of earlier keys) ≡ length keys
behind_length digest_of earlier [] = refl
behind_length digest_of earlier (key ∷ keys) = let e = behind_length digest_of (earlier ++ key ∷ []) keys in omega (arith, e)

pub names_length : (digest_of : Key → Digest) (keys : List Key) (names : List Bytes) → names ≡ names_of digest_of keys → length names ≡ length keys
names_length digest_of keys names e = ap length e ∙ behind_length digest_of [] keys

-- one internal module more
pub internal_more : (owners : List Name) (homes : List Settled) (keys : List Key) (names : List Bytes) (place : ℕ) (key : Key) (name : Bytes) (classes : List Name) (before after start : List PlannedModule) → place < length keys → length names ≡ length keys → key ≡ get_or keys place key → name ≡ get_or names place name → classes ≡ classes_at (is_internal key) homes → after ≡ before ++ with_piece owners classes name → before ++ internal_modules owners homes (drop place keys) (drop place names) ≡ start → after ++ internal_modules owners homes (drop (place + 1) keys) (drop (place + 1) names) ≡ start
internal_more owners homes keys names place key name classes before after start within same at named are e so_far =
    let rest_keys : drop place keys ≡ key ∷ drop (place + 1) keys = drop-cons keys place key within ∙ ap (λ k. k ∷ drop (suc place) keys) (sym at) ∙ ap (λ n. key ∷ drop n keys) (sym (add-one place)) in
    let rest_names : drop place names ≡ name ∷ drop (place + 1) names = drop-cons names place name (omega (arith, within, same)) ∙ ap (λ k. k ∷ drop (suc place) names) (sym named) ∙ ap (λ n. name ∷ drop n names) (sym (add-one place)) in
    let later : List PlannedModule = internal_modules owners homes (drop (place + 1) keys) (drop (place + 1) names) in
    ap (λ l. l ++ later) e
    ∙ append_assoc before (with_piece owners classes name) later
    ∙ ap (λ l. before ++ (with_piece owners l name ++ later)) are
    ∙ sym (ap (λ l. before ++ internal_modules owners homes l (drop place names)) rest_keys ∙ ap (λ l. before ++ internal_modules owners homes (key ∷ drop (place + 1) keys) l) rest_names)
    ∙ so_far

pub plan_is : (digest_of : Key → Digest) (graph : Graph) (entries : List EntryPoint) (style : Style) (homes : List Settled) (ids : List Id) (keys : List Key) (names : List Bytes) (owners : List Name) (public both modules : List PlannedModule) → AreHomes graph.references entries style homes → AreIds entries ids → AreKeys homes keys → names ≡ names_of digest_of keys → owners ≡ graph.owners → public ≡ map (public_module entries homes) ids → both ≡ public ++ internal_modules owners homes keys names → IsPermutation both modules → IsSortedByKey file (slice_cmp nat_cmp) modules → IsPlan digest_of graph entries style modules
plan_is digest_of graph entries style homes ids keys names owners public both modules are_homes are_ids are_keys named owned made joined moved sorted = record {
  homes = homes;
  are_homes = are_homes;
  ids = ids;
  are_ids = are_ids;
  keys = keys;
  are_keys = are_keys;
  exact = subst (λ (l : List PlannedModule). IsPermutation l modules) (joined ∙ ap (λ l. l ++ internal_modules owners homes keys names) made ∙ ap (λ l. map (public_module entries homes) ids ++ internal_modules l homes keys names) owned ∙ ap (λ l. map (public_module entries homes) ids ++ internal_modules graph.owners homes keys l) named) moved;
  in_order = sorted;
}

among_same : (owners keys : List Name) (class : Name) → keys ≡ insert_all is_same [] owners → is_among keys class ≡ is_among owners class
among_same owners keys class e = both (is_among keys class) (is_among owners class) refl refl
  where
    into : is_among keys class ≡ true → is_among owners class ≡ true
    into t = list_any-from_Contains nat_list_eq_equiv class owners (listed (from-insert_all is_same [] owners class (subst (λ (l : List Name). Contains l class) e (Contains-list_any is_same same_name keys class t))))
      where
        listed : Contains [] class ⊎ Contains owners class → Contains owners class
        listed (inl none) = nothing_in class none
        listed (inr there) = there

    back : is_among owners class ≡ true → is_among keys class ≡ true
    back t = list_any-from_Contains nat_list_eq_equiv class keys (subst (λ (l : List Name). Contains l class) (sym e) (each-insert_all is_same same_name [] owners class (Contains-list_any is_same same_name owners class t)))

    both : (a b : Bool) → is_among keys class ≡ a → is_among owners class ≡ b → is_among keys class ≡ is_among owners class
    both true b p q = p ∙ sym (into p)
    both false true p q = back q ∙ sym q
    both false false p q = p ∙ sym q

piece_same : (owners keys : List Name) (classes : List Name) → keys ≡ insert_all is_same [] owners → has_piece keys classes ≡ has_piece owners classes
piece_same owners keys [] e = refl
piece_same owners keys (class ∷ classes) e = ap (λ b. b || has_piece keys classes) (among_same owners keys class e) ∙ ap (λ b. is_among owners class || b) (piece_same owners keys classes e)

-- the owners may stand once each
pub internal_same : (owners set : List Name) (homes : List Settled) (keys : List Key) (names : List Bytes) → set ≡ insert_all is_same [] owners → internal_modules set homes keys names ≡ internal_modules owners homes keys names
internal_same owners set homes [] names e = refl
internal_same owners set homes (key ∷ keys) [] e = refl
internal_same owners set homes (key ∷ keys) (name ∷ names) e =
    let classes : List Name = classes_at (is_internal key) homes in
    ap (λ b. (if b then module_without_initializers name classes ∷ [] else []) ++ internal_modules set homes keys names) (piece_same owners set classes e)
    ∙ ap (λ l. with_piece owners classes name ++ l) (internal_same owners set homes keys names e)
