-- Which classes are in the modules of a plan.
use Rattle.std.proofs.Common.{◌≡◌, Bool, true, false, ◌||◌, List, [], ◌∷◌, ◌++◌, Contains, refl, sym, ap, ◌∙◌, subst, inl, inr, length, map, arith}
use Rattle.std.specs.Prelude.{◌⊎◌, ◌↔◌, filter, if◌then◌else◌, Some}
use Rattle.std.specs.List.{list_any}
use Rattle.std.specs.Cmp.Lexicographic.{nat_list_eq_equiv}
use Rattle.std.proofs.lemmas.List.Elements.{Contains-append_cases, Contains-append_left, Contains-append_right}
use Rattle.std.proofs.lemmas.List.Sorted.{Contains-permutation, IsPermutation-sym}
use Rattle.std.proofs.lemmas.Map.Views.{list_any-from_Contains}
use Rattle.indexmap.proofs.CallerLemmas.{Contains-list_any}
use Rattle.worklist.proofs.Inserted.{nothing_in}
use Rattle.module_names.specs.Names.{Key, Digest, names_of}
use Rattle.sj_graph.specs.declared.graphs.Graph.{Graph}
use Rattle.sj_names.specs.declared.entry_points.EntryPoint.{EntryPoint}
use Rattle.sj_split.specs.declared.homes.Home.{Home}
use Rattle.sj_split.specs.declared.homes.Home.TheVariants.{Public, Internal}
use Rattle.sj_split.specs.declared.homes.Settled.{Settled}
use Rattle.sj_split.specs.declared.plans.PlannedModule.{PlannedModule}
use Rattle.sj_split.specs.declared.plans.Style.{Style}
use Rattle.sj_split.specs.declared.plans.Style.TheVariants.{Fewest, Smallest}
use Rattle.sj_split.specs.Orders.{Bytes, is_same}
use Rattle.sj_split.specs.Walks.{Name, Id, References, Reaches, IsReached, SameComponent}
use Rattle.sj_split.specs.Homes.{class_of, home_of_tags, IsHome}
use Rattle.sj_split.specs.Modules.{is_public, is_internal, classes_at, public_module, is_among, has_piece, with_piece, module_without_initializers, internal_modules, module_of, home_of, IsPlan}
use Rattle.sj_split.proofs.Ids.{homes_tell_tags}
use Rattle.sj_split.proofs.LawsHold.{one_home, components_are_homes, tags_decide_homes}
use Rattle.sj_split.proofs.Members.{at_first, further, cons_cases, into_map, Mapped, from_map, into_filter}
use Rattle.sj_split.proofs.OnePlace.{classes_have_one_place, public_home, internal_home, Placed, placed, Found, classes_are, found as found_in}
use Rattle.sj_split.proofs.Planned.{names_length}
use Rattle.sj_split.proofs.Walked.{same_name, is_same_itself}
use Rattle.sj_split_laws.specs.Laws.{IsPlaced, IsPublic, HasOwner, ModulesAreComponents, ModulesAreHomes, ModulesAreTags, PlacedWhere, PlacedAreReached}

-- an item that passes the test
record Passing {X : Type 0} (test : X → Bool) (xs : List X) : Type 0 where
  pub item : X
  pub among : Contains xs item
  pub passes : test item ≡ true

passing : {X : Type 0} (test : X → Bool) (xs : List X) → list_any test xs ≡ true → Passing test xs
passing test [] h = cc
passing test (x ∷ xs) h = go (test x) refl (passing test xs)
  where
    later : Passing test xs → Passing test (x ∷ xs)
    later p = record { item = p.item; among = further x p.item xs p.among; passes = p.passes }

    go : (b : Bool) → test x ≡ b → (list_any test xs ≡ true → Passing test xs) → Passing test (x ∷ xs)
    go true e rest = record { item = x; among = at_first x xs; passes = e }
    go false e rest = later (rest (sym (ap (λ b. b || list_any test xs) e) ∙ h))

some_passes : {X : Type 0} (test : X → Bool) (xs : List X) (x : X) → Contains xs x → test x ≡ true → list_any test xs ≡ true
some_passes test [] x h t = nothing_in x h
some_passes {X} test (y ∷ ys) x h t = elim (cons_cases y x ys h) [ inl e ↦ ap (λ b. b || list_any test ys) (subst (λ (z : X). test z ≡ true) (sym e) t) | inr later ↦ behind (test y) (some_passes test ys x later t) ]
  where
    behind : (b : Bool) → list_any test ys ≡ true → (b || list_any test ys) ≡ true
    behind true e = refl
    behind false e = e

module _ (references : References) (entries : List EntryPoint) where
  reached_by_tags : (class : Name) (home : Home) (tags : List Id) → ((id : Id) → Contains tags id ↔ Reaches references entries id class) → home_of_tags tags ≡ Some home → IsReached references entries class
  reached_by_tags class home [] exact e = cc
  reached_by_tags class home (id ∷ ids) exact e = let r = (exact id).0 (at_first id ids) in record { entry = r.entry; among = r.among; walk = r.walk }

  reached_home : (style : Style) (class : Name) (home : Home) → IsHome references entries style class home → IsReached references entries class
  reached_home Fewest class home h = reached_by_tags class home h.tags h.are_tags.exact h.is_home
  reached_home Smallest class home h = h.reached

  id_of_tags : (tags : List Id) (id : Id) → home_of_tags tags ≡ Some (Public id) → Contains tags id
  id_of_tags [] id e = cc
  id_of_tags (one ∷ []) id e = let same : one ≡ id = cc in subst (λ (i : Id). Contains (one ∷ []) i) same (at_first one [])
  id_of_tags (one ∷ other ∷ ids) id e = cc

  id_of_home : (style : Style) (class : Name) (id : Id) → IsHome references entries style class (Public id) → Contains (map module_of entries) id
  id_of_home Fewest class id h = let r = (h.are_tags.exact id).0 (id_of_tags h.tags id h.is_home) in subst (λ (i : Id). Contains (map module_of entries) i) r.in_module (into_map module_of entries r.entry r.among)
  id_of_home Smallest class id h = let e = h.is_home in cc

module _ (owners : List Name) (homes : List Settled) where
  owning_head : (b : Bool) (name : Bytes) (key : Key) (rest : List PlannedModule) (m : PlannedModule) → has_piece owners (classes_at (is_internal key) homes) ≡ b → (Contains rest m → has_piece owners m.classes ≡ true) → Contains ((if b then module_without_initializers name (classes_at (is_internal key) homes) ∷ [] else []) ++ rest) m → has_piece owners m.classes ≡ true
  owning_head true name key rest m e later h = elim (cons_cases (module_without_initializers name (classes_at (is_internal key) homes)) m rest h) [ inl is ↦ subst (λ (x : PlannedModule). has_piece owners x.classes ≡ true) is e | inr there ↦ later there ]
  owning_head false name key rest m e later h = later h

  -- an internal module owns a piece
  owning : (keys : List Key) (names : List Bytes) (m : PlannedModule) → Contains (internal_modules owners homes keys names) m → has_piece owners m.classes ≡ true
  owning [] names m h = nothing_in m h
  owning (key ∷ keys) [] m h = nothing_in m h
  owning (key ∷ keys) (name ∷ names) m h = owning_head (has_piece owners (classes_at (is_internal key) homes)) name key (internal_modules owners homes keys names) m refl (owning keys names m) h

  -- the internal module of a key
  record Made (keys : List Key) (names : List Bytes) (key : Key) : Type 0 where
    pub planned : PlannedModule
    pub among : Contains (internal_modules owners homes keys names) planned
    pub classes : planned.classes ≡ classes_at (is_internal key) homes

  made : (keys : List Key) (names : List Bytes) (key : Key) → length names ≡ length keys → Contains keys key → has_piece owners (classes_at (is_internal key) homes) ≡ true → Made keys names key
  made [] names key long h owns = nothing_in key h
  made (k ∷ keys) [] key long h owns = cc
  made (k ∷ keys) (name ∷ names) key long h owns = elim (cons_cases k key keys h) [ inl e ↦ first (sym e) | inr later ↦ on (made keys names key (omega (arith, long)) later owns) ]
    where
      on : Made keys names key → Made (k ∷ keys) (name ∷ names) key
      on r = record { planned = r.planned; among = Contains-append_right (with_piece owners (classes_at (is_internal k) homes) name) (internal_modules owners homes keys names) r.planned r.among; classes = r.classes }

      first : key ≡ k → Made (k ∷ keys) (name ∷ names) key
      first e =
          let one : PlannedModule = module_without_initializers name (classes_at (is_internal k) homes) in
          let there : Contains (with_piece owners (classes_at (is_internal k) homes) name) one = subst (λ (b : Bool). Contains (if b then one ∷ [] else []) one) (sym (ap (λ (x : Key). has_piece owners (classes_at (is_internal x) homes)) (sym e) ∙ owns)) (at_first one []) in
          record { planned = one; among = Contains-append_left (with_piece owners (classes_at (is_internal k) homes) name) (internal_modules owners homes keys names) one there; classes = ap (λ (x : Key). classes_at (is_internal x) homes) (sym e) }

  put_at : (test : Home → Bool) (settled : Settled) (class : Name) → Contains homes settled → settled.class ≡ class → test settled.home ≡ true → Contains (classes_at test homes) class
  put_at test settled class there named t = subst (λ (n : Name). Contains (classes_at test homes) n) named (into_map class_of (filter (λ one. test one.home) homes) settled (into_filter (λ one. test one.home) homes settled there t))

module _ (digest_of : Key → Digest) (graph : Graph) (entries : List EntryPoint) (style : Style) (modules : List PlannedModule) (is : IsPlan digest_of graph entries style modules) where
  abbrev names : List Bytes
  names = names_of digest_of is.keys

  abbrev public : List PlannedModule
  public = map (public_module entries is.homes) is.ids

  abbrev internal : List PlannedModule
  internal = internal_modules graph.owners is.homes is.keys (names_of digest_of is.keys)

  into_plan : (m : PlannedModule) → Contains (public ++ internal) m → Contains modules m
  into_plan m h = Contains-permutation (public ++ internal) modules m is.exact h

  from_plan : (m : PlannedModule) → Contains modules m → Contains (public ++ internal) m
  from_plan m h = Contains-permutation modules (public ++ internal) m (IsPermutation-sym (public ++ internal) modules is.exact) h

  at_home : (settled : Settled) (class : Name) (home : Home) → Contains is.homes settled → settled.class ≡ class → settled.home ≡ home → IsHome graph.references entries style class home
  at_home settled class home there named e = subst (λ (n : Name). IsHome graph.references entries style n home) named (subst (λ (k : Home). IsHome graph.references entries style settled.class k) e (is.are_homes.right settled there))

  same_home : (class : Name) (home other : Home) → IsHome graph.references entries style class home → IsHome graph.references entries style class other → home ≡ other
  same_home class home other p q = one_home graph.references entries style class home other p q

  settled_of : (class : Name) (home : Home) → IsHome graph.references entries style class home → Mapped class_of is.homes class
  settled_of class home h = from_map class_of is.homes class ((is.are_homes.reached class).1 (reached_home graph.references entries style class home h))

  placed_public : (class : Name) (home : Home) (id : Id) → IsHome graph.references entries style class home → home ≡ Public id → IsPlaced modules class
  placed_public class home id h e =
      let m = settled_of class home h in
      let is_home : IsHome graph.references entries style class (Public id) = subst (λ (k : Home). IsHome graph.references entries style class k) e h in
      let its : m.item.home ≡ Public id = same_home class m.item.home (Public id) (at_home m.item class m.item.home m.among m.is refl) is_home in
      let one : PlannedModule = public_module entries is.homes id in
      record {
        planned = one;
        among = into_plan one (Contains-append_left public internal one (into_map (public_module entries is.homes) is.ids id ((is.are_ids.exact id).1 (id_of_home graph.references entries style class id is_home))));
        inside = put_at graph.owners is.homes (is_public id) m.item class m.among m.is (ap (is_public id) its ∙ is_same_itself id);
      }

  placed_internal : (class : Name) (home : Home) (key : Key) → IsHome graph.references entries style class home → home ≡ Internal key → HasOwner graph entries style home → IsPlaced modules class
  placed_internal class home key h e owned =
      let m = settled_of class home h in
      let n = settled_of owned.class home owned.at_home in
      let its : m.item.home ≡ Internal key = same_home class m.item.home home (at_home m.item class m.item.home m.among m.is refl) h ∙ e in
      let others : n.item.home ≡ Internal key = same_home owned.class n.item.home home (at_home n.item owned.class n.item.home n.among n.is refl) owned.at_home ∙ e in
      let owner_there : Contains (classes_at (is_internal key) is.homes) owned.class = put_at graph.owners is.homes (is_internal key) n.item owned.class n.among n.is (ap (is_internal key) others ∙ is_same_itself key) in
      let owns : has_piece graph.owners (classes_at (is_internal key) is.homes) ≡ true = some_passes (is_among graph.owners) (classes_at (is_internal key) is.homes) owned.class owner_there (list_any-from_Contains nat_list_eq_equiv owned.class graph.owners owned.owner) in
      let key_there : Contains is.keys key = (is.are_keys.exact key).1 (subst (λ (k : Home). Contains (map home_of is.homes) k) its (into_map home_of is.homes m.item m.among)) in
      let r = made graph.owners is.homes is.keys names key (names_length digest_of is.keys names refl) key_there owns in
      record {
        planned = r.planned;
        among = into_plan r.planned (Contains-append_right public internal r.planned r.among);
        inside = subst (λ (l : List Name). Contains l class) (sym r.classes) (put_at graph.owners is.homes (is_internal key) m.item class m.among m.is (ap (is_internal key) its ∙ is_same_itself key));
      }

  placed_by : (class : Name) (home : Home) (other : Home) → IsHome graph.references entries style class home → home ≡ other → IsPublic home ⊎ HasOwner graph entries style home → IsPlaced modules class
  placed_by class home other h e (inl p) = placed_public class home p.id h p.is
  placed_by class home (Public id) h e (inr owned) = placed_public class home id h e
  placed_by class home (Internal key) h e (inr owned) = placed_internal class home key h e owned

  owner_of : (key : Key) (home : Home) → home ≡ Internal key → has_piece graph.owners (classes_at (is_internal key) is.homes) ≡ true → HasOwner graph entries style home
  owner_of key home e owns = by (passing (is_among graph.owners) (classes_at (is_internal key) is.homes) owns)
    where
      by : Passing (is_among graph.owners) (classes_at (is_internal key) is.homes) → HasOwner graph entries style home
      by p =
          let s = placed (is_internal key) is.homes p.item p.among in
          record { class = p.item; owner = Contains-list_any is_same same_name graph.owners p.item p.passes; at_home = at_home s.one p.item home s.among s.named (internal_home key s.one.home s.passes ∙ sym e) }

  where_placed : (class : Name) (home : Home) → IsHome graph.references entries style class home → (m : PlannedModule) → Contains modules m → Contains m.classes class → IsPublic home ⊎ HasOwner graph entries style home
  where_placed class home h m there inside = elim (Contains-append_cases public internal m (from_plan m there)) [ inl here ↦ inl (of_public (from_map (public_module entries is.homes) is.ids m here)) | inr here ↦ inr (of_internal here (parted_internal here)) ]
    where
      of_public : Mapped (public_module entries is.homes) is.ids m → IsPublic home
      of_public p =
          let s = placed (is_public p.item) is.homes class (subst (λ (x : PlannedModule). Contains x.classes class) (sym p.is) inside) in
          record { id = p.item; is = same_home class home s.one.home h (at_home s.one class s.one.home s.among s.named refl) ∙ public_home p.item s.one.home s.passes }

      parted_internal : Contains internal m → Found graph.owners is.homes is.keys names m
      parted_internal here = found_in graph.owners is.homes is.keys names m here

      of_internal : Contains internal m → Found graph.owners is.homes is.keys names m → HasOwner graph entries style home
      of_internal here f =
          let classes : m.classes ≡ classes_at (is_internal f.key) is.homes = classes_are graph.owners is.homes is.keys names f.key m f.is in
          let s = placed (is_internal f.key) is.homes class (subst (λ (l : List Name). Contains l class) classes inside) in
          let home_is : home ≡ Internal f.key = same_home class home s.one.home h (at_home s.one class s.one.home s.among s.named refl) ∙ internal_home f.key s.one.home s.passes in
          owner_of f.key home home_is (subst (λ (l : List Name). has_piece graph.owners l ≡ true) classes (owning graph.owners is.homes is.keys names m here))

  settled_in : (class : Name) (m : PlannedModule) → Contains modules m → Contains m.classes class → Contains (map class_of is.homes) class
  settled_in class m there inside = elim (Contains-append_cases public internal m (from_plan m there)) [ inl here ↦ of_public (from_map (public_module entries is.homes) is.ids m here) | inr here ↦ of_internal (found_in graph.owners is.homes is.keys names m here) ]
    where
      of_settled : (test : Home → Bool) → Placed test is.homes class → Contains (map class_of is.homes) class
      of_settled test s = subst (λ (n : Name). Contains (map class_of is.homes) n) s.named (into_map class_of is.homes s.one s.among)

      of_public : Mapped (public_module entries is.homes) is.ids m → Contains (map class_of is.homes) class
      of_public p = of_settled (is_public p.item) (placed (is_public p.item) is.homes class (subst (λ (x : PlannedModule). Contains x.classes class) (sym p.is) inside))

      of_internal : Found graph.owners is.homes is.keys names m → Contains (map class_of is.homes) class
      of_internal f = of_settled (is_internal f.key) (placed (is_internal f.key) is.homes class (subst (λ (l : List Name). Contains l class) (classes_are graph.owners is.homes is.keys names f.key m f.is) inside))

  -- the homes of the classes of a module are one
  record Kept (m : PlannedModule) : Type 0 where
    pub test : Home → Bool
    pub classes : m.classes ≡ classes_at test is.homes
    pub one : (home other : Home) → test home ≡ true → test other ≡ true → home ≡ other

  kept : (m : PlannedModule) → Contains modules m → Kept m
  kept m there = elim (Contains-append_cases public internal m (from_plan m there)) [ inl here ↦ of_public (from_map (public_module entries is.homes) is.ids m here) | inr here ↦ of_internal (found_in graph.owners is.homes is.keys names m here) ]
    where
      of_public : Mapped (public_module entries is.homes) is.ids m → Kept m
      of_public p = record { test = is_public p.item; classes = ap (λ (x : PlannedModule). x.classes) (sym p.is); one = λ home other h k. public_home p.item home h ∙ sym (public_home p.item other k) }

      of_internal : Found graph.owners is.homes is.keys names m → Kept m
      of_internal f = record { test = is_internal f.key; classes = classes_are graph.owners is.homes is.keys names f.key m f.is; one = λ home other h k. internal_home f.key home h ∙ sym (internal_home f.key other k) }

  inside_passes : (m : PlannedModule) (k : Kept m) (class : Name) (home : Home) → IsHome graph.references entries style class home → Contains m.classes class → k.test home ≡ true
  inside_passes m k class home h inside =
      let s = placed k.test is.homes class (subst (λ (l : List Name). Contains l class) k.classes inside) in
      ap k.test (same_home class home s.one.home h (at_home s.one class s.one.home s.among s.named refl)) ∙ s.passes

  passes_inside : (m : PlannedModule) (k : Kept m) (class : Name) (home : Home) → IsHome graph.references entries style class home → k.test home ≡ true → Contains m.classes class
  passes_inside m k class home h passes =
      let s = settled_of class home h in
      let its : s.item.home ≡ home = same_home class s.item.home home (at_home s.item class s.item.home s.among s.is refl) h in
      subst (λ (l : List Name). Contains l class) (sym k.classes) (put_at graph.owners is.homes k.test s.item class s.among s.is (ap k.test its ∙ passes))

  home_of_module : (a b : Name) (home other : Home) → IsHome graph.references entries style a home → IsHome graph.references entries style b other → (m : PlannedModule) → Contains modules m → Contains m.classes a → Contains m.classes b → home ≡ other
  home_of_module a b home other h k m there in_a in_b = let t = kept m there in t.one home other (inside_passes m t a home h in_a) (inside_passes m t b other k in_b)

  module_of_home : (a b : Name) (home other : Home) → IsHome graph.references entries style a home → IsHome graph.references entries style b other → (m n : PlannedModule) → Contains modules m → Contains modules n → Contains m.classes a → Contains n.classes b → home ≡ other → m ≡ n
  module_of_home a b home other h k m n there here in_a in_b e =
      let t = kept m there in
      let inside : Contains m.classes b = passes_inside m t b other k (ap t.test (sym e) ∙ inside_passes m t a home h in_a) in
      classes_have_one_place digest_of graph entries style modules is m n b there here inside in_b

pub modules_are_homes : ModulesAreHomes
modules_are_homes digest_of graph entries style modules is a b home other h k m n there here in_a in_b = (
  λ e. home_of_module digest_of graph entries style modules is a b home other h k m there in_a (subst (λ (x : PlannedModule). Contains x.classes b) (sym e) in_b),
  λ e. module_of_home digest_of graph entries style modules is a b home other h k m n there here in_a in_b e,
)

pub placed_where_public_or_owning : PlacedWhere
placed_where_public_or_owning digest_of graph entries style modules is class home h = (
  λ p. where_placed digest_of graph entries style modules is class home h p.planned p.among p.inside,
  λ either. placed_by digest_of graph entries style modules is class home home h refl either,
)

pub placed_classes_are_reached : PlacedAreReached
placed_classes_are_reached digest_of graph entries style modules is class p = (is.are_homes.reached class).0 (settled_in digest_of graph entries style modules is class p.planned p.among p.inside)

-- the home of a class in a module of the plan
home_in : (digest_of : Key → Digest) (graph : Graph) (entries : List EntryPoint) (style : Style) (modules : List PlannedModule) → IsPlan digest_of graph entries style modules → (class : Name) (m : PlannedModule) → Contains modules m → Contains m.classes class → (home : Home) × IsHome graph.references entries style class home
home_in digest_of graph entries style modules is class m there inside = let s = from_map class_of is.homes class (settled_in digest_of graph entries style modules is class m there inside) in (s.item.home, subst (λ name. IsHome graph.references entries style name s.item.home) s.is (is.are_homes.right s.item s.among))

pub modules_are_components : ModulesAreComponents
modules_are_components digest_of graph entries modules is a b m n there here in_a in_b = (
  λ e. same.0 (one.0 e),
  λ c. one.1 (same.1 c),
)
  where
    home_a : (home : Home) × IsHome graph.references entries Smallest a home
    home_a = home_in digest_of graph entries Smallest modules is a m there in_a

    home_b : (home : Home) × IsHome graph.references entries Smallest b home
    home_b = home_in digest_of graph entries Smallest modules is b n here in_b

    one : (m ≡ n) ↔ (home_a.0 ≡ home_b.0)
    one = modules_are_homes digest_of graph entries Smallest modules is a b home_a.0 home_b.0 home_a.1 home_b.1 m n there here in_a in_b

    same : (home_a.0 ≡ home_b.0) ↔ SameComponent graph.references a b
    same = components_are_homes graph.references entries a b home_a.0 home_b.0 home_a.1 home_b.1

pub modules_are_tags : ModulesAreTags
modules_are_tags digest_of graph entries modules are is a b m n there here in_a in_b = (
  λ e. homes_tell_tags graph.references entries are a b home_a.0 home_a.1 (subst (λ home. IsHome graph.references entries Fewest b home) (sym (one.0 e)) home_b.1),
  λ same. one.1 (tags_decide_homes graph.references entries a b home_a.0 home_b.0 home_a.1 home_b.1 same),
)
  where
    home_a : (home : Home) × IsHome graph.references entries Fewest a home
    home_a = home_in digest_of graph entries Fewest modules is a m there in_a

    home_b : (home : Home) × IsHome graph.references entries Fewest b home
    home_b = home_in digest_of graph entries Fewest modules is b n here in_b

    one : (m ≡ n) ↔ (home_a.0 ≡ home_b.0)
    one = modules_are_homes digest_of graph entries Fewest modules is a b home_a.0 home_b.0 home_a.1 home_b.1 m n there here in_a in_b
