-- No class is in two modules of a plan.
use Rattle.std.proofs.Common.{◌≡◌, Bool, true, false, List, [], ◌∷◌, ◌++◌, Contains, refl, sym, ap, ◌∙◌, subst, inl, inr, map}
use Rattle.std.specs.Prelude.{◌⊎◌, filter, if◌then◌else◌}
use Rattle.std.proofs.lemmas.List.Elements.{Contains-append_cases}
use Rattle.std.proofs.lemmas.List.Sorted.{Contains-permutation, IsPermutation-sym}
use Rattle.module_names.specs.Names.{Key, names_of}
use Rattle.sj_names.specs.declared.entry_points.EntryPoint.{EntryPoint}
use Rattle.worklist.proofs.Inserted.{nothing_in, only_one}
use Rattle.sj_graph.specs.declared.graphs.Graph.{Graph}
use Rattle.sj_split.specs.declared.homes.Home.{Home}
use Rattle.sj_split.specs.declared.homes.Home.TheVariants.{Public, Internal}
use Rattle.sj_split.specs.declared.homes.Settled.{Settled}
use Rattle.sj_split.specs.declared.plans.PlannedModule.{PlannedModule}
use Rattle.sj_split.specs.Orders.{Bytes, IsBefore, AreIncreasing}
use Rattle.sj_split.specs.Walks.{Name, Id}
use Rattle.sj_split.specs.Homes.{class_of}
use Rattle.sj_split.specs.Modules.{is_public, is_internal, classes_at, public_module, has_piece, with_piece, module_without_initializers, internal_modules}
use Rattle.sj_split.specs.Laws.{OnePlace}
use Rattle.sj_split.proofs.Members.{at_first, further, cons_cases, into_map, Mapped, from_map, from_filter}
use Rattle.sj_split.proofs.Walked.{same_name}
use Rattle.sj_split.proofs.Least.{not_before_itself}
use Rattle.sj_split.proofs.Unique.{below_each, first_of_increasing, rest_of_increasing}

pub public_home : (id : Id) (home : Home) → is_public id home ≡ true → home ≡ Public id
public_home id (Public other) h = ap Public (same_name other id h)
public_home id (Internal key) h = cc

pub internal_home : (key : Key) (home : Home) → is_internal key home ≡ true → home ≡ Internal key
internal_home key (Public id) h = cc
internal_home key (Internal other) h = ap Internal (same_name other key h)

-- a class whose home passes the test
pub record Placed (test : Home → Bool) (homes : List Settled) (class : Name) : Type 0 where
  pub one : Settled
  pub among : Contains homes one
  pub named : one.class ≡ class
  pub passes : test one.home ≡ true

pub placed : (test : Home → Bool) (homes : List Settled) (class : Name) → Contains (classes_at test homes) class → Placed test homes class
placed test homes class h = by (from_map class_of (filter (λ settled. test settled.home) homes) class h)
  where
    by : Mapped class_of (filter (λ settled. test settled.home) homes) class → Placed test homes class
    by m = let p = from_filter (λ (settled : Settled). test settled.home) homes m.item m.among in record { one = m.item; among = p.among; named = m.is; passes = p.passes }

-- a class stands once among homes in order
not_twice : (one other : Settled) (homes : List Settled) → AreIncreasing (map class_of (one ∷ homes)) → Contains homes other → one.class ≡ other.class → ⊥
not_twice one other homes increasing there e = not_before_itself other.class (subst (λ (n : Name). IsBefore n other.class) e (below_each one.class (map class_of homes) other.class (first_of_increasing one.class (map class_of homes) increasing) (into_map class_of homes other there)))

pub one_settled : (homes : List Settled) → AreIncreasing (map class_of homes) → (one other : Settled) → Contains homes one → Contains homes other → one.class ≡ other.class → one ≡ other
one_settled [] increasing one other h k e = nothing_in one h
one_settled (first ∷ homes) increasing one other h k e = by (cons_cases first one homes h) (cons_cases first other homes k) (one_settled homes (rest_of_increasing first.class (map class_of homes) increasing) one other)
  where
    by : (first ≡ one) ⊎ Contains homes one → (first ≡ other) ⊎ Contains homes other → (Contains homes one → Contains homes other → one.class ≡ other.class → one ≡ other) → one ≡ other
    by (inl p) (inl q) rest = sym p ∙ q
    by (inl p) (inr q) rest = absurd (not_twice first other homes increasing q (ap class_of p ∙ e))
    by (inr p) (inl q) rest = absurd (not_twice first one homes increasing p (ap class_of q ∙ sym e))
    by (inr p) (inr q) rest = rest p q e

module _ (owners : List Name) (homes : List Settled) where
  -- the module is that of the key
  abbrev pub InternalOf : List Key → List Bytes → Key → PlannedModule → Type 0
  InternalOf [] names key m = ⊥
  InternalOf (k ∷ keys) [] key m = ⊥
  InternalOf (k ∷ keys) (name ∷ names) key m = ((k ≡ key) × (m ≡ module_without_initializers name (classes_at (is_internal k) homes))) ⊎ InternalOf keys names key m

  key_among : (keys : List Key) (names : List Bytes) (key : Key) (m : PlannedModule) → InternalOf keys names key m → Contains keys key
  key_among [] names key m h = absurd h
  key_among (k ∷ keys) [] key m h = absurd h
  key_among (k ∷ keys) (name ∷ names) key m (inl p) = subst (λ (x : Key). Contains (k ∷ keys) x) p.0 (at_first k keys)
  key_among (k ∷ keys) (name ∷ names) key m (inr h) = further k key keys (key_among keys names key m h)

  pub classes_are : (keys : List Key) (names : List Bytes) (key : Key) (m : PlannedModule) → InternalOf keys names key m → m.classes ≡ classes_at (is_internal key) homes
  classes_are [] names key m h = absurd h
  classes_are (k ∷ keys) [] key m h = absurd h
  classes_are (k ∷ keys) (name ∷ names) key m (inl p) = ap (λ (x : PlannedModule). x.classes) p.1 ∙ ap (λ (x : Key). classes_at (is_internal x) homes) p.0
  classes_are (k ∷ keys) (name ∷ names) key m (inr h) = classes_are keys names key m h

  one_internal : (keys : List Key) (names : List Bytes) (key : Key) (m n : PlannedModule) → AreIncreasing keys → InternalOf keys names key m → InternalOf keys names key n → m ≡ n
  one_internal [] names key m n increasing h k = absurd h
  one_internal (first ∷ keys) [] key m n increasing h k = absurd h
  one_internal (first ∷ keys) (name ∷ names) key m n increasing (inl p) (inl q) = p.1 ∙ sym q.1
  one_internal (first ∷ keys) (name ∷ names) key m n increasing (inl p) (inr q) = absurd (not_before_itself key (subst (λ (x : Key). IsBefore x key) p.0 (below_each first keys key (first_of_increasing first keys increasing) (key_among keys names key n q))))
  one_internal (first ∷ keys) (name ∷ names) key m n increasing (inr p) (inl q) = absurd (not_before_itself key (subst (λ (x : Key). IsBefore x key) q.0 (below_each first keys key (first_of_increasing first keys increasing) (key_among keys names key m p))))
  one_internal (first ∷ keys) (name ∷ names) key m n increasing (inr p) (inr q) = one_internal keys names key m n (rest_of_increasing first keys increasing) p q

  pub record Found (keys : List Key) (names : List Bytes) (m : PlannedModule) : Type 0 where
    pub key : Key
    pub is : InternalOf keys names key m

  found_head : (k : Key) (keys : List Key) (name : Bytes) (names : List Bytes) (m : PlannedModule) (b : Bool) → Contains (if b then module_without_initializers name (classes_at (is_internal k) homes) ∷ [] else []) m → Found (k ∷ keys) (name ∷ names) m
  found_head k keys name names m true h = record { key = k; is = inl (refl, sym (only_one (module_without_initializers name (classes_at (is_internal k) homes)) m h)) }
  found_head k keys name names m false h = nothing_in m h

  found_rest : (k : Key) (keys : List Key) (name : Bytes) (names : List Bytes) (m : PlannedModule) → Found keys names m → Found (k ∷ keys) (name ∷ names) m
  found_rest k keys name names m f = record { key = f.key; is = inr f.is }

  pub found : (keys : List Key) (names : List Bytes) (m : PlannedModule) → Contains (internal_modules owners homes keys names) m → Found keys names m
  found [] names m h = nothing_in m h
  found (k ∷ keys) [] m h = nothing_in m h
  found (k ∷ keys) (name ∷ names) m h = elim (Contains-append_cases (with_piece owners (classes_at (is_internal k) homes) name) (internal_modules owners homes keys names) m h) [ inl here ↦ found_head k keys name names m (has_piece owners (classes_at (is_internal k) homes)) here | inr later ↦ found_rest k keys name names m (found keys names m later) ]

  module _ (entries : List EntryPoint) (keys : List Key) (names : List Bytes) (ids : List Id) (in_order : AreIncreasing (map class_of homes)) (keys_in_order : AreIncreasing keys) where
    one_place : (m n : PlannedModule) (class : Name) → Mapped (public_module entries homes) ids m ⊎ Found keys names m → Mapped (public_module entries homes) ids n ⊎ Found keys names n → Contains m.classes class → Contains n.classes class → m ≡ n
    one_place m n class (inl p) (inl q) h k =
        let s = placed (is_public p.item) homes class (subst (λ (x : PlannedModule). Contains x.classes class) (sym p.is) h) in
        let t = placed (is_public q.item) homes class (subst (λ (x : PlannedModule). Contains x.classes class) (sym q.is) k) in
        let same : s.one ≡ t.one = one_settled homes in_order s.one t.one s.among t.among (s.named ∙ sym t.named) in
        let homes_same : Public p.item ≡ Public q.item = sym (public_home p.item s.one.home s.passes) ∙ ap (λ (x : Settled). x.home) same ∙ public_home q.item t.one.home t.passes in
        let id : p.item ≡ q.item = cc in
        sym p.is ∙ ap (λ (x : Id). public_module entries homes x) id ∙ q.is
    one_place m n class (inl p) (inr q) h k =
        let s = placed (is_public p.item) homes class (subst (λ (x : PlannedModule). Contains x.classes class) (sym p.is) h) in
        let t = placed (is_internal q.key) homes class (subst (λ (l : List Name). Contains l class) (classes_are keys names q.key n q.is) k) in
        let same : s.one ≡ t.one = one_settled homes in_order s.one t.one s.among t.among (s.named ∙ sym t.named) in
        let apart : Public p.item ≡ Internal q.key = sym (public_home p.item s.one.home s.passes) ∙ ap (λ (x : Settled). x.home) same ∙ internal_home q.key t.one.home t.passes in
        cc
    one_place m n class (inr p) (inl q) h k =
        let s = placed (is_internal p.key) homes class (subst (λ (l : List Name). Contains l class) (classes_are keys names p.key m p.is) h) in
        let t = placed (is_public q.item) homes class (subst (λ (x : PlannedModule). Contains x.classes class) (sym q.is) k) in
        let same : s.one ≡ t.one = one_settled homes in_order s.one t.one s.among t.among (s.named ∙ sym t.named) in
        let apart : Internal p.key ≡ Public q.item = sym (internal_home p.key s.one.home s.passes) ∙ ap (λ (x : Settled). x.home) same ∙ public_home q.item t.one.home t.passes in
        cc
    one_place m n class (inr p) (inr q) h k =
        let s = placed (is_internal p.key) homes class (subst (λ (l : List Name). Contains l class) (classes_are keys names p.key m p.is) h) in
        let t = placed (is_internal q.key) homes class (subst (λ (l : List Name). Contains l class) (classes_are keys names q.key n q.is) k) in
        let same : s.one ≡ t.one = one_settled homes in_order s.one t.one s.among t.among (s.named ∙ sym t.named) in
        let homes_same : Internal p.key ≡ Internal q.key = sym (internal_home p.key s.one.home s.passes) ∙ ap (λ (x : Settled). x.home) same ∙ internal_home q.key t.one.home t.passes in
        let key : p.key ≡ q.key = cc in
        one_internal keys names q.key m n keys_in_order (subst (λ (x : Key). InternalOf keys names x m) key p.is) q.is

pub parted : (graph : Graph) (entries : List EntryPoint) (homes : List Settled) (ids : List Id) (keys : List Key) (names : List Bytes) (m : PlannedModule) → Contains (map (public_module entries homes) ids ++ internal_modules graph.owners homes keys names) m → Mapped (public_module entries homes) ids m ⊎ Found graph.owners homes keys names m
parted graph entries homes ids keys names m h = elim (Contains-append_cases (map (public_module entries homes) ids) (internal_modules graph.owners homes keys names) m h) [ inl public ↦ inl (from_map (public_module entries homes) ids m public) | inr internal ↦ inr (found graph.owners homes keys names m internal) ]

pub classes_have_one_place : OnePlace
classes_have_one_place digest_of graph entries style modules is m n class there here h k =
    let names : List Bytes = names_of digest_of is.keys in
    let back = IsPermutation-sym (map (public_module entries is.homes) is.ids ++ internal_modules graph.owners is.homes is.keys names) modules is.exact in
    one_place graph.owners is.homes entries is.keys names is.ids is.are_homes.increasing is.are_keys.increasing m n class
    (parted graph entries is.homes is.ids is.keys names m (Contains-permutation modules (map (public_module entries is.homes) is.ids ++ internal_modules graph.owners is.homes is.keys names) m back there))
    (parted graph entries is.homes is.ids is.keys names n (Contains-permutation modules (map (public_module entries is.homes) is.ids ++ internal_modules graph.owners is.homes is.keys names) n back here))
    h k
