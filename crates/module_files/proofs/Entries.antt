-- The initializers of the modules of a plan.
use Rattle.std.proofs.Common.{◌≡◌, List, [], ◌∷◌, ◌++◌, Contains, Some, inl, inr, sym, ap, subst, ◌∙◌, map}
use Rattle.std.proofs.lemmas.List.Sorted.{Contains-permutation, IsPermutation-sym}
use Rattle.std.proofs.lemmas.Slice.Eq.{bytes_eq-Decides}
use Rattle.module_names.specs.Names.{Key, Digest, names_of}
use Rattle.sj_graph.specs.declared.graphs.Graph.{Graph}
use Rattle.sj_names.specs.declared.entry_points.EntryPoint.{EntryPoint}
use Rattle.sj_split.proofs.Members.{cons_cases, from_filter, Mapped}
use Rattle.sj_split.proofs.OnePlace.{InternalOf, parted, placed, public_home}
use Rattle.sj_split.specs.Homes.{IsHome, home_of_tags}
use Rattle.sj_split.specs.Modules.{IsPlan, internal_modules, is_public, public_module}
use Rattle.sj_split.specs.Orders.{Bytes, is_same}
use Rattle.sj_split.specs.Walks.{Name, Id, Reaches}
use Rattle.sj_split.specs.declared.homes.Home.{Home}
use Rattle.sj_split.specs.declared.homes.Home.TheVariants.{Public, Internal}
use Rattle.sj_split.specs.declared.homes.Settled.{Settled}
use Rattle.sj_split.specs.declared.plans.PlannedModule.{PlannedModule}
use Rattle.sj_split.specs.declared.plans.Style.{Style}
use Rattle.sj_split.specs.declared.plans.Style.TheVariants.{Fewest, Smallest}
use Rattle.worklist.proofs.Inserted.{nothing_in}
use Rattle.worklist.specs.Paths.{stay}

-- internal modules have no initializer
internal_calls : (owners : List Name) (homes : List Settled) (keys : List Key) (names : List Bytes) (key : Key) (m : PlannedModule) → InternalOf owners homes keys names key m → m.initializers ≡ []
internal_calls owners homes [] names key m h = absurd h
internal_calls owners homes (k ∷ keys) [] key m h = absurd h
internal_calls owners homes (k ∷ keys) (name ∷ names) key m (inl p) = ap (λ (x : PlannedModule). x.initializers) p.1
internal_calls owners homes (k ∷ keys) (name ∷ names) key m (inr h) = internal_calls owners homes keys names key m h

module _ (digest_of : Key → Digest) (graph : Graph) (entries : List EntryPoint) (style : Style) (modules : List PlannedModule) (is : IsPlan digest_of graph entries style modules) where
  -- an initializer is an entry of its public module
  pub record OfPublic (m : PlannedModule) (e : EntryPoint) : Type 0 where
    pub id : Id
    pub is_public_module : m ≡ public_module entries is.homes id
    pub among : Contains entries e
    pub in_module : e.module ≡ id

  of_public : (m : PlannedModule) (e : EntryPoint) → Contains m.initializers e → Mapped (public_module entries is.homes) is.ids m → OfPublic m e
  of_public m e i p =
      let f = from_filter (λ (entry : EntryPoint). is_same entry.module p.item) entries e (subst (λ (x : PlannedModule). Contains x.initializers e) (sym p.is) i) in
      record { id = p.item; is_public_module = sym p.is; among = f.among; in_module = (bytes_eq-Decides e.module p.item).0 f.passes }

  pub initializer_of : (m : PlannedModule) (e : EntryPoint) → Contains modules m → Contains m.initializers e → OfPublic m e
  initializer_of m e h i =
      let names : List Bytes = names_of digest_of is.keys in
      elim (parted graph entries is.homes is.ids is.keys names m (Contains-permutation modules (map (public_module entries is.homes) is.ids ++ internal_modules graph.owners is.homes is.keys names) m (IsPermutation-sym (map (public_module entries is.homes) is.ids ++ internal_modules graph.owners is.homes is.keys names) modules is.exact) h)) [
        | inl public ↦ of_public m e i public
        | inr internal ↦ nothing_in e (subst (λ (l : List EntryPoint). Contains l e) (internal_calls graph.owners is.homes is.keys names internal.key m internal.is) i)
      ]

  -- a class of the module of an initializer is at home in a public module
  pub at_public : (m : PlannedModule) (e : EntryPoint) (o : OfPublic m e) (a : Name) → Contains m.classes a → IsHome graph.references entries style a (Public o.id)
  at_public m e o a h =
      let s = placed (is_public o.id) is.homes a (subst (λ (x : PlannedModule). Contains x.classes a) o.is_public_module h) in
      subst (λ (n : Name). IsHome graph.references entries style n (Public o.id)) s.named (subst (λ (k : Home). IsHome graph.references entries style s.one.class k) (public_home o.id s.one.home s.passes) (is.are_homes.right s.one s.among))

pub one_tag : (tags : List Id) (id other : Id) → home_of_tags tags ≡ Some (Public id) → Contains tags other → other ≡ id
one_tag [] id other e h = cc
one_tag (one ∷ []) id other e h = let same : one ≡ id = cc in elim (cons_cases one other [] h) [ inl s ↦ sym s ∙ same | inr none ↦ nothing_in other none ]
one_tag (one ∷ two ∷ tags) id other e h = cc

-- in fewest style whatever module reaches a class beside an initializer reaches the class of this
pub tags_of_calls : (digest_of : Key → Digest) (graph : Graph) (entries : List EntryPoint) (modules : List PlannedModule) → IsPlan digest_of graph entries Fewest modules → (m : PlannedModule) (e : EntryPoint) (a : Name) → Contains modules m → Contains m.initializers e → Contains m.classes a → (id : Id) → Reaches graph.references entries id a → Reaches graph.references entries id e.class
tags_of_calls digest_of graph entries modules is m e a h i j id r =
    let o = initializer_of digest_of graph entries Fewest modules is m e h i in
    let home : IsHome graph.references entries Fewest a (Public o.id) = at_public digest_of graph entries Fewest modules is m e o a j in
    let same : id ≡ o.id = one_tag home.tags o.id id home.is_home ((home.are_tags.exact id).1 r) in
    record { entry = e; among = o.among; in_module = o.in_module ∙ sym same; walk = stay }

-- in smallest style no class stands beside an initializer
pub none_beside_calls : (digest_of : Key → Digest) (graph : Graph) (entries : List EntryPoint) (modules : List PlannedModule) → IsPlan digest_of graph entries Smallest modules → (m : PlannedModule) (e : EntryPoint) (a : Name) → Contains modules m → Contains m.initializers e → Contains m.classes a → ⊥
none_beside_calls digest_of graph entries modules is m e a h i j =
    let o = initializer_of digest_of graph entries Smallest modules is m e h i in
    let home : IsHome graph.references entries Smallest a (Public o.id) = at_public digest_of graph entries Smallest modules is m e o a j in
    let w : Public o.id ≡ Internal home.least = home.is_home in
    cc
