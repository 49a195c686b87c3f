-- A plan for a graph of pieces is one for any graph of them.
use Rattle.std.proofs.Common.{◌≡◌, ◌++◌, ◌∙◌, List, [], ◌∷◌, refl, ap, subst, Contains, map, if◌then◌else◌}
use Rattle.std.specs.List.{list_any}
use Rattle.std.specs.List.Sorted.{IsPermutation}
use Rattle.js_tree.specs.Terms.{Piece}
use Rattle.declared_modules.proofs.One.{same_walk, same_test}
use Rattle.declared_modules.proofs.Found.{among_is, is_in}
use Rattle.module_names.specs.Names.{Key, Digest, names_of}
use Rattle.sj_graph.specs.References.{IsGraph}
use Rattle.sj_graph.specs.declared.graphs.Graph.{Graph}
use Rattle.sj_graph.specs.declared.graphs.Reference.{Reference}
use Rattle.sj_names.specs.declared.entry_points.EntryPoint.{EntryPoint}
use Rattle.sj_split.specs.Homes.{IsHome, AreHomes}
use Rattle.sj_split.specs.Modules.{IsPlan, public_module, internal_modules, is_internal, classes_at, has_piece, is_among, module_without_initializers}
use Rattle.sj_split.specs.Orders.{Bytes}
use Rattle.sj_split.specs.Walks.{Name, Id, References, Walk, Reaches, IsReached, SameComponent, IsLeastOfComponent}
use Rattle.sj_split.specs.declared.homes.Home.{Home}
use Rattle.sj_split.specs.declared.homes.Settled.{Settled}
use Rattle.sj_split.specs.declared.plans.PlannedModule.{PlannedModule}
use Rattle.sj_split.specs.declared.plans.Style.{Style}
use Rattle.sj_split.specs.declared.plans.Style.TheVariants.{Fewest, Smallest}

-- of the same references the same classes are reached
module _ (one other : References) (to : (r : Reference) → Contains one r → Contains other r) (entries : List EntryPoint) where
  walked : (a b : Name) → Walk one a b → Walk other a b
  walked = same_walk one other to

  reached : (c : Name) → IsReached one entries c → IsReached other entries c
  reached c r = record { entry = r.entry; among = r.among; walk = walked r.entry.class c r.walk }

  reaches : (id : Id) (c : Name) → Reaches one entries id c → Reaches other entries id c
  reaches id c r = record { entry = r.entry; among = r.among; in_module = r.in_module; walk = walked r.entry.class c r.walk }

  in_component : (a b : Name) → SameComponent one a b → SameComponent other a b
  in_component a b s = record { there = walked a b s.there; back = walked b a s.back }

-- and the homes are the same
module _ (one other : References) (to : (r : Reference) → Contains one r → Contains other r) (back : (r : Reference) → Contains other r → Contains one r) (entries : List EntryPoint) where
  least : (c first : Name) → IsLeastOfComponent one c first → IsLeastOfComponent other c first
  least c first is = record { same = in_component one other to entries c first is.same; first = λ o s. is.first o (in_component other one back entries c o s) }

  same_home : (style : Style) (c : Name) (home : Home) → IsHome one entries style c home → IsHome other entries style c home
  same_home Fewest c home h = record {
    tags = h.tags;
    are_tags = record { increasing = h.are_tags.increasing; exact = λ id. (λ i. reaches one other to entries id c ((h.are_tags.exact id).0 i), λ r. (h.are_tags.exact id).1 (reaches other one back entries id c r)) };
    is_home = h.is_home;
  }
  same_home Smallest c home h = record { reached = reached one other to entries c h.reached; least = h.least; is_least = least c h.least h.is_least; is_home = h.is_home }

  same_homes : (style : Style) (homes : List Settled) → AreHomes one entries style homes → AreHomes other entries style homes
  same_homes style homes h = record {
    increasing = h.increasing;
    reached = λ c. (λ i. reached one other to entries c ((h.reached c).0 i), λ r. (h.reached c).1 (reached other one back entries c r));
    right = λ s i. same_home style s.class s.home (h.right s i);
  }

-- and of the same owners the same internal modules
module _ (one other : List Name) (to : (c : Name) → Contains one c → Contains other c) (back : (c : Name) → Contains other c → Contains one c) where
  among_both : (c : Name) → is_among one c ≡ is_among other c
  among_both c = same_test (is_among one c) (is_among other c) (λ h. among_is other c (to c (is_in one c h))) (λ h. among_is one c (back c (is_in other c h)))

  has_both : (classes : List Name) → has_piece one classes ≡ has_piece other classes
  has_both classes = (λ i. list_any (λ c. among_both c i) classes)

  same_internal : (homes : List Settled) (keys : List Key) (names : List Bytes) → internal_modules one homes keys names ≡ internal_modules other homes keys names
  same_internal homes [] names = refl
  same_internal homes (key ∷ keys) [] = refl
  same_internal homes (key ∷ keys) (name ∷ names) =
      let its : PlannedModule = module_without_initializers name (classes_at (is_internal key) homes) in
      ap (λ b. (if b then its ∷ [] else []) ++ internal_modules one homes keys names) (has_both (classes_at (is_internal key) homes))
      ∙ ap (λ (ms : List PlannedModule). (if has_piece other (classes_at (is_internal key) homes) then its ∷ [] else []) ++ ms) (same_internal homes keys names)

pub same_plan : (digest_of : Key → Digest) (ps : List Piece) (one other : Graph) (entries : List EntryPoint) (style : Style) (modules : List PlannedModule) → IsGraph ps one → IsGraph ps other → IsPlan digest_of one entries style modules → IsPlan digest_of other entries style modules
same_plan digest_of ps one other entries style modules is_one is_other p = record {
  homes = p.homes;
  are_homes = same_homes one.references other.references (λ r i. (is_other.references r).1 ((is_one.references r).0 i)) (λ r i. (is_one.references r).1 ((is_other.references r).0 i)) entries style p.homes p.are_homes;
  ids = p.ids;
  are_ids = p.are_ids;
  keys = p.keys;
  are_keys = p.are_keys;
  exact = subst (λ (internal : List PlannedModule). IsPermutation (map (public_module entries p.homes) p.ids ++ internal) modules) (same_internal one.owners other.owners (λ c i. (is_other.owners c).1 ((is_one.owners c).0 i)) (λ c i. (is_one.owners c).1 ((is_other.owners c).0 i)) p.homes p.keys (names_of digest_of p.keys)) p.exact;
  in_order = p.in_order;
}
