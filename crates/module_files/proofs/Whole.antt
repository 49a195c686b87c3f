-- What the files of a plan use is of classes that stand in files.
use Rattle.std.proofs.Common.{[], ◌∷◌, Contains, List, inr, map, subst}
use Rattle.std.proofs.lemmas.List.Elements.{Contains-append_left}
use Rattle.js_tree.specs.Terms.{Piece}
use Rattle.js_tree.specs.declared.items.Binding.{Binding}
use Rattle.module_names.specs.Names.{Key, Digest}
use Rattle.sj_emit_module_spec.proofs.Lines.{in_module, stands_somewhere}
use Rattle.sj_emit_module_spec.specs.Laws.{Uses, by_piece, by_call, IsDeclared}
use Rattle.sj_split_laws.proofs.Placing.{placed_classes_are_reached, placed_where_public_or_owning}
use Rattle.sj_graph.specs.References.{IsGraph, object, reference, reference_by}
use Rattle.sj_graph.specs.declared.graphs.Graph.{Graph}
use Rattle.sj_names.specs.declared.entry_points.EntryPoint.{EntryPoint}
use Rattle.sj_split.proofs.Members.{into_map, from_map}
use Rattle.sj_split.specs.Homes.{class_of, IsHome}
use Rattle.sj_split.specs.Modules.{IsPlan}
use Rattle.sj_split.specs.Orders.{Bytes}
use Rattle.sj_split.specs.Walks.{Name, Refers, IsReached}
use Rattle.sj_split.specs.declared.plans.PlannedModule.{PlannedModule}
use Rattle.sj_split.specs.declared.plans.Style.{Style}
use Rattle.worklist.specs.Paths.{stay, on}
use Rattle.module_files.proofs.Entries.{initializer_of}
use Rattle.module_files.specs.Files.{StandsIn}
use Rattle.module_files.specs.Laws.{PlansAreWhole}

module _ (digest_of : Key → Digest) (graph : Graph) (entries : List EntryPoint) (style : Style) (modules : List PlannedModule) (ps : List Piece) (g : IsGraph ps graph) (is : IsPlan digest_of graph entries style modules) where
  -- some public module reaches what a file uses
  reached : (f : Bytes) (b : Binding) → Uses modules ps f b → IsReached graph.references entries b.owner
  reached f _ (by_piece p b h stands u) =
      let i = in_module modules p.owner f stands in
      let r = placed_classes_are_reached digest_of graph entries style modules is p.owner (record { planned = i.planned; among = i.among; inside = i.inside }) in
      let refers : Refers graph.references p.owner b.owner = (g.references (reference p.owner b.owner)).1 (record { piece = p; among = h; refers = Contains-append_left (map (reference_by p.owner) p.uses) (reference p.owner object ∷ []) (reference p.owner b.owner) (into_map (reference_by p.owner) p.uses b u) }) in
      record { entry = r.entry; among = r.among; walk = on p.owner b.owner r.walk refers }
  reached f _ (by_call m e h named i) = let o = initializer_of digest_of graph entries style modules is m e h i in record { entry = e; among = o.among; walk = stay }

  whole : (b : Binding) → IsReached graph.references entries b.owner → IsDeclared ps b → StandsIn modules ps b.owner
  whole b r d =
      let owner : Contains graph.owners b.owner = (g.owners b.owner).1 (record { piece = d.piece; among = d.among; owner = d.owned }) in
      let m = from_map class_of is.homes b.owner ((is.are_homes.reached b.owner).1 r) in
      let home : IsHome graph.references entries style b.owner m.item.home = subst (λ (n : Name). IsHome graph.references entries style n m.item.home) m.is (is.are_homes.right m.item m.among) in
      let placed = (placed_where_public_or_owning digest_of graph entries style modules is b.owner m.item.home home).1 (inr (record { class = b.owner; owner = owner; at_home = home })) in
      let s = stands_somewhere modules b.owner placed.planned placed.among placed.inside in
      record { its_file = s.file_is; is = s.is }

pub plans_are_whole : PlansAreWhole
plans_are_whole digest_of graph entries style modules ps g is closed f b u = whole digest_of graph entries style modules ps g is b (reached digest_of graph entries style modules ps g is f b u) (closed f b u)
