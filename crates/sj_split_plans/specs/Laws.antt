-- What there is of pieces and of graphs.
use Rattle.std.specs.Prelude.{List}
use Rattle.js_tree.specs.Terms.{Piece}
use Rattle.module_names.specs.Names.{Key, Digest}
use Rattle.sj_graph.specs.References.{IsGraph}
use Rattle.sj_graph.specs.declared.graphs.Graph.{Graph}
use Rattle.sj_names.specs.declared.entry_points.EntryPoint.{EntryPoint}
use Rattle.sj_split.specs.Modules.{IsPlan}
use Rattle.sj_split.specs.declared.plans.PlannedModule.{PlannedModule}
use Rattle.sj_split.specs.declared.plans.Style.{Style}

-- any pieces have a graph
abbrev pub GraphsExist : Type 0
GraphsExist = (pieces : List Piece) → (graph : Graph) × IsGraph pieces graph

-- any graph has a plan
abbrev pub PlansExist : Type 0
PlansExist = (digest_of : Key → Digest) (graph : Graph) (entries : List EntryPoint) (style : Style) → (modules : List PlannedModule) × IsPlan digest_of graph entries style modules
