-- The files that the classes of an accepted folder are linked to, with any number of public modules.
use Rattle.std.specs.Prelude.{List}
use Rattle.js_mean.specs.Shows.{File}
use Rattle.js_tree.specs.Terms.{Piece}
use Rattle.declared_modules.specs.Link.{ArePieces}
use Rattle.declared_modules.specs.Files.{AreFilesOf}
use Rattle.module_names.specs.Names.{sha1_digest}
use Rattle.sj_graph.specs.References.{IsGraph}
use Rattle.sj_graph.specs.declared.graphs.Graph.{Graph}
use Rattle.sj_names.specs.declared.entry_points.EntryPoint.{EntryPoint}
use Rattle.sj_split.specs.Modules.{IsPlan}
use Rattle.sj_split.specs.declared.plans.PlannedModule.{PlannedModule}
use Rattle.sj_split.specs.declared.plans.Style.{Style}
use Rattle.sj_world.specs.Known.{Classes}

-- the classes are linked to these files: those of the modules that are planned for their pieces
pub record IsLink (w : Classes) (entries : List EntryPoint) (style : Style) (files : List File) : Type 0 where
  pub pieces : List Piece
  pub are_pieces : ArePieces w entries pieces
  pub graph : Graph
  pub is_graph : IsGraph pieces graph
  pub plan : List PlannedModule
  pub is_plan : IsPlan sha1_digest graph entries style plan
  pub files_are : AreFilesOf plan pieces plan files
