-- When a folder can be linked, and its pieces.
use Rattle.std.specs.Prelude.{List}
use Rattle.std.specs.List.{All}
use Rattle.folder_judging.specs.Entries.{AreEntries}
use Rattle.js_tree.specs.Rules.{IsPiece}
use Rattle.js_tree.specs.Terms.{Piece}
use Rattle.sj_names.specs.EntryPoints.{AreEntries as AreValid}
use Rattle.sj_names.specs.declared.entry_points.EntryPoint.{EntryPoint}
use Rattle.sj_names.specs.declared.folders.SourceFile.{SourceFile}
use Rattle.sj_world.specs.Known.{Classes}
use Rattle.sj_world.specs.Linked.{Linked}
use Rattle.sj_reach.specs.Answers.{AreReachable}
use Rattle.linked_modules.specs.Accepted.{IsAccepted}
use Rattle.js_mean.specs.Shows.{File}
use Rattle.linked_modules.specs.LinkedFoldersLink.{ArePieces}
use Rattle.linked_modules.specs.Link.{IsLink}
use Rattle.sj_split.specs.declared.plans.Style.{Style}

-- the world of a folder that is accepted, with all that is reachable in it and its method entries
pub record IsLinkable (entries : List EntryPoint) (l : Linked) : Type 0 where
  pub files : List SourceFile
  pub is_accepted : IsAccepted entries files l.world
  pub reached : AreReachable l.world entries l.facts
  pub method_entries : AreEntries l.world l.facts l.entries

-- the pieces of the classes, which keep the rules of printing
pub record ArePrintable (w : Classes) (entries : List EntryPoint) (pieces : List Piece) : Type 0 where
  pub are : ArePieces w entries pieces
  pub rules : All IsPiece pieces

-- the classes are linked to these files, by the entries of a command
pub record IsLinkByEntries (w : Classes) (entries : List EntryPoint) (style : Style) (files : List File) : Type 0 where
  pub valid : AreValid entries
  pub link : IsLink w entries style files
