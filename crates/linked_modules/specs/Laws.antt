-- Laws of links with several public modules.
use Rattle.std.specs.Prelude.{◌≡◌, List, map}
use Rattle.std.specs.List.{Contains}
use Rattle.declared_modules.specs.Accepted.{IsAccepted}
use Rattle.js_mean.specs.Shows.{File}
use Rattle.sj_agree.specs.Agrees.{Agrees}
use Rattle.sj_names.specs.EntryPoints.{AreEntries}
use Rattle.sj_names.specs.declared.counters.Meter.{Meter}
use Rattle.sj_names.specs.declared.entry_points.EntryPoint.{EntryPoint}
use Rattle.sj_names.specs.declared.folders.SourceFile.{SourceFile}
use Rattle.sj_split.specs.Modules.{module_of}
use Rattle.sj_split.specs.Walks.{Id}
use Rattle.sj_split.specs.declared.plans.Style.{Style}
use Rattle.sj_world.specs.Known.{Classes}
use Rattle.linked_modules.specs.Edits.{IsLinkOf, IsWork}
use Rattle.linked_modules.specs.Link.{IsLink}

-- the files that an accepted folder is linked to show of each public module what the folder's classes show
abbrev pub LinkedModulesAgree : Type 0
LinkedModulesAgree = (entries : List EntryPoint) (files : List SourceFile) (w : Classes) (style : Style) (id : Id) (links : List File)
    → IsAccepted entries files w
    → AreEntries entries
    → IsLink w entries style links
    → Contains (map module_of entries) id
    → Agrees w entries links id

-- the classes of an accepted folder are linked to one list of files at most
abbrev pub LinkIsOne : Type 0
LinkIsOne = (entries : List EntryPoint) (files : List SourceFile) (w : Classes) (style : Style) (one other : List File)
    → IsAccepted entries files w
    → AreEntries entries
    → IsLink w entries style one
    → IsLink w entries style other
    → one ≡ other

-- a folder is linked to one list of files at most in each style
abbrev pub FolderLinkIsOne : Type 0
FolderLinkIsOne = (entries : List EntryPoint) (files : List SourceFile) (style : Style) (one other : List File)
    → AreEntries entries
    → IsLinkOf entries files style one
    → IsLinkOf entries files style other
    → one ≡ other

-- and takes one amount of work
abbrev pub WorkIsOne : Type 0
WorkIsOne = (entries : List EntryPoint) (files : List SourceFile) (one other : Meter) → IsWork entries files one → IsWork entries files other → one ≡ other

-- the files that a folder is linked to show of each public module what the folder's classes show
abbrev pub LinkedFoldersAgree : Type 0
LinkedFoldersAgree = (entries : List EntryPoint) (files : List SourceFile) (style : Style) (id : Id) (links : List File)
    → AreEntries entries
    → (linked : IsLinkOf entries files style links)
    → Contains (map module_of entries) id
    → Agrees linked.world entries links id
