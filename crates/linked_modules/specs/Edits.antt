-- What an edit that is accepted comes to, with any number of public modules: the files that its folder is linked to, and how much work that takes.
use Rattle.std.specs.Prelude.{◌≡◌, List, length}
use Rattle.declared_modules.specs.Accepted.{IsAccepted}
use Rattle.declared_modules.specs.Bodies.{AreBodies}
use Rattle.declared_modules.specs.EmittedMethods.{EmittedMethod}
use Rattle.js_mean.specs.Shows.{File}
use Rattle.sj_names.specs.declared.counters.Meter.{Meter}
use Rattle.sj_names.specs.declared.entry_points.EntryPoint.{EntryPoint}
use Rattle.sj_names.specs.declared.folders.SourceFile.{SourceFile}
use Rattle.sj_split.specs.declared.plans.Style.{Style}
use Rattle.sj_world.specs.Known.{Classes}
use Rattle.linked_modules.specs.Link.{IsLink}

module _ (entries : List EntryPoint) (files : List SourceFile) where
  -- the folder is linked to these files in this style
  pub record IsLinkOf (style : Style) (links : List File) : Type 0 where
    pub world : Classes
    pub is_accepted : IsAccepted entries files world
    pub link : IsLink world entries style links

  -- the work that the folder takes: each file is read, each body that is needed is checked and emitted
  pub record IsWork (work : Meter) : Type 0 where
    pub world : Classes
    pub is_accepted : IsAccepted entries files world
    pub all : List EmittedMethod
    pub bodies : AreBodies world entries all
    pub is : work ≡ record { read = length files; checked = length all; optimised = 0; emitted = length all }
