-- Laws of folders that are accepted.
use Rattle.std.specs.Prelude.{◌≡◌, ◌↔◌, ℕ, true, List, [], ◌∷◌}
use Rattle.std.specs.List.{Contains}
use Rattle.ir_mean.specs.Shows.{initializers}
use Rattle.js_mean.specs.Shows.{file_of}
use Rattle.js_tree.specs.Spelling.{Spells}
use Rattle.agree_classes.specs.Agrees.{Agrees}
use Rattle.agree_classes.specs.EmittedMethods.{EmittedMethod}
use Rattle.agree_classes.specs.Emitted.{module_with}
use Rattle.sj_names.specs.declared.entry_points.EntryPoint.{EntryPoint}
use Rattle.sj_names.specs.declared.folders.SourceFile.{SourceFile}
use Rattle.agree_classes.specs.Linked.{functions_of, have_functions}
use Rattle.agree_classes.specs.Built.{is_built_body}
use Rattle.agree_classes.specs.Typing.{is_built_with}
use Rattle.sj_world.specs.Known.{Classes}
use Rattle.folder_judging_spec.specs.Verdicts.{IsVerdict, accepted}
use Rattle.accepted_folders.specs.Accepted.{IsAccepted}
use Rattle.accepted_folders.specs.Bodies.{AreBodies}

-- a folder is accepted just where it has such a world
abbrev pub AcceptedFoldersHaveAWorld : Type 0
AcceptedFoldersHaveAWorld = (entries : List EntryPoint) (files : List SourceFile) → IsVerdict entries files accepted ↔ ((w : Classes) × IsAccepted entries files w)

-- the bodies of an accepted folder can be listed: it can't be that no methods are those of all bodies that are needed
abbrev pub AcceptedFoldersHaveBodies : Type 0
AcceptedFoldersHaveBodies = (entries : List EntryPoint) (files : List SourceFile) (w : Classes) → IsAccepted entries files w → ((fs : List EmittedMethod) → AreBodies w entries fs → ⊥) → ⊥

-- what a body calls that is needed is needed itself: so a body that is built whatever it calls is built where it calls these methods alone
abbrev pub CallsAreAmongBodies : Type 0
CallsAreAmongBodies = (w : Classes) (entries : List EntryPoint) (fs : List EmittedMethod) (e : EmittedMethod) → AreBodies w entries fs → Contains fs e → is_built_body e.definition e.its_body ≡ true → is_built_with (functions_of fs) e.definition e.its_body ≡ true

-- the method of each initializer is among the bodies
abbrev pub InitializersAreAmongBodies : Type 0
InitializersAreAmongBodies = (w : Classes) (entries : List EntryPoint) (fs : List EmittedMethod) (id : List ℕ) → AreBodies w entries fs → have_functions fs (initializers entries id) ≡ true

-- a file that spells the module of the bodies that are needed, where each is of the forms that are built, shows of a public module of an accepted
-- folder what the folder's classes show
abbrev pub AcceptedFilesAgree : Type 0
AcceptedFilesAgree = (entries : List EntryPoint) (files : List SourceFile) (w : Classes) (fs : List EmittedMethod) (id bytes : List ℕ)
    → IsAccepted entries files w
    → AreBodies w entries fs
    → ((e : EmittedMethod) → Contains fs e → is_built_body e.definition e.its_body ≡ true)
    → Spells (module_with fs (initializers entries id)) bytes
    → Agrees w entries (record { name = file_of id; bytes = bytes } ∷ []) id
