-- Laws of what bodies use.
use Rattle.sj_core.specs.Lookup.{Lookup}
use Rattle.std.specs.Prelude.{◌≡◌, true, List, Contains}
use Rattle.object_folders.specs.Accepted.{IsAccepted}
use Rattle.object_folders.specs.Bodies.{AreBodies}
use Rattle.object_folders.specs.Typing.{is_built_with}
use Rattle.object_folders.specs.Built.{Usable, is_object_body}
use Rattle.sj_emit_help_spec.specs.declared.kinds.Helper.{Helper}
use Rattle.js_tree.specs.declared.items.Binding.{Binding}
use Rattle.sj_desugar_spec.specs.Desugar.{desugared_member}
use Rattle.sj_emit_expr_spec.specs.Uses.{uses}
use Rattle.sj_infos.specs.Trees.{trees}
use Rattle.sj_names.specs.declared.entry_points.EntryPoint.{EntryPoint}
use Rattle.sj_names.specs.declared.folders.SourceFile.{SourceFile}
use Rattle.object_folders.specs.EmittedMethods.{EmittedMethod}
use Rattle.sj_trees.specs.Term.{Term}
use Rattle.sj_trees.specs.declared.classes.MethodDef.{MethodDef}
use Rattle.sj_world.specs.Known.{Name, Classes}
use Rattle.sj_world.specs.declared.facts.Fact.{Fact}
use Rattle.object_folders.specs.Used.{used_of}
use Rattle.body_uses.specs.Given.{Given, HelpersGiven}
use Rattle.body_uses.specs.Written.{AreWrittenWith}

-- the bindings that the code of a method with this body uses, by the targets of public members
abbrev pub used_by : Lookup → MethodDef → Term → List Binding
used_by target d e = uses target (desugared_member d e).body

-- a body of the forms with objects, each of whose trees is given what its code uses, is built with what is there
abbrev pub BodiesUseWhatIsGiven : Type 0
BodiesUseWhatIsGiven = (has : Usable) (d : MethodDef) (e : Term)
    → has.objects ≡ true
    → is_object_body d e ≡ true
    → HelpersGiven has (used_by has.lookup d e)
    → ((t : Term) → Contains (trees e) t → Given has (used_by has.lookup d e) t)
    → is_built_with has d e ≡ true

-- a body that is needed in an accepted folder, of a class whose pieces are written, is built with what is written
abbrev pub AcceptedBodiesUseWhatIsWritten : Type 0
AcceptedBodiesUseWhatIsWritten = (entries : List EntryPoint) (files : List SourceFile) (w : Classes) (facts : List Fact) (all : List EmittedMethod) (live : List Name) (helpers : List Helper) (written : List Name)
    → IsAccepted entries files w
    → AreBodies w entries all
    → AreWrittenWith w entries facts all live helpers written
    → (e : EmittedMethod)
    → Contains all e
    → Contains written e.member.class
    → is_built_with (used_of w facts all live helpers written) e.definition e.its_body ≡ true

-- each body that is needed in an accepted folder is of the forms that are built
abbrev pub NeededBodiesAreBuilt : Type 0
NeededBodiesAreBuilt = (entries : List EntryPoint) (files : List SourceFile) (w : Classes) (all : List EmittedMethod)
    → IsAccepted entries files w
    → AreBodies w entries all
    → (e : EmittedMethod)
    → Contains all e
    → is_object_body e.definition e.its_body ≡ true
