-- Laws of the helpers that the pieces of a linked world use.
use Rattle.sj_core.specs.Lookup.{Lookup}
use Rattle.std.specs.Prelude.{◌≡◌, ◌⊎◌, List, Some, Contains}
use Rattle.body_uses.specs.Accepted.{IsAccepted}
use Rattle.body_uses.specs.Bodies.{AreBodies}
use Rattle.sj_emit_help_spec.specs.Helpers.{helper_name, failure_class}
use Rattle.sj_emit_help_spec.specs.Words.{helper}
use Rattle.sj_emit_help_spec.specs.declared.kinds.Failure.{Failure}
use Rattle.sj_emit_help_spec.specs.declared.kinds.Failure.TheVariants.{Store}
use Rattle.sj_emit_help_spec.specs.declared.kinds.Helper.{Helper}
use Rattle.sj_emit_help_spec.specs.declared.kinds.Helper.TheVariants.{ArrayClass, Throws}
use Rattle.js_tree.specs.Terms.{Piece}
use Rattle.body_uses.specs.Pieces.{AreLinkedPieces}
use Rattle.body_uses.specs.Reachable.{Reachable}
use Rattle.body_uses.specs.Rules.{message_constructor}
use Rattle.sj_desugar_spec.specs.Desugar.{desugared_member}
use Rattle.sj_emit_expr_spec.specs.Uses.{uses}
use Rattle.sj_infos.specs.Infos.{asked_in}
use Rattle.body_uses.specs.Kept.{KeepsTreeRules}
use Rattle.sj_names.specs.WellKnown.{object}
use Rattle.sj_names.specs.declared.entry_points.EntryPoint.{EntryPoint}
use Rattle.sj_names.specs.declared.folders.SourceFile.{SourceFile}
use Rattle.body_uses.specs.EmittedMethods.{EmittedMethod}
use Rattle.sj_trees.specs.Term.{Term}
use Rattle.sj_trees.specs.declared.classes.ClassDef.{ClassDef}
use Rattle.sj_trees.specs.declared.classes.MethodDef.{MethodDef}
use Rattle.sj_world.specs.Linked.{Linked}
use Rattle.sj_world.specs.declared.facts.Fact.{Fact}
use Rattle.sj_world.specs.declared.facts.Fact.TheVariants.{Made, Body}
use Rattle.object_helpers.specs.Helpers.{UsesIt}

-- a helper that the code of a body uses, in a method that keeps the local rules, is one that what the body asks for allows
abbrev pub BodiesUseObjectHelpers : Type 0
BodiesUseObjectHelpers = (runs : Lookup) (c : ClassDef) (d : MethodDef) (e : Term) (h : Helper)
    → d.body ≡ Some e
    → KeepsTreeRules c d
    → Contains (uses runs (desugared_member d e).body) (helper (helper_name h))
    → UsesIt (asked_in e) h

-- in an accepted folder, what one of the helpers of linked pieces throws is of a class that is made, whose constructor with a message is needed
abbrev pub ThrownClassesAreReached : Type 0
ThrownClassesAreReached = (entries : List EntryPoint) (files : List SourceFile) (l : Linked) (all : List EmittedMethod) (ps : List Piece)
    → IsAccepted entries files l.world
    → AreBodies l.world entries all
    → ((f : Fact) → Contains l.facts f → Reachable l.world entries f)
    → (p : AreLinkedPieces l all ps)
    → (f : Failure)
    → Contains p.helpers (Throws f)
    → Reachable l.world entries (Made (failure_class f)) × Reachable l.world entries (Body (message_constructor (failure_class f)))

-- and where the class of arrays is one of the helpers, objects of the class that it extends are made, or the exception of a store is, whose class is below that one
abbrev pub ArraysExtendAMadeClass : Type 0
ArraysExtendAMadeClass = (entries : List EntryPoint) (files : List SourceFile) (l : Linked) (all : List EmittedMethod) (ps : List Piece)
    → IsAccepted entries files l.world
    → AreBodies l.world entries all
    → ((f : Fact) → Contains l.facts f → Reachable l.world entries f)
    → (p : AreLinkedPieces l all ps)
    → Contains p.helpers ArrayClass
    → Reachable l.world entries (Made object) ⊎ Reachable l.world entries (Made (failure_class Store))
