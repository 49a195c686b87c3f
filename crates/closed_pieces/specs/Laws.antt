-- What the pieces of an accepted folder use.
use Rattle.std.specs.Prelude.{List}
use Rattle.std.specs.List.{Contains}
use Rattle.linked_folders.specs.Accepted.{IsAccepted}
use Rattle.js_tree.specs.Terms.{Piece}
use Rattle.js_tree.specs.declared.items.Binding.{Binding}
use Rattle.linked_folders.specs.Link.{ArePieces}
use Rattle.sj_emit_module_spec.specs.Laws.{IsDeclared}
use Rattle.sj_names.specs.declared.entry_points.EntryPoint.{EntryPoint}
use Rattle.sj_names.specs.declared.folders.SourceFile.{SourceFile}
use Rattle.sj_world.specs.Known.{Classes}

-- in an accepted folder, each binding that a piece uses is the name of a piece that the binding's owner owns
abbrev pub UsesAreDeclared : Type 0
UsesAreDeclared = (entries : List EntryPoint) (files : List SourceFile) (w : Classes) (ps : List Piece)
    → IsAccepted entries files w
    → ArePieces w entries ps
    → (p : Piece)
    → Contains ps p
    → (b : Binding)
    → Contains p.uses b
    → IsDeclared ps b
