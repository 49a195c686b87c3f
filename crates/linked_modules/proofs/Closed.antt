-- What the files of a plan use is declared, where what pieces use is, and the function of each entry.
use Rattle.std.specs.Prelude.{List}
use Rattle.std.specs.List.{Contains}
use Rattle.js_tree.specs.Terms.{Piece}
use Rattle.js_tree.specs.declared.items.Binding.{Binding}
use Rattle.declared_modules.proofs.Entries.{initializer_of}
use Rattle.module_names.specs.Names.{Key, Digest}
use Rattle.sj_emit_module_spec.specs.Calls.{called}
use Rattle.sj_emit_module_spec.specs.Laws.{AreClosed, IsDeclared, by_piece, by_call}
use Rattle.sj_graph.specs.declared.graphs.Graph.{Graph}
use Rattle.sj_names.specs.declared.entry_points.EntryPoint.{EntryPoint}
use Rattle.sj_split.specs.Modules.{IsPlan}
use Rattle.sj_split.specs.declared.plans.PlannedModule.{PlannedModule}
use Rattle.sj_split.specs.declared.plans.Style.{Style}

pub files_closed : (digest_of : Key → Digest) (graph : Graph) (entries : List EntryPoint) (style : Style) (modules : List PlannedModule) (ps : List Piece)
    → IsPlan digest_of graph entries style modules
    → ((q : Piece) → Contains ps q → (b : Binding) → Contains q.uses b → IsDeclared ps b)
    → ((e : EntryPoint) → Contains entries e → IsDeclared ps (called e))
    → AreClosed modules ps
files_closed digest_of graph entries style modules ps is uses calls f _ (by_piece q b i stands u) = uses q i b u
files_closed digest_of graph entries style modules ps is uses calls f _ (by_call m e h named i) = calls e (initializer_of digest_of graph entries style modules is m e h i).among
