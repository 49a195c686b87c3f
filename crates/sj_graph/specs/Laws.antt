-- Laws of graphs, and what a worked graph is of.
use Rattle.std.specs.Prelude.{List, [], ◌∷◌, codes, Contains}
use Rattle.js_tree.specs.Terms.{Name, Piece, expression_item, undefined_literal}
use Rattle.js_tree.specs.declared.items.Binding.{Binding}
use Rattle.sj_graph.specs.declared.graphs.Reference.{Reference}
use Rattle.sj_graph.specs.declared.graphs.Graph.{Graph}
use Rattle.sj_graph.specs.References.{IsGraph}

abbrev pub OwnersAloneRefer : Type 0
OwnersAloneRefer = (pieces : List Piece) (graph : Graph) (one : Reference) → IsGraph pieces graph → Contains graph.references one → Contains graph.owners one.from

abbrev pub binding : Name → Name → Binding
binding owner name = record { owner = owner; name = name }

abbrev pub piece : Name → List Binding → Piece
piece owner uses = record { owner = owner; name = codes "x"; uses = uses; item = expression_item undefined_literal }

-- a piece of `A` that uses a binding of `B` and one of its own, and a piece of `B`
abbrev pub pair : List Piece
pair = piece (codes "A") (binding (codes "B") (codes "y") ∷ binding (codes "A") (codes "x") ∷ []) ∷ piece (codes "B") [] ∷ []
