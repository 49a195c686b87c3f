-- Which class refers to which.
pub use Rattle.sj_names.specs.WellKnown.{is_same_text as is_same_name, object}
use Rattle.std.specs.Prelude.{◌≡◌, ◌↔◌, Bool, List, [], ◌∷◌, ◌++◌, ◌&&◌, map, Contains}
use Rattle.std.specs.List.{IsDistinct}
use Rattle.js_tree.specs.Terms.{Name, Piece}
use Rattle.js_tree.specs.declared.items.Binding.{Binding}
use Rattle.sj_graph.specs.declared.graphs.Reference.{Reference}
use Rattle.sj_graph.specs.declared.graphs.Graph.{Graph}

abbrev pub owner_of : Piece → Name
owner_of piece = piece.owner

abbrev pub reference : Name → Name → Reference
reference from to = record { from = from; to = to }

abbrev pub reference_by : Name → Binding → Reference
reference_by from binding = reference from binding.owner

-- the class of a piece refers to the owner of each binding that the piece uses, and to `java.lang.Object`
abbrev pub piece_references : Piece → List Reference
piece_references piece = map (reference_by piece.owner) piece.uses ++ reference piece.owner object ∷ []

abbrev pub is_same_reference : Reference → Reference → Bool
is_same_reference a b = is_same_name a.from b.from && is_same_name a.to b.to

-- the class owns one of the pieces
pub record Owns (pieces : List Piece) (class : Name) : Type 0 where
  pub piece : Piece
  pub among : Contains pieces piece
  pub owner : piece.owner ≡ class

-- a piece makes its class refer to another
pub record IsReference (pieces : List Piece) (one : Reference) : Type 0 where
  pub piece : Piece
  pub among : Contains pieces piece
  pub refers : Contains (piece_references piece) one

-- the graph of the pieces: exactly their owners and their references, each once
pub record IsGraph (pieces : List Piece) (graph : Graph) : Type 0 where
  pub owners : (class : Name) → Contains graph.owners class ↔ Owns pieces class
  pub references : (one : Reference) → Contains graph.references one ↔ IsReference pieces one
  pub owners_once : IsDistinct is_same_name graph.owners
  pub references_once : IsDistinct is_same_reference graph.references
