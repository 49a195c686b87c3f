pub mod Files
pub mod Laws
pub use Rattle.proper_pieces.specs.Order
pub use Rattle.proper_pieces.specs.Pieces
pub use Rattle.proper_pieces.specs.Laws as ProperPiecesLaws
pub use Rattle.proper_pieces.specs.Modules
