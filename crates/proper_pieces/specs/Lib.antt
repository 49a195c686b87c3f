pub mod Laws
pub mod Modules
pub use Rattle.linked_pieces.specs.Emitted
pub use Rattle.linked_pieces.specs.EmittedMethods
pub use Rattle.linked_pieces.specs.Once
pub use Rattle.linked_pieces.specs.Pieces
pub use Rattle.linked_pieces.specs.Order
