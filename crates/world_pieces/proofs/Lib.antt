pub mod AboveKinds
pub mod HelperTable
pub mod InOrder
pub mod Itself
pub mod Linked
pub mod Made
mod Kept
pub mod Moved
pub mod Placed
pub mod ToldPieces
pub mod UsedWords
pub mod Used
pub use Rattle.linked_pieces.proofs.Same
