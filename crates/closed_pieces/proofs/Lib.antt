pub mod Places
pub mod Declared
pub mod Functions
pub mod Called
pub mod Classes
pub mod Helpers
pub mod Told
pub mod Uses
pub use Rattle.linked_folders.proofs.EachTyped
pub use Rattle.linked_folders.proofs.DeclaredPiecesFields as Fields
pub use Rattle.linked_folders.proofs.Forms
pub use Rattle.linked_folders.proofs.Order
pub use Rattle.linked_folders.proofs.Parts
pub use Rattle.linked_folders.proofs.Worlds
pub use Rattle.linked_folders.proofs.Edits
pub use Rattle.linked_folders.proofs.Links
pub use Rattle.linked_folders.proofs.One
pub use Rattle.linked_folders.proofs.Names
pub use Rattle.linked_folders.proofs.Boxes
pub use Rattle.linked_folders.proofs.Given
pub use Rattle.linked_folders.proofs.Uses as BodyUsesUses
pub use Rattle.linked_folders.proofs.Markers
pub use Rattle.linked_folders.proofs.Assembled
pub use Rattle.linked_folders.proofs.Blocks
pub use Rattle.linked_folders.proofs.Cells
pub use Rattle.linked_folders.proofs.Chains
pub use Rattle.linked_folders.proofs.Tested
pub use Rattle.linked_folders.proofs.Calls
pub use Rattle.linked_folders.proofs.DeclaredPiecesChains
pub use Rattle.linked_folders.proofs.Derivations
pub use Rattle.linked_folders.proofs.Judged
pub use Rattle.linked_folders.proofs.DeclaredPiecesLive as Live
pub use Rattle.linked_folders.proofs.Members
pub use Rattle.linked_folders.proofs.Fields as ObjectFoldersFields
pub use Rattle.linked_folders.proofs.Methods
pub use Rattle.linked_folders.proofs.ObjectFoldersWorlds
pub use Rattle.linked_folders.proofs.Objects
pub use Rattle.linked_folders.proofs.Standing
pub use Rattle.linked_folders.proofs.Throwing
pub use Rattle.linked_folders.proofs.Verdict
pub use Rattle.linked_folders.proofs.Whole
pub use Rattle.linked_folders.proofs.Written
pub use Rattle.linked_folders.proofs.DeclaredPiecesLooked
pub use Rattle.linked_folders.proofs.DeclaredPiecesBelow
pub use Rattle.linked_folders.proofs.Facts
pub use Rattle.linked_folders.proofs.LinkedEntriesOne
pub use Rattle.linked_folders.proofs.ReflectedCases
