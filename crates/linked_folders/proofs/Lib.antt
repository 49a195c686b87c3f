pub mod AboveMade
pub mod Live
pub mod Links
pub mod One
pub mod Edits
pub mod Names
pub use Rattle.declared_pieces.proofs.Same
pub use Rattle.declared_pieces.proofs.Calls
pub use Rattle.declared_pieces.proofs.Members
pub use Rattle.declared_pieces.proofs.Blocks
pub use Rattle.declared_pieces.proofs.Cells
pub use Rattle.declared_pieces.proofs.Objects
pub use Rattle.declared_pieces.proofs.Worlds
pub use Rattle.declared_pieces.proofs.Given
pub use Rattle.declared_pieces.proofs.Standing
pub use Rattle.declared_pieces.proofs.Uses
pub use Rattle.declared_pieces.proofs.Written
pub use Rattle.declared_pieces.proofs.ObjectFoldersFields as Fields
pub use Rattle.declared_pieces.proofs.Defined
pub use Rattle.declared_pieces.proofs.Firsts
pub use Rattle.declared_pieces.proofs.Bodies
pub use Rattle.declared_pieces.proofs.Brought
pub use Rattle.declared_pieces.proofs.WrittenTrees
pub use Rattle.declared_pieces.proofs.Pieces
pub use Rattle.declared_pieces.proofs.Derivations
pub use Rattle.declared_pieces.proofs.Direct
pub use Rattle.declared_pieces.proofs.EachTyped
pub use Rattle.declared_pieces.proofs.Fields as DeclaredPiecesFields
pub use Rattle.declared_pieces.proofs.Forms
pub use Rattle.declared_pieces.proofs.Found
pub use Rattle.declared_pieces.proofs.Hijacked
pub use Rattle.declared_pieces.proofs.Live as DeclaredPiecesLive
pub use Rattle.declared_pieces.proofs.Below as DeclaredPiecesBelow
pub use Rattle.declared_pieces.proofs.Looked as DeclaredPiecesLooked
pub use Rattle.declared_pieces.proofs.Named as DeclaredPiecesNamed
pub use Rattle.declared_pieces.proofs.Made
pub use Rattle.declared_pieces.proofs.Order
pub use Rattle.declared_pieces.proofs.Parts
pub use Rattle.declared_pieces.proofs.Plain
pub use Rattle.declared_pieces.proofs.Resolves
pub use Rattle.declared_pieces.proofs.Boxes
pub use Rattle.declared_pieces.proofs.Markers
pub use Rattle.declared_pieces.proofs.Assembled
pub use Rattle.declared_pieces.proofs.AgreeSoundnessChains as Chains
pub use Rattle.declared_pieces.proofs.BodyUsesTested as Tested
pub use Rattle.declared_pieces.proofs.Chains as DeclaredPiecesChains
pub use Rattle.declared_pieces.proofs.Judged
pub use Rattle.declared_pieces.proofs.ObjectFoldersMethods as Methods
pub use Rattle.declared_pieces.proofs.ObjectFoldersWorlds
pub use Rattle.declared_pieces.proofs.Throwing
pub use Rattle.declared_pieces.proofs.Verdict
pub use Rattle.declared_pieces.proofs.Whole
pub use Rattle.declared_pieces.proofs.Facts
pub use Rattle.declared_pieces.proofs.LinkedEntriesOne
pub use Rattle.declared_pieces.proofs.Proxies
pub use Rattle.declared_pieces.proofs.ReflectedCases
pub use Rattle.declared_pieces.proofs.Stores
pub use Rattle.declared_pieces.proofs.Classes
pub use Rattle.declared_pieces.proofs.BodyForms
