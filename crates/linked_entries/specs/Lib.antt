pub mod Laws
pub use Rattle.accepted_folders.specs.Accepted
pub use Rattle.accepted_folders.specs.Bodies
pub use Rattle.accepted_folders.specs.AgreeSoundnessLaws
pub use Rattle.accepted_folders.specs.AgreeSoundnessRules as Rules
pub use Rattle.accepted_folders.specs.Built
pub use Rattle.linked_pieces.specs.Classes
pub use Rattle.linked_pieces.specs.EmittedMethods
pub use Rattle.accepted_folders.specs.Entries
pub use Rattle.accepted_folders.specs.Judged
pub use Rattle.accepted_folders.specs.Linked
pub use Rattle.accepted_folders.specs.Locals
pub use Rattle.accepted_folders.specs.Methods
pub use Rattle.linked_pieces.specs.Once
pub use Rattle.linked_pieces.specs.SjEmitClassSpecPieces as Pieces
pub use Rattle.accepted_folders.specs.Reachable
pub use Rattle.accepted_folders.specs.Refusals
pub use Rattle.accepted_folders.specs.Rules as SjReachSpecRules
pub use Rattle.accepted_folders.specs.Settings
pub use Rattle.accepted_folders.specs.Stages
pub use Rattle.accepted_folders.specs.Standing
pub use Rattle.accepted_folders.specs.Typed
pub use Rattle.accepted_folders.specs.Typing
pub use Rattle.accepted_folders.specs.SjTypingSpecRules
pub use Rattle.accepted_folders.specs.Verdicts
pub use Rattle.accepted_folders.specs.Worlds
pub use Rattle.linked_pieces.specs.Laws as LinkedPiecesLaws
pub use Rattle.linked_pieces.specs.Order
pub use Rattle.linked_pieces.specs.Pieces as LinkedPiecesPieces
pub use Rattle.linked_pieces.specs.Used
pub use Rattle.linked_pieces.specs.Dispatch
pub use Rattle.linked_pieces.specs.Dispatched
pub use Rattle.linked_pieces.specs.Reflected as ToldPieces
pub use Rattle.accepted_folders.specs.Boxes
pub use Rattle.accepted_folders.specs.Kept
pub use Rattle.accepted_folders.specs.Label
pub use Rattle.accepted_folders.specs.Nodes
pub use Rattle.linked_pieces.specs.Targets
