pub mod Laws
pub mod Running
pub use Rattle.linked_entries.specs.Accepted
pub use Rattle.linked_entries.specs.Bodies
pub use Rattle.linked_entries.specs.Entries
pub use Rattle.linked_entries.specs.LinkedPiecesPieces as Pieces
pub use Rattle.linked_entries.specs.Used
pub use Rattle.linked_entries.specs.Reachable
pub use Rattle.linked_entries.specs.EmittedMethods
pub use Rattle.linked_entries.specs.Standing
pub use Rattle.linked_entries.specs.Built
pub use Rattle.linked_entries.specs.Classes
pub use Rattle.linked_entries.specs.Pieces as SjEmitClassSpecPieces
pub use Rattle.linked_entries.specs.SjReachSpecRules as Rules
pub use Rattle.linked_entries.specs.Linked
pub use Rattle.linked_entries.specs.Worlds
pub use Rattle.linked_entries.specs.Order
pub use Rattle.linked_entries.specs.Locals
pub use Rattle.linked_entries.specs.Judged
pub use Rattle.linked_entries.specs.Settings
pub use Rattle.linked_entries.specs.Verdicts
pub use Rattle.linked_entries.specs.Refusals
pub use Rattle.linked_entries.specs.LinkedPiecesLaws
pub use Rattle.linked_entries.specs.Once
pub use Rattle.linked_entries.specs.Stages
pub use Rattle.linked_entries.specs.SjTypingSpecRules
pub use Rattle.linked_entries.specs.Typed
pub use Rattle.linked_entries.specs.Boxes
pub use Rattle.linked_entries.specs.Kept
pub use Rattle.linked_entries.specs.Label
pub use Rattle.linked_entries.specs.Nodes
pub use Rattle.linked_entries.specs.Typing
pub use Rattle.linked_entries.specs.Targets
pub use Rattle.linked_entries.specs.Dispatch
pub use Rattle.linked_entries.specs.Dispatched
pub use Rattle.linked_entries.specs.ToldPieces
pub use Rattle.linked_entries.specs.AgreeSoundnessLaws
