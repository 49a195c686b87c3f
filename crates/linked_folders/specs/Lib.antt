pub mod Link
pub mod Laws
pub use Rattle.declared_pieces.specs.Stages
pub use Rattle.declared_pieces.specs.EmittedMethods
pub use Rattle.declared_pieces.specs.Modules
pub use Rattle.declared_pieces.specs.Entries
pub use Rattle.declared_pieces.specs.Accepted
pub use Rattle.declared_pieces.specs.Pieces
pub use Rattle.declared_pieces.specs.Dispatch
pub use Rattle.declared_pieces.specs.Dispatched
pub use Rattle.declared_pieces.specs.ToldPieces
pub use Rattle.declared_pieces.specs.Bodies
pub use Rattle.declared_pieces.specs.Used
pub use Rattle.declared_pieces.specs.Refusals
pub use Rattle.declared_pieces.specs.SjTypingSpecRules as Rules
pub use Rattle.declared_pieces.specs.Typed
pub use Rattle.declared_pieces.specs.Reachable
pub use Rattle.declared_pieces.specs.Verdicts
pub use Rattle.declared_pieces.specs.Helpers
pub use Rattle.declared_pieces.specs.Built
pub use Rattle.declared_pieces.specs.Classes
pub use Rattle.declared_pieces.specs.Closed
pub use Rattle.declared_pieces.specs.SjEmitClassSpecPieces
pub use Rattle.declared_pieces.specs.Rules as SjReachSpecRules
pub use Rattle.declared_pieces.specs.Given
pub use Rattle.declared_pieces.specs.BodyUsesLaws
pub use Rattle.declared_pieces.specs.Laws as DeclaredPiecesLaws
pub use Rattle.declared_pieces.specs.Linked
pub use Rattle.declared_pieces.specs.Running
pub use Rattle.declared_pieces.specs.ClassTestsKinds
pub use Rattle.declared_pieces.specs.Targets
pub use Rattle.declared_pieces.specs.Looked
pub use Rattle.declared_pieces.specs.Reflected
