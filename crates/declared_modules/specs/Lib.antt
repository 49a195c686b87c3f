pub mod Spread
pub mod Laws
pub use Rattle.module_uses.specs.Used
pub use Rattle.module_uses.specs.Accepted
pub use Rattle.module_uses.specs.Bodies
pub use Rattle.module_uses.specs.Closed
pub use Rattle.module_uses.specs.LinkedPiecesPieces as Pieces
pub use Rattle.module_uses.specs.Reachable
pub use Rattle.module_uses.specs.Refusals
pub use Rattle.module_uses.specs.SjReachSpecRules as Rules
pub use Rattle.module_uses.specs.Running
pub use Rattle.module_uses.specs.Verdicts
pub use Rattle.module_uses.specs.Files
pub use Rattle.module_uses.specs.Built
pub use Rattle.module_uses.specs.Declared
pub use Rattle.module_uses.specs.Emitted
pub use Rattle.module_uses.specs.EmittedMethods
pub use Rattle.module_uses.specs.RunningModulesLaws
pub use Rattle.module_uses.specs.Link
pub use Rattle.module_uses.specs.Placed
pub use Rattle.module_uses.specs.Entries
