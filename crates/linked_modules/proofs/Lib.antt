pub mod Closed
pub mod Running
pub mod Whole
pub mod Graphs
pub mod One
pub mod Edits
pub use Rattle.declared_modules.proofs.Blocks
pub use Rattle.declared_modules.proofs.Calls
pub use Rattle.declared_modules.proofs.Edits as LinkedFoldersEdits
pub use Rattle.declared_modules.proofs.Fields
pub use Rattle.declared_modules.proofs.Given
pub use Rattle.declared_modules.proofs.Members
pub use Rattle.declared_modules.proofs.Names
pub use Rattle.declared_modules.proofs.Objects
pub use Rattle.declared_modules.proofs.Standing
pub use Rattle.declared_modules.proofs.Uses
pub use Rattle.declared_modules.proofs.AcceptedFoldersWorlds as Worlds
pub use Rattle.declared_modules.proofs.Written
pub use Rattle.declared_modules.proofs.Entries
pub use Rattle.declared_modules.proofs.Verdict
