pub mod Taken
mod Bodies
mod Counted
mod Emission
mod Listed
mod Objects
pub mod Methods
pub mod Linked
mod Printed
pub use Rattle.linked_modules.proofs.Worlds
pub use Rattle.linked_modules.proofs.LinkedFoldersEdits as Edits
pub use Rattle.linked_modules.proofs.Edits as LinkedEdits
pub use Rattle.linked_modules.proofs.Members as AcceptedFoldersMembers
pub use Rattle.folder_judging.proofs.Firsts
pub use Rattle.linked_modules.proofs.Verdict
