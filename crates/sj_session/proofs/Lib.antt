mod Edited
mod Counted
pub use Rattle.folder_linking.proofs.Taken
pub use Rattle.folder_linking.proofs.Firsts
pub use Rattle.folder_linking.proofs.LinkedEdits
pub use Rattle.folder_linking.proofs.Verdict
