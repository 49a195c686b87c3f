mod Counted
mod Defined
mod Files
mod Least
mod Refused
mod Ruled
mod Spelled
mod Staged
mod Typed
pub use Rattle.folder_judging_spec.proofs.Defined as FolderJudgingSpecDefined
pub use Rattle.folder_judging_spec.proofs.Firsts
