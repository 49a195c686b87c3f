pub mod Firsts
pub mod Verdict
mod Rows
pub mod Undenied
pub mod Defined
pub mod EachTyped
pub mod EachResolved
pub mod EachSorted
mod EachFolder
pub use Rattle.sj_reach.proofs.Derivations
