pub mod Fields
pub mod Made
pub mod Methods
pub mod Stores
pub mod Throwing
pub mod Worlds
pub use Rattle.linked_entries.proofs.Members
pub use Rattle.linked_entries.proofs.Plain
pub use Rattle.linked_entries.proofs.Chains
pub use Rattle.linked_entries.proofs.Derivations
pub use Rattle.linked_entries.proofs.Same
pub use Rattle.linked_entries.proofs.EachTyped
pub use Rattle.linked_entries.proofs.Objects
pub use Rattle.linked_entries.proofs.Lengths
pub use Rattle.linked_entries.proofs.Worlds as AcceptedFoldersWorlds
pub use Rattle.linked_entries.proofs.Fields as LinkedPiecesFields
pub use Rattle.linked_entries.proofs.Found
pub use Rattle.linked_entries.proofs.LinkedPiecesOne as One
pub use Rattle.linked_entries.proofs.Statics
pub use Rattle.linked_entries.proofs.Calls
pub use Rattle.linked_entries.proofs.Assembled
pub use Rattle.linked_entries.proofs.Judged
pub use Rattle.linked_entries.proofs.Classes
pub use Rattle.linked_entries.proofs.Methods as KeptMethods
pub use Rattle.linked_entries.proofs.Firsts
pub use Rattle.linked_entries.proofs.Verdict
pub use Rattle.linked_entries.proofs.Defined
pub use Rattle.linked_entries.proofs.Direct
pub use Rattle.linked_entries.proofs.Distinct
pub use Rattle.linked_entries.proofs.Equal
pub use Rattle.linked_entries.proofs.Kept
pub use Rattle.linked_entries.proofs.RulesGive
pub use Rattle.linked_entries.proofs.AgreeBodyFormsTargets as Targets
pub use Rattle.linked_entries.proofs.Undenied
pub use Rattle.linked_entries.proofs.One as LinkedEntriesOne
pub use Rattle.linked_entries.proofs.Targets as EntryTargets
pub use Rattle.linked_entries.proofs.Topped
pub use Rattle.linked_entries.proofs.Facts
