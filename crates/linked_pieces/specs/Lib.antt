pub mod Dispatched
pub mod Reflected
pub mod Order
pub mod Pieces
pub mod Laws
pub mod Used
pub use Rattle.agree_programs.specs.Dispatch
pub use Rattle.agree_programs.specs.Entries
pub use Rattle.agree_programs.specs.Pieces as SjEmitClassSpecPieces
pub use Rattle.agree_programs.specs.Emitted
pub use Rattle.agree_programs.specs.EmittedMethods
pub use Rattle.agree_local_rules.specs.Once
pub use Rattle.agree_programs.specs.Classes
pub use Rattle.agree_programs.specs.Targets
