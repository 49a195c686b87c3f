pub mod Arrays
pub mod Chains
pub mod Files
pub mod Helpers
pub mod Made
pub mod Methods
pub mod Names
pub mod Objects
pub mod Worlds
pub use Rattle.array_code.specs.Classes as ClassCasts
pub use Rattle.array_code.specs.Tests as ClassTests
pub use Rattle.array_code.specs.Entries
pub use Rattle.array_code.specs.SjEmitClassSpecClasses as Classes
pub use Rattle.array_code.specs.Pieces
pub use Rattle.agree_bodies.specs.Settings
pub use Rattle.agree_bodies.specs.Worlds as AgreePlainTreesWorlds
pub mod Looked
pub mod Reflected
pub use Rattle.array_code.specs.Bridges
pub use Rattle.array_code.specs.ClassTestsKinds
pub use Rattle.array_code.specs.Dispatch
pub use Rattle.array_code.specs.Modules
pub use Rattle.array_code.specs.Reflecting
