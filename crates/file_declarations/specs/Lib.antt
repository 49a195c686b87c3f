pub mod Declarations
pub mod Declared
pub use Rattle.agree_calls.specs.Classes
pub use Rattle.agree_calls.specs.Pieces
pub use Rattle.agree_calls.specs.Chains
pub use Rattle.agree_calls.specs.ClassCasts as ClassCastsClasses
pub use Rattle.agree_calls.specs.ClassTests as Tests
pub use Rattle.agree_calls.specs.Helpers
pub use Rattle.agree_calls.specs.Made
pub use Rattle.agree_calls.specs.Methods
pub use Rattle.agree_calls.specs.Names
pub use Rattle.agree_calls.specs.Objects
pub use Rattle.agree_calls.specs.Worlds
pub use Rattle.agree_calls.specs.Arrays
pub use Rattle.agree_calls.specs.Settings
pub use Rattle.agree_calls.specs.AgreePlainTreesWorlds
pub use Rattle.agree_calls.specs.Bridges
pub use Rattle.agree_calls.specs.ClassTestsKinds
pub use Rattle.agree_calls.specs.Dispatch
pub use Rattle.agree_calls.specs.Modules
pub use Rattle.agree_calls.specs.Looked
pub use Rattle.agree_calls.specs.Reflected
pub use Rattle.agree_calls.specs.Reflecting
