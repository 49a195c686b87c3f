pub mod Classes
pub mod Coded
pub mod Hijacked
pub mod Kinds
pub mod Shorts
pub mod Worked
pub mod Worlds
pub use Rattle.class_tests.specs.Instances
pub use Rattle.class_tests.specs.Kinds as ClassTestsKinds
pub use Rattle.class_tests.specs.Tests
pub use Rattle.class_tests.specs.Reflecting
pub use Rattle.class_tests.specs.Entries
pub use Rattle.class_tests.specs.Modules
pub use Rattle.class_tests.specs.Helpers
pub use Rattle.class_tests.specs.Words
pub use Rattle.class_tests.specs.FailureVariants
pub use Rattle.class_tests.specs.HelperVariants
pub use Rattle.class_tests.specs.Kind
pub use Rattle.class_tests.specs.KindVariants
pub use Rattle.class_tests.specs.Classes as SjEmitClassSpecClasses
pub use Rattle.class_tests.specs.Pieces
pub use Rattle.class_tests.specs.Calls
pub use Rattle.class_tests.specs.Fact
pub use Rattle.class_tests.specs.Bridges
pub use Rattle.class_tests.specs.Dispatch
pub use Rattle.class_tests.specs.Objects
