pub mod Classed
pub mod Hijacking
pub mod Kinded
pub mod Shortly
pub mod Spelled
pub mod Worldly
pub use Rattle.class_tests.proofs.Bridge
pub use Rattle.class_tests.proofs.Instanced
pub use Rattle.class_tests.proofs.Marked
pub use Rattle.class_tests.proofs.Smallest
pub use Rattle.class_tests.proofs.Owners
pub use Rattle.class_tests.proofs.Markers
pub use Rattle.class_tests.proofs.Reflective
pub use Rattle.class_tests.proofs.Parameters
pub use Rattle.class_tests.proofs.Telling
pub use Rattle.class_tests.proofs.Reflecting
pub use Rattle.class_tests.proofs.Loading
pub use Rattle.class_tests.proofs.Shortly as ClassTestsShortly
