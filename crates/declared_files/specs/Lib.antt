pub mod Placed
pub mod Declared
pub mod Worked
pub use Rattle.file_declarations.specs.Declarations
pub use Rattle.file_declarations.specs.Declared as FileDeclarationsDeclared
pub use Rattle.file_declarations.specs.Classes
pub use Rattle.file_declarations.specs.Pieces
pub use Rattle.file_declarations.specs.Settings
pub use Rattle.agree_soundness.specs.Rules
