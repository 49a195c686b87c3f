pub mod Link
pub mod Edits
pub mod Laws
pub use Rattle.declared_modules.specs.Accepted
pub use Rattle.declared_modules.specs.Bodies
pub use Rattle.declared_modules.specs.Link as LinkedFoldersLink
pub use Rattle.declared_modules.specs.Files
