pub mod Agrees
pub use Rattle.ir_mean.specs.Shows
pub use Rattle.ir_mean.specs.World
