pub mod Forms
pub mod Placing
pub mod Views
pub use Rattle.sj_desugar_plain.specs.Arguments
