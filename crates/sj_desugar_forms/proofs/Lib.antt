pub mod Lists
pub use Rattle.sj_desugar_plain.proofs.Arguments
