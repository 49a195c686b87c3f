pub use Rattle.sj_desugar_spec.proofs.LawsHold
