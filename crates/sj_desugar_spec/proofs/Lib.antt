pub use Rattle.sj_world.proofs.LawsHold
