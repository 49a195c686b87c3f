pub use Rattle.sj_baselink_spec.proofs.Owners
