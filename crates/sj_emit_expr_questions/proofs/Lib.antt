pub mod PublicCalls
pub mod Agree
pub mod AlikeQuestions
pub use Rattle.sj_ask.proofs.One
