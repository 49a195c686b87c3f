pub mod Conclusions
pub mod Steps
pub mod Seen
pub mod Answers
pub use Rattle.sj_reach_spec.specs.Reachable
pub use Rattle.sj_reach_spec.specs.Refusals
pub use Rattle.sj_reach_spec.specs.Rules
