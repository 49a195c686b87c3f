pub mod Stages
pub mod Verdicts
pub mod Laws
pub mod Rows
pub use Rattle.sj_reach.specs.Reachable
pub use Rattle.sj_reach.specs.Refusals
pub use Rattle.sj_reach.specs.Rules
pub use Rattle.sj_typing_verdicts.specs.Labels
pub use Rattle.sj_typing_verdicts.specs.Nodes
pub use Rattle.sj_typing_verdicts.specs.Rules as SjTypingSpecRules
pub use Rattle.sj_typing_verdicts.specs.Typed
pub use Rattle.sj_typing_verdicts.specs.Label
