use Rattle.std.proofs.Common.{◌∙◌}
use Rattle.sj_world.proofs.Spelled.{spelled_parts}
use Rattle.sj_world.proofs.spellings.compare_results.Goals as goal

pub returns : goal.returns
returns c = c.compare_spellings.ensures ∙ spelled_parts _ _ _ _ _ _ _ _ c.spelling_of.ensures c.spelling_of-2.ensures
