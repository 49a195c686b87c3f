use Rattle.std.proofs.Common.{◌∙◌, sym}
use Rattle.sj_names.proofs.Signatures.{behind_dimensions-base}
use Rattle.sj_names.proofs.cuts.behind_dimensions.Goals as goal

pub returns-clause-base : goal.returns-clause-base
returns-clause-base c = sym (behind_dimensions-base c.loop-rest.base.now c.in_default.ensures) ∙ c.loop-rest.invariant.base_of_all
