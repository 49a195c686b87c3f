use Rattle.std.proofs.Common.{◌∙◌, ap}
use Rattle.sj_desugar_spec.specs.Plain.{is_among}
use Rattle.sj_desugar_facts.proofs.Sures.{sure-listed}
use Rattle.sj_desugar_facts.proofs.sure.sure_locals.Goals as goal
use Rattle.sj_desugar_facts.specs.Definitions.{sure_in}
use Rattle.sj_trees.specs.View.{view}

pub returns : goal.returns
returns c = ap is_among (c.in_ok-add_sure.ensures ∙ ap (sure_in (view c.args.body.now)) c.new-sure.ensures.items) ∙ sure-listed (view c.args.body.now)
