use Rattle.sj_names.proofs.Parts.{split_cuts}
use Rattle.sj_names.proofs.cuts.first_part.Goals as goal

pub returns : goal.returns
returns c = split_cuts c.args.text.now _ c.split_once.ensures.cases
