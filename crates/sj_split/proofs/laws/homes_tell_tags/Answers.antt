use Rattle.sj_split.proofs.Ids.{homes_tell_tags}
use Rattle.sj_split.proofs.laws.homes_tell_tags.Goals as goal

pub returns : goal.returns
returns c = homes_tell_tags
