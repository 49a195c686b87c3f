use Rattle.sj_split_laws.proofs.Digests.{digests_have_one_length}
use Rattle.sj_split_laws.proofs.laws.digests_have_one_length.Goals as goal

pub returns : goal.returns
returns c = digests_have_one_length
