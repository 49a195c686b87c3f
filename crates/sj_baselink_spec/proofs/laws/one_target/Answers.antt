use Rattle.sj_baselink_spec.proofs.Owners.{one_owner}
use Rattle.sj_baselink_spec.proofs.laws.one_target.Goals as goal

pub returns : goal.returns
returns c = one_owner
