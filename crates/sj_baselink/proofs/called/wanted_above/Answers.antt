use Rattle.sj_baselink.proofs.Putting.{all_put}
use Rattle.sj_baselink.proofs.called.wanted_above.Goals as goal

pub returns : goal.returns
returns c = all_put _ _ _ c.new-names.ensures.empty c.in_ok-put_wanted_above.ensures
