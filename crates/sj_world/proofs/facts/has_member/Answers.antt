use Rattle.sj_world.proofs.Kept.{member_among}
use Rattle.sj_world.proofs.facts.has_member.Goals as goal

pub returns : goal.returns
returns c = member_among c.args.members.now.keys c.args.member.now c.contains.result c.contains.ensures
