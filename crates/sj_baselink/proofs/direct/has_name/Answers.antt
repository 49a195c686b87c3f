use Rattle.sj_baselink.proofs.Chosen.{name_among}
use Rattle.sj_baselink.proofs.direct.has_name.Goals as goal

pub returns : goal.returns
returns c = name_among c.args.names.now.keys c.args.name.now c.contains.result c.contains.ensures
