use Rattle.sj_emit_class.proofs.Wanted.{need_among}
use Rattle.sj_emit_class.proofs.needed.is_among.Goals as goal

pub returns : goal.returns
returns c = need_among c.args.needs.now.keys c.args.need.now c.contains.result c.contains.ensures
