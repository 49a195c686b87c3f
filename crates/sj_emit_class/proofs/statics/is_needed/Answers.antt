use Rattle.sj_emit_class.proofs.Wanted.{static_needed}
use Rattle.sj_emit_class.proofs.statics.is_needed.Goals as goal

pub returns : goal.returns
returns c = static_needed c.args.w.now.world c.args.w.now.facts c.args.needs.now.keys c.requires c.is_among.result c.args.class.now c.in_ok-class.class c.args.field.now.name c.in_ok-name.name c.in_ok-class.ensures c.in_ok-name.ensures c.is_among.ensures
