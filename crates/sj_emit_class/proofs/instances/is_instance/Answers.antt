use Rattle.sj_emit_class.proofs.Parts.{as_instance}
use Rattle.sj_emit_class.proofs.instances.is_instance.Goals as goal

pub returns : goal.returns
returns c = as_instance c.args.world.now c.args.class.now c.args.kind c.in_ok-kind_class.kind_class c.is_ancestor.result c.in_ok-kind_class.ensures c.is_ancestor.ensures
