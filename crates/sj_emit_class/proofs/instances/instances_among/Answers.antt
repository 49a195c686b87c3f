use Rattle.std.proofs.Common.{List, [], sym, subst}
use Rattle.sj_emit_help_spec.specs.declared.kinds.Kind.{Kind}
use Rattle.sj_emit_class_spec.specs.Classes as classes
use Rattle.sj_emit_class_spec.specs.Classes.{AreInstances}
use Rattle.sj_emit_class.proofs.instances.instances_among.Goals as goal

pub loop-kind-init : goal.loop-kind-init
loop-kind-init c = subst (λ (ks : List Kind). AreInstances c.args.world.now c.args.class.now [] ks) (sym c.new-found.ensures.items) classes.AreInstances.none_yet
