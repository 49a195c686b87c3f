use Rattle.std.proofs.Common.{◌∙◌, arith}
use Rattle.sj_split.proofs.Planned.{internal_more}
use Rattle.sj_split.proofs.modules.add_grouped_modules.Goals as goal

pub loop-place-preserved : goal.loop-place-preserved
loop-place-preserved c homes by_key = internal_more c.args.owners.now.keys homes c.args.keys.now c.args.names.now c.loop-place.place c.index-keys-place.result c.index-names-place.result c.in_ok-classes.classes.items c.loop-place.modules.items _ _ (omega arith) c.requires c.index-keys-place.is c.index-names-place.is (c.in_ok-classes.ensures ∙ by_key c.index-keys-place.result) c.in_ok-add_internal_module.ensures (c.loop-place.invariant homes by_key)
