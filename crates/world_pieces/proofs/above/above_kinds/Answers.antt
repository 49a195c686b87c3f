use Rattle.world_pieces.proofs.AboveKinds.{all_above}
use Rattle.world_pieces.proofs.above.above_kinds.Goals as goal

pub returns : goal.returns
returns c = all_above c.args.world.now (record { undefined = c.in_ok-above_kind.field-0; boolean = c.in_ok-above_kind-2.field-0; char = c.in_ok-above_kind-3.field-0; byte = c.in_ok-above_kind-4.field-0; short = c.in_ok-above_kind-5.field-0; int = c.in_ok-above_kind-6.field-0; long = c.in_ok-above_kind-7.field-0; text = c.in_ok-above_kind-8.field-0 }) c.in_ok-above_kind.ensures c.in_ok-above_kind-2.ensures c.in_ok-above_kind-3.ensures c.in_ok-above_kind-4.ensures c.in_ok-above_kind-5.ensures c.in_ok-above_kind-6.ensures c.in_ok-above_kind-7.ensures c.in_ok-above_kind-8.ensures
