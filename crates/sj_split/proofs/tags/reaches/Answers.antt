use Rattle.std.proofs.Common.{true, sym, subst, arith}
use Rattle.std.specs.Prelude.{◌↔◌}
use Rattle.number_graphs.specs.Graphs.{At}
use Rattle.sj_split.specs.Walks.{Name, Reaches}
use Rattle.sj_split.specs.Steps.{id_of, IsReach}
use Rattle.sj_split.proofs.Settles.{gathering_begins, gathering_more, gathered}
use Rattle.sj_split.proofs.tags.reaches.Goals as goal

pub loop-id-init : goal.loop-id-init
loop-id-init c = gathering_begins id_of (IsReach c.args.entries.now c.args.numbers.now c.args.components.now) c.args.ids.now c.new-reaches.result.items c.new-reaches.ensures.items

pub loop-id-preserved : goal.loop-id-preserved
loop-id-preserved c = gathering_more id_of (IsReach c.args.entries.now c.args.numbers.now c.args.components.now) c.args.ids.now c.loop-id.id-index c.loop-id.reaches.items c.push.new.self.items _ c.id-item.result c.loop-id.invariant (omega arith) c.id-item.is c.in_ok-copied.ensures (record {
  whole = c.in_ok-marks.ensures.count;
  right = λ references numbered component class is. subst (λ (id : Name). At c.in_ok-marks.marks.items component true ↔ Reaches references c.args.entries.now id class) (sym c.in_ok-copied.ensures) (c.in_ok-marks.ensures.reached references numbered component class is);
}) c.in_ok-push.ensures.items

pub returns : goal.returns
returns c = record {
  ids_are = gathered id_of (IsReach c.args.entries.now c.args.numbers.now c.args.components.now) c.args.ids.now c.loop-id.id-index c.loop-id.reaches.items c.loop-id.invariant (omega arith);
  right = c.loop-id.invariant.right;
}
