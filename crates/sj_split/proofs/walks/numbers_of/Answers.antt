use Rattle.number_graphs.proofs.Places.{contains_at}
use Rattle.number_graphs.specs.Graphs.{At}
use Rattle.sj_split.proofs.Marking.{more_of}
use Rattle.sj_split.proofs.walks.numbers_of.Goals as goal

pub number_of-requires : goal.number_of-requires
number_of-requires c = c.requires c.index.result.now (contains_at c.args.classes.now.keys c.loop-place.place c.index.result.now c.index.ensures)

pub loop-place-preserved : goal.loop-place-preserved
loop-place-preserved c = more_of (At c.args.numbers.now.classes.keys) c.args.classes.now.keys c.loop-place.place c.index.result.now c.loop-place.list.items c.push.new.self.items c.number_of.result c.loop-place.invariant c.index.ensures c.number_of.ensures c.in_ok-push.ensures.items
