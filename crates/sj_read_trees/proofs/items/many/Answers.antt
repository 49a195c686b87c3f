use Rattle.std.proofs.Common.{◌≡◌, ◌++◌, ◌∷◌, [], map}
use Rattle.std.proofs.lemmas.Result.{err_from_is_err_and}
use Rattle.std.proofs.lemmas.List.{map_push}
use Rattle.sj_read_spec.specs.Reading.{many_at}
use Rattle.sj_read_trees.proofs.ManyLemmas.{goes_on, ends, is_done}
use Rattle.sj_read_trees.proofs.items.many.Goals as goal

pub returns-in_err-value : goal.returns-in_err-value
returns-in_err-value g c =
    let p = err_from_is_err_and c.from_residual.result c.from_residual.ensures.1 in
    rw (p.1, p.2) (ends (g.I.Item.reading c.args.item.now) c.in_err-value.field-0.0 (map g.I.Item.seen c.loop.items.items) c.args.count c.loop.counter c.loop.rest.now (many_at (g.I.Item.reading c.args.item.now) c.args.count c.args.bytes.now) c.loop-test.true c.in_err-value.ensures c.loop.invariant)

pub loop-preserved : goal.loop-preserved
loop-preserved g c =
    let n = c.in_ok-value.value in
    let e : map g.I.Item.seen c.push.new.self.items ≡ map g.I.Item.seen c.loop.items.items ++ g.I.Item.seen n ∷ [] = rw c.in_ok-push.ensures.items (map_push _ c.loop.items.items n) in
    rw e (goes_on (g.I.Item.reading c.args.item.now) (map g.I.Item.seen c.loop.items.items) c.args.count c.loop.counter c.loop.rest.now (g.I.Item.seen n) c.in_ok-value.after.now (many_at (g.I.Item.reading c.args.item.now) c.args.count c.args.bytes.now) c.loop-test.true c.in_ok-value.ensures c.loop.invariant)

pub returns : goal.returns
returns g c = is_done (g.I.Item.reading c.args.item.now) (map g.I.Item.seen c.loop.items.items) c.args.count c.loop.counter c.loop.rest.now (many_at (g.I.Item.reading c.args.item.now) c.args.count c.args.bytes.now) c.loop-test.false c.loop.invariant
