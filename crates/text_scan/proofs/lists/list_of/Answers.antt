use Rattle.std.proofs.Common.{◌≡◌, ◌∷◌, [], ◌++◌, map, sym, arith}
use Rattle.std.proofs.lemmas.Result.{err_from_is_err_and}
use Rattle.std.proofs.lemmas.List.{map_push}
use Rattle.exact_place.specs.Reading.{list_at}
use Rattle.text_scan.proofs.Loops.{list_goes, list_fails, list_stops, list_out}
use Rattle.text_scan.proofs.lists.list_of.Goals as goal

pub returns-then-not-starts : goal.returns-then-not-starts
returns-then-not-starts g c = list_stops (g.I.Item.test c.args.item.now) (g.I.Item.reading c.args.item.now) (map g.I.Item.seen c.loop.items.items) c.args.fuel c.loop.counter c.loop.rest.now (list_at c.args.fuel (g.I.Item.test c.args.item.now) (g.I.Item.reading c.args.item.now) c.args.bytes.now) (omega arith) (sym c.if-not-starts.ensures) c.loop.invariant

pub returns-in_err-value : goal.returns-in_err-value
returns-in_err-value g c =
    let p = err_from_is_err_and c.from_residual.result c.from_residual.ensures.1 in
    rw (p.1, p.2) (list_fails (g.I.Item.test c.args.item.now) (g.I.Item.reading c.args.item.now) c.in_err-value.field-0.0 (map g.I.Item.seen c.loop.items.items) c.args.fuel c.loop.counter c.loop.rest.now (list_at c.args.fuel (g.I.Item.test c.args.item.now) (g.I.Item.reading c.args.item.now) c.args.bytes.now) c.loop-test.true (sym c.if-not-starts.ensures) c.in_err-value.ensures c.loop.invariant)

pub loop-preserved : goal.loop-preserved
loop-preserved g c =
    let n = c.in_ok-value.value in
    let e : map g.I.Item.seen c.push.new.self.items ≡ map g.I.Item.seen c.loop.items.items ++ g.I.Item.seen n ∷ [] = rw c.in_ok-push.ensures.items (map_push _ c.loop.items.items n) in
    rw e (list_goes (g.I.Item.test c.args.item.now) (g.I.Item.reading c.args.item.now) (map g.I.Item.seen c.loop.items.items) c.args.fuel c.loop.counter c.loop.rest.now (g.I.Item.seen n) c.in_ok-value.after.now (list_at c.args.fuel (g.I.Item.test c.args.item.now) (g.I.Item.reading c.args.item.now) c.args.bytes.now) c.loop-test.true (sym c.if-not-starts.ensures) c.in_ok-value.ensures c.loop.invariant)

pub returns : goal.returns
returns g c = list_out (g.I.Item.test c.args.item.now) (g.I.Item.reading c.args.item.now) (map g.I.Item.seen c.loop.items.items) c.args.fuel c.loop.counter c.loop.rest.now (list_at c.args.fuel (g.I.Item.test c.args.item.now) (g.I.Item.reading c.args.item.now) c.args.bytes.now) (omega arith) c.loop.invariant
