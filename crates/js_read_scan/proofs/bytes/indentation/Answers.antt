use Rattle.std.proofs.Common.{arith}
use Rattle.std.proofs.lemmas.Result.{err_from_is_err_and}
use Rattle.exact_place.specs.Reading.{literal_at}
use Rattle.js_tree.specs.Written.{indent}
use Rattle.js_read_scan.proofs.Indents.{indent_goes, indent_fails, indent_done, two_shorter}
use Rattle.js_read_scan.proofs.bytes.indentation.Goals as goal

pub returns-in_err-rest-clause-gives : goal.returns-in_err-rest-clause-gives
returns-in_err-rest-clause-gives c =
    let p = err_from_is_err_and c.from_residual.result c.from_residual.ensures.1 in
    rw (p.1, p.2) (indent_fails c.in_err-rest.field-0.0 c.args.level c.loop.counter c.loop.rest.now (literal_at (indent c.args.level) c.args.bytes.now) c.loop-test.true c.in_err-rest.ensures c.loop.invariant.so_far)

pub loop-preserved : goal.loop-preserved
loop-preserved c = record {
  so_far = indent_goes c.args.level c.loop.counter c.loop.rest.now c.in_ok-rest.rest.now (literal_at (indent c.args.level) c.args.bytes.now) c.loop-test.true c.in_ok-rest.ensures c.loop.invariant.so_far;
  room = omega (arith, two_shorter c.loop.rest.now c.in_ok-rest.rest.now c.in_ok-rest.ensures, c.loop.invariant.room);
}

pub returns-clause-gives : goal.returns-clause-gives
returns-clause-gives c = indent_done c.args.level c.loop.counter c.loop.rest.now (literal_at (indent c.args.level) c.args.bytes.now) (omega arith) c.loop.invariant.so_far
