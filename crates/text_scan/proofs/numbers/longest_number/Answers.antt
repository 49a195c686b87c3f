use Rattle.std.proofs.Common.{ℕ, get_or, length, ◌+◌, ◌*◌, sym, ap, arith}
use Rattle.text_scan.specs.Runs.{number_run}
use Rattle.text_scan.proofs.Literals.{rest_of}
use Rattle.text_scan.proofs.NumberSteps.{number_stops, number_goes, number_end, digit_and, digit_over, digit_off, number_next}
use Rattle.text_scan.proofs.numbers.longest_number.Goals as goal

pub returns-then-not-is_ascii_digit-clause-run : goal.returns-then-not-is_ascii_digit-clause-run
returns-then-not-is_ascii_digit-clause-run c =
    rw (rest_of c.loop-i.i c.args.bytes.now) (number_stops c.args.limit c.loop-i.value c.loop-i.i c.args.bytes.now (number_run c.args.limit 0 c.args.bytes.now) (omega arith)
    (digit_off _ c.loop-i.value (get_or c.args.bytes.now c.loop-i.i 0) c.args.limit (sym c.if-not-is_ascii_digit.ensures.value)) c.loop-i.invariant.so_far)

pub returns-then-next-limit-clause-run : goal.returns-then-next-limit-clause-run
returns-then-next-limit-clause-run c =
    rw (rest_of c.loop-i.i c.args.bytes.now) (number_stops c.args.limit c.loop-i.value c.loop-i.i c.args.bytes.now (number_run c.args.limit 0 c.args.bytes.now) (omega arith)
    (digit_over _ c.loop-i.value (get_or c.args.bytes.now c.loop-i.i 0) c.args.limit (sym c.if-not-is_ascii_digit.ensures.value) (omega arith)) c.loop-i.invariant.so_far)

pub loop-i-preserved : goal.loop-i-preserved
loop-i-preserved c = record {
  below = omega arith;
  so_far = number_next c.args.limit c.loop-i.value (c.loop-i.value * 10 + c.from.result) c.loop-i.i c.args.bytes.now (number_run c.args.limit 0 c.args.bytes.now) (ap (λ (k : ℕ). c.loop-i.value * 10 + k) c.from.ensures) (number_goes c.args.limit c.loop-i.value c.loop-i.i c.args.bytes.now (number_run c.args.limit 0 c.args.bytes.now) (omega arith)
      (digit_and _ c.loop-i.value (get_or c.args.bytes.now c.loop-i.i 0) c.args.limit (sym c.if-not-is_ascii_digit.ensures.value) (omega arith)) c.loop-i.invariant.so_far);
}

pub returns-clause-run : goal.returns-clause-run
returns-clause-run c =
    let so_far = c.loop-i.invariant.so_far in
    rw (rest_of (length c.args.bytes.now) c.args.bytes.now) (number_end c.args.limit c.loop-i.value c.loop-i.i c.args.bytes.now (number_run c.args.limit 0 c.args.bytes.now) (omega arith) so_far)
