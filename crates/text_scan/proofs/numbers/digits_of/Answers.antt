use Rattle.std.proofs.Common.{sym}
use Rattle.text_scan.proofs.Literals.{rest_of}
use Rattle.text_scan.proofs.NumberSteps.{zero_read, zero_missed, digits_read, digits_missed, run_some}
use Rattle.text_scan.proofs.numbers.digits_of.Goals as goal

pub returns-then-nought-clause-gives : goal.returns-then-nought-clause-gives
returns-then-nought-clause-gives c = rw (c.if-nought.true, rest_of 1 c.args.bytes.now) (zero_read c.args.limit c.args.bytes.now (sym c.if-next_is.ensures))

pub returns-else-nought-clause-gives : goal.returns-else-nought-clause-gives
returns-else-nought-clause-gives c = rw c.if-nought.false (zero_missed c.args.limit c.args.bytes.now (sym c.if-next_is.ensures))

pub returns-then-next_is_digit-clause-gives : goal.returns-then-next_is_digit-clause-gives
returns-then-next_is_digit-clause-gives c = rw (← c.longest_number.ensures.run) (digits_read c.args.nought c.args.limit c.args.bytes.now c.requires.some (sym c.if-next_is.ensures) (sym c.if-next_is_digit.ensures))

pub returns-then-next_is_digit-clause-some : goal.returns-then-next_is_digit-clause-some
returns-then-next_is_digit-clause-some c = λ nought. run_some c.args.limit c.longest_number.result.0 c.args.bytes.now c.longest_number.result.1.now c.requires.some (sym c.if-next_is.ensures) (sym c.if-next_is_digit.ensures) c.longest_number.ensures.run

pub returns-else-next_is_digit-clause-gives : goal.returns-else-next_is_digit-clause-gives
returns-else-next_is_digit-clause-gives c = digits_missed c.args.nought c.args.limit c.args.bytes.now (sym c.if-next_is.ensures) (sym c.if-next_is_digit.ensures)
