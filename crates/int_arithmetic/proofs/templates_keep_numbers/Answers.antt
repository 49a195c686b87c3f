use Rattle.int_arithmetic.proofs.Operators.{sum-is, difference-is, product-is, quotient-is, remainder-is, or-is, and-is, xor-is, left_shift-is, right_shift-is, zero_shift-is, to_byte-is, to_short-is}
use Rattle.int_arithmetic.proofs.templates_keep_numbers.Goals as goal

pub returns : goal.returns
returns c = record {
  sums = sum-is;
  differences = difference-is;
  products = product-is;
  quotients = quotient-is;
  remainders = remainder-is;
  ors = or-is;
  ands = and-is;
  xors = xor-is;
  left_shifts = left_shift-is;
  right_shifts = right_shift-is;
  right_shifts_with_zeros = zero_shift-is;
  bytes = to_byte-is;
  shorts = to_short-is;
}
