use Rattle.int_arithmetic.proofs.Longs.{cut-is, sum-is, difference-is, product-is, quotient-is, remainder-is, or-is, and-is, xor-is, count-is, left_shift-is, right_shift-is, unsigned-is, zero_shift-is, to_int-is, to_unit-is}
use Rattle.int_arithmetic.proofs.templates_keep_longs.Goals as goal

pub returns : goal.returns
returns c = record {
  cuts = cut-is;
  sums = sum-is;
  differences = difference-is;
  products = product-is;
  quotients = quotient-is;
  remainders = remainder-is;
  ors = or-is;
  ands = and-is;
  xors = xor-is;
  counts = count-is;
  left_shifts = left_shift-is;
  right_shifts = right_shift-is;
  unsigned = unsigned-is;
  right_shifts_with_zeros = zero_shift-is;
  ints = to_int-is;
  units = to_unit-is;
}
