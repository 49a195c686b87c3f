use Rattle.int_arithmetic.proofs.Exact.{sum-exact, difference-exact}
use Rattle.int_arithmetic.proofs.Fits.{wrapped-fits}
use Rattle.int_arithmetic.proofs.Longs as longs
use Rattle.int_arithmetic.proofs.Words.{wrapped-same}
use Rattle.int_arithmetic.proofs.numbers_stay_in_range.Goals as goal

pub returns : goal.returns
returns c = record { sums = sum-exact; differences = difference-exact; wraps = wrapped-fits; keeps = wrapped-same; long_wraps = longs.wrapped-fits; long_keeps = longs.wrapped-same }
