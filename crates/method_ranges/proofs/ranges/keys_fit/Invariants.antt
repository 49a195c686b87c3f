use Rattle.std.proofs.Common.{take}
use Rattle.std.specs.Prelude.{All}
use Rattle.js_tree.specs.Rules.{IsNumber}
use Rattle.method_ranges.proofs.ranges.keys_fit.Given as goal

abbrev pub invariant-loop-key : goal.invariant-loop-key
invariant-loop-key l = All IsNumber (take l.key-index l.keys)
