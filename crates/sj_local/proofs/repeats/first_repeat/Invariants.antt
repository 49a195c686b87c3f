use Rattle.std.proofs.Common.{◌+◌, ℕ, [], map, drop, Option}
use Rattle.std.specs.Prelude.{option_map}
use Rattle.sj_local.specs.Firsts.{FirstRepeat}
use Rattle.sj_local.proofs.repeats.first_repeat.Given as goal

abbrev pub invariant-loop-index : goal.invariant-loop-index
invariant-loop-index g l = (found : Option ℕ) → FirstRepeat l.earlier.keys (map g.T.Keyed.key (drop l.index l.items)) found → FirstRepeat [] (map g.T.Keyed.key l.items) (option_map (λ k. l.index + k) found)
