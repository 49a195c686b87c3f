use Rattle.std.proofs.Common.{◌≡◌, length, map, option_map, string_bytes}
use Rattle.sj_words.specs.Given.{given}
use Rattle.sj_words.specs.Collected.{gifts_in, before}
use Rattle.sj_words.proofs.given.given.Given as goal

abbrev pub invariant-loop-word : goal.invariant-loop-word
invariant-loop-word l = option_map (before (gifts_in l.collected)) (given (map string_bytes l.rest)) ≡ given (map string_bytes l.fn.words)

abbrev pub decreases-loop-word : goal.decreases-loop-word
decreases-loop-word l = length l.rest
