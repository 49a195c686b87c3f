use Rattle.std.proofs.Common.{◌≡◌, ◌++◌, map, string_bytes, drop}
use Rattle.sj_words.specs.Collected.{gifts_in}
use Rattle.sj_words.proofs.given.Collected.add_operands.Given as goal

abbrev pub invariant-loop-word : goal.invariant-loop-word
invariant-loop-word l = record (gifts_in l.self) { operands = (gifts_in l.self).operands ++ map string_bytes (drop l.word-index l.words) } ≡ record (gifts_in l.fn.self) { operands = (gifts_in l.fn.self).operands ++ map string_bytes l.words }
