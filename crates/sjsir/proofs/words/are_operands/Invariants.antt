use Rattle.std.proofs.Common.{◌≡◌, map, drop}
use Rattle.std.specs.Prelude.{string_bytes}
use Rattle.std.specs.List.{list_all}
use Rattle.sj_outside.specs.Words.{is_operand}
use Rattle.sjsir.proofs.words.are_operands.Given as goal

abbrev pub invariant-loop-name : goal.invariant-loop-name
invariant-loop-name l = list_all is_operand (map string_bytes (drop l.name-index l.names)) ≡ list_all is_operand (map string_bytes l.names)
