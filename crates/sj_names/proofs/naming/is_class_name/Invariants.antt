use Rattle.std.proofs.Common.{◌≡◌, false, drop}
use Rattle.sj_names.specs.Grammar.{is_dotted}
use Rattle.sj_names.proofs.naming.is_class_name.Given as goal

abbrev pub invariant-loop-byte : goal.invariant-loop-byte
invariant-loop-byte l = is_dotted l.begun (drop l.byte-index l.fn.text) ≡ is_dotted false l.fn.text
