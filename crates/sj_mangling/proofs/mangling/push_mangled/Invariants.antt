use Rattle.std.proofs.Common.{◌≡◌, ◌++◌, drop}
use Rattle.std.specs.String.{string_bytes}
use Rattle.sj_mangling.specs.Mangling.{mangled}
use Rattle.sj_mangling.proofs.mangling.push_mangled.Given as goal

abbrev pub invariant-loop-byte : goal.invariant-loop-byte
invariant-loop-byte l = string_bytes l.name ++ mangled (drop l.byte-index l.text) ≡ string_bytes l.initial.name ++ mangled l.text
