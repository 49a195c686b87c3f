use Rattle.std.proofs.Common.{◌≡◌, drop}
use Rattle.exact_place.specs.Reading.{literal_at}
use Rattle.text_scan.proofs.bytes.literal.Given as goal

abbrev pub invariant-loop-byte : goal.invariant-loop-byte
invariant-loop-byte l = literal_at (drop l.byte-index l.want) l.rest ≡ literal_at l.want l.bytes
