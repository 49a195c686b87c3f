use Rattle.std.proofs.Common.{◌≡◌, ◌-◌, []}
use Rattle.std.specs.Prelude.{string_bytes}
use Rattle.sj_text_spec.specs.Names.{characters_at}
use Rattle.sj_text_scan.proofs.names.characters_of.Given as goal

abbrev pub invariant-loop : goal.invariant-loop
invariant-loop l = characters_at (l.fuel - l.counter) l.spot (string_bytes l.name) l.rest ≡ characters_at l.fuel l.fn.start [] l.bytes
