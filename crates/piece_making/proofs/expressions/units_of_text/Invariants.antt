use Rattle.std.proofs.Common.{◌≡◌}
use Rattle.std.specs.Char.Escape.{encode_utf16}
use Rattle.std.specs.List.{flat_map}
use Rattle.piece_making.proofs.expressions.units_of_text.Given as goal

abbrev pub invariant-loop-character : goal.invariant-loop-character
invariant-loop-character l = l.units.items ≡ flat_map encode_utf16 l.yielded
