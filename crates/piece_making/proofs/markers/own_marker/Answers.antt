use Rattle.std.proofs.Common.{arith}
use Rattle.piece_making.proofs.markers.own_marker.Goals as goal

pub returns : goal.returns
returns c =
    let made = c.in_ok-value.ensures _ c.class_binding.ensures in
    grind (arith, made.is_seen, c.in_ok-from_str.ensures)
