use Rattle.std.proofs.Common.{◌≡◌, ◌++◌, drop, map}
use Rattle.js_tree.specs.Views.{property_view}
use Rattle.sj_emit_help_spec.specs.Helpers.{constants, marker_property}
use Rattle.piece_making.proofs.markers.constants.Given as goal

abbrev pub invariant-loop-ancestor : goal.invariant-loop-ancestor
invariant-loop-ancestor l = map property_view l.properties.items ++ map marker_property (drop l.ancestor-index l.ancestors) ≡ constants l.class l.ancestors
