use Rattle.std.proofs.Common.{◌≡◌, drop, map, codes}
use Rattle.js_tree.specs.Written.{put_more}
use Rattle.js_tree.specs.Texts.{put_object_property}
use Rattle.js_tree.specs.Views.{property_view}
use Rattle.js_print.proofs.items.append_more_properties.Given as goal

abbrev pub invariant-loop-property : goal.invariant-loop-property
invariant-loop-property l = put_more (codes ", ") put_object_property (map property_view (drop l.property-index l.properties)) l.out.items ≡ put_more (codes ", ") put_object_property (map property_view l.properties) l.initial.out.items
