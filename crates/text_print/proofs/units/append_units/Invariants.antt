use Rattle.std.proofs.Common.{◌≡◌, drop}
use Rattle.js_tree.specs.Written.{put_each}
use Rattle.js_tree.specs.Texts.{put_unit}
use Rattle.text_print.proofs.units.append_units.Given as goal

abbrev pub invariant-loop-unit : goal.invariant-loop-unit
invariant-loop-unit l = put_each put_unit (drop l.unit-index l.units) l.out.items ≡ put_each put_unit l.units l.initial.out.items
