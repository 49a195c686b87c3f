-- The ancestors of the classes of the kinds, as the code keeps them.
use Rattle.sj_emit_help_spec.specs.Helpers.{Above}
use Rattle.sj_emit_help_spec.specs.declared.kinds.Kind.TheVariants as kinds
use Rattle.world_pieces.specs.declared.above.KindAncestors.{KindAncestors}

abbrev pub above_of : KindAncestors → Above
above_of a kinds.Undefined = a.undefined.now
above_of a kinds.Boolean = a.boolean.now
above_of a kinds.Char = a.char.now
above_of a kinds.Byte = a.byte.now
above_of a kinds.Short = a.short.now
above_of a kinds.Int = a.int.now
above_of a kinds.Long = a.long.now
above_of a kinds.Text = a.text.now
