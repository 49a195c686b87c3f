-- The ancestors of the classes of kinds.
use Rattle.sj_emit_help_spec.specs.Words.{kind_class}
use Rattle.sj_emit_help_spec.specs.declared.kinds.Kind.{Kind}
use Rattle.linked_pieces.specs.Pieces.{AreAbove}
use Rattle.sj_world.specs.Known.{Classes}
use Rattle.sj_world.specs.Tables.{AreAncestors}
use Rattle.world_pieces.specs.declared.above.KindAncestors.{KindAncestors}
use Rattle.world_pieces.specs.Above.{above_of}

pub all_above : (w : Classes) (a : KindAncestors) → AreAncestors w (kind_class Kind.Undefined) a.undefined.now → AreAncestors w (kind_class Kind.Boolean) a.boolean.now → AreAncestors w (kind_class Kind.Char) a.char.now → AreAncestors w (kind_class Kind.Byte) a.byte.now → AreAncestors w (kind_class Kind.Short) a.short.now → AreAncestors w (kind_class Kind.Int) a.int.now → AreAncestors w (kind_class Kind.Long) a.long.now → AreAncestors w (kind_class Kind.Text) a.text.now → AreAbove w (above_of a)
all_above w a v z c b s i j t Kind.Undefined = v
all_above w a v z c b s i j t Kind.Boolean = z
all_above w a v z c b s i j t Kind.Char = c
all_above w a v z c b s i j t Kind.Byte = b
all_above w a v z c b s i j t Kind.Short = s
all_above w a v z c b s i j t Kind.Int = i
all_above w a v z c b s i j t Kind.Long = j
all_above w a v z c b s i j t Kind.Text = t
