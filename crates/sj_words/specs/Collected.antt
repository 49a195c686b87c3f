-- What is collected of the words in front, and what those behind it give.
use Rattle.std.specs.Prelude.{◌++◌, ◌∷◌, []}
use Rattle.sj_words.specs.declared.given.Collected.{Collected}
use Rattle.sj_words.specs.declared.kinds.Setting.{Setting}
use Rattle.sj_words.specs.Given.{Gifts}

abbrev pub gifts_in : Collected → Gifts
gifts_in c = record { styles = c.styles.items; switches = c.switches.items; operands = c.operands.items }

-- the one in front of the other
abbrev pub before : Gifts → Gifts → Gifts
before g h = record { styles = g.styles ++ h.styles; switches = g.switches ++ h.switches; operands = g.operands ++ h.operands }

-- with one more behind
abbrev pub then_setting : Gifts → Setting → Gifts
then_setting g (Setting.Split style) = record g { styles = g.styles ++ style ∷ [] }
then_setting g (Setting.Optimize switch) = record g { switches = g.switches ++ switch ∷ [] }
